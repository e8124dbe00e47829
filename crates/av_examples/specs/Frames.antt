-- Worked examples for frames that age, are shared and move, beside those of `av_laws`.
use Rattle.std.specs.Prelude.{ℕ, Bool, true, false, [], ◌∷◌, Some}
use Rattle.av_plain.specs.Ledger.{InFrame, Ledger, first_ledger}
use Rattle.av_plain.specs.World.{World}
use Rattle.av_laws.specs.Examples.{cached_at}
use Rattle.av_laws.specs.Frames.{locked_page, one_merged, three_pages}

-- the first of three frames is merged
abbrev pub first_shared : Ledger
first_shared = record three_pages { merged = 2 ∷ [] }

-- frame 3, which is merged, is at place 0
abbrev pub merged_at_0 : Ledger
merged_at_0 = record one_merged {
  entries = ((1, 0x10), InFrame 0 true) ∷ ((2, 0x10), InFrame 1 false)
      ∷ ((3, 0x10), InFrame 0 false) ∷ [];
  active = 0 ∷ [];
  merged = 0 ∷ [];
}

-- a frame is cached at slot 1, and stale or not
abbrev pub cached_in : ℕ → Bool → Ledger
cached_in f stale = record first_ledger { cache = cached_at 1 f stale ∷ []; inactive = f ∷ [] }

-- the two processes of an example, all of whose pages are locked
abbrev pub all_pages_locked : World
all_pages_locked = (1, λ _. Some locked_page) ∷ (2, λ _. Some locked_page)
    ∷ (3, λ _. Some locked_page) ∷ []
