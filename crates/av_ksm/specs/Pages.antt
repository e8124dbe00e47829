-- The pages with an entry in their order, from one on.
use Rattle.std.specs.Prelude.{◌≡◌, ◌+◌, ◌^◌, ◌<◌, ◌&&◌, ◌||◌, ◌==◌, ℕ, Bool, not, nat_lt, filter}
use Rattle.std.specs.Prelude.{false, true, List, [], ◌∷◌, Option, Some, None}
use Rattle.av_base.specs.Keys.{Key}
use Rattle.av_pagetable.specs.Table.{page_bound}
use Rattle.av_pagetable.specs.declared.pte.Pte.{Pte}
use Rattle.av_pagetable.specs.declared.pte.Pte.TheVariants.{Empty}

-- whether a key stands before another
abbrev pub is_before : Key → Key → Bool
is_before a b = nat_lt a.0 b.0 || (a.0 == b.0 && nat_lt a.1 b.1)

-- ---- among keys

-- those from a key on
abbrev pub keys_from : Key → List Key → List Key
keys_from from keys = filter (λ k. not (is_before k from)) keys

-- the first of those from a key on, if there is one; behind it come those from the page after it on
abbrev pub IsNextKey : Key → List Key → Option Key → Type 0
IsNextKey from keys None = keys_from from keys ≡ []
IsNextKey from keys (Some k) = keys_from from keys ≡ k ∷ keys_from (k.0, k.1 + 1) keys

-- ---- among entries

-- no page from the one up to the other has an entry
abbrev pub AreEmpty : (ℕ → ℕ → Pte) → Key → Key → Type 0
AreEmpty table from to = (q : Key) → is_before q from ≡ false → is_before q to ≡ true
    → table q.0 q.1 ≡ Empty

-- the least page with an entry, from one on
pub record IsFirstEntry (table : ℕ → ℕ → Pte) (from k : Key) : Type 0 where
  pub from_there : is_before k from ≡ false
  pub below : k.1 < page_bound
  pub there : table k.0 k.1 ≡ Empty → ⊥
  pub before : AreEmpty table from k

-- it is this one, or there is none of a process below 2^16
abbrev pub IsNextEntry : (ℕ → ℕ → Pte) → Key → Option Key → Type 0
IsNextEntry table from None = AreEmpty table from (2 ^ 16, 0)
IsNextEntry table from (Some k) = IsFirstEntry table from k
