-- What is asked of a book beside what the ledger says by itself.
use Rattle.std.specs.Prelude.{◌≡◌, ℕ, Bool, ◌&&◌, nat_lt, List, [], ◌∷◌, MatchOption, Option}
use Rattle.av_base.specs.declared.slot.Slot.{Slot}
use Rattle.av_plain.specs.Ledger.{Ledger, Setting, SwapArea, free_slots, is_open}

-- whether an area isn't closing, and has a free slot
abbrev pub gives : Setting → Option ℕ → Ledger → ℕ × SwapArea → Bool
gives m closing l a = is_open closing a.0 && nat_lt 0 (free_slots m l a)

-- the slot at the first of these pages of an area, or there is none
abbrev pub IsFirst : ℕ → List ℕ → Option Slot → Type 0
IsFirst k pages found = MatchOption found (pages ≡ [])
    (λ s. (others : List ℕ) × (s.area ≡ k) × (pages ≡ s.page ∷ others))
