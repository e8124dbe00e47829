-- How many tables a page table holds.
use Rattle.std.specs.Prelude.{◌≡◌, ℕ, ◌+◌, ◌*◌, ◌/◌, ◌<◌, List, [], ◌∷◌, length, slice_index}
use Rattle.av_pagetable.specs.declared.pte.Pte.{Pte}
use Rattle.av_pagetable.specs.declared.pte.Pte.TheVariants.{Empty}
use Rattle.av_pagetable.specs.Table.{page_bound}

-- the different values of page / size, over the pages below the bound that have an entry
pub record AreValues (table : ℕ → Pte) (bound size : ℕ) (values : List ℕ) : Type 0 where
  pub different : (i j : ℕ) → i < length values → j < length values
      → slice_index values i ≡ slice_index values j → i ≡ j
  pub each : (i : ℕ) → i < length values
      → ((page : ℕ) → page < bound → page / size ≡ slice_index values i → table page ≡ Empty) → ⊥
  pub all : (page : ℕ) → page < bound → (table page ≡ Empty → ⊥)
      → (i : ℕ) × (i < length values) × (slice_index values i ≡ page / size)

-- n is the sum of the numbers of different values, over these sizes
abbrev pub AreHeld : (ℕ → Pte) → ℕ → List ℕ → ℕ → Type 0
AreHeld table bound [] n = n ≡ 0
AreHeld table bound (size ∷ sizes) n =
    (values : List ℕ) × AreValues table bound size values
    × ((m : ℕ) × AreHeld table bound sizes m × (n ≡ length values + m))

-- n is 1 plus the numbers of different values of page / 2^27, page / 2^18 and page / 2^9, over the
-- pages that have an entry
abbrev pub IsHeld : (ℕ → Pte) → ℕ → Type 0
IsHeld table n = (m : ℕ) × (n ≡ 1 + m) × AreHeld table page_bound (134217728 ∷ 262144 ∷ 512 ∷ []) m

-- each size divides the span
abbrev pub AllDivide : ℕ → List ℕ → Type 0
AllDivide span [] = Unit {0}
AllDivide span (size ∷ sizes) = (0 < size) × ((t : ℕ) × (span ≡ t * size)) × AllDivide span sizes
