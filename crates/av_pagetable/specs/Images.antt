-- Parts whose entries are those of other parts with a function applied to each.
use Rattle.std.specs.Prelude.{◌≡◌, ℕ, ◌<◌, List, length, slice_index_or}
use Rattle.av_pagetable.specs.declared.pte.Pte.{Pte}

-- a part has another's number, and its entries with the function applied
pub record IsImage {C : Type 0} (at : C → ℕ → Pte) (f : Pte → Pte) (p q : ℕ × C) : Type 0 where
  pub number : q.0 ≡ p.0
  pub each : (page : ℕ) → at q.1 page ≡ f (at p.1 page)

-- the first n parts do
abbrev pub AreImages : {C : Type 0} → (C → ℕ → Pte) → (Pte → Pte) → ℕ → List (ℕ × C)
    → List (ℕ × C) → Type 0
AreImages {C} at f n olds news =
    (i : ℕ) (d : ℕ × C) → i < n → IsImage at f (slice_index_or olds i d) (slice_index_or news i d)

-- all parts do, and there are as many
pub record AreAllImages {C : Type 0} (at : C → ℕ → Pte) (f : Pte → Pte) (olds news : List (ℕ × C))
    : Type 0 where
  pub many : length news ≡ length olds
  pub each : AreImages at f (length olds) olds news
