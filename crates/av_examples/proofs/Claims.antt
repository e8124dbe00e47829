-- What is held of claims, page by page.
use Rattle.std.proofs.Common.{◌≡◌, ℕ, Bool, true, false, cond, [], ◌∷◌, Some, refl}
use Rattle.std.specs.Prelude.{option_and_then}
use Rattle.std.specs.Ordering.{eq_by_cmp, nat_cmp}
use Rattle.std.specs.List.{AllByRecursion}
use Rattle.av_plain.specs.World.{Holds, Process, World, pages, process}

-- each page of some processes is held to have these bytes
abbrev pub AreHeld : (ℕ → ℕ) → World → Type 0
AreHeld bytes w = AllByRecursion (λ (q : ℕ × Process). (page : ℕ) → Holds (q.1 page) bytes) w

-- and so a page that may not be there
pub held_at : (bytes : ℕ → ℕ) (w : World) → AreHeld bytes w → (p page : ℕ)
    → Holds (pages w p page) bytes
held_at bytes [] h p page = tt
held_at bytes (q ∷ w) h p page = by (eq_by_cmp nat_cmp p q.0) (held_at bytes w h.1 p page)
  where
    by : (b : Bool) → Holds (pages w p page) bytes
        → Holds (option_and_then (λ (q : Process). q page) (cond b (Some q.1) (process w p))) bytes
    by true rest = h.0 page
    by false rest = rest

-- a byte that is 0 either way
pub zero_byte : (b : Bool) → ◌≡◌ {A = ℕ} 0 (cond b 0 0)
zero_byte true = refl
zero_byte false = refl
