-- The order of entries as an order of keys.
use Rattle.std.proofs.Common.{◌≡◌, ℕ, ◌+◌, ◌*◌, ◌^◌, ◌<◌, inl, inr, ltb, refl, arith}
use Rattle.std.proofs.lemmas.Bool.{cases_order, cases_lt, lt-ltb, le-ltb}
use Rattle.av_interval.specs.Span.{key_of}

pub same_first : (f x g y : ℕ) → f ≡ g → ltb x y ≡ ltb (key_of f x) (key_of g y)
unfolding key_of
same_first f x g y e = elim (cases_lt x y) [
  | inl h ↦ rw (lt-ltb x y h, lt-ltb (f * 2 ^ 64 + x) (g * 2 ^ 64 + y) (omega arith)) refl
  | inr h ↦ rw (le-ltb x y h, le-ltb (f * 2 ^ 64 + x) (g * 2 ^ 64 + y) (omega arith)) refl
]

pub other_first : (f x g y : ℕ) → (f ≡ g → ⊥) → x < 2 ^ 64 → y < 2 ^ 64 → ltb f g ≡ ltb (key_of f x) (key_of g y)
unfolding key_of
other_first f x g y n p q = elim (cases_order f g) [
  | inl e ↦ absurd (n e)
  | inr (inl h) ↦ rw (lt-ltb f g h, lt-ltb (f * 2 ^ 64 + x) (g * 2 ^ 64 + y) (omega arith)) refl
  | inr (inr h) ↦ rw (le-ltb f g (omega arith), le-ltb (f * 2 ^ 64 + x) (g * 2 ^ 64 + y) (omega arith)) refl
]
