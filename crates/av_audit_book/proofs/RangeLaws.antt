-- Tests over lists and ranges.
use Rattle.std.proofs.Common.{◌≡◌, ℕ, ◌+◌, Bool, true, false, cond, List, [], ◌∷◌, refl, ap, ◌∙◌, arith}
use Rattle.std.specs.Prelude.{not, ◌==◌, ◌&&◌}
use Rattle.std.proofs.lemmas.Bool.{ne_eqb}
use Rattle.std.specs.List.{list_all}
use Rattle.av_base.specs.Words.{how_many}

-- none passes where how many is 0
pub none-count : {X : Type 0} (p q : X → Bool) → ((x : X) → q x ≡ not (p x)) → (xs : List X) → (how_many p xs == 0) ≡ list_all q xs
none-count p q e [] = refl
none-count p q e (x ∷ xs) = by (p x) (q x) (e x) (none-count p q e xs)
  where
    some : (n : ℕ) → (1 + n == 0) ≡ false
    some n = ne_eqb (1 + n) 0 (λ h. omega (arith, h))

    none : (n : ℕ) → 0 + n ≡ n
    none n = omega arith

    by : (b c : Bool) → c ≡ not b → (how_many p xs == 0) ≡ list_all q xs → (cond b 1 0 + how_many p xs == 0) ≡ (c && list_all q xs)
    by true true e rest = cc
    by true false e rest = some (how_many p xs)
    by false true e rest = ap (λ n. n == 0) (none (how_many p xs)) ∙ rest
    by false false e rest = cc
