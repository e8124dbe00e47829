-- Whether bytes are left.
use Rattle.std.proofs.Common.{◌≡◌, ℕ, Bool, true, false, eqb, List, [], ◌∷◌, length, refl, sym, ap, ◌∙◌, arith}
use Rattle.std.proofs.lemmas.Bool.{eqb-true}

pub some-left : (rest : List ℕ) (empty : Bool) → empty ≡ eqb (length rest) 0 → empty ≡ false → rest ≡ [] → ⊥
some-left rest empty is e none = differ (sym e ∙ is ∙ ap (λ (r : List ℕ). eqb (length r) 0) none)
  where
    differ : false ≡ true → ⊥
    differ e = cc

pub none-left : (rest : List ℕ) (empty : Bool) → empty ≡ eqb (length rest) 0 → empty ≡ true → rest ≡ []
none-left [] empty is e = refl
none-left (b ∷ rest) empty is e = absurd (differ (sym e ∙ is))
  where
    differ : true ≡ eqb (length (b ∷ rest)) 0 → ⊥
    differ e = let none = eqb-true (length (b ∷ rest)) 0 (sym e) in omega (arith, none)
