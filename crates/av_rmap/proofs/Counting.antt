-- Lists that hold each item equally often have equally many that pass any test.
use Rattle.std.proofs.Common.{◌≡◌, ℕ, ◌+◌, ◌<◌, Bool, true, false, cond, List, [], ◌∷◌, length, refl, sym, ap, ◌∙◌, arith, ◌==◌, eqb-true, eq-eqb}
use Rattle.std.proofs.lemmas.Bool.Decides.{nat_tests}
use Rattle.av_base.proofs.Keys.{same_key-is, same_key-itself}
use Rattle.av_base.specs.Keys.{Key, same_key}
use Rattle.av_base.specs.Words.{how_many}

module _ {X : Type 0} (same : X → X → Bool) (itself : (x : X) → same x x ≡ true) (is_same : (x y : X) → same x y ≡ true → x ≡ y) where
  -- without the first that is this one
  abbrev without_one : X → List X → List X
  without_one k [] = []
  without_one k (j ∷ js) = cond (same k j) js (j ∷ without_one k js)

  counted : (test : X → Bool) (k : X) (js : List X) → 0 < how_many (same k) js
      → how_many test js ≡ cond (test k) 1 0 + how_many test (without_one k js)
  counted test k [] h = absurd (omega arith)
  counted test k (j ∷ js) h = is (same k j) refl h (counted test k js)
    where
      is : (b : Bool) → same k j ≡ b → 0 < cond b 1 0 + how_many (same k) js
          → (0 < how_many (same k) js → how_many test js ≡ cond (test k) 1 0 + how_many test (without_one k js))
          → how_many test (j ∷ js) ≡ cond (test k) 1 0 + how_many test (cond b js (j ∷ without_one k js))
      is true e h again = ap (λ i. cond (test i) 1 0 + how_many test js) (sym (is_same k j e))
      is false e h again = let r = again (omega (arith, h)) in omega (arith, r)

  none-left : (test : X → Bool) (js : List X) → ((i : X) → 0 ≡ how_many (same i) js) → 0 ≡ how_many test js
  none-left test [] h = refl
  none-left test (j ∷ js) h = absurd (clash (h j) (itself j))
    where
      clash : 0 ≡ cond (same j j) 1 0 + how_many (same j) js → same j j ≡ true → ⊥
      clash e s = let one : 0 ≡ 1 + how_many (same j) js = e ∙ ap (λ b. cond b 1 0 + how_many (same j) js) s in absurd (omega (arith, one))

  pub as-many : (test : X → Bool) (ks js : List X) → ((i : X) → how_many (same i) ks ≡ how_many (same i) js) → how_many test ks ≡ how_many test js
  as-many test [] js h = none-left test js h
  as-many test (k ∷ ks) js h =
      let first : how_many (same k) js ≡ 1 + how_many (same k) ks = sym (h k) ∙ ap (λ b. cond b 1 0 + how_many (same k) ks) (itself k) in
      let there : 0 < how_many (same k) js = omega (arith, first) in
      let short = counted test k js there in
      let again = as-many test ks (without_one k js) (λ i. let a = h i in let b = counted (same i) k js there in omega (arith, a, b)) in
      omega (arith, short, again)

all-pass : {X : Type 0} (xs : List X) → how_many (λ _. true) xs ≡ length xs
all-pass [] = refl
all-pass (x ∷ xs) = let rest = all-pass xs in omega (arith, rest)

pub keys-as-long : (ks js : List Key) → ((i : Key) → how_many (same_key i) ks ≡ how_many (same_key i) js) → length ks ≡ length js
keys-as-long ks js h = sym (all-pass ks) ∙ as-many same_key same_key-itself same_key-is (λ _. true) ks js h ∙ all-pass js

pub numbers-as-many : (test : ℕ → Bool) (xs ys : List ℕ) → ((n : ℕ) → how_many (λ m. n == m) xs ≡ how_many (λ m. n == m) ys) →
    how_many test xs ≡ how_many test ys
numbers-as-many test xs ys h = as-many (λ n m. n == m) (λ n. eq-eqb n n refl) (λ n m e. eqb-true n m e) test xs ys h
