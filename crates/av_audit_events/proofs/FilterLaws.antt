-- Filters, and the first of a list.
use Rattle.std.proofs.Common.{◌≡◌, ℕ, ◌≤◌, ◌-◌, List, [], ◌∷◌, map, filter, length, take, drop, get_or, Bool, true, false, cond, refl, sym, ap, ◌∙◌, arith}
use Rattle.std.proofs.lemmas.List.{take_all}

-- ---- filters

-- entries that are left out by the second test are left out by the first
pub filter-filter : {X : Type 0} (p q : X → Bool) → ((x : X) → p x ≡ true → q x ≡ true) → (xs : List X) → filter p (filter q xs) ≡ filter p xs
filter-filter p q more [] = refl
filter-filter p q more (x ∷ xs) = by (filter-filter p q more xs) (p x) (q x) refl refl
  where
    no : false ≡ true → ⊥
    no e = cc

    by : filter p (filter q xs) ≡ filter p xs → (b c : Bool) → p x ≡ b → q x ≡ c
        → filter p (cond c (x ∷ filter q xs) (filter q xs)) ≡ cond b (x ∷ filter p xs) (filter p xs)
    by rest true true e f = ap (λ b. cond b (x ∷ filter p (filter q xs)) (filter p (filter q xs))) e ∙ ap (λ r. x ∷ r) rest
    by rest true false e f = absurd (no (sym f ∙ more x e))
    by rest false true e f = ap (λ b. cond b (x ∷ filter p (filter q xs)) (filter p (filter q xs))) e ∙ rest
    by rest false false e f = rest

-- one filter behind another is one by both
pub filter-both : {X : Type 0} (p q r : X → Bool) → ((x : X) → q x ≡ true → p x ≡ r x) → ((x : X) → r x ≡ true → q x ≡ true)
    → (xs : List X) → filter p (filter q xs) ≡ filter r xs
filter-both p q r same more [] = refl
filter-both p q r same more (x ∷ xs) = by (filter-both p q r same more xs) (q x) (r x) refl refl
  where
    no : false ≡ true → ⊥
    no e = cc

    by : filter p (filter q xs) ≡ filter r xs → (b c : Bool) → q x ≡ b → r x ≡ c
        → filter p (cond b (x ∷ filter q xs) (filter q xs)) ≡ cond c (x ∷ filter r xs) (filter r xs)
    by rest true c e f = ap (λ b. cond b (x ∷ filter p (filter q xs)) (filter p (filter q xs))) (same x e ∙ f) ∙ ap (λ rs. cond c (x ∷ rs) rs) rest
    by rest false true e f = absurd (no (sym e ∙ more x f))
    by rest false false e f = rest

-- the keys of those that stay
module _ {K X : Type 0} (test : K → Bool) where
  pub keys-where : (es : List (K × X)) → map (λ e. e.0) (filter (λ e. test e.0) es) ≡ filter test (map (λ e. e.0) es)
  keys-where [] = refl
  keys-where (e ∷ es) = by (keys-where es) (test e.0)
    where
      by : map (λ e. e.0) (filter (λ e. test e.0) es) ≡ filter test (map (λ e. e.0) es) → (b : Bool)
          → map (λ e. e.0) (cond b (e ∷ filter (λ e. test e.0) es) (filter (λ e. test e.0) es))
          ≡ cond b (e.0 ∷ filter test (map (λ e. e.0) es)) (filter test (map (λ e. e.0) es))
      by rest true = ap (λ ks. e.0 ∷ ks) rest
      by rest false = rest

-- ---- the first of a list

-- what is left behind it
pub slice-cons : {A : Type 0} (xs : List A) (d : A) → 1 ≤ length xs → get_or xs 0 d ∷ take (length xs - 1) (drop 1 xs) ≡ xs
slice-cons {A = A} [] d h = absurd (omega (arith, h))
slice-cons {A = A} (x ∷ xs) d h = ap (λ r. x ∷ r) (all (length (x ∷ xs) - 1) xs (same xs))
  where
    same : (xs : List A) → length xs ≤ length (x ∷ xs) - 1
    same xs = omega arith

    all : (n : ℕ) (xs : List A) → length xs ≤ n → take n xs ≡ xs
    all n xs h = take_all n xs h
