-- Laws of the base words, of rising lists, and of functions changed at the members of a list.
use Rattle.std.proofs.Common.{◌≡◌, ℕ, zero, suc, ◌+◌, ◌<◌, ◌≤◌, Bool, true, false, cond, ◌||◌, ◌==◌, List, [], ◌∷◌, ◌++◌, length, take, drop, get_or, refl, sym, ap, ◌∙◌, arith, inl, inr, eq-eqb, ne_eqb}
use Rattle.std.proofs.lemmas.Bool.{cases_eq}
use Rattle.std.proofs.lemmas.List.Folds.{list_any-append}
use Rattle.av_base.specs.Words.{is_in, how_many, with_at}
use Rattle.std.specs.List.{AllByRecursion}
use Rattle.av_anon.specs.Anons.{IsRising}

pub with_at-here : {X : Type 0} (k : ℕ) (x : X) (f : ℕ → X) → with_at k x f k ≡ x
with_at-here k x f = ap (λ b. cond b x (f k)) (eq-eqb k k refl)

pub with_at-other : {X : Type 0} (k : ℕ) (x : X) (f : ℕ → X) (j : ℕ) → (j ≡ k → ⊥) → with_at k x f j ≡ f j
with_at-other k x f j ne = ap (λ b. cond b x (f j)) (ne_eqb j k ne)

pub with_at-same : {X : Type 0} (k : ℕ) (x : X) (f : ℕ → X) → f k ≡ x → (j : ℕ) → with_at k x f j ≡ f j
with_at-same k x f e j = elim (cases_eq j k) [
  | inl h ↦ ap (λ b. cond b x (f j)) (eq-eqb j k h) ∙ sym e ∙ ap f (sym h)
  | inr ne ↦ with_at-other k x f j ne
]

pub with_at-twice : {X : Type 0} (k : ℕ) (x y : X) (f : ℕ → X) (j : ℕ) → with_at k x (with_at k y f) j ≡ with_at k x f j
with_at-twice k x y f j = elim (cases_eq j k) [
  | inl h ↦ ap (λ b. cond b x (with_at k y f j)) (eq-eqb j k h) ∙ sym (ap (λ b. cond b x (f j)) (eq-eqb j k h))
  | inr ne ↦ with_at-other k x (with_at k y f) j ne ∙ with_at-other k y f j ne ∙ sym (with_at-other k x f j ne)
]

-- ---- lists with one item more

or_true : (b : Bool) → (b || (true || false)) ≡ true
or_true true = refl
or_true false = refl

or_false : (b : Bool) → (b || (false || false)) ≡ b
or_false true = refl
or_false false = refl

pub in_more : (v x : ℕ) (ps : List ℕ) → v ≡ x → is_in v (ps ++ x ∷ []) ≡ true
in_more v x ps e = list_any-append (λ y. v == y) ps (x ∷ []) ∙ ap (λ b. is_in v ps || (b || false)) (eq-eqb v x e) ∙ or_true (is_in v ps)

pub in_as_before : (v x : ℕ) (ps : List ℕ) → (v ≡ x → ⊥) → is_in v (ps ++ x ∷ []) ≡ is_in v ps
in_as_before v x ps ne = list_any-append (λ y. v == y) ps (x ∷ []) ∙ ap (λ b. is_in v ps || (b || false)) (ne_eqb v x ne) ∙ or_false (is_in v ps)

pub how_many-more : {X : Type 0} (test : X → Bool) (ps : List X) (x : X) → how_many test (ps ++ x ∷ []) ≡ how_many test ps + cond (test x) 1 0
how_many-more test [] x = omega arith
how_many-more test (p ∷ ps) x = let rest = how_many-more test ps x in omega (arith, rest)

-- a change at each member of a list, and at one more
pub each_more : {X : Type 0} (change : X → X) (old now new : ℕ → X) (ps : List ℕ) (x : ℕ) → is_in x ps ≡ false → ((v : ℕ)
    → now v ≡ cond (is_in v ps) (change (old v)) (old v))
    → ((v : ℕ) → new v ≡ with_at x (change (now x)) now v) → (v : ℕ) → new v ≡ cond (is_in v (ps ++ x ∷ [])) (change (old v)) (old v)
each_more change old now new ps x absent now_is new_is v = elim (cases_eq v x) [
  | inl e ↦
      let at_x : now x ≡ old x = now_is x ∙ ap (λ b. cond b (change (old x)) (old x)) absent in
      new_is v ∙ ap (λ b. cond b (change (now x)) (now v)) (eq-eqb v x e) ∙ ap change at_x ∙ ap (λ w. change (old w)) (sym e)
      ∙ sym (ap (λ b. cond b (change (old v)) (old v)) (in_more v x ps e))
  | inr ne ↦ new_is v ∙ with_at-other x (change (now x)) now v ne ∙ now_is v
      ∙ sym (ap (λ b. cond b (change (old v)) (old v)) (in_as_before v x ps ne))
]

-- ---- rising lists

all_at : (x : ℕ) (xs : List ℕ) (k : ℕ) → AllByRecursion (λ y. x < y) xs → k < length xs → x < get_or xs k 0
all_at x [] k all lt = absurd (omega arith)
all_at x (y ∷ ys) zero all lt = all.0
all_at x (y ∷ ys) (suc k) all lt = all_at x ys k all.1 (omega arith)

pub absent_before : (xs : List ℕ) (k : ℕ) → IsRising xs → k < length xs → is_in (get_or xs k 0) (take k xs) ≡ false
absent_before [] k rising lt = absurd (omega arith)
absent_before (x ∷ xs) zero rising lt = refl
absent_before (x ∷ xs) (suc k) rising lt =
    let above = all_at x xs k rising.0 (omega arith) in
    ap (λ b. b || is_in (get_or xs k 0) (take k xs)) (ne_eqb (get_or xs k 0) x (λ e. absurd (omega arith)))
    ∙ absent_before xs k rising.1 (omega arith)

pub in_list : (xs : List ℕ) (k : ℕ) → k < length xs → is_in (get_or xs k 0) xs ≡ true
in_list [] k lt = absurd (omega arith)
in_list (x ∷ xs) zero lt = ap (λ b. b || is_in x xs) (eq-eqb x x refl)
in_list (x ∷ xs) (suc k) lt = or_right (get_or xs k 0 == x) (in_list xs k (omega arith))
  where
    or_right : (a : Bool) {b : Bool} → b ≡ true → (a || b) ≡ true
    or_right true h = refl
    or_right false h = h

all_mid : (x : ℕ) (ps : List ℕ) (y : ℕ) (ys : List ℕ) → AllByRecursion (λ z. x < z) (ps ++ y ∷ ys) → x < y
all_mid x [] y ys all = all.0
all_mid x (p ∷ ps) y ys all = all_mid x ps y ys all.1

pub absent_mid : (ps : List ℕ) (x : ℕ) (xs : List ℕ) → IsRising (ps ++ x ∷ xs) → is_in x ps ≡ false
absent_mid [] x xs rising = refl
absent_mid (p ∷ ps) x xs rising =
    let above = all_mid p ps x xs rising.0 in
    ap (λ b. b || is_in x ps) (ne_eqb x p (λ e. absurd (omega arith))) ∙ absent_mid ps x xs rising.1

pub in_mid : (ps : List ℕ) (x : ℕ) (xs : List ℕ) → is_in x (ps ++ x ∷ xs) ≡ true
in_mid [] x xs = ap (λ b. b || is_in x xs) (eq-eqb x x refl)
in_mid (p ∷ ps) x xs = or_right (x == p) (in_mid ps x xs)
  where
    or_right : (a : Bool) {b : Bool} → b ≡ true → (a || b) ≡ true
    or_right true h = refl
    or_right false h = h

-- a number above all members may come last
pub rising_more : (xs : List ℕ) (n : ℕ) → IsRising xs → ((v : ℕ) → is_in v xs ≡ true → v < n) → IsRising (xs ++ n ∷ [])
rising_more [] n rising below = (tt, tt)
rising_more (x ∷ xs) n rising below = (
  all_more x xs n rising.0 (below x (ap (λ b. b || is_in x xs) (eq-eqb x x refl))),
  rising_more xs n rising.1 (λ v h. below v (or_right (v == x) h)),
)
  where
    or_right : (a : Bool) {b : Bool} → b ≡ true → (a || b) ≡ true
    or_right true h = refl
    or_right false h = h

    all_more : (x : ℕ) (xs : List ℕ) (n : ℕ) → AllByRecursion (λ y. x < y) xs → x < n → AllByRecursion (λ y. x < y) (xs ++ n ∷ [])
    all_more x [] n all lt = (lt, tt)
    all_more x (y ∷ ys) n all lt = (all.0, all_more x ys n all.1 lt)

-- ---- the first members of a list

pub take_all : {X : Type 0} (xs : List X) (n : ℕ) → length xs ≤ n → take n xs ≡ xs
take_all [] zero le = refl
take_all [] (suc n) le = refl
take_all (x ∷ xs) zero le = absurd (omega arith)
take_all (x ∷ xs) (suc n) le = ap (λ ys. x ∷ ys) (take_all xs n (omega arith))

pub drop_all : {X : Type 0} (xs : List X) (n : ℕ) → length xs ≤ n → drop n xs ≡ []
drop_all [] zero le = refl
drop_all [] (suc n) le = refl
drop_all (x ∷ xs) zero le = absurd (omega arith)
drop_all (x ∷ xs) (suc n) le = drop_all xs n (omega arith)
