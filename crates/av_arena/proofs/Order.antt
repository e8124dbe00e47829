-- Facts on lists that rise, around an entry k.
use Rattle.std.proofs.Common.{◌≡◌, ℕ, ◌<◌, ◌≤◌, ◌+◌, Bool, true, false, cond, eqb, ltb, Some, None, List, [], ◌∷◌, ◌++◌, length, refl, ap, ◌∙◌, subst, append_assoc, arith}
use Rattle.std.proofs.lemmas.Bool.{lt-ltb, le-ltb, eq-eqb, ne_eqb, ltb-true, eqb-true}
use Rattle.av_arena.specs.Order.{IsRising, with_entry, without_key, entry_at}
use Rattle.std.specs.List.{AllByRecursion}

module _ {A : Type 0} where
  pub AllByRecursion-map : (P Q : A → Type 0) → ((y : A) → P y → Q y) → (t : List A) → AllByRecursion P t → AllByRecursion Q t
  AllByRecursion-map P Q f [] a = tt
  AllByRecursion-map P Q f (y ∷ t) a = (f y a.0, AllByRecursion-map P Q f t a.1)

  pub AllByRecursion-front : (P : A → Type 0) (l m : List A) → AllByRecursion P (l ++ m) → AllByRecursion P l
  AllByRecursion-front P [] m a = tt
  AllByRecursion-front P (x ∷ l) m a = (a.0, AllByRecursion-front P l m a.1)

  pub AllByRecursion-back : (P : A → Type 0) (l m : List A) → AllByRecursion P (l ++ m) → AllByRecursion P m
  AllByRecursion-back P [] m a = a
  AllByRecursion-back P (x ∷ l) m a = AllByRecursion-back P l m a.1

  pub AllByRecursion-append : (P : A → Type 0) (l m : List A) → AllByRecursion P l → AllByRecursion P m → AllByRecursion P (l ++ m)
  AllByRecursion-append P [] m a b = b
  AllByRecursion-append P (x ∷ l) m a b = (a.0, AllByRecursion-append P l m a.1 b)

  pub all_middle : (P : A → Type 0) (l : List A) (k : A) (r : List A) → AllByRecursion P (l ++ k ∷ r) → P k
  all_middle P [] k r a = a.0
  all_middle P (y ∷ t) k r a = all_middle P t k r a.1

  -- the entries below a rotation, grouped the other way
  pub append-cons_assoc : (x : List A) (j : A) (y : List A) (k : A) (z : List A) → (x ++ j ∷ y) ++ k ∷ z ≡ x ++ j ∷ (y ++ k ∷ z)
  append-cons_assoc x j y k z = append_assoc x (j ∷ y) (k ∷ z)

module _ {A : Type 0} (key : A → ℕ) where
  pub rising_front : (l m : List A) → IsRising key (l ++ m) → IsRising key l
  rising_front [] m s = tt
  rising_front (x ∷ l) m s = (AllByRecursion-front (λ z. key x < key z) l m s.0, rising_front l m s.1)

  pub rising_back : (l : List A) (k : A) (r : List A) → IsRising key (l ++ k ∷ r) → IsRising key r
  rising_back [] k r s = s.1
  rising_back (x ∷ l) k r s = rising_back l k r s.1

  pub rising_tail : (l m : List A) → IsRising key (l ++ m) → IsRising key m
  rising_tail [] m s = s
  rising_tail (x ∷ l) m s = rising_tail l m s.1

  pub rising_inner_right : (x : List A) (j : A) (y : List A) (k : A) (z : List A) → IsRising key ((x ++ j ∷ y) ++ k ∷ z) → IsRising key (y ++ k ∷ z)
  rising_inner_right x j y k z s = rising_back x j (y ++ k ∷ z) (subst (IsRising key) (append-cons_assoc x j y k z) s)

  pub rising_inner_left : (x : List A) (j : A) (y : List A) (k : A) (z : List A) → IsRising key (x ++ j ∷ (y ++ k ∷ z)) → IsRising key (x ++ j ∷ y)
  rising_inner_left x j y k z s = rising_front (x ++ j ∷ y) (k ∷ z) (rw (append-cons_assoc x j y k z) s)

  -- putting in
  pub all_with : (P : A → Type 0) (x : A) (t : List A) → P x → AllByRecursion P t → AllByRecursion P (with_entry key x t)
  all_with P x [] p a = (p, tt)
  all_with P x (y ∷ t) p a =
      elim (ltb (key x) (key y)) as (λ b. AllByRecursion P (cond b (x ∷ y ∷ t) (y ∷ cond (ltb (key y) (key x)) (with_entry key x t) t))) [
        | true ↦ (p, a)
        | false ↦ (
          a.0,
          elim (ltb (key y) (key x)) as (λ b. AllByRecursion P (cond b (with_entry key x t) t))
              [ true ↦ all_with P x t p a.1 | false ↦ a.1 ],
        )
      ]

  rising_with_cases : (x y : A) (t : List A) (a b : Bool) → ltb (key x) (key y) ≡ a → ltb (key y) (key x) ≡ b → IsRising key (y ∷ t) →
      IsRising key (with_entry key x t) → IsRising key (cond a (x ∷ y ∷ t) (y ∷ cond b (with_entry key x t) t))
  rising_with_cases x y t true b p q s u =
      let h : key x < key y = ltb-true (key x) (key y) p in
      ((h, AllByRecursion-map (λ z. key y < key z) (λ z. key x < key z) (λ z r. omega arith) t s.0), s)
  rising_with_cases x y t false true p q s u = (all_with (λ z. key y < key z) x t (ltb-true (key y) (key x) q) s.0, u)
  rising_with_cases x y t false false p q s u = s

  pub rising_with : (x : A) (t : List A) → IsRising key t → IsRising key (with_entry key x t)
  rising_with x [] s = (tt, tt)
  rising_with x (y ∷ t) s = rising_with_cases x y t (ltb (key x) (key y)) (ltb (key y) (key x)) refl refl s (rising_with x t s.1)

  length_with_cases : (a b : Bool) (x y : A) (t u : List A) → length u ≤ length t + 1
      → length (cond a (x ∷ y ∷ t) (y ∷ cond b u t)) ≤ length (y ∷ t) + 1
  length_with_cases true b x y t u h = omega arith
  length_with_cases false true x y t u h = omega arith
  length_with_cases false false x y t u h = omega arith

  pub length_with : (x : A) (t : List A) → length (with_entry key x t) ≤ length t + 1
  length_with x [] = omega arith
  length_with x (y ∷ t) = length_with_cases (ltb (key x) (key y)) (ltb (key y) (key x)) x y t (with_entry key x t) (length_with x t)

  with_cases_append : (a b : Bool) (x y : A) (t u m v : List A) → v ≡ u ++ m →
      cond a (x ∷ y ∷ (t ++ m)) (y ∷ cond b v (t ++ m)) ≡ cond a (x ∷ y ∷ t) (y ∷ cond b u t) ++ m
  with_cases_append true b x y t u m v e = refl
  with_cases_append false true x y t u m v e = ap (λ z. y ∷ z) e
  with_cases_append false false x y t u m v e = refl

  pub with_left : (x k : A) (l r : List A) → key x < key k → with_entry key x (l ++ k ∷ r) ≡ with_entry key x l ++ k ∷ r
  with_left x k [] r p = rw (lt-ltb (key x) (key k) p)
  with_left x k (y ∷ t) r p = with_cases_append (ltb (key x) (key y)) (ltb (key y) (key x)) x y t (with_entry key x t) (k ∷ r) _ (with_left x k t r p)

  with_later : (x y : A) (t : List A) → key y < key x → with_entry key x (y ∷ t) ≡ y ∷ with_entry key x t
  with_later x y t p = rw (le-ltb (key x) (key y) (omega arith), lt-ltb (key y) (key x) p)

  pub with_right : (x k : A) (l r : List A) → key k < key x → IsRising key (l ++ k ∷ r) → with_entry key x (l ++ k ∷ r) ≡ l ++ k ∷ with_entry key x r
  with_right x k [] r p s = with_later x k r p
  with_right x k (y ∷ t) r p s =
      let q : key y < key k = all_middle (λ z. key y < key z) t k r s.0 in
      with_later x y (t ++ k ∷ r) (omega arith) ∙ ap (λ z. y ∷ z) (with_right x k t r p s.1)

  pub with_middle : (x k : A) (l r : List A) → key x ≡ key k → IsRising key (l ++ k ∷ r) → with_entry key x (l ++ k ∷ r) ≡ l ++ k ∷ r
  with_middle x k [] r p s = rw (le-ltb (key x) (key k) (omega arith), le-ltb (key k) (key x) (omega arith))
  with_middle x k (y ∷ t) r p s =
      let q : key y < key k = all_middle (λ z. key y < key z) t k r s.0 in
      with_later x y (t ++ k ∷ r) (omega arith) ∙ ap (λ z. y ∷ z) (with_middle x k t r p s.1)

  -- taking out
  without_other : (k : ℕ) (y : A) (t : List A) (b : Bool) → eqb (key y) k ≡ b → (P : List A → Type 0) → (key y ≡ k → P t)
      → (P (y ∷ without_key key k t)) →
      P (cond b t (y ∷ without_key key k t))
  without_other k y t true e P same other = same (eqb-true (key y) k e)
  without_other k y t false e P same other = other

  pub all_without : (P : A → Type 0) (k : ℕ) (t : List A) → AllByRecursion P t → AllByRecursion P (without_key key k t)
  all_without P k [] a = tt
  all_without P k (y ∷ t) a = without_other k y t (eqb (key y) k) refl (AllByRecursion P) (λ _. a.1) (a.0, all_without P k t a.1)

  pub rising_without : (k : ℕ) (t : List A) → IsRising key t → IsRising key (without_key key k t)
  rising_without k [] s = tt
  rising_without k (y ∷ t) s = without_other k y t (eqb (key y) k) refl (IsRising key) (λ _. s.1)
      (all_without (λ z. key y < key z) k t s.0, rising_without k t s.1)

  pub length_without : (k : ℕ) (t : List A) → length (without_key key k t) ≤ length t
  length_without k [] = omega arith
  length_without k (y ∷ t) = without_other k y t (eqb (key y) k) refl (λ z. length z ≤ length (y ∷ t)) (λ _. omega arith)
      (let h = length_without k t in omega arith)

  without_none : (k : ℕ) (t : List A) → AllByRecursion (λ z. k < key z) t → without_key key k t ≡ t
  without_none k [] a = refl
  without_none k (y ∷ t) a = let h : k < key y = a.0 in rw (ne_eqb (key y) k (omega arith)) (ap (λ z. y ∷ z) (without_none k t a.1))

  without_cases_append : (b : Bool) (y : A) (t u m v : List A) → v ≡ u ++ m → cond b (t ++ m) (y ∷ v) ≡ cond b t (y ∷ u) ++ m
  without_cases_append true y t u m v e = refl
  without_cases_append false y t u m v e = ap (λ z. y ∷ z) e

  pub without_left : (k : ℕ) (m : A) (l r : List A) → k < key m → IsRising key (l ++ m ∷ r)
      → without_key key k (l ++ m ∷ r) ≡ without_key key k l ++ m ∷ r
  without_left k m [] r p s = without_none k (m ∷ r) (p, AllByRecursion-map (λ z. key m < key z) (λ z. k < key z) (λ z q. omega arith) r s.0)
  without_left k m (y ∷ t) r p s = without_cases_append (eqb (key y) k) y t (without_key key k t) (m ∷ r) _ (without_left k m t r p s.1)

  pub without_right : (k : ℕ) (m : A) (l r : List A) → key m < k → IsRising key (l ++ m ∷ r)
      → without_key key k (l ++ m ∷ r) ≡ l ++ m ∷ without_key key k r
  without_right k m [] r p s = rw (ne_eqb (key m) k (omega arith))
  without_right k m (y ∷ t) r p s =
      let q : key y < key m = all_middle (λ z. key y < key z) t m r s.0 in
      rw (ne_eqb (key y) k (omega arith)) (ap (λ z. y ∷ z) (without_right k m t r p s.1))

  pub without_middle : (k : ℕ) (m : A) (l r : List A) → key m ≡ k → IsRising key (l ++ m ∷ r) → without_key key k (l ++ m ∷ r) ≡ l ++ r
  without_middle k m [] r p s = rw (eq-eqb (key m) k p)
  without_middle k m (y ∷ t) r p s =
      let q : key y < key m = all_middle (λ z. key y < key z) t m r s.0 in
      rw (ne_eqb (key y) k (omega arith)) (ap (λ z. y ∷ z) (without_middle k m t r p s.1))

  with_first : (x : A) (t : List A) → AllByRecursion (λ z. key x < key z) t → with_entry key x t ≡ x ∷ t
  with_first x [] a = refl
  with_first x (y ∷ t) a = rw (lt-ltb (key x) (key y) a.0)

  pub with_between : (x k : A) (l r : List A) → key x ≡ key k → IsRising key (l ++ k ∷ r) → with_entry key x (l ++ r) ≡ l ++ x ∷ r
  with_between x k [] r p s = with_first x r (AllByRecursion-map (λ z. key k < key z) (λ z. key x < key z) (λ z q. omega arith) r s.0)
  with_between x k (y ∷ t) r p s =
      let q : key y < key k = all_middle (λ z. key y < key z) t k r s.0 in
      with_later x y (t ++ r) (omega arith) ∙ ap (λ z. y ∷ z) (with_between x k t r p s.1)

  -- seeking
  at_none : (k : ℕ) (t : List A) → AllByRecursion (λ z. k < key z) t → entry_at key k t ≡ None
  at_none k [] a = refl
  at_none k (y ∷ t) a = let h : k < key y = a.0 in rw (ne_eqb (key y) k (omega arith)) (at_none k t a.1)

  pub at_left : (k : ℕ) (m : A) (l r : List A) → k < key m → IsRising key (l ++ m ∷ r) → entry_at key k (l ++ m ∷ r) ≡ entry_at key k l
  at_left k m [] r p s = at_none k (m ∷ r) (p, AllByRecursion-map (λ z. key m < key z) (λ z. k < key z) (λ z q. omega arith) r s.0)
  at_left k m (y ∷ t) r p s = ap (cond (eqb (key y) k) (Some y)) (at_left k m t r p s.1)

  pub at_right : (k : ℕ) (m : A) (l r : List A) → key m < k → IsRising key (l ++ m ∷ r) → entry_at key k (l ++ m ∷ r) ≡ entry_at key k r
  at_right k m [] r p s = rw (ne_eqb (key m) k (omega arith)) refl
  at_right k m (y ∷ t) r p s =
      let q : key y < key m = all_middle (λ z. key y < key z) t m r s.0 in
      rw (ne_eqb (key y) k (omega arith)) (at_right k m t r p s.1)

  -- the parts of a rotation, under the names that the code gives them
  pub right_part : (l x : List A) (j : A) (y : List A) (k : A) (z a : List A) (e : A) (c : List A) → IsRising key (l ++ k ∷ z)
      → l ≡ x ++ j ∷ y → a ≡ y →
      e ≡ k → c ≡ z → IsRising key (a ++ e ∷ c)
  right_part l x j y k z a e c s is p q r = rw (p, q, r) (rising_inner_right x j y k z (rw is at s))

  pub left_part : (x : List A) (j : A) (y : List A) (k : A) (r z a : List A) (e : A) (c : List A) → IsRising key (x ++ j ∷ r) → r ≡ y ++ k ∷ z
      → a ≡ x → e ≡ j →
      c ≡ y → IsRising key (a ++ e ∷ c)
  left_part x j y k r z a e c s is p q t = rw (p, q, t) (rising_inner_left x j y k z (rw is at s))

  pub at_no_key : (k : ℕ) (t : List A) → AllByRecursion (λ z. key z ≡ k → ⊥) t → entry_at key k t ≡ None
  at_no_key k [] a = refl
  at_no_key k (y ∷ t) a = rw (ne_eqb (key y) k a.0) (at_no_key k t a.1)
