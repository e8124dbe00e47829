-- Bad pages as a header names them: one after the other, each counted once.
use Rattle.std.proofs.Common.{◌≡◌, ℕ, zero, suc, ◌+◌, ◌-◌, ◌<◌, ◌≤◌, eqb, ltb, not, ◌&&◌, ◌||◌, Bool, true, false, cond, List, [], ◌∷◌, ◌++◌, append_assoc, length, map, refl, sym, ap, ◌∙◌, arith}
use Rattle.std.proofs.lemmas.Bool.Decides.{nat_tests}
use Rattle.std.proofs.lemmas.Map.Made.{is_member-filter}
use Rattle.std.proofs.lemmas.Cmp.{nat_eq_equiv}
use Rattle.std.specs.List.{list_any, filter, range_with_len}
use Rattle.std.specs.Set.{unique_keys}
use Rattle.av_base.specs.Words.{is_in, within}
use Rattle.av_swapdev.specs.Header.{is_out}

-- the next number of a range, and those behind it
pub range_next : (i n : ℕ) → i < n → range_with_len i (n - i) ≡ i ∷ range_with_len (i + 1) (n - (i + 1))
range_next i n h = let more : n - i ≡ suc (n - (i + 1)) = omega arith in ap (range_with_len i) more

pub any_next : (p : ℕ → Bool) (f : ℕ → ℕ) (i n : ℕ) → i < n → list_any p (map f (range_with_len i (n - i)))
    ≡ (p (f i) || list_any p (map f (range_with_len (i + 1) (n - (i + 1)))))
any_next p f i n h = ap (λ (r : List ℕ). list_any p (map f r)) (range_next i n h)

pub any_done : (p : ℕ → Bool) (f : ℕ → ℕ) (i n : ℕ) → n ≤ i → list_any p (map f (range_with_len i (n - i))) ≡ false
any_done p f i n h = let none : n - i ≡ 0 = omega arith in ap (λ (k : ℕ). list_any p (map f (range_with_len i k))) none

same : (q x : ℕ) → eqb q x ≡ true → q ≡ x
same q x e = grind (arith, nat_tests)

pub in_filter : (test : ℕ → Bool) (q : ℕ) (ns : List ℕ) → is_in q (filter test ns) ≡ (is_in q ns && test q)
in_filter test q ns = is_member-filter nat_eq_equiv test q (λ x e. ap test (same q x e)) ns

-- the bad pages of an area of so many pages, each once, in the order in which they are named last
abbrev pub distinct_of : ℕ → List ℕ → List ℕ
distinct_of pages named = unique_keys eqb (filter (within 1 (pages - 1)) named)

-- one more that is named: it counts if it is behind the header, and isn't named again
pub bad_next : (pages b : ℕ) (ns : List ℕ) → length (distinct_of pages (b ∷ ns)) ≡ cond (within 1 (pages - 1) b && not (is_in b ns))
    1 0 + length (distinct_of pages ns)
bad_next pages b ns = split (within 1 (pages - 1) b) refl
  where
    kept : List ℕ
    kept = filter (within 1 (pages - 1)) ns

    counted : (again : Bool)
        → length (cond again (unique_keys eqb kept) (b ∷ unique_keys eqb kept)) ≡ cond (not again) 1 0 + length (unique_keys eqb kept)
    counted true = omega arith
    counted false = omega arith

    split : (behind : Bool) → within 1 (pages - 1) b ≡ behind
        → length (unique_keys eqb (cond behind (b ∷ kept) kept)) ≡ cond (behind && not (is_in b ns))
        1 0 + length (unique_keys eqb kept)
    split true e = counted (is_in b kept) ∙ ap (λ t. cond (not t) 1 0 + length (unique_keys eqb kept))
        (in_filter (within 1 (pages - 1)) b ns ∙ ap (λ t. is_in b ns && t) e ∙ and_true (is_in b ns))
      where
        and_true : (t : Bool) → (t && true) ≡ t
        and_true true = refl
        and_true false = refl
    split false e = omega arith

-- a loop has passed a number, and the test did not hold of it
pub any_passed : (p : ℕ → Bool) (f : ℕ → ℕ) (i n : ℕ) (whole : Bool) → i < n → p (f i) ≡ false
    → list_any p (map f (range_with_len i (n - i))) ≡ whole →
    list_any p (map f (range_with_len (i + 1) (n - (i + 1)))) ≡ whole
any_passed p f i n whole h fails so = sym (any_next p f i n h ∙ ap (λ b. b || list_any p (map f (range_with_len (i + 1) (n - (i + 1))))) fails) ∙ so

pub is_inside : (last b : ℕ) → (b ≡ 0 → ⊥) → b ≤ last → is_out last b ≡ false
is_inside last b some within = grind (arith, nat_tests)

pub is_other : (m b : ℕ) → (m ≡ b → ⊥) → eqb m b ≡ false
is_other m b ne = grind (arith, nat_tests)

-- a loop has passed a number b: here says that it is behind the header, again that it is named again
pub bad_passed : (pages : ℕ) (f : ℕ → ℕ) (i n counted whole b : ℕ) (here again : Bool) → i < n → b ≡ f i
    → within 1 (pages - 1) b ≡ here → is_in b (map f (range_with_len (i + 1) (n - (i + 1)))) ≡ again
    → counted + length (distinct_of pages (map f (range_with_len i (n - i)))) ≡ whole
    → counted + cond (here && not again) 1 0 + length (distinct_of pages (map f (range_with_len (i + 1) (n - (i + 1))))) ≡ whole
bad_passed pages f i n counted whole b here again h is_b is_here is_again so =
    let rest = map f (range_with_len (i + 1) (n - (i + 1))) in
    let step = ap (λ (r : List ℕ). length (distinct_of pages (map f r))) (range_next i n h) ∙ ap (λ (k : ℕ). length (distinct_of pages (k ∷ rest)))
    (sym is_b) ∙ bad_next pages b rest in
    let by_here = ap {B = ℕ} (λ (t : Bool). cond (t && not (is_in b rest)) 1 0) is_here in
    let by_again = ap {B = ℕ} (λ (t : Bool). cond (here && not t) 1 0) is_again in
    omega (arith, step, by_here, by_again)

-- a page is marked, or named from a place on: the same once the place's number is marked
pub mark_passed : (f : ℕ → ℕ) (i n m b : ℕ) (marked whole : Bool) → i < n → b ≡ f i → (marked || is_in m (map f (range_with_len i (n - i)))) ≡ whole
    → (cond (eqb m b) true marked || is_in m (map f (range_with_len (i + 1) (n - (i + 1))))) ≡ whole
mark_passed f i n m b marked whole h is_b so =
    swap (eqb m b) marked (is_in m (map f (range_with_len (i + 1) (n - (i + 1)))))
    ∙ ap (λ (k : ℕ). marked || (eqb m k || is_in m (map f (range_with_len (i + 1) (n - (i + 1)))))) is_b
    ∙ sym (ap (λ (t : Bool). marked || t) (any_next (eqb m) f i n h)) ∙ so
  where
    swap : (e x r : Bool) → (cond e true x || r) ≡ (x || (e || r))
    swap true true r = refl
    swap true false r = refl
    swap false true r = refl
    swap false false r = refl

-- the numbers that pass a test, up to a number and from it on: the same once the number is passed
pub number_passed : (p : ℕ → Bool) (found whole : List ℕ) (m n : ℕ) (test : Bool) → m < n → p m ≡ test
    → found ++ filter p (range_with_len m (n - m)) ≡ whole
    → cond test (found ++ m ∷ []) found ++ filter p (range_with_len (m + 1) (n - (m + 1))) ≡ whole
number_passed p found whole m n test h is so =
    joined test ∙ sym (ap (λ (r : List ℕ). found ++ r) (ap (filter p) (range_next m n h) ∙ ap (λ (t : Bool). cond t (m ∷ rest) rest) is)) ∙ so
  where
    rest : List ℕ
    rest = filter p (range_with_len (m + 1) (n - (m + 1)))

    joined : (t : Bool) → cond t (found ++ m ∷ []) found ++ rest ≡ found ++ cond t (m ∷ rest) rest
    joined true = append_assoc found (m ∷ []) rest
    joined false = refl

-- two tests that agree on the numbers of a range leave the same of it
pub filter_same : (p q : ℕ → Bool) (a n : ℕ) → ((m : ℕ) → a ≤ m → m < a + n → p m ≡ q m)
    → filter p (range_with_len a n) ≡ filter q (range_with_len a n)
filter_same p q a zero same = refl
filter_same p q a (suc n) same =
    ap (λ (t : Bool). cond t (a ∷ filter p (range_with_len (a + 1) n)) (filter p (range_with_len (a + 1) n))) (same a (omega arith) (omega arith))
    ∙ ap (λ (r : List ℕ). cond (q a) (a ∷ r) r) (filter_same p q (a + 1) n (λ m low high. same m (omega arith) (omega arith)))
