-- An area of which no slot is given yet.
use Rattle.std.proofs.Common.{◌≡◌, ℕ, zero, suc, ◌+◌, ◌-◌, ◌<◌, ◌≤◌, Bool, true, false, cond, not, ◌&&◌, ◌||◌, ◌==◌, ◌⊎◌, List, ◌∷◌, length, map, filter, replicate, Option, None, is_some, count_by, refl, sym, ap, subst, ◌∙◌, arith, inl, inr, ltb}
use Rattle.std.specs.List.{list_any, range_with_len}
use Rattle.std.proofs.lemmas.Bool.{cases_lt}
use Rattle.std.proofs.lemmas.Bool.Decides.{nat_tests}
use Rattle.std.proofs.lemmas.List.{get_or_past, get_or-replicate, length-replicate}
use Rattle.std.proofs.lemmas.List.FromFn.{get_or-map-range_with_len}
use Rattle.std.proofs.lemmas.List.Sums.{sum_by-cons}
use Rattle.av_clusters.specs.declared.clusters.Page.{Page}
use Rattle.av_clusters.specs.declared.clusters.Page.TheVariants.{Unusable, Free}
use Rattle.av_clusters.specs.Clusters.{Slots, fresh as fresh_slots, at_first, is_free, is_taken, page_at, pages_of}
use Rattle.av_clusters.proofs.Fresh.{length-pages_of}
use Rattle.av_swapmap.specs.Counts.{Store as Counts, Shown as ShownCounts, shown as shown_counts, fresh as fresh_counts}
use Rattle.std.specs.Prelude.{ℤ}
use Rattle.av_swapdev.specs.declared.header.Header.{Header}
use Rattle.av_swapdev.specs.Header.{bad_of, slots_of}
use Rattle.av_swapcache.proofs.AreaLaws.{count_alike}
use Rattle.av_swapcache.specs.Area.{IsArea, area_shown, fresh_area, frame_at, is_slot, uses_in}

-- what each page is
pub page_at-pages_of : (n : ℕ) (bad : List ℕ) (p : ℕ) → page_at (pages_of n bad) p ≡ cond (ltb p n) (at_first bad p) Unusable
page_at-pages_of n bad p = by (cases_lt p n)
  where
    by : (p < n) ⊎ (n ≤ p) → page_at (pages_of n bad) p ≡ cond (ltb p n) (at_first bad p) Unusable
    by (inl b) = let e : 0 + p ≡ p = omega arith in let t : ltb p n ≡ true = grind (arith, nat_tests) in
        get_or-map-range_with_len (at_first bad) 0 n p p Unusable b e ∙ sym (ap (λ t. cond t (at_first bad p) Unusable) t)
    by (inr b) = let t : ltb p n ≡ false = grind (arith, nat_tests) in
        get_or_past (pages_of n bad) p Unusable (subst (λ m. m ≤ p) (sym (length-pages_of n bad)) b)
        ∙ sym (ap (λ t. cond t (at_first bad p) Unusable) t)

pub frame_at-replicate : (n p : ℕ) → frame_at (replicate n None) p ≡ None
frame_at-replicate n p = by (cases_lt p n)
  where
    by : (p < n) ⊎ (n ≤ p) → frame_at (replicate n None) p ≡ None
    by (inl b) = get_or-replicate n p None None b
    by (inr b) = get_or_past (replicate n None) p None (subst (λ m. m ≤ p) (sym (length-replicate n None)) b)

none_taken : (t z b : Bool) → is_taken (cond t (cond (z || b) Unusable Free) Unusable) ≡ false
none_taken false z b = refl
none_taken true true b = refl
none_taken true false true = refl
none_taken true false false = refl

some_slots : (t z b : Bool) → is_slot (cond t (cond (z || b) Unusable Free) Unusable) ≡ (not z && t && not (t && b))
some_slots false true b = refl
some_slots false false b = refl
some_slots true true b = refl
some_slots true false true = refl
some_slots true false false = refl

first_page : (p : ℕ) → ltb 0 p ≡ not (p == 0)
first_page p = by (p == 0) refl
  where
    by : (b : Bool) → (p == 0) ≡ b → ltb 0 p ≡ not (p == 0)
    by true e = let is : p ≡ 0 = grind (arith, nat_tests) in ap (λ p. ltb 0 p) is ∙ sym (ap not e)
    by false e = let above : ltb 0 p ≡ true = grind (arith, nat_tests) in above ∙ sym (ap not e)

zero_plus : (n : ℕ) → 0 + n ≡ n
zero_plus n = omega arith

pub whole_fresh : (header : Header) (bad : List ℕ) (counts : ShownCounts) (all : List Page) (frames : List (Option ℕ))
    → counts ≡ fresh_counts header.pages bad →
    all ≡ pages_of header.pages bad → frames ≡ replicate header.pages None → count_by is_free (pages_of header.pages bad) ≡ header.slots
    → IsArea header counts all frames
whole_fresh header bad counts all frames c a f free = record {
  many = λ k. (c k).pages;
  pages = ap length a ∙ length-pages_of header.pages bad;
  places = ap length f ∙ length-replicate header.pages None;
  cached = λ p. (λ k. (c k).cached p) ∙ sym (ap is_some (ap (λ l. frame_at l p) f ∙ frame_at-replicate header.pages p));
  taken = λ p. ap (λ l. is_taken (page_at l p)) a ∙ untaken p ∙ sym (λ k. ltb 0 (uses_in (c k) p));
  usable = λ p. ap (λ l. is_slot (page_at l p)) a ∙ ap is_slot (page_at-pages_of header.pages bad p)
      ∙ some_slots (ltb p header.pages) (p == 0) (list_any (λ x. p == x) bad)
      ∙ ap (λ b. b && ltb p header.pages && not (ltb p header.pages && list_any (λ x. p == x) bad)) (sym (first_page p))
      ∙ sym (λ k. ltb 0 p && ltb p header.pages && not ((c k).bad p));
  number = ap (count_by is_slot) a ∙ count_alike is_slot is_free Unusable (pages_of header.pages bad) (pages_of header.pages bad) refl
      (λ p. ap (λ t. is_free (page_at (pages_of header.pages bad) p) || t) (untaken p)
      ∙ or_false (is_free (page_at (pages_of header.pages bad) p))) ∙ free;
}
  where
    untaken : (p : ℕ) → is_taken (page_at (pages_of header.pages bad) p) ≡ false
    untaken p = ap is_taken (page_at-pages_of header.pages bad p) ∙ none_taken (ltb p header.pages) (p == 0) (list_any (λ x. p == x) bad)

    or_false : (b : Bool) → (b || false) ≡ b
    or_false true = refl
    or_false false = refl

pub shown_fresh : (header : Header) (kept priority : ℤ) (bad : List ℕ) (counts : Counts) (slots : Slots) (frames : List (Option ℕ)) →
    shown_counts counts ≡ fresh_counts header.pages bad → slots ≡ fresh_slots header.pages bad → frames ≡ replicate header.pages None
    → kept ≡ priority
    → area_shown (record { header = header; priority = kept; counts = counts; slots = slots; cache = frames }) ≡ fresh_area header priority bad
shown_fresh header kept priority bad counts slots frames c t f same = λ k. record (fresh_area header priority bad) {
  priority = same k;
  find = λ p. (ap (λ l. frame_at l p) f ∙ frame_at-replicate header.pages p) k;
  entries = (c k).count;
  bad = (c k).bad;
  slots = t k;
}

-- ---- how many slots are free

-- a filter of rising numbers has each that passes, and no other
none_among : (test : ℕ → Bool) (a n x : ℕ) → x < a → list_any (λ y. x == y) (filter test (range_with_len a n)) ≡ false
none_among test a zero x h = refl
none_among test a (suc n) x h = let ne : (x == a) ≡ false = grind (arith, nat_tests) in
    elim (test a) as (λ t. list_any (λ y. x == y)
    (cond t (a ∷ filter test (range_with_len (a + 1) n)) (filter test (range_with_len (a + 1) n))) ≡ false) [
      | true ↦ ap (λ b. b || list_any (λ y. x == y) (filter test (range_with_len (a + 1) n))) ne ∙ none_among test (a + 1) n x (omega (arith, h))
      | false ↦ none_among test (a + 1) n x (omega (arith, h))
    ]

among : (test : ℕ → Bool) (a n x : ℕ) → a ≤ x → x < a + n → list_any (λ y. x == y) (filter test (range_with_len a n)) ≡ test x
among test a zero x low high = absurd (omega (arith, low, high))
among test a (suc n) x low high = by (x == a) refl (test a) refl (λ ne. among test (a + 1) n x (omega (arith, low, ne)) (omega (arith, high)))
  where
    by : (b : Bool) → (x == a) ≡ b → (t : Bool) → test a ≡ t
        → ((x ≡ a → ⊥) → list_any (λ y. x == y) (filter test (range_with_len (a + 1) n)) ≡ test x)
        → list_any (λ y. x == y) (cond (test a) (a ∷ filter test (range_with_len (a + 1) n)) (filter test (range_with_len (a + 1) n))) ≡ test x
    by true e true t later = let is : x ≡ a = grind (arith, nat_tests) in
        ap (λ t. list_any (λ y. x == y) (cond t (a ∷ filter test (range_with_len (a + 1) n)) (filter test (range_with_len (a + 1) n)))) t
        ∙ ap (λ b. b || list_any (λ y. x == y) (filter test (range_with_len (a + 1) n))) e ∙ sym (ap test is ∙ t)
    by true e false t later = let is : x ≡ a = grind (arith, nat_tests) in
        ap (λ t. list_any (λ y. x == y) (cond t (a ∷ filter test (range_with_len (a + 1) n)) (filter test (range_with_len (a + 1) n)))) t
        ∙ none_among test (a + 1) n x (omega (arith, is)) ∙ sym (ap test is ∙ t)
    by false e true t later = let ne : x ≡ a → ⊥ = grind (arith, nat_tests) in
        ap (λ t. list_any (λ y. x == y) (cond t (a ∷ filter test (range_with_len (a + 1) n)) (filter test (range_with_len (a + 1) n)))) t
        ∙ ap (λ b. b || list_any (λ y. x == y) (filter test (range_with_len (a + 1) n))) e ∙ later ne
    by false e false t later = let ne : x ≡ a → ⊥ = grind (arith, nat_tests) in
        ap (λ t. list_any (λ y. x == y) (cond t (a ∷ filter test (range_with_len (a + 1) n)) (filter test (range_with_len (a + 1) n)))) t ∙ later ne

-- free pages of a range are as many as pass a test that says the same
counted : (bad : List ℕ) (test : ℕ → Bool) (a n : ℕ) → ((x : ℕ) → a ≤ x → x < a + n → is_free (at_first bad x) ≡ test x)
    → count_by is_free (map (at_first bad) (range_with_len a n)) ≡ length (filter test (range_with_len a n))
counted bad test a zero h = refl
counted bad test a (suc n) h =
    sum_by-cons (λ x. cond (is_free x) 1 0) (at_first bad a) (map (at_first bad) (range_with_len (a + 1) n))
    ∙ ap (λ t. cond t 1 0 + count_by is_free (map (at_first bad) (range_with_len (a + 1) n))) (h a (omega arith) (omega arith))
    ∙ ap (λ m. cond (test a) 1 0 + m) (counted bad test (a + 1) n (λ x low high. h x (omega (arith, low)) (omega (arith, high))))
    ∙ tail (test a)
  where
    tail : (t : Bool) → cond t 1 0 + length (filter test (range_with_len (a + 1) n)) ≡ length (cond t (a ∷ filter test (range_with_len (a + 1) n))
        (filter test (range_with_len (a + 1) n)))
    tail true = omega arith
    tail false = zero_plus _

-- at first each slot of the header is free
pub free_at_first : (n : ℕ) (named : List ℕ) → 0 < n → count_by is_free (pages_of n (bad_of n named)) ≡ length (slots_of n named)
free_at_first zero named h = absurd (omega (arith, h))
free_at_first (suc n) named h =
    sum_by-cons (λ x. cond (is_free x) 1 0) Unusable (map (at_first (bad_of (suc n) named)) (range_with_len 1 n)) ∙ zero_plus _
    ∙ counted (bad_of (suc n) named) (λ m. not (list_any (λ y. m == y) named)) 1 n each
    ∙ ap (λ m. length (filter (λ m. not (list_any (λ y. m == y) named)) (range_with_len 1 m))) less
  where
    less : n ≡ suc n - 1
    less = omega arith

    each : (x : ℕ) → 1 ≤ x → x < 1 + n → is_free (at_first (bad_of (suc n) named) x) ≡ not (list_any (λ y. x == y) named)
    each x low high = let z : (x == 0) ≡ false = grind (arith, nat_tests) in
        ap (λ z. is_free (cond (z || list_any (λ y. x == y) (bad_of (suc n) named)) Unusable Free)) z
        ∙ free (list_any (λ y. x == y) (bad_of (suc n) named))
        ∙ ap not (ap (λ m. list_any (λ y. x == y) (filter (λ m. list_any (λ y. m == y) named) (range_with_len 1 m))) (sym less)
        ∙ among (λ m. list_any (λ y. m == y) named) 1 n x low high)
      where
        free : (b : Bool) → is_free (cond b Unusable Free) ≡ not b
        free true = refl
        free false = refl
