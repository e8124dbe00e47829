-- The bad pages of an area and its slots are all pages behind the header.
use Rattle.std.proofs.Common.{◌≡◌, ℕ, zero, suc, ◌+◌, ◌-◌, ◌<◌, eqb, not, ◌&&◌, ◌||◌, Bool, true, false, cond, List, ◌∷◌, length, refl, sym, ap, ◌∙◌, arith}
use Rattle.std.proofs.lemmas.Bool.Decides.{nat_tests}
use Rattle.std.proofs.lemmas.Map.Made.{length-from_keys}
use Rattle.std.proofs.lemmas.Cmp.{nat_eq_equiv}
use Rattle.std.proofs.lemmas.List.Filters.{length-filter_both}
use Rattle.std.proofs.lemmas.List.FromFn.{length-range_with_len}
use Rattle.std.specs.List.{filter, range_with_len, IsDistinct, AllByRecursion}
use Rattle.av_base.specs.Words.{is_in, within}
use Rattle.av_swapdev.specs.Header.{behind_header, bad_of, slots_of}
use Rattle.av_swapdev.proofs.HeaderNamed.{in_filter, distinct_of}

-- a number below a range is none of those that a test leaves of it
apart : (p : ℕ → Bool) (b a n : ℕ) → b < a → AllByRecursion (λ y. eqb b y ≡ false) (filter p (range_with_len a n))
apart p b a zero h = tt
apart p b a (suc n) h = split (p a) (apart p b (a + 1) n (omega arith))
  where
    split : (t : Bool) → AllByRecursion (λ y. eqb b y ≡ false) (filter p (range_with_len (a + 1) n)) →
        AllByRecursion (λ y. eqb b y ≡ false) (cond t (a ∷ filter p (range_with_len (a + 1) n)) (filter p (range_with_len (a + 1) n)))
    split true rest = (grind (arith, nat_tests), rest)
    split false rest = rest

distinct : (p : ℕ → Bool) (a n : ℕ) → IsDistinct eqb (filter p (range_with_len a n))
unfolding IsDistinct
distinct p a zero = tt
distinct p a (suc n) = split (p a) (distinct p (a + 1) n)
  where
    split : (t : Bool) → IsDistinct eqb (filter p (range_with_len (a + 1) n)) →
        IsDistinct eqb (cond t (a ∷ filter p (range_with_len (a + 1) n)) (filter p (range_with_len (a + 1) n)))
    split true rest = (apart p a (a + 1) n (omega arith), rest)
    split false rest = rest

-- which numbers are in a range
in_range : (q a n : ℕ) → is_in q (range_with_len a n) ≡ within a n q
in_range q a zero = grind (arith, nat_tests)
in_range q a (suc n) = ap (λ t. eqb q a || t) (in_range q (a + 1) n) ∙ next q a n
  where
    next : (q a n : ℕ) → (eqb q a || within (a + 1) n q) ≡ within a (suc n) q
    next q a n = grind (arith, nat_tests)

commuted : (s t : Bool) → (s && t) ≡ (t && s)
commuted true true = refl
commuted true false = refl
commuted false true = refl
commuted false false = refl

module _ (pages : ℕ) (ns : List ℕ) where
  -- the bad pages are the numbers behind the header that are named
  pub in_bad : (q : ℕ) → is_in q (bad_of pages ns) ≡ (within 1 (pages - 1) q && is_in q ns)
  in_bad q = in_filter (λ m. is_in m ns) q (behind_header pages) ∙ ap (λ t. t && is_in q ns) (in_range q 1 (pages - 1))

  pub length-bad : length (distinct_of pages ns) ≡ length (bad_of pages ns)
  length-bad = sym (length-from_keys nat_eq_equiv (bad_of pages ns) (filter (within 1 (pages - 1)) ns)
      (distinct (λ m. is_in m ns) 1 (pages - 1)) among)
    where
      among : (q : ℕ) → is_in q (bad_of pages ns) ≡ is_in q (filter (within 1 (pages - 1)) ns)
      among q = in_bad q ∙ commuted (within 1 (pages - 1) q) (is_in q ns) ∙ sym (in_filter (within 1 (pages - 1)) q ns)

  pub slots_and_bad : length (bad_of pages ns) + length (slots_of pages ns) ≡ pages - 1
  slots_and_bad = length-filter_both (λ m. is_in m ns) (λ m. not (is_in m ns)) (λ m. refl) (behind_header pages) ∙ length-range_with_len 1 (pages - 1)
