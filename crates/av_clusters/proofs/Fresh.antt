-- An area from which no slot is given yet.
use Rattle.std.proofs.Common.{◌≡◌, ◌≢◌, ℕ, zero, suc, ◌+◌, ◌*◌, ◌/◌, ◌^◌, ◌<◌, ◌≤◌, Bool, true, false, cond, not, ◌||◌, ◌⊎◌, List, [], ◌∷◌, ◌++◌, length, map, filter, get_or, set, take, replicate, Option, Some, None, is_some, count_by, refl, sym, ap, subst, ◌∙◌, arith, inl, inr, ◌==◌, length-append, length-set, get_or-set_same, get_or-set_other}
use Rattle.std.specs.List.{list_any, range_with_len}
use Rattle.std.proofs.lemmas.Bool.{cases_lt, false≢true}
use Rattle.std.proofs.lemmas.Bool.Decides.{nat_tests}
use Rattle.std.proofs.lemmas.List.{get_or_past, get_or-replicate, length-replicate}
use Rattle.std.proofs.lemmas.List.Folds.{list_any_more}
use Rattle.std.proofs.lemmas.List.FromFn.{fill_by_all, get_or-map-range_with_len, length-map-range_with_len, filter_of_map_range_with_len_more, map-range_with_len_more}
use Rattle.std.proofs.lemmas.List.Sums.{sum_by-cons}
use Rattle.av_clusters.specs.declared.clusters.Page.{Page}
use Rattle.av_clusters.specs.declared.clusters.Page.TheVariants.{Unusable, Free}
use Rattle.av_clusters.specs.Clusters.{IsWhole, AreFull, itself, is_free, is_taken, page_at, lowest, has_free, start_of, end_of, at_first, pages_of, clusters_of}
use Rattle.av_clusters.proofs.Pages.{found, none_free, none_of}
use Rattle.av_clusters.proofs.Counts.{counted_fresh}
use Rattle.av_clusters.proofs.Whole.{flag_below}

-- ---- the pages

-- one page is set aside
pub set_aside : (pages : List Page) (b p : ℕ) → page_at (set pages b Unusable) p ≡ cond (p == b) Unusable (page_at pages p)
set_aside pages b p = by (p == b) refl (cases_lt b (length pages))
  where
    by : (t : Bool) → (p == b) ≡ t → (b < length pages) ⊎ (length pages ≤ b)
        → page_at (set pages b Unusable) p ≡ cond (p == b) Unusable (page_at pages p)
    by true e (inl below) = let is : p ≡ b = grind (arith, nat_tests) in
        ap (page_at (set pages b Unusable)) is ∙ get_or-set_same pages b Unusable Unusable below ∙ sym (ap (λ t. cond t Unusable (page_at pages p)) e)
    by true e (inr past) =
        let is : p ≡ b = grind (arith, nat_tests) in
        ap (page_at (set pages b Unusable)) is
        ∙ get_or_past (set pages b Unusable) b Unusable (subst (λ n. n ≤ b) (sym (length-set pages b Unusable)) past)
        ∙ sym (ap (λ t. cond t Unusable (page_at pages p)) e)
    by false e _ = let apart : p ≢ b = grind (arith, nat_tests) in
        get_or-set_other pages b p Unusable Unusable apart ∙ sym (ap (λ t. cond t Unusable (page_at pages p)) e)

either : {X : Type 0} (a b : Bool) (x y : X) → cond b x (cond a x y) ≡ cond (a || b) x y
either true true x y = refl
either true false x y = refl
either false true x y = refl
either false false x y = refl

-- one more bad page is set aside
pub one_more_aside : (old now : List Page) (bad : List ℕ) (i p : ℕ) → i < length bad →
    page_at now p ≡ cond (list_any (λ x. p == x) (take i bad)) Unusable (page_at old p)
    → page_at (set now (get_or bad i 0) Unusable) p ≡ cond (list_any (λ x. p == x) (take (i + 1) bad)) Unusable (page_at old p)
one_more_aside old now bad i p below h =
    set_aside now (get_or bad i 0) p ∙ ap (cond (p == get_or bad i 0) Unusable) h ∙ either (list_any (λ x. p == x) (take i bad))
    (p == get_or bad i 0) Unusable (page_at old p)
    ∙ sym (ap (λ t. cond t Unusable (page_at old p)) (list_any_more (λ x. p == x) bad i 0 below))

pub pages_are : (n : ℕ) (bad : List ℕ) (start done : List Page) → start ≡ set (replicate n Free) 0 Unusable → length done ≡ length start
    → ((p : ℕ) → page_at done p ≡ cond (list_any (λ x. p == x) bad) Unusable (page_at start p)) → done ≡ pages_of n bad
pages_are n bad start done is len h = fill_by_all (at_first bad) done n Unusable
    (len ∙ ap length is ∙ length-set (replicate n Free) 0 Unusable ∙ length-replicate n Free) each
  where
    each : (p : ℕ) → p < n → page_at done p ≡ at_first bad p
    each p below =
        h p ∙ ap (λ ps. cond (list_any (λ x. p == x) bad) Unusable (page_at ps p)) is ∙ ap (cond (list_any (λ x. p == x) bad) Unusable)
        (set_aside (replicate n Free) 0 p)
        ∙ ap (λ f. cond (list_any (λ x. p == x) bad) Unusable (cond (p == 0) Unusable f)) (get_or-replicate n p Free Unusable below)
        ∙ either (p == 0) (list_any (λ x. p == x) bad) Unusable Free

pub length-pages_of : (n : ℕ) (bad : List ℕ) → length (pages_of n bad) ≡ n
length-pages_of n bad = length-map-range_with_len (at_first bad) 0 n

never_taken : (n : ℕ) (bad : List ℕ) (p : ℕ) → is_taken (page_at (pages_of n bad) p) ≡ false
never_taken n bad p = by (cases_lt p n)
  where
    choose : (b : Bool) → is_taken (cond b Unusable Free) ≡ false
    choose true = refl
    choose false = refl

    by : (p < n) ⊎ (n ≤ p) → is_taken (page_at (pages_of n bad) p) ≡ false
    by (inl b) = let e : 0 + p ≡ p = omega arith in ap is_taken (get_or-map-range_with_len (at_first bad) 0 n p p Unusable b e)
        ∙ choose ((p == 0) || list_any (λ x. p == x) bad)
    by (inr b) = ap is_taken (get_or_past (pages_of n bad) p Unusable (subst (λ m. m ≤ p) (sym (length-pages_of n bad)) b))

-- ---- the clusters

map_same : (xs : List ℕ) → map (λ x. x) xs ≡ xs
map_same [] = refl
map_same (x ∷ xs) = ap (λ ys. x ∷ ys) (map_same xs)

-- one more cluster is looked at
pub next_cluster : (test : ℕ → Bool) (c : ℕ) → filter test (range_with_len 0 (c + 1)) ≡ filter test (range_with_len 0 c) ++ cond (test c) (c ∷ []) []
next_cluster test c =
    let e : 0 + c ≡ c = omega arith in
    ap (filter test) (sym (map_same (range_with_len 0 (c + 1)))) ∙ filter_of_map_range_with_len_more test (λ x. x) 0 c c e
    ∙ ap (λ xs. filter test xs ++ cond (test c) (c ∷ []) []) (map_same (range_with_len 0 c))

pub next_free : (test : ℕ → Bool) (c n n' : ℕ) (old new : List ℕ) → new ≡ old ++ c ∷ [] → test c ≡ true → old ≡ filter test (range_with_len 0 c) →
    n ≡ length old → n' ≡ n + 1
    → (new ≡ filter test (range_with_len 0 (c + 1))) × (n' ≡ length new)
next_free test c n n' old new grown passes is len more = (
  grown ∙ (λ k. is k ++ cond (sym passes k) (c ∷ []) []) ∙ sym (next_cluster test c),
  more ∙ ap (λ m. m + 1) len
      ∙ sym (ap length grown ∙ length-append old (c ∷ [])),
)

pub next_passed : (test : ℕ → Bool) (c : ℕ) (old : List ℕ) → test c ≡ false → old ≡ filter test (range_with_len 0 c) →
    old ≡ filter test (range_with_len 0 (c + 1))
next_passed test c old fails is = is ∙ sym (append-nil (filter test (range_with_len 0 c)))
    ∙ (λ k. filter test (range_with_len 0 c) ++ cond (sym fails k) (c ∷ []) []) ∙ sym (next_cluster test c)
  where
    append-nil : (xs : List ℕ) → xs ++ [] ≡ xs
    append-nil [] = refl
    append-nil (x ∷ xs) = ap (λ ys. x ∷ ys) (append-nil xs)

pub next_flag : (test : ℕ → Bool) (c : ℕ) (b : Bool) (old new : List Bool) → new ≡ old ++ not b ∷ [] → b ≡ test c →
    old ≡ map (λ d. not (test d)) (range_with_len 0 c) → new ≡ map (λ d. not (test d)) (range_with_len 0 (c + 1))
next_flag test c b old new grown same is =
    let e : 0 + c ≡ c = omega arith in
    grown ∙ (λ k. is k ++ not (same k) ∷ []) ∙ sym (map-range_with_len_more (λ d. not (test d)) 0 c c e)

same_is : (c : ℕ) → (c == c) ≡ true
same_is c = grind (arith, nat_tests)

none_plus : (n : ℕ) → 0 + n ≡ n
none_plus n = omega arith

module _ (test : ℕ → Bool) where
  flags_of : ℕ → ℕ → List Bool
  flags_of a m = map (λ c. not (test c)) (range_with_len a m)

  total_fresh : (a m : ℕ) → length (filter test (range_with_len a m)) + count_by itself (map (λ c. not (test c)) (range_with_len a m)) ≡ m
  total_fresh a zero = refl
  total_fresh a (suc m) =
      ap (λ k. length (filter test (range_with_len a (suc m))) + k)
      (sum_by-cons (λ b. cond b 1 0) (not (test a)) (map (λ c. not (test c)) (range_with_len (a + 1) m)))
      ∙ by (test a) _ _ (total_fresh (a + 1) m)
    where
      by : (t : Bool) (fs : List ℕ) (k : ℕ) → length fs + k ≡ m → length (cond t (a ∷ fs) fs) + (cond (not t) 1 0 + k) ≡ suc m
      by true fs k h = omega (arith, h)
      by false fs k h = omega (arith, h)

  count_cons : (c a : ℕ) (b : Bool) (t : Bool) (fs : List ℕ) → (c == a) ≡ b →
      count_by (λ d. c == d) (cond t (a ∷ fs) fs) ≡ cond t (cond b 1 0) 0 + count_by (λ d. c == d) fs
  count_cons c a b true fs e = sum_by-cons (λ d. cond (c == d) 1 0) a fs ∙ ap (λ t. cond t 1 0 + count_by (λ d. c == d) fs) e
  count_cons c a b false fs e = sym (none_plus _)

  below_none : (c a m : ℕ) → c < a → count_by (λ d. c == d) (filter test (range_with_len a m)) ≡ 0
  below_none c a zero h = refl
  below_none c a (suc m) h =
      let e : (c == a) ≡ false = grind (arith, nat_tests) in
      count_cons c a false (test a) (filter test (range_with_len (a + 1) m)) e ∙ by (test a) _ (below_none c (a + 1) m (omega (arith, h)))
    where
      by : (t : Bool) (k : ℕ) → k ≡ 0 → cond t 0 0 + k ≡ 0
      by true k h = omega (arith, h)
      by false k h = omega (arith, h)

  once_from : (a m i c : ℕ) → c ≡ a + i → count_by (λ d. c == d) (filter test (range_with_len a m)) ≡ cond
      (get_or (map (λ c. not (test c)) (range_with_len a m)) i true) 0 1
  once_from a zero i c e = refl
  once_from a (suc m) zero c e =
      let t : (c == a) ≡ true = grind (arith, nat_tests) in
      count_cons c a true (test a) (filter test (range_with_len (a + 1) m)) t ∙ by (test a) _ (below_none c (a + 1) m (omega (arith, e)))
    where
      by : (t : Bool) (k : ℕ) → k ≡ 0 → cond t 1 0 + k ≡ cond (not t) 0 1
      by true k h = omega (arith, h)
      by false k h = omega (arith, h)
  once_from a (suc m) (suc i) c e =
      let t : (c == a) ≡ false = grind (arith, nat_tests) in
      count_cons c a false (test a) (filter test (range_with_len (a + 1) m)) t ∙ by (test a) _ ∙ once_from (a + 1) m i c (omega (arith, e))
    where
      by : (t : Bool) (k : ℕ) → cond t 0 0 + k ≡ k
      by true k = omega arith
      by false k = omega arith

  flagged : (m c : ℕ) → get_or (map (λ c. not (test c)) (range_with_len 0 m)) c true ≡ false → test c ≡ true
  flagged m c h =
      let below = subst (λ k. c < k) (length-map-range_with_len (λ c. not (test c)) 0 m) (flag_below _ c h) in
      let e : 0 + c ≡ c = omega arith in
      by (test c) (sym (get_or-map-range_with_len (λ c. not (test c)) 0 m c c true below e) ∙ h)
    where
      by : (t : Bool) → not t ≡ false → t ≡ true
      by true h = refl
      by false h = cc

fit_fresh : (pages : List Page) (c : ℕ) → has_free pages c ≡ true → (q : ℕ) × (q / 256 ≡ c) × (is_free (page_at pages q) ≡ true)
fit_fresh pages c h = by (lowest pages (start_of c) (end_of c)) refl h
  where
    inside : (q : ℕ) → 256 * c ≤ q → q < 256 * c + 256 → q / 256 ≡ c
    inside q a b = omega (arith, a, b)

    by : (r : Option ℕ) → lowest pages (start_of c) (end_of c) ≡ r → is_some r ≡ true → (q : ℕ) × (q / 256 ≡ c) × (is_free (page_at pages q) ≡ true)
    by None e g = absurd (false≢true g)
    by (Some q) e g = let f = found pages (start_of c) (end_of c) q e in (q, inside q f.0 f.1, f.2)

unmarked : (m c : ℕ) → get_or (replicate m false) c false ≡ false
unmarked zero c = refl
unmarked (suc m) zero = refl
unmarked (suc m) (suc c) = unmarked m c

none_full : (size : ℕ) (pages : List Page) → AreFull size pages (replicate (length pages / size + 1) false)
none_full size pages = record {
  count = length-replicate (length pages / size + 1) false;
  none_free = λ q t. absurd (false≢true (sym (unmarked (length pages / size + 1) (q / size)) ∙ t));
}

-- each cluster without a free page is marked at once
full_fresh : (pages : List Page) → AreFull 256 pages (map (λ c. not (has_free pages c)) (range_with_len 0 (length pages / 256 + 1)))
full_fresh pages = record {
  count = count;
  none_free = λ q is. by q is (cases_lt (q / 256) (length pages / 256 + 1));
}
  where
    count : length (map (λ c. not (has_free pages c)) (range_with_len 0 (length pages / 256 + 1))) ≡ length pages / 256 + 1
    count = length-map-range_with_len (λ c. not (has_free pages c)) 0 (length pages / 256 + 1)

    unset : (b : Bool) → not b ≡ true → b ≡ false
    unset true h = absurd (false≢true h)
    unset false h = refl

    by : (q : ℕ) → get_or (map (λ c. not (has_free pages c)) (range_with_len 0 (length pages / 256 + 1))) (q / 256) false ≡ true
        → (q / 256 < length pages / 256 + 1) ⊎ (length pages / 256 + 1 ≤ q / 256) → is_free (page_at pages q) ≡ false
    by q is (inl below) =
        let at = get_or-map-range_with_len (λ c. not (has_free pages c)) 0 (length pages / 256 + 1) (q / 256) (q / 256) false below
        (none_plus (q / 256)) in
        let none = none_of (lowest pages (start_of (q / 256)) (end_of (q / 256))) (unset (has_free pages (q / 256)) (sym at ∙ is)) in
        none_free pages (start_of (q / 256)) (end_of (q / 256)) q none (omega arith) (omega arith)
    by q is (inr past) = absurd (false≢true (sym (get_or_past (map (λ c. not (has_free pages c)) (range_with_len 0 (length pages / 256 + 1)))
        (q / 256) false (subst (λ n. n ≤ q / 256) (sym count) past)) ∙ is))

pub whole_fresh : (n : ℕ) (bad : List ℕ) (len room : ℕ) → n < 2 ^ 32 → len ≡ length (clusters_of (pages_of n bad))
    → length (pages_of n bad) / 256 + 1 ≤ room
    → IsWhole (pages_of n bad) (count_by is_free (pages_of n bad)) (replicate (length (pages_of n bad) / 256 + 1) 0) (clusters_of (pages_of n bad))
    len room
    (map (λ c. not (has_free (pages_of n bad) c)) (range_with_len 0 (length (pages_of n bad) / 256 + 1)))
    (map (λ c. not (has_free (pages_of n bad) c)) (range_with_len 0 (length (pages_of n bad) / 256 + 1)))
    (replicate (length (pages_of n bad) / 16384 + 1) false) None 0
whole_fresh n bad len room few same wide =
    let count = length-map-range_with_len (λ c. not (has_free (pages_of n bad) c)) 0 (length (pages_of n bad) / 256 + 1) in
    record {
      few = subst (λ m. m < 2 ^ 32) (sym (length-pages_of n bad)) few;
      left = refl;
      counted = counted_fresh (pages_of n bad) (never_taken n bad);
      busy = count;
      len = same;
      room = subst (λ m. m ≤ room) (sym count) wide;
      total = total_fresh (has_free (pages_of n bad)) 0 (length (pages_of n bad) / 256 + 1) ∙ sym count;
      once = λ c. once_from (has_free (pages_of n bad)) 0 (length (pages_of n bad) / 256 + 1) c c (sym (none_plus c));
      held = λ q t. absurd (false≢true (sym (never_taken n bad q) ∙ t));
      fit = λ c h. fit_fresh (pages_of n bad) c (flagged (has_free (pages_of n bad)) (length (pages_of n bad) / 256 + 1) c h);
      full = full_fresh (pages_of n bad);
      full_groups = none_full 16384 (pages_of n bad);
      fills = tt;
    }

pub few_pages : (n : ℕ) (bad : List ℕ) (pages : List Page) → pages ≡ pages_of n bad → n < 2 ^ 32 → length pages < 2 ^ 32
few_pages n bad pages is few = subst (λ m. m < 2 ^ 32) (sym (ap length is ∙ length-pages_of n bad)) few
