-- The pages of an area, and the lowest free one among some of them.
use Rattle.std.proofs.Common.{◌≡◌, ℕ, suc, ◌+◌, ◌-◌, ◌*◌, ◌/◌, ◌<◌, ◌≤◌, min, Bool, true, false, cond, ◌⊎◌, List, [], ◌∷◌, length, get_or, set, take, drop, Option, Some, None, is_some, option_map, position, count_by, refl, sym, ap, ◌∙◌, arith, inl, inr, ltb, length-take, length-drop, take_all, get_or-take, get_or-drop, get_or-set_same}
use Rattle.std.proofs.lemmas.Bool.{cases_lt, cases_order, cases_Bool, false≢true}
use Rattle.std.proofs.lemmas.Bool.Decides.{nat_tests}
use Rattle.std.proofs.lemmas.List.{get_or_past, take_rest}
use Rattle.std.proofs.lemmas.List.Folds.{list_any_at}
use Rattle.std.proofs.lemmas.List.Quantifiers.{position-Some}
use Rattle.std.proofs.lemmas.List.Sums.{fails_before_first, sum_by-cons}
use Rattle.std.specs.List.{position_or_len}
use Rattle.av_clusters.specs.declared.clusters.Page.{Page}
use Rattle.av_clusters.specs.declared.clusters.Page.TheVariants.{Unusable, Free, Taken}
use Rattle.av_clusters.specs.Clusters.{is_free, is_taken, page_at, pages_between, lowest, has_taken, start_of, end_of}

-- the end may lie past the area's
pub cut_short : (pages : List Page) (from to : ℕ) → from ≤ to → from ≤ length pages →
    take (min to (length pages) - from) (drop from pages) ≡ pages_between from to pages
cut_short pages from to h k = by (cases_lt to (length pages))
  where
    by : (to < length pages) ⊎ (length pages ≤ to) → take (min to (length pages) - from) (drop from pages) ≡ take (to - from) (drop from pages)
    by (inl b) = let e : min to (length pages) ≡ to = omega (arith, b) in ap (λ n. take (n - from) (drop from pages)) e
    by (inr b) =
        let e : min to (length pages) ≡ length pages = omega (arith, b) in
        let long : length (drop from pages) ≤ to - from = omega (arith, b, length-drop from pages) in
        ap (λ n. take (n - from) (drop from pages)) e ∙ take_rest pages from ∙ sym (take_all (to - from) (drop from pages) long)

pub at_between : (pages : List Page) (from to p : ℕ) → from ≤ p → p < to → get_or (pages_between from to pages) (p - from) Unusable ≡ page_at pages p
at_between pages from to p h k =
    let inside : p - from < to - from = omega arith in
    let e : from + (p - from) ≡ p = omega arith in
    get_or-take (to - from) (drop from pages) (p - from) Unusable inside ∙ get_or-drop from pages (p - from) Unusable ∙ ap (page_at pages) e

pub free_below : (pages : List Page) (p : ℕ) → is_free (page_at pages p) ≡ true → p < length pages
free_below pages p h = by (cases_lt p (length pages))
  where
    by : (p < length pages) ⊎ (length pages ≤ p) → p < length pages
    by (inl b) = b
    by (inr b) = absurd (false≢true (sym (ap is_free (get_or_past pages p Unusable b)) ∙ h))

pub taken_below : (pages : List Page) (p : ℕ) → is_taken (page_at pages p) ≡ true → p < length pages
taken_below pages p h = by (cases_lt p (length pages))
  where
    by : (p < length pages) ⊎ (length pages ≤ p) → p < length pages
    by (inl b) = b
    by (inr b) = absurd (false≢true (sym (ap is_taken (get_or_past pages p Unusable b)) ∙ h))

pub taken_not_free : (page : Page) → is_taken page ≡ true → is_free page ≡ false
taken_not_free Unusable h = refl
taken_not_free Free h = absurd (false≢true h)
taken_not_free Taken h = refl

-- the lowest one is free, and in range
pub found : (pages : List Page) (from to p : ℕ) → lowest pages from to ≡ Some p → (from ≤ p) × (p < to) × (is_free (page_at pages p) ≡ true)
found pages from to p h = by (position is_free (pages_between from to pages)) refl h
  where
    short : (i : ℕ) → i < length (pages_between from to pages) → i < to - from
    short i b = omega (arith, b, length-take (to - from) (drop from pages))

    by : (r : Option ℕ) → position is_free (pages_between from to pages) ≡ r → option_map (λ i. from + i) r ≡ Some p →
        (from ≤ p) × (p < to) × (is_free (page_at pages p) ≡ true)
    by None e g = cc
    by (Some i) e g =
        let s = position-Some is_free (pages_between from to pages) i Unusable e in
        let is : from + i ≡ p = cc in
        let inside : i < to - from = short i s.0 in
        let low : from ≤ p = omega (arith, is) in
        let high : p < to = omega (arith, is, inside) in
        let place : p - from ≡ i = omega (arith, is) in (
          low,
          high,
          sym (ap is_free (at_between pages from to p low high))
              ∙ ap (λ j. is_free (get_or (pages_between from to pages) j Unusable)) place ∙ s.1,
        )

-- and where there is none, no page there is free
all_fail : (xs : List Page) (i : ℕ) → position is_free xs ≡ None → is_free (get_or xs i Unusable) ≡ false
all_fail xs i h = by (cases_lt (position_or_len is_free xs) (length xs)) (cases_lt i (length xs))
  where
    by : (position_or_len is_free xs < length xs) ⊎ (length xs ≤ position_or_len is_free xs) → (i < length xs) ⊎ (length xs ≤ i) →
        is_free (get_or xs i Unusable) ≡ false
    by (inl b) c = let t : ltb (position_or_len is_free xs) (length xs) ≡ true = grind (arith, nat_tests) in
        absurd (let e : Some (position_or_len is_free xs) ≡ None = sym (ap (λ t. cond t (Some (position_or_len is_free xs)) None) t) ∙ h in cc)
    by (inr b) (inl c) = fails_before_first is_free xs i Unusable (omega (arith, b, c))
    by (inr b) (inr c) = ap is_free (get_or_past xs i Unusable c)

pub none_free : (pages : List Page) (from to p : ℕ) → lowest pages from to ≡ None → from ≤ p → p < to → is_free (page_at pages p) ≡ false
none_free pages from to p h low high = sym (ap is_free (at_between pages from to p low high)) ∙ all_fail (pages_between from to pages) (p - from)
    (by (position is_free (pages_between from to pages)) refl h)
  where
    by : (r : Option ℕ) → position is_free (pages_between from to pages) ≡ r → option_map (λ i. from + i) r ≡ None →
        position is_free (pages_between from to pages) ≡ None
    by None e g = e
    by (Some i) e g = cc

-- where no page of a cluster is taken, none of these is
pub none_taken : (pages : List Page) (c p : ℕ) → has_taken pages c ≡ false → p / 256 ≡ c → is_taken (page_at pages p) ≡ false
none_taken pages c p h e = by (cases_Bool (is_taken (page_at pages p)))
  where
    L : List Page
    L = pages_between (start_of c) (end_of c) pages

    by : (is_taken (page_at pages p) ≡ true) ⊎ (is_taken (page_at pages p) ≡ false) → is_taken (page_at pages p) ≡ false
    by (inr b) = b
    by (inl b) =
        let low : 256 * c ≤ p = omega arith in
        let high : p < 256 * c + 256 = omega arith in
        let here : is_taken (get_or (pages_between (start_of c) (end_of c) pages) (p - start_of c) Unusable) ≡ true =
        ap is_taken (at_between pages (start_of c) (end_of c) p low high) ∙ b in
        absurd (false≢true (sym h ∙ list_any_at is_taken (pages_between (start_of c) (end_of c) pages) (p - start_of c) Unusable
        (taken_below (pages_between (start_of c) (end_of c) pages) (p - start_of c) here) here))

-- what a call answered, at other names of its arguments
pub answered : (pages pages' : List Page) (from from' to to' : ℕ) (r s : Option ℕ) → pages' ≡ pages → from' ≡ from → to' ≡ to
    → r ≡ lowest pages' from' to' →
    r ≡ s → lowest pages from to ≡ s
answered pages pages' from from' to to' r s a b d e f = sym (e ∙ (λ k. lowest (a k) (b k) (d k))) ∙ f

-- none before it is free
pub least : (pages : List Page) (from to p k : ℕ) → lowest pages from to ≡ Some p → from ≤ k → k < p → is_free (page_at pages k) ≡ false
least pages from to p k h low high = by (position is_free (pages_between from to pages)) refl h
  where
    by : (r : Option ℕ) → position is_free (pages_between from to pages) ≡ r → option_map (λ i. from + i) r ≡ Some p
        → is_free (page_at pages k) ≡ false
    by None e g = absurd (let never : None ≡ Some p = g in cc)
    by (Some i) e g =
        let s = position-Some is_free (pages_between from to pages) i Unusable e in
        let is : from + i ≡ p = cc in
        let inside : k - from < i = omega (arith, is) in
        let below = (found pages from to p h).1 in
        let last : k < to = omega (arith, below) in
        sym (ap is_free (at_between pages from to k low last)) ∙ s.2 (k - from) inside

-- no page from one on is free, below another
abbrev pub NoneFree : List Page → ℕ → ℕ → Type 0
NoneFree pages from to = (q : ℕ) → from ≤ q → q < to → is_free (page_at pages q) ≡ false

pub none_is : (pages : List Page) (from to : ℕ) → NoneFree pages from to → lowest pages from to ≡ None
none_is pages from to h = by (lowest pages from to) refl
  where
    by : (r : Option ℕ) → lowest pages from to ≡ r → lowest pages from to ≡ None
    by None e = e
    by (Some p) e = let f = found pages from to p e in absurd (false≢true (sym (h p f.0 f.1) ∙ f.2))

lowest_is : (pages : List Page) (from to p : ℕ) → from ≤ p → p < to → is_free (page_at pages p) ≡ true → NoneFree pages from p
    → lowest pages from to ≡ Some p
lowest_is pages from to p low high free before = by (lowest pages from to) refl
  where
    by : (r : Option ℕ) → lowest pages from to ≡ r → lowest pages from to ≡ Some p
    by None n = absurd (false≢true (sym (none_free pages from to p n low high) ∙ free))
    by (Some q) n = order (cases_order p q)
      where
        g : (from ≤ q) × (q < to) × (is_free (page_at pages q) ≡ true)
        g = found pages from to q n

        order : (p ≡ q) ⊎ ((p < q) ⊎ (q < p)) → lowest pages from to ≡ Some p
        order (inl is) = n ∙ ap Some (sym is)
        order (inr (inl l)) = absurd (false≢true (sym (least pages from to q p n low l) ∙ free))
        order (inr (inr l)) = absurd (false≢true (sym (before q g.0 l) ∙ g.2))

-- ---- the parts of a whole, one behind another

-- the lowest of the first part that has one is the lowest of the whole
pub lowest_of_whole : (pages : List Page) (from to start end : ℕ) (r : Option ℕ) → r ≡ lowest pages start end → is_some r ≡ true → from ≤ start →
    ((q : ℕ) → q < end → q < length pages → q < to)
    → NoneFree pages from start → r ≡ lowest pages from to
lowest_of_whole pages from to start end None e some low high before = absurd (false≢true some)
lowest_of_whole pages from to start end (Some p) e some low high before =
    let first : from ≤ p = omega (arith, low, f.0) in
    sym (lowest_is pages from to p first (high p f.1 (free_below pages p f.2)) f.2 (λ q a b. by q a b (cases_lt q start)))
  where
    f : (start ≤ p) × (p < end) × (is_free (page_at pages p) ≡ true)
    f = found pages start end p (sym e)

    by : (q : ℕ) → from ≤ q → q < p → (q < start) ⊎ (start ≤ q) → is_free (page_at pages q) ≡ false
    by q a b (inl c) = before q a c
    by q a b (inr c) = least pages start end p q (sym e) c b

pub none_of : (r : Option ℕ) → is_some r ≡ false → r ≡ None
none_of None h = refl
none_of (Some p) h = absurd (false≢true (sym h))

-- a search without a find has passed one more part
pub passed : (pages : List Page) (from start end next : ℕ) (r : Option ℕ) → r ≡ lowest pages start end → is_some r ≡ false → next ≡ end
    → NoneFree pages from start → NoneFree pages from next
passed pages from start end next r e none is before q low high = by (cases_lt q start)
  where
    inside : q < end
    inside = omega (arith, is, high)

    by : (q < start) ⊎ (start ≤ q) → is_free (page_at pages q) ≡ false
    by (inl b) = before q low b
    by (inr b) = none_free pages start end q (sym e ∙ none_of r none) b inside

past_none : (pages : List Page) (q : ℕ) → length pages ≤ q → is_free (page_at pages q) ≡ false
past_none pages q past = ap is_free (get_or_past pages q Unusable past)

-- and where it has passed them all, or has come to the area's end, there is none
pub none_in_whole : (pages : List Page) (from to end : ℕ) → ((q : ℕ) → end ≤ q → q < to → length pages ≤ q) → NoneFree pages from end
    → lowest pages from to ≡ None
none_in_whole pages from to end past before = none_is pages from to (λ q low high. by q low high (cases_lt q end))
  where
    by : (q : ℕ) → from ≤ q → q < to → (q < end) ⊎ (end ≤ q) → is_free (page_at pages q) ≡ false
    by q low high (inl b) = before q low b
    by q low high (inr b) = past_none pages q (past q b high)

-- ---- all pages

pub free_is : (page : Page) → is_free page ≡ true → page ≡ Free
free_is Unusable h = absurd (false≢true h)
free_is Free h = refl
free_is Taken h = absurd (false≢true h)

pub none_counted : (test : Page → Bool) (pages : List Page) → ((p : ℕ) → test (page_at pages p) ≡ false) → count_by test pages ≡ 0
none_counted test [] h = refl
none_counted test (page ∷ pages) h = sum_by-cons (λ x. cond (test x) 1 0) page pages ∙ zero_both _ _ (ap (λ b. cond b 1 0) (h 0))
    (none_counted test pages (λ p. h (suc p)))
  where
    zero_both : (a b : ℕ) → a ≡ 0 → b ≡ 0 → a + b ≡ 0
    zero_both a b x y = omega (arith, x, y)

pub none_left : (pages : List Page) → lowest pages 0 (length pages) ≡ None → count_by is_free pages ≡ 0
none_left pages h = none_counted is_free pages (λ p. by p (cases_lt p (length pages)))
  where
    by : (p : ℕ) → (p < length pages) ⊎ (length pages ≤ p) → is_free (page_at pages p) ≡ false
    by p (inl b) = none_free pages 0 (length pages) p h (omega arith) b
    by p (inr b) = past_none pages p b

-- a page that was free, and is taken
pub was_free : (pages : List Page) (p : ℕ) → is_free (page_at pages p) ≡ true → (page_at pages p ≡ Free) × (page_at (set pages p Taken) p ≡ Taken)
was_free pages p h = (free_is (page_at pages p) h, get_or-set_same pages p Taken Unusable (free_below pages p h))
