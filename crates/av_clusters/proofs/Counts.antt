-- How many pages of each cluster are taken.
use Rattle.std.proofs.Common.{◌≡◌, ℕ, zero, suc, ◌+◌, ◌-◌, ◌*◌, ◌/◌, ◌^◌, ◌<◌, ◌≤◌, Bool, true, false, cond, not, ◌||◌, ◌⊎◌, List, [], ◌∷◌, length, get_or, set, take, drop, replicate, count_by, refl, sym, ap, subst, ◌∙◌, arith, inl, inr, ◌==◌, length-set, length-take, length-drop, get_or-set_same, get_or-set_other}
use Rattle.std.specs.List.{list_any}
use Rattle.std.proofs.Math.Seq.{take-set-lt}
use Rattle.std.proofs.lemmas.Bool.{cases_lt, cases_eq}
use Rattle.std.proofs.lemmas.Bool.Decides.{nat_tests}
use Rattle.std.proofs.lemmas.List.{get_or_past, drop-set-add, drop-set-lt, take-set-le, get_or_default, length-replicate}
use Rattle.std.proofs.lemmas.List.Sums.{sum_by-set, sum_by-cons, count_by-le-length}
use Rattle.av_clusters.specs.declared.clusters.Page.{Page}
use Rattle.av_clusters.specs.declared.clusters.Page.TheVariants.{Unusable, Free, Taken}
use Rattle.av_clusters.specs.Clusters.{AreCounted, is_free, is_taken, page_at, pages_between, has_taken, start_of, end_of}
use Rattle.av_clusters.proofs.Pages.{at_between, free_is, free_below, taken_below, none_counted}

abbrev worth : Page → ℕ
worth page = cond (is_taken page) 1 0

-- how many pages of the cluster are taken
abbrev taken_in : List Page → ℕ → ℕ
taken_in pages c = count_by is_taken (pages_between (start_of c) (end_of c) pages)

-- ---- a page changes, and those of one cluster are looked at

changed_inside : (pages : List Page) (from to p : ℕ) (x : Page) → from ≤ p → p < to
    → pages_between from to (set pages p x) ≡ set (pages_between from to pages) (p - from) x
changed_inside pages from to p x low high =
    let is : from + (p - from) ≡ p = omega arith in
    let inside : p - from < to - from = omega arith in
    ap (λ q. take (to - from) (drop from (set pages q x))) (sym is) ∙ ap (take (to - from)) (drop-set-add from pages (p - from) x)
    ∙ take-set-lt (to - from) (drop from pages) (p - from) x inside

changed_outside : (pages : List Page) (from to p : ℕ) (x : Page) → (p < from) ⊎ (to ≤ p) → from ≤ to
    → pages_between from to (set pages p x) ≡ pages_between from to pages
changed_outside pages from to p x (inl before) rising = ap (take (to - from)) (drop-set-lt from pages p x before)
changed_outside pages from to p x (inr behind) rising =
    let is : from + (p - from) ≡ p = omega arith in
    let past : to - from ≤ p - from = omega arith in
    ap (λ q. take (to - from) (drop from (set pages q x))) (sym is) ∙ ap (take (to - from)) (drop-set-add from pages (p - from) x)
    ∙ take-set-le (to - from) (drop from pages) (p - from) x past

changed_count : (pages : List Page) (p : ℕ) (x : Page) → p < length pages
    → taken_in (set pages p x) (p / 256) + worth (page_at pages p) ≡ taken_in pages (p / 256) + worth x
changed_count pages p x below =
    let low : 256 * (p / 256) ≤ p = omega arith in
    let high : p < 256 * (p / 256) + 256 = omega arith in
    ap (λ ps. count_by is_taken ps + worth (page_at pages p)) (changed_inside pages from to p x low high)
    ∙ ap (λ page. count_by is_taken (set here (p - from) x) + worth page) (sym (at_between pages from to p low high))
    ∙ sum_by-set worth here (p - from) x Unusable (inside low high)
  where
    from : ℕ
    from = start_of (p / 256)

    to : ℕ
    to = end_of (p / 256)

    here : List Page
    here = pages_between from to pages

    inside : 256 * (p / 256) ≤ p → p < 256 * (p / 256) + 256 → p - from < length here
    inside low high = omega (arith, low, high, below, length-take (to - from) (drop from pages), length-drop from pages)

-- ---- the counts

module _ (pages : List Page) (counts : List ℕ) (counted : AreCounted pages counts) where
  count_below : (c : ℕ) → 256 * c ≤ length pages → c < length counts
  count_below c within = let is = counted.count in omega (arith, is)

  -- the count that is read
  count_is : (c n : ℕ) → 256 * c ≤ length pages → n ≡ get_or counts c n → n ≡ taken_in pages c
  count_is c n within read = read ∙ get_or_default counts c n 0 (count_below c within) ∙ counted.taken c

  pub few_counted : (c n : ℕ) → 256 * c ≤ length pages → n ≡ get_or counts c n → n + 1 < 2 ^ 16
  few_counted c n within read = sum _ _ _ (count_is c n within read)
      (count_by-le-length is_taken (pages_between (start_of c) (end_of c) pages)) (short (drop (start_of c) pages))
    where
      short : (xs : List Page) → length (take (256 * c + 256 - 256 * c) xs) ≤ 256
      short xs = omega (arith, length-take (256 * c + 256 - 256 * c) xs)

      sum : (m k l : ℕ) → m ≡ k → k ≤ l → l ≤ 256 → m + 1 < 2 ^ 16
      sum m k l a b d = omega (arith, a, b, d)

module _ (pages : List Page) (counts : List ℕ) (p n : ℕ) (counted : AreCounted pages counts) (read : n ≡ get_or counts (p / 256) n) where
  within : p < length pages → 256 * (p / 256) ≤ length pages
  within below = omega (arith, below)

  counted_set : (n' : ℕ) (x : Page) → p < length pages → n' + worth (page_at pages p) ≡ n + worth x
      → AreCounted (set pages p x) (set counts (p / 256) n')
  counted_set n' x below change = record {
    count = length-set counts (p / 256) n' ∙ counted.count ∙ ap (λ m. m / 256 + 1) (sym (length-set pages p x));
    taken = λ c. by c (cases_eq c (p / 256));
  }
    where
      same : (k l a b : ℕ) → n' + a ≡ n + b → n ≡ k → l + a ≡ k + b → n' ≡ l
      same k l a b e f g = omega (arith, e, f, g)

      side : (c : ℕ) → (c ≡ p / 256 → ⊥) → (p < 256 * c) ⊎ (256 * c ≤ p) → (p < 256 * c) ⊎ (256 * c + 256 ≤ p)
      side c apart (inl before) = inl before
      side c apart (inr behind) = inr (past (cases_lt p (256 * c + 256)))
        where
          past : (p < 256 * c + 256) ⊎ (256 * c + 256 ≤ p) → 256 * c + 256 ≤ p
          past (inl b) = let is : c ≡ p / 256 = omega (arith, behind, b) in absurd (apart is)
          past (inr b) = b

      by : (c : ℕ) → (c ≡ p / 256) ⊎ (c ≡ p / 256 → ⊥) → get_or (set counts (p / 256) n') c 0 ≡ taken_in (set pages p x) c
      by c (inl e) = subst (λ d. get_or (set counts (p / 256) n') d 0 ≡ taken_in (set pages p x) d) (sym e)
          (get_or-set_same counts (p / 256) n' 0 (count_below pages counts counted (p / 256) (within below))
          ∙ same _ _ _ _ change (count_is pages counts counted (p / 256) n (within below) read) (changed_count pages p x below))
      by c (inr apart) = get_or-set_other counts (p / 256) c n' 0 apart ∙ counted.taken c
          ∙ sym (ap (count_by is_taken) (changed_outside pages (start_of c) (end_of c) p x (side c apart (cases_lt p (256 * c))) (omega arith)))

  -- a page is taken
  pub counted_taken : is_free (page_at pages p) ≡ true → AreCounted (set pages p Taken) (set counts (p / 256) (n + 1))
  counted_taken free =
      counted_set (n + 1) Taken (free_below pages p free) (ap (λ page. n + 1 + worth page) (free_is (page_at pages p) free) ∙ plus_none (n + 1))
    where
      plus_none : (m : ℕ) → m + 0 ≡ m
      plus_none m = omega arith

  -- or comes back, which was counted
  module _ (taken : is_taken (page_at pages p) ≡ true) where
    pub some_counted : 1 ≤ n
    some_counted = sum _ _ _ (changed_count pages p Free (taken_below pages p taken)) (ap (λ b. cond b 1 0) taken)
        (count_is pages counts counted (p / 256) n (within (taken_below pages p taken)) read)
      where
        sum : (k l a : ℕ) → l + a ≡ k + 0 → a ≡ 1 → n ≡ k → 1 ≤ n
        sum k l a e f g = omega (arith, e, f, g)

    pub counted_given : AreCounted (set pages p Free) (set counts (p / 256) (n - 1))
    counted_given = counted_set (n - 1) Free (taken_below pages p taken) (ap (λ b. n - 1 + cond b 1 0) taken ∙ back some_counted)
      where
        back : 1 ≤ n → n - 1 + 1 ≡ n + 0
        back some = omega (arith, some)

-- the count tells whether a page is taken
any_counted : (pages : List Page) → list_any is_taken pages ≡ not (count_by is_taken pages == 0)
any_counted [] = refl
any_counted (page ∷ pages) = ap (λ b. is_taken page || b) (any_counted pages) ∙ by (is_taken page) (count_by is_taken pages)
    ∙ ap (λ n. not (n == 0)) (sym (sum_by-cons (λ x. cond (is_taken x) 1 0) page pages))
  where
    by : (t : Bool) (n : ℕ) → (t || not (n == 0)) ≡ not (cond t 1 0 + n == 0)
    by true n = grind (arith, nat_tests)
    by false n = grind (arith, nat_tests)

taken_is : (pages : List Page) (counts : List ℕ) (c : ℕ) → AreCounted pages counts → has_taken pages c ≡ not (get_or counts c 0 == 0)
taken_is pages counts c counted =
    any_counted (pages_between (start_of c) (end_of c) pages) ∙ ap (λ n. not (n == 0)) (sym (counted.taken c))

-- whether one is left in a cluster to which one came back
module _ (pages : List Page) (counts : List ℕ) (p n m : ℕ) (counted : AreCounted pages counts) (read : n ≡ get_or counts (p / 256) n)
    (taken : is_taken (page_at pages p) ≡ true) (left : m ≡ get_or (set counts (p / 256) (n - 1)) (p / 256) m) where
  used_after : has_taken (set pages p Free) (p / 256) ≡ not (m == 0)
  used_after =
      let below = count_below pages counts counted (p / 256) (within pages counts p n counted read (taken_below pages p taken)) in
      taken_is (set pages p Free) (set counts (p / 256) (n - 1)) (p / 256) (counted_given pages counts p n counted read taken)
      ∙ ap (λ k. not (k == 0)) (get_or-set_same counts (p / 256) (n - 1) 0 below
      ∙ sym (left ∙ get_or-set_same counts (p / 256) (n - 1) m below))

  pub none_after : m ≡ 0 → has_taken (set pages p Free) (p / 256) ≡ false
  none_after is = used_after ∙ ap (λ k. not (k == 0)) is

  pub some_after : (m ≡ 0 → ⊥) → has_taken (set pages p Free) (p / 256) ≡ true
  some_after isnt = let no : (m == 0) ≡ false = grind (arith, nat_tests) in used_after ∙ ap not no

-- at first none is
pub counted_fresh : (pages : List Page) → ((p : ℕ) → is_taken (page_at pages p) ≡ false) → AreCounted pages (replicate (length pages / 256 + 1) 0)
counted_fresh pages none = record {
  count = length-replicate (length pages / 256 + 1) 0;
  taken = λ c. nothing (length pages / 256 + 1) c
      ∙ sym (none_counted is_taken (pages_between (start_of c) (end_of c) pages) (λ i. by c i (cases_lt i 256)));
}
  where
    nothing : (m c : ℕ) → ◌≡◌ {A = ℕ} (get_or (replicate m 0) c 0) 0
    nothing zero c = refl
    nothing (suc m) zero = refl
    nothing (suc m) (suc c) = nothing m c

    short : (c i : ℕ) → 256 ≤ i → length (pages_between (start_of c) (end_of c) pages) ≤ i
    short c i past = omega (arith, past, length-take (end_of c - start_of c) (drop (start_of c) pages))

    by : (c i : ℕ) → (i < 256) ⊎ (256 ≤ i) → is_taken (page_at (pages_between (start_of c) (end_of c) pages) i) ≡ false
    by c i (inl b) =
        let low : 256 * c ≤ 256 * c + i = omega arith in
        let high : 256 * c + i < 256 * c + 256 = omega arith in
        let is : 256 * c + i - 256 * c ≡ i = omega arith in
        ap (λ j. is_taken (page_at (pages_between (start_of c) (end_of c) pages) j)) (sym is)
        ∙ ap is_taken (at_between pages (start_of c) (end_of c) (256 * c + i) low high) ∙ none (256 * c + i)
    by c i (inr b) = ap is_taken (get_or_past (pages_between (start_of c) (end_of c) pages) i Unusable (short c i b))
