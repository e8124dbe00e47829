-- The slots of an area that is turned on: none is taken, and as many are free as its header says.
use Rattle.std.proofs.Common.{◌≡◌, ℕ, zero, suc, ◌+◌, ◌-◌, min, ◌<◌, ◌≤◌, Bool, true, false, cond, not, ◌&&◌, ◌||◌, nat_lt, List, ◌∷◌, length, filter, map, Option, Some, None, count_by, refl, sym, ap, subst, ◌∙◌, arith, ◌==◌, if◌then◌else◌}
use Rattle.std.proofs.lemmas.Bool.Decides.{nat_tests}
use Rattle.std.proofs.lemmas.List.FromFn.{get_or-map-range_with_len}
use Rattle.std.proofs.lemmas.List.Sums.{length-filter}
use Rattle.std.specs.List.{range_with_len}
use Rattle.std.specs.Prelude.{IfSome, IsSomeAnd, MatchOption}
use Rattle.av_base.specs.Words.{is_in}
use Rattle.av_clusters.proofs.Fresh.{length-pages_of}
use Rattle.av_clusters.proofs.Pages.{free_below, taken_below}
use Rattle.av_clusters.specs.Clusters.{Slots, at_first, fresh, is_free, is_taken, page_at, pages_of}
use Rattle.av_clusters.specs.declared.clusters.Page.TheVariants.{Free, Unusable}
use Rattle.av_swapdev.specs.Device.{most_pages}
use Rattle.av_swapdev.specs.Header.{Layout, slots_of}
use Rattle.av_plain.specs.Choice.{AreFresh}
use Rattle.av_plain.specs.Device.{IsLayout}
use Rattle.av_plain.specs.Ledger.{HasNumbers, Setting, SwapArea, is_header_slot, is_usable, may_be_slot, size_of}

-- ---- the pages of an area at first

page-first : (n : ℕ) (bad : List ℕ) (p : ℕ) → p < n → page_at (pages_of n bad) p ≡ at_first bad p
page-first n bad p below = get_or-map-range_with_len (at_first bad) 0 n p p Unusable below (omega arith)

at_first-untaken : (bad : List ℕ) (p : ℕ) → is_taken (at_first bad p) ≡ false
at_first-untaken bad p = by (p == 0 || is_in p bad)
  where
    by : (b : Bool) → is_taken (if b then Unusable else Free) ≡ false
    by true = refl
    by false = refl

none-taken : (n : ℕ) (bad : List ℕ) (p : ℕ) → is_taken (page_at (pages_of n bad) p) ≡ false
none-taken n bad p = by (is_taken (page_at (pages_of n bad) p)) refl
  where
    by : (b : Bool) → is_taken (page_at (pages_of n bad) p) ≡ b → b ≡ false
    by false e = refl
    by true e =
        let below = taken_below (pages_of n bad) p e in
        let long = length-pages_of n bad in
        sym e ∙ ap is_taken (page-first n bad p (omega (arith, below, long))) ∙ at_first-untaken bad p

-- a page that is free is behind the header, and not bad
record IsFreePage (n : ℕ) (bad : List ℕ) (p : ℕ) : Type 0 where
  below : p < n
  behind : (p == 0) ≡ false
  good : is_in p bad ≡ false

free-page : (n : ℕ) (bad : List ℕ) (p : ℕ) → is_free (page_at (pages_of n bad) p) ≡ true → IsFreePage n bad p
free-page n bad p h =
    let low = free_below (pages_of n bad) p h in
    let long = length-pages_of n bad in
    let below : p < n = omega (arith, low, long) in
    by below (p == 0) (is_in p bad) refl refl (sym (ap is_free (page-first n bad p below)) ∙ h)
  where
    by : p < n → (a b : Bool) → (p == 0) ≡ a → is_in p bad ≡ b → is_free (if a || b then Unusable else Free) ≡ true → IsFreePage n bad p
    by below true b e f h = cc
    by below false true e f h = cc
    by below false false e f h = record { below = below; behind = e; good = f }

-- as many are free as are behind the header and not bad
count-first : (bad : List ℕ) (a n : ℕ) → 0 < a →
    length (filter is_free (map (at_first bad) (range_with_len a n))) ≡ length (filter (λ m. not (is_in m bad)) (range_with_len a n))
count-first bad a zero above = refl
count-first bad a (suc n) above = by (a == 0) (is_in a bad) (grind (arith, nat_tests, above)) (count-first bad (a + 1) n (omega arith))
  where
    by : (z b : Bool) → z ≡ false →
        length (filter is_free (map (at_first bad) (range_with_len (a + 1) n))) ≡ length
        (filter (λ m. not (is_in m bad)) (range_with_len (a + 1) n)) →
        length (cond (is_free (if z || b then Unusable else Free)) ((if z || b then Unusable else Free) ∷ filter is_free (map (at_first bad)
        (range_with_len (a + 1) n))) (filter is_free (map (at_first bad) (range_with_len (a + 1) n))))
        ≡ length (cond (not b) (a ∷ filter (λ m. not (is_in m bad)) (range_with_len (a + 1) n))
        (filter (λ m. not (is_in m bad)) (range_with_len (a + 1) n)))
    by true b e h = cc
    by false true e h = h
    by false false e h = ap suc h

count-free : (n : ℕ) (bad : List ℕ) → count_by is_free (pages_of n bad) ≡ length (slots_of n bad)
count-free n bad = sym (length-filter is_free (pages_of n bad)) ∙ by n
  where
    back : (n : ℕ) → suc n - 1 ≡ n
    back n = omega arith

    by : (n : ℕ) → length (filter is_free (pages_of n bad)) ≡ length (slots_of n bad)
    by zero = refl
    by (suc n) = count-first bad 1 n (omega arith) ∙ ap (λ k. length (filter (λ m. not (is_in m bad)) (range_with_len 1 k))) (sym (back n))

-- ---- an area that is turned on

pub record IsFresh (m : Setting) (k slots : ℕ) (made : Slots) : Type 0 where
  pub untaken : (page : ℕ) → is_taken (page_at made.pages page) ≡ false
  pub free : (page : ℕ) → is_free (page_at made.pages page) ≡ true →
      (nat_lt 0 page && nat_lt page (size_of m k) && is_usable m (record { area = k; page = page })) ≡ true
  pub count : count_by is_free made.pages ≡ slots

-- the headers of a setting are layouts of its areas
pub fresh-is : (m : Setting) (k : ℕ) (area : SwapArea) (made : Slots)
    → IfSome m.headers (λ headers. IfSome (headers k) (IsLayout (size_of m k)))
    → AreFresh m k area made → IsFresh m k area.slots made
fresh-is m k area made layouts h = by m.headers refl layouts h
  where
    inside : (n : ℕ) (bads : List ℕ) (page : ℕ) → n ≤ min (size_of m k) most_pages → IsFreePage n bads page → (u : Bool) → u ≡ true
        → (nat_lt 0 page && nat_lt page (size_of m k) && u) ≡ true
    inside n bads page fits f u e =
        let low : nat_lt 0 page ≡ true = (let z = f.behind in grind (arith, nat_tests, z)) in
        let less : page < size_of m k = (let b = f.below in omega (arith, b, fits)) in
        let high : nat_lt page (size_of m k) ≡ true = grind (arith, nat_tests, less) in
        all (nat_lt 0 page) (nat_lt page (size_of m k)) u low high e
      where
        all : (a b c : Bool) → a ≡ true → b ≡ true → c ≡ true → (a && b && c) ≡ true
        all true true true x y z = refl
        all true true false x y z = cc
        all true false c x y z = cc
        all false b c x y z = cc

    made-of : (n : ℕ) (bads : List ℕ) → made ≡ fresh n bads → n ≤ min (size_of m k) most_pages
        → ((page : ℕ) → IsFreePage n bads page → is_usable m (record { area = k; page = page }) ≡ true)
        → count_by is_free (pages_of n bads) ≡ area.slots → IsFresh m k area.slots made
    made-of n bads is fits usable count = subst (IsFresh m k area.slots) (sym is) (record {
      untaken = none-taken n bads;
      free = λ page h. let f = free-page n bads page h in inside n bads page fits f (is_usable m (record { area = k; page = page })) (usable page f);
      count = count;
    })

    usable-by : (h : Layout) (page : ℕ) → IsFreePage h.pages h.bad page → (nat_lt page h.pages && not (is_in page h.bad)) ≡ true
    usable-by h page f =
        let below = f.below in
        let high : nat_lt page h.pages ≡ true = grind (arith, nat_tests, below) in
        both (nat_lt page h.pages) (is_in page h.bad) high f.good
      where
        both : (a b : Bool) → a ≡ true → b ≡ false → (a && not b) ≡ true
        both true false x y = refl
        both true true x y = cc
        both false b x y = cc

    layout : (headers : ℕ → Option Layout) → m.headers ≡ Some headers → (o : Option Layout) → headers k ≡ o → IfSome o (IsLayout (size_of m k))
        → IsSomeAnd o (λ (h : Layout). HasNumbers area h × (made ≡ fresh h.pages h.bad)) → IsFresh m k area.slots made
    layout headers told None e is h = absurd h
    layout headers told (Some h) e is q = made-of h.pages h.bad q.1 is.fits
        (λ page f. ap (may_be_slot (record { area = k; page = page })) told ∙ ap (is_header_slot (record { area = k; page = page })) e
        ∙ usable-by h page f)
        (count-free h.pages h.bad ∙ sym is.slots ∙ sym q.0.slots)

    by : (o : Option (ℕ → Option Layout)) → m.headers ≡ o → IfSome o (λ headers. IfSome (headers k) (IsLayout (size_of m k)))
        → MatchOption o ((pages : ℕ) × (bads : List ℕ) × (pages ≤ min (size_of m k) most_pages) × (1 + area.slots + area.bad ≡ pages)
        × (made ≡ fresh pages bads) × (count_by is_free made.pages ≡ area.slots))
        (λ headers. IsSomeAnd (headers k) (λ (h : Layout). HasNumbers area h × (made ≡ fresh h.pages h.bad)))
        → IsFresh m k area.slots made
    by None told is h = made-of h.0 h.1 h.4 h.2 (λ page f. ap (may_be_slot (record { area = k; page = page })) told)
        (ap (λ (t : Slots). count_by is_free t.pages) (sym h.4) ∙ h.5)
    by (Some headers) told is h = layout headers told (headers k) refl is h
