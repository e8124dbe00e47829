-- What giving a slot, and taking slots back, do to the pages of a swap area.
use Rattle.std.proofs.Common.{◌≡◌, ◌≢◌, ℕ, zero, suc, ◌+◌, ◌<◌, ◌≤◌, Bool, true, false, cond, ◌&&◌, nat_lt, nat_le, List, [], ◌∷◌, length, filter, set, Option, Some, None, count_by, refl, sym, ap, ◌∙◌, arith, ◌==◌, get_or-set_same, get_or-set_other}
use Rattle.std.proofs.lemmas.Bool.{false≢true}
use Rattle.std.proofs.lemmas.Bool.Decides.{nat_tests}
use Rattle.std.specs.Prelude.{IfSome, fold, if◌then◌else◌, option_map, ◌||◌, ◌/◌}
use Rattle.std.specs.List.{range_with_len}
use Rattle.av_clusters.specs.declared.clusters.Page.{Page}
use Rattle.av_clusters.specs.declared.clusters.Page.TheVariants.{Unusable, Free, Taken}
use Rattle.av_clusters.specs.Clusters.{Slots, after_fill, after_take, anywhere, cluster_size, end_of, first_some, give_slot, has_taken, in_current, in_next, is_free, is_taken, lowest, page_at, start_of, take_slot, with_free_cluster}
use Rattle.av_clusters.proofs.Pages.{found, taken_below}
use Rattle.av_clusters.proofs.Whole.{one_more}

-- a page that is set, among others
pub set-at : (pages : List Page) (b p : ℕ) (x : Page) → b < length pages
    → page_at (set pages b x) p ≡ cond (p == b) x (page_at pages p)
set-at pages b p x below = by (p == b) refl
  where
    by : (c : Bool) → (p == b) ≡ c → page_at (set pages b x) p ≡ cond c x (page_at pages p)
    by true e = let is : p ≡ b = grind (arith, nat_tests, e) in
        ap (page_at (set pages b x)) is ∙ get_or-set_same pages b x Unusable below
    by false e = let apart : p ≢ b = grind (arith, nat_tests, e) in
        get_or-set_other pages b p x Unusable apart

-- ---- a slot is given

-- a page that is given was free, and it alone is taken
abbrev pub Gives : Slots → Option (ℕ × Slots) → Type 0
Gives t o = IfSome o (λ x. (is_free (page_at t.pages x.0) ≡ true) × (x.1.pages ≡ set t.pages x.0 Taken))

pub gives-one : (t : Slots) → Gives t (take_slot t)
gives-one t = either (in_current t t.current) (first_some (in_next t t.free) (anywhere t))
    (current t.current) (either (in_next t t.free) (anywhere t) (next t.free) any)
  where
    either : (a b : Option (ℕ × Slots)) → Gives t a → Gives t b → Gives t (first_some a b)
    either None b x y = y
    either (Some a) b x y = x

    current : (o : Option ℕ) → Gives t (in_current t o)
    current None = tt
    current (Some c) = by (lowest t.pages t.cursor (end_of c)) refl
      where
        by : (o : Option ℕ) → lowest t.pages t.cursor (end_of c) ≡ o
            → Gives t (option_map (λ p. (p, after_fill t c p)) o)
        by None e = tt
        by (Some p) e = ((found t.pages t.cursor (end_of c) p e).2, refl)

    next : (cs : List ℕ) → Gives t (in_next t cs)
    next [] = tt
    next (c ∷ cs) = by (lowest t.pages (start_of c) (end_of c)) refl
      where
        by : (o : Option ℕ) → lowest t.pages (start_of c) (end_of c) ≡ o
            → Gives t (option_map (λ p. (p, after_fill (record t { free = cs }) c p)) o)
        by None e = tt
        by (Some p) e = ((found t.pages (start_of c) (end_of c) p e).2, refl)

    any : Gives t (anywhere t)
    any = by (lowest t.pages 0 (length t.pages)) refl
      where
        by : (o : Option ℕ) → lowest t.pages 0 (length t.pages) ≡ o
            → Gives t (option_map (λ p. (p, after_take t p)) o)
        by None e = tt
        by (Some p) e = ((found t.pages 0 (length t.pages) p e).2, refl)

-- ---- slots come back

back-pages : (t : Slots) (p : ℕ) → (give_slot t p).pages ≡ set t.pages p Free
back-pages t p = by (has_taken (set t.pages p Free) (p / cluster_size))
  where
    by : (b : Bool) → (if b then record t { pages = set t.pages p Free }
        else with_free_cluster (record t { pages = set t.pages p Free }) (p / cluster_size)).pages ≡ set t.pages p Free
    by true = refl
    by false = refl

-- each page in the range that passes is taken
abbrev pub AreTaken : (ℕ → Bool) → ℕ → ℕ → List Page → Type 0
AreTaken test a n pages = (q : ℕ) → a ≤ q → q < a + n → test q ≡ true
    → is_taken (page_at pages q) ≡ true

-- after the first of them came back
module _ (test : ℕ → Bool) (a n : ℕ) (t : Slots) (all : AreTaken test a (suc n) t.pages) where
  first-back : test a ≡ true → (p : ℕ)
      → page_at (give_slot t a).pages p ≡ cond (p == a) Free (page_at t.pages p)
  first-back is p = ap (λ pages. page_at pages p) (back-pages t a)
      ∙ set-at t.pages a p Free (taken_below t.pages a (all a (omega arith) (omega arith) is))

  later-taken : test a ≡ true → AreTaken test (a + 1) n (give_slot t a).pages
  later-taken is q low high passes = ap is_taken (first-back is q) ∙ by (q == a) (grind (arith, nat_tests, low))
    where
      by : (b : Bool) → b ≡ false → is_taken (cond b Free (page_at t.pages q)) ≡ true
      by true e = cc
      by false e = all q (omega (arith, low)) (omega (arith, high)) passes

  still-taken : AreTaken test (a + 1) n t.pages
  still-taken q low high passes = all q (omega (arith, low)) (omega (arith, high)) passes

pub back-at : (test : ℕ → Bool) (a n : ℕ) (t : Slots) → AreTaken test a n t.pages → (p : ℕ)
    → page_at (fold give_slot t (filter test (range_with_len a n))).pages p
    ≡ cond ((nat_le a p && nat_lt p (a + n)) && test p) Free (page_at t.pages p)
back-at test a zero t all p = out (nat_le a p && nat_lt p (a + 0)) (grind (arith, nat_tests))
  where
    out : (b : Bool) → b ≡ false → page_at t.pages p ≡ cond (b && test p) Free (page_at t.pages p)
    out true e = cc
    out false e = refl
back-at test a (suc n) t all p = by (test a) refl (λ t' all'. back-at test (a + 1) n t' all' p)
  where
    -- e: it is the first, r: it is in the range, r': it is behind the first, b: it passes
    first : (e r r' b : Bool) (x : Page) → (e ≡ true → b ≡ true) → r ≡ (e || r')
        → cond (r' && b) Free (cond e Free x) ≡ cond (r && b) Free x
    first true true true true x i j = refl
    first true true false true x i j = refl
    first true r r' false x i j = absurd (false≢true (i refl))
    first true false r' true x i j = cc
    first false true true b x i j = refl
    first false true false b x i j = cc
    first false false true b x i j = cc
    first false false false b x i j = refl

    other : (e r r' b : Bool) (x : Page) → (e ≡ true → b ≡ false) → r ≡ (e || r')
        → cond (r' && b) Free x ≡ cond (r && b) Free x
    other true true true b x i j = refl
    other true true false true x i j = absurd (false≢true (sym (i refl)))
    other true true false false x i j = refl
    other true false r' b x i j = cc
    other false true true b x i j = refl
    other false true false b x i j = cc
    other false false true b x i j = cc
    other false false false b x i j = refl

    in_range : (nat_le a p && nat_lt p (a + suc n)) ≡ ((p == a) || (nat_le (a + 1) p && nat_lt p ((a + 1) + n)))
    in_range = grind (arith, nat_tests)

    at_first : (c : Bool) → test a ≡ c → (p == a) ≡ true → test p ≡ c
    at_first c is e = let same : p ≡ a = grind (arith, nat_tests, e) in ap test same ∙ is

    by : (c : Bool) → test a ≡ c
        → ((t' : Slots) → AreTaken test (a + 1) n t'.pages
        → page_at (fold give_slot t' (filter test (range_with_len (a + 1) n))).pages p
        ≡ cond ((nat_le (a + 1) p && nat_lt p ((a + 1) + n)) && test p) Free (page_at t'.pages p))
        → page_at (fold give_slot t (cond c (a ∷ filter test (range_with_len (a + 1) n)) (filter test (range_with_len (a + 1) n)))).pages p
        ≡ cond ((nat_le a p && nat_lt p (a + suc n)) && test p) Free (page_at t.pages p)
    by true is rest = rest (give_slot t a) (later-taken test a n t all is)
        ∙ ap (cond ((nat_le (a + 1) p && nat_lt p ((a + 1) + n)) && test p) Free) (first-back test a n t all is p)
        ∙ first (p == a) _ _ (test p) (page_at t.pages p) (at_first true is) in_range
    by false is rest = rest t (still-taken test a n t all)
        ∙ other (p == a) _ _ (test p) (page_at t.pages p) (at_first false is) in_range

pub back-count : (test : ℕ → Bool) (a n : ℕ) (t : Slots) → AreTaken test a n t.pages
    → count_by is_free (fold give_slot t (filter test (range_with_len a n))).pages
    ≡ count_by is_free t.pages + length (filter test (range_with_len a n))
back-count test a zero t all = omega arith
back-count test a (suc n) t all = by (test a) refl (λ t' all'. back-count test (a + 1) n t' all')
  where
    by : (c : Bool) → test a ≡ c
        → ((t' : Slots) → AreTaken test (a + 1) n t'.pages
        → count_by is_free (fold give_slot t' (filter test (range_with_len (a + 1) n))).pages
        ≡ count_by is_free t'.pages + length (filter test (range_with_len (a + 1) n)))
        → count_by is_free (fold give_slot t (cond c (a ∷ filter test (range_with_len (a + 1) n)) (filter test (range_with_len (a + 1) n)))).pages
        ≡ count_by is_free t.pages + length (cond c (a ∷ filter test (range_with_len (a + 1) n)) (filter test (range_with_len (a + 1) n)))
    by true is rest =
        let more = rest (give_slot t a) (later-taken test a n t all is) in
        let one = ap (count_by is_free) (back-pages t a) ∙ one_more t.pages a (all a (omega arith) (omega arith) is) in
        omega (arith, more, one)
    by false is rest = rest t (still-taken test a n t all)
