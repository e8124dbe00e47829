-- The list of free clusters, the flags of the others, and the pages go together.
use Rattle.std.proofs.Common.{◌≡◌, ◌≢◌, ℕ, suc, ◌+◌, ◌-◌, ◌*◌, ◌/◌, ◌^◌, ◌<◌, ◌≤◌, Bool, true, false, cond, ◌⊎◌, List, [], ◌∷◌, ◌++◌, length, get_or, set, drop, Option, Some, None, count_by, refl, sym, ap, subst, ◌∙◌, arith, inl, inr, ◌==◌, length-append, length-set, get_or-set_same, get_or-set_other}
use Rattle.std.specs.Prelude.{option_map}
use Rattle.std.proofs.lemmas.Bool.{cases_lt, cases_eq, cases_Bool, false≢true}
use Rattle.std.proofs.lemmas.Bool.Decides.{nat_tests}
use Rattle.std.proofs.lemmas.List.{get_or_past}
use Rattle.std.proofs.lemmas.List.Sums.{sum_by-set, sum_by-cons, sum_by_push, count_by-le-length}
use Rattle.av_clusters.specs.declared.clusters.Page.{Page}
use Rattle.av_clusters.specs.declared.clusters.Page.TheVariants.{Unusable, Free, Taken}
use Rattle.av_clusters.specs.Clusters.{IsWhole, Fills, itself, is_free, is_taken, page_at, lowest, has_taken, start_of, end_of, unless, AreFull, Takes, Returns, Slots, after_fill, give_slot, in_current, in_next, with_free_cluster}
use Rattle.av_clusters.proofs.Pages.{found, none_free, none_taken, free_below, taken_below, taken_not_free, was_free}
use Rattle.av_clusters.proofs.Marks.{full_taken, full_given}
use Rattle.av_clusters.proofs.Counts.{counted_taken, counted_given, few_counted}

-- ---- the number of free pages

sum_fewer : (m n k : ℕ) → k ≡ 1 → m + k ≡ n + 0 → m + 1 ≡ n
sum_fewer m n k a b = omega (arith, a, b)

sum_more : (m n k : ℕ) → k ≡ 0 → m + k ≡ n + 1 → m ≡ n + 1
sum_more m n k a b = omega (arith, a, b)

pub one_fewer : (pages : List Page) (p : ℕ) → is_free (page_at pages p) ≡ true → count_by is_free (set pages p Taken) + 1 ≡ count_by is_free pages
one_fewer pages p free =
    sum_fewer _ _ _ (ap (λ b. cond b 1 0) free) (sum_by-set (λ x. cond (is_free x) 1 0) pages p Taken Unusable (free_below pages p free))

pub one_more : (pages : List Page) (p : ℕ) → is_taken (page_at pages p) ≡ true → count_by is_free (set pages p Free) ≡ count_by is_free pages + 1
one_more pages p taken = sum_more _ _ _ (ap (λ b. cond b 1 0) (taken_not_free (page_at pages p) taken))
    (sum_by-set (λ x. cond (is_free x) 1 0) pages p Free Unusable (taken_below pages p taken))

pub takes : (pages : List Page) (p : ℕ) → is_free (page_at pages p) ≡ true → Takes pages p (set pages p Taken)
takes pages p free = let was = was_free pages p free in (was.0, was.1, refl, one_fewer pages p free)

pub returns_one : (pages : List Page) (p : ℕ) → is_taken (page_at pages p) ≡ true → Returns pages p (set pages p Free)
returns_one pages p taken = (refl, one_more pages p taken)

-- what the current cluster gives
pub current_gives : (t : Slots) (c : ℕ) (r : Option ℕ) → t.current ≡ Some c → lowest t.pages t.cursor (end_of c) ≡ r
    → in_current t t.current ≡ option_map (λ p. (p, after_fill t c p)) r
current_gives t c r filled is = ap (in_current t) filled ∙ ap (option_map (λ p. (p, after_fill t c p))) is

-- which stays the current one
pub stays_current : (t : Slots) (c p : ℕ) → t.current ≡ Some c → after_fill t c p ≡ record t { pages = set t.pages p Taken; cursor = p + 1 }
stays_current t c p filled = ap (λ (o : Option ℕ). record t { pages = set t.pages p Taken; current = o; cursor = p + 1 }) (sym filled)

-- and what the first free one
pub next_gives : (t : Slots) (c : ℕ) (rest : List ℕ) (r : Option ℕ) → t.free ≡ c ∷ rest → lowest t.pages (start_of c) (end_of c) ≡ r
    → in_next t t.free ≡ option_map (λ p. (p, after_fill (record t { free = rest }) c p)) r
next_gives t c rest r first is = ap (in_next t) first ∙ ap (option_map (λ p. (p, after_fill (record t { free = rest }) c p))) is

-- a slot comes back to a cluster that has another taken one, or none
pub still_used : (t : Slots) (p : ℕ) → has_taken (set t.pages p Free) (p / 256) ≡ true → record t { pages = set t.pages p Free } ≡ give_slot t p
still_used t p some =
    let t' : Slots = record t { pages = set t.pages p Free } in
    ap (λ b. cond b t' (with_free_cluster t' (p / 256))) (sym some)

pub emptied : (t : Slots) (p : ℕ) → has_taken (set t.pages p Free) (p / 256) ≡ false
    → with_free_cluster (record t { pages = set t.pages p Free }) (p / 256) ≡ give_slot t p
emptied t p none =
    let t' : Slots = record t { pages = set t.pages p Free } in
    ap (λ b. cond b t' (with_free_cluster t' (p / 256))) (sym none)

-- ---- the flags

pub flag_below : (flags : List Bool) (c : ℕ) → get_or flags c true ≡ false → c < length flags
flag_below flags c h = by (cases_lt c (length flags))
  where
    by : (c < length flags) ⊎ (length flags ≤ c) → c < length flags
    by (inl b) = b
    by (inr b) = absurd (false≢true (sym h ∙ get_or_past flags c true b))

set_true : (flags : List Bool) (c : ℕ) → get_or (set flags c true) c true ≡ true
set_true flags c = by (cases_lt c (length flags))
  where
    by : (c < length flags) ⊎ (length flags ≤ c) → get_or (set flags c true) c true ≡ true
    by (inl b) = get_or-set_same flags c true true b
    by (inr b) = get_or_past (set flags c true) c true (subst (λ n. n ≤ c) (sym (length-set flags c true)) b)

grow_set : (flags : List Bool) (c d : ℕ) → get_or flags d true ≡ true → get_or (set flags c true) d true ≡ true
grow_set flags c d h = by (cases_eq d c)
  where
    by : (d ≡ c) ⊎ (d ≡ c → ⊥) → get_or (set flags c true) d true ≡ true
    by (inl e) = ap (λ n. get_or (set flags c true) n true) e ∙ set_true flags c
    by (inr n) = get_or-set_other flags c d true true n ∙ h

-- ---- the list and the flags

same_is : (c : ℕ) → (c == c) ≡ true
same_is c = grind (arith, nat_tests)

none_plus : (n : ℕ) → 0 + n ≡ n
none_plus n = omega arith

plus_none : (n : ℕ) → n + 0 ≡ n
plus_none n = omega arith

one_of : (b : Bool) (n : ℕ) → 1 + n ≡ cond b 0 1 → (b ≡ false) × (n ≡ 0)
one_of true n h = absurd (omega (arith, h))
one_of false n h = (refl, omega (arith, h))

front : (c : ℕ) (rest : List ℕ) (b : Bool) → count_by (λ d. c == d) (c ∷ rest) ≡ cond b 0 1 → (b ≡ false) × (count_by (λ d. c == d) rest ≡ 0)
front c rest b h = one_of b _
    (sym (ap (λ t. cond t 1 0 + count_by (λ d. c == d) rest) (same_is c)) ∙ sym (sum_by-cons (λ d. cond (c == d) 1 0) c rest) ∙ h)

once_taken : (c : ℕ) (rest : List ℕ) (flags : List Bool) → ((d : ℕ) → count_by (λ e. d == e) (c ∷ rest) ≡ cond (get_or flags d true) 0 1) → (d : ℕ) →
    count_by (λ e. d == e) rest ≡ cond (get_or (set flags c true) d true) 0 1
once_taken c rest flags once d = by (cases_eq d c)
  where
    by : (d ≡ c) ⊎ (d ≡ c → ⊥) → count_by (λ e. d == e) rest ≡ cond (get_or (set flags c true) d true) 0 1
    by (inl e) = subst (λ x. count_by (λ y. x == y) rest ≡ cond (get_or (set flags c true) x true) 0 1) (sym e)
        ((front c rest (get_or flags c true) (once c)).1 ∙ sym (ap (λ b. cond b 0 1) (set_true flags c)))
    by (inr n) = let no_match : (d == c) ≡ false = grind (arith, nat_tests) in
        sym (sum_by-cons (λ e. cond (d == e) 1 0) c rest ∙ ap (λ b. cond b 1 0 + count_by (λ e. d == e) rest) no_match ∙ none_plus _) ∙ once d
        ∙ sym (ap (λ b. cond b 0 1) (get_or-set_other flags c d true true n))

once_given : (c : ℕ) (frees : List ℕ) (flags : List Bool) → c < length flags → get_or flags c true ≡ true →
    ((d : ℕ) → count_by (λ e. d == e) frees ≡ cond (get_or flags d true) 0 1)
    → (d : ℕ) → count_by (λ e. d == e) (frees ++ c ∷ []) ≡ cond (get_or (set flags c false) d true) 0 1
once_given c frees flags below busy once d = by (cases_eq d c)
  where
    by : (d ≡ c) ⊎ (d ≡ c → ⊥) → count_by (λ e. d == e) (frees ++ c ∷ []) ≡ cond (get_or (set flags c false) d true) 0 1
    by (inl e) = subst (λ x. count_by (λ y. x == y) (frees ++ c ∷ []) ≡ cond (get_or (set flags c false) x true) 0 1) (sym e)
        (sum_by_push (λ y. cond (c == y) 1 0) frees c ∙ ap (λ b. count_by (λ y. c == y) frees + cond b 1 0) (same_is c)
        ∙ ap (λ m. m + 1) (once c ∙ ap (λ b. cond b 0 1) busy)
        ∙ sym (ap (λ b. cond b 0 1) (get_or-set_same flags c false true below)))
    by (inr n) = let no_match : (d == c) ≡ false = grind (arith, nat_tests) in
        sum_by_push (λ e. cond (d == e) 1 0) frees c ∙ ap (λ b. count_by (λ e. d == e) frees + cond b 1 0) no_match ∙ plus_none _ ∙ once d
        ∙ sym (ap (λ b. cond b 0 1) (get_or-set_other flags c d false true n))

total_taken : (c : ℕ) (rest : List ℕ) (flags : List Bool) → get_or flags c true ≡ false → suc (length rest) + count_by itself flags ≡ length flags →
    length rest + count_by itself (set flags c true) ≡ length (set flags c true)
total_taken c rest flags h t =
    sum (length rest) _ _ _ _ (ap (λ b. cond b 1 0) h) (sum_by-set (λ b. cond b 1 0) flags c true true (flag_below flags c h)) t
    ∙ sym (length-set flags c true)
  where
    sum : (r m n k l : ℕ) → k ≡ 0 → m + k ≡ n + 1 → suc r + n ≡ l → r + m ≡ l
    sum r m n k l a b e = omega (arith, a, b, e)

total_given : (c : ℕ) (frees : List ℕ) (flags : List Bool) → c < length flags → get_or flags c true ≡ true
    → length frees + count_by itself flags ≡ length flags
    → length (frees ++ c ∷ []) + count_by itself (set flags c false) ≡ length (set flags c false)
total_given c frees flags below h t = sum (length frees) _ _ _ _ _ (length-append frees (c ∷ [])) (ap (λ b. cond b 1 0) h)
    (sum_by-set (λ b. cond b 1 0) flags c false true below) t ∙ sym (length-set flags c false)
  where
    sum : (r r' m n k l : ℕ) → r' ≡ r + 1 → k ≡ 1 → m + k ≡ n + 0 → r + n ≡ l → r' + m ≡ l
    sum r r' m n k l x a b e = omega (arith, x, a, b, e)

-- ---- the pages and the flags

abbrev Held : List Page → List Bool → Type 0
Held pages flags = (q : ℕ) → is_taken (page_at pages q) ≡ true → get_or flags (q / 256) true ≡ true

abbrev Fit : List Page → List Bool → Type 0
Fit pages flags = (d : ℕ) → get_or flags d true ≡ false → (q : ℕ) × (q / 256 ≡ d) × (is_free (page_at pages q) ≡ true)

abbrev Grows : List Bool → List Bool → Type 0
Grows flags flags' = (d : ℕ) → get_or flags d true ≡ true → get_or flags' d true ≡ true

held_taken : (pages : List Page) (flags flags' : List Bool) (p : ℕ) → Held pages flags → Grows flags flags' → get_or flags' (p / 256) true ≡ true →
    Held (set pages p Taken) flags'
held_taken pages flags flags' p held grow here q t = by (cases_eq q p)
  where
    by : (q ≡ p) ⊎ (q ≡ p → ⊥) → get_or flags' (q / 256) true ≡ true
    by (inl e) = ap (λ n. get_or flags' (n / 256) true) e ∙ here
    by (inr n) = grow (q / 256) (held q (sym (ap is_taken (get_or-set_other pages p q Taken Unusable n)) ∙ t))

fit_taken : (pages : List Page) (flags flags' : List Bool) (p : ℕ) → Fit pages flags → Grows flags flags' → get_or flags' (p / 256) true ≡ true →
    Fit (set pages p Taken) flags'
fit_taken pages flags flags' p fit grow here d low = by (cases_Bool (get_or flags d true))
  where
    by : (get_or flags d true ≡ true) ⊎ (get_or flags d true ≡ false) → (q : ℕ) × (q / 256 ≡ d) × (is_free (page_at (set pages p Taken) q) ≡ true)
    by (inl b) = absurd (false≢true (sym low ∙ grow d b))
    by (inr b) =
        let f = fit d b in
        let apart : f.0 ≢ p = λ e. false≢true (sym low ∙ ap (λ n. get_or flags' n true) (sym f.1 ∙ ap (λ n. n / 256) e) ∙ here) in
        (f.0, f.1, ap is_free (get_or-set_other pages p f.0 Taken Unusable apart) ∙ f.2)

held_given : (pages : List Page) (flags flags' : List Bool) (p : ℕ) → p < length pages → Held pages flags
    → ((q : ℕ) → is_taken (page_at (set pages p Free) q) ≡ true → get_or flags (q / 256) true ≡ true → get_or flags' (q / 256) true ≡ true) →
    Held (set pages p Free) flags'
held_given pages flags flags' p below held kept q t = by (cases_eq q p)
  where
    by : (q ≡ p) ⊎ (q ≡ p → ⊥) → get_or flags' (q / 256) true ≡ true
    by (inl e) = absurd (false≢true
        (sym (ap (λ n. is_taken (page_at (set pages p Free) n)) e ∙ ap is_taken (get_or-set_same pages p Free Unusable below)) ∙ t))
    by (inr n) = kept q t (held q (sym (ap is_taken (get_or-set_other pages p q Free Unusable n)) ∙ t))

fit_given : (pages : List Page) (flags flags' : List Bool) (p : ℕ) → p < length pages → Fit pages flags →
    ((d : ℕ) → get_or flags' d true ≡ false → (get_or flags d true ≡ false) ⊎ (p / 256 ≡ d)) → Fit (set pages p Free) flags'
fit_given pages flags flags' p below fit same d low = by (same d low)
  where
    here : is_free (page_at (set pages p Free) p) ≡ true
    here = ap is_free (get_or-set_same pages p Free Unusable below)

    there : (q : ℕ) → is_free (page_at pages q) ≡ true → (q ≡ p) ⊎ (q ≡ p → ⊥) → is_free (page_at (set pages p Free) q) ≡ true
    there q f (inl e) = ap (λ n. is_free (page_at (set pages p Free) n)) e ∙ here
    there q f (inr n) = ap is_free (get_or-set_other pages p q Free Unusable n) ∙ f

    by : (get_or flags d true ≡ false) ⊎ (p / 256 ≡ d) → (q : ℕ) × (q / 256 ≡ d) × (is_free (page_at (set pages p Free) q) ≡ true)
    by (inl b) = let f = fit d b in (f.0, f.1, there f.0 f.2 (cases_eq f.0 p))
    by (inr e) = (p, e, here)

-- ---- each call keeps the parts together

module _ (pages : List Page) (left : ℕ) (counts frees : List ℕ) (n room : ℕ) (flags marks groups : List Bool) (filled : Option ℕ) (mark : ℕ) where
  whole_taken : (p count : ℕ) (frees' : List ℕ) (n' room' : ℕ) (flags' marks' groups' : List Bool) (filled' : Option ℕ) (mark' : ℕ) →
      IsWhole pages left counts frees n room flags marks groups filled mark → is_free (page_at pages p) ≡ true
      → count ≡ get_or counts (p / 256) count → Grows flags flags' → get_or flags' (p / 256) true ≡ true
      → length flags' ≡ length flags → n' ≡ length frees' → room' ≡ room
      → length frees' + count_by itself flags' ≡ length flags' → ((d : ℕ) → count_by (λ e. d == e) frees' ≡ cond (get_or flags' d true) 0 1)
      → Fills flags' (length pages) mark' filled' → AreFull 256 pages marks' → AreFull 16384 pages groups' →
      IsWhole (set pages p Taken) (left - 1) (set counts (p / 256) (count + 1)) frees' n' room' flags' marks' groups' filled' mark'
  whole_taken p count frees' n' room' flags' marks' groups' filled' mark' w free read grow here long len same total once fills full full_groups =
      let same_len = length-set pages p Taken in
      let below = free_below pages p free in
      record {
        few = subst (λ m. m < 2 ^ 32) (sym same_len) w.few;
        left = let fewer = one_fewer pages p free in let l = w.left in minus _ _ _ l fewer;
        counted = counted_taken pages counts p count w.counted read free;
        busy = long ∙ w.busy ∙ ap (λ m. m / 256 + 1) (sym same_len);
        len = len;
        room = subst (λ r. length flags' ≤ r) (sym same) (subst (λ m. m ≤ room) (sym long) w.room);
        total = total;
        once = once;
        held = held_taken pages flags flags' p w.held grow here;
        fit = fit_taken pages flags flags' p w.fit grow here;
        full = full_taken 256 pages marks' p below full;
        full_groups = full_taken 16384 pages groups' p below full_groups;
        fills = subst (λ m. Fills flags' m mark' filled') (sym same_len) fills;
      }
    where
      minus : (l m k : ℕ) → l ≡ k → m + 1 ≡ k → l - 1 ≡ m
      minus l m k a b = omega (arith, a, b)

  whole_given : (p count : ℕ) (frees' : List ℕ) (n' room' : ℕ) (flags' : List Bool) (filled' : Option ℕ)
      → IsWhole pages left counts frees n room flags marks groups filled mark →
      is_taken (page_at pages p) ≡ true → count ≡ get_or counts (p / 256) count
      → ((q : ℕ) → is_taken (page_at (set pages p Free) q) ≡ true → get_or flags (q / 256) true ≡ true → get_or flags' (q / 256) true ≡ true)
      → ((d : ℕ) → get_or flags' d true ≡ false → (get_or flags d true ≡ false) ⊎ (p / 256 ≡ d)) → length flags' ≡ length flags →
      n' ≡ length frees' → room' ≡ room
      → length frees' + count_by itself flags' ≡ length flags' → ((d : ℕ) → count_by (λ e. d == e) frees' ≡ cond (get_or flags' d true) 0 1)
      → Fills flags' (length pages) mark filled'
      → IsWhole (set pages p Free) (left + 1) (set counts (p / 256) (count - 1)) frees' n' room' flags' (set marks (p / 256) false)
      (set groups (p / 16384) false) filled' mark
  whole_given p count frees' n' room' flags' filled' w taken read kept opened long len same total once fills =
      let same_len = length-set pages p Free in
      let below = taken_below pages p taken in
      record {
        few = subst (λ m. m < 2 ^ 32) (sym same_len) w.few;
        left = ap (λ m. m + 1) w.left ∙ sym (one_more pages p taken);
        counted = counted_given pages counts p count w.counted read taken;
        busy = long ∙ w.busy ∙ ap (λ m. m / 256 + 1) (sym same_len);
        len = len;
        room = subst (λ r. length flags' ≤ r) (sym same) (subst (λ m. m ≤ room) (sym long) w.room);
        total = total;
        once = once;
        held = held_given pages flags flags' p below w.held kept;
        fit = fit_given pages flags flags' p below w.fit opened;
        full = full_given 256 pages marks p (omega arith) below w.full;
        full_groups = full_given 16384 pages groups p (omega arith) below w.full_groups;
        fills = subst (λ m. Fills flags' m mark filled') (sym same_len) fills;
      }

  pub few_in_current : (c count : ℕ) → IsWhole pages left counts frees n room flags marks groups filled mark → filled ≡ Some c
      → count ≡ get_or counts c count → count + 1 < 2 ^ 16
  few_in_current c count w is read =
      let at = subst (Fills flags (length pages) mark) is w.fills in
      few_counted pages counts w.counted c count (omega (arith, at.1, at.3)) read

  pub some_left : (p : ℕ) → IsWhole pages left counts frees n room flags marks groups filled mark → is_free (page_at pages p) ≡ true → 1 ≤ left
  some_left p w free = let fewer = one_fewer pages p free in let l = w.left in sum _ _ _ l fewer
    where
      sum : (l m k : ℕ) → l ≡ k → m + 1 ≡ k → 1 ≤ l
      sum l m k a b = omega (arith, a, b)

  pub room_for_one : (p : ℕ) → IsWhole pages left counts frees n room flags marks groups filled mark → is_taken (page_at pages p) ≡ true → left + 1 < 2 ^ 32
  room_for_one p w taken =
      let more = one_more pages p taken in
      let most = count_by-le-length is_free (set pages p Free) in
      sum _ _ _ _ w.left more most (length-set pages p Free) w.few
    where
      sum : (m k c d : ℕ) → left ≡ k → m ≡ k + 1 → m ≤ c → c ≡ d → d < 2 ^ 32 → left + 1 < 2 ^ 32
      sum m k c d a b e f g = omega (arith, a, b, e, f, g)

  -- where a page is taken
  pub whole_in_current : (c p count : ℕ) → IsWhole pages left counts frees n room flags marks groups filled mark
      → filled ≡ Some c → lowest pages mark (end_of c) ≡ Some p → count ≡ get_or counts c count
      → IsWhole (set pages p Taken) (left - 1) (set counts c (count + 1)) frees n room flags marks groups filled (p + 1)
  whole_in_current c p count w is low read =
      let f = found pages mark (end_of c) p low in
      let below = free_below pages p f.2 in
      let at = subst (Fills flags (length pages) mark) is w.fills in
      let inside : p / 256 ≡ c = cluster_is _ at.1 f.0 f.1 in
      let start : start_of c ≤ p + 1 = above _ at.1 f.0 in
      let end : p + 1 ≤ end_of c = next _ _ f.1 in
      let last : p + 1 ≤ length pages = next _ _ below in
      subst (λ d. IsWhole (set pages p Taken) (left - 1) (set counts d (count + 1)) frees n room flags marks groups filled (p + 1)) inside
      (whole_taken p count frees n room flags marks groups filled (p + 1) w f.2 (read ∙ ap (λ d. get_or counts d count) (sym inside)) (λ d h. h)
      (ap (λ m. get_or flags m true) inside ∙ at.0) refl w.len refl w.total w.once
      (subst (Fills flags (length pages) (p + 1)) (sym is) (at.0, start, end, last)) w.full w.full_groups)
    where
      cluster_is : (m : ℕ) → 256 * c ≤ m → m ≤ p → p < 256 * c + 256 → p / 256 ≡ c
      cluster_is m a b e = omega (arith, a, b, e)

      above : (m : ℕ) → 256 * c ≤ m → m ≤ p → 256 * c ≤ p + 1
      above m a b = omega (arith, a, b)

      next : (q m : ℕ) → q < m → q + 1 ≤ m
      next q m a = omega (arith, a)

  pub whole_anywhere : (p count : ℕ) (marks' groups' : List Bool) → IsWhole pages left counts frees n room flags marks groups filled mark → frees ≡ []
      → is_free (page_at pages p) ≡ true →
      count ≡ get_or counts (p / 256) count → AreFull 256 pages marks' → AreFull 16384 pages groups'
      → IsWhole (set pages p Taken) (left - 1) (set counts (p / 256) (count + 1)) frees n room flags marks' groups' filled mark
  whole_anywhere p count marks' groups' w none free read full full_groups =
      whole_taken p count frees n room flags marks' groups' filled mark w free read (λ d h. h)
      (by (cases_Bool (get_or flags (p / 256) true))) refl w.len refl w.total w.once w.fills full full_groups
    where
      by : (get_or flags (p / 256) true ≡ true) ⊎ (get_or flags (p / 256) true ≡ false) → get_or flags (p / 256) true ≡ true
      by (inl b) = b
      by (inr b) =
          let e : ◌≡◌ {A = ℕ} 0 1 = sym (ap (count_by (λ d. p / 256 == d)) none) ∙ w.once (p / 256) ∙ ap (λ t. cond t 0 1) b in
          absurd (omega (arith, e))

  pub is_open : (c : ℕ) (rest : List ℕ) → IsWhole pages left counts frees n room flags marks groups filled mark
      → frees ≡ c ∷ rest → get_or flags c true ≡ false
  is_open c rest w is = (front c rest (get_or flags c true) (sym (ap (count_by (λ d. c == d)) is) ∙ w.once c)).0

  pub in_range : (c : ℕ) (rest : List ℕ) → IsWhole pages left counts frees n room flags marks groups filled mark
      → frees ≡ c ∷ rest → start_of c ≤ length pages
  in_range c rest w is = let f = w.fit c (is_open c rest w is) in small f.0 f.1 (free_below pages f.0 f.2)
    where
      small : (q : ℕ) → q / 256 ≡ c → q < length pages → 256 * c ≤ length pages
      small q a b = omega (arith, a, b)

  pub has_one : (c : ℕ) (rest : List ℕ) → IsWhole pages left counts frees n room flags marks groups filled mark → frees ≡ c ∷ rest →
      lowest pages (start_of c) (end_of c) ≡ None → ⊥
  has_one c rest w is none = let f = w.fit c (is_open c rest w is) in
      false≢true (sym (none_free pages (start_of c) (end_of c) f.0 none (low f.0 f.1) (high f.0 f.1)) ∙ f.2)
    where
      low : (q : ℕ) → q / 256 ≡ c → 256 * c ≤ q
      low q a = omega (arith, a)

      high : (q : ℕ) → q / 256 ≡ c → q < 256 * c + 256
      high q a = omega (arith, a)

  pub whole_in_next : (c p count : ℕ) (rest : List ℕ) (n' room' : ℕ) → IsWhole pages left counts frees n room flags marks groups filled mark
      → frees ≡ c ∷ rest → lowest pages (start_of c) (end_of c) ≡ Some p → count ≡ get_or counts c count → n' ≡ length rest → room' ≡ room
      → IsWhole (set pages p Taken) (left - 1) (set counts c (count + 1)) rest n' room' (set flags c true) marks groups (Some c) (p + 1)
  whole_in_next c p count rest n' room' w is low read len same =
      let f = found pages (start_of c) (end_of c) p low in
      let below = free_below pages p f.2 in
      let inside : p / 256 ≡ c = cluster_is f.0 f.1 in
      let start : start_of c ≤ p + 1 = above f.0 in
      let end : p + 1 ≤ end_of c = next _ _ f.1 in
      let last : p + 1 ≤ length pages = next _ _ below in
      subst (λ d. IsWhole (set pages p Taken) (left - 1) (set counts d (count + 1)) rest n' room' (set flags c true) marks groups (Some c) (p + 1)) inside
      (whole_taken p count rest n' room' (set flags c true) marks groups (Some c) (p + 1) w f.2
      (read ∙ ap (λ d. get_or counts d count) (sym inside)) (grow_set flags c)
      (ap (λ m. get_or (set flags c true) m true) inside ∙ set_true flags c) (length-set flags c true) len same
      (total_taken c rest flags (is_open c rest w is) (sym (ap (λ fs. length fs + count_by itself flags) is) ∙ w.total))
      (once_taken c rest flags (λ d. sym (ap (count_by (λ e. d == e)) is) ∙ w.once d))
      (set_true flags c, start, end, last) w.full w.full_groups)
    where
      cluster_is : 256 * c ≤ p → p < 256 * c + 256 → p / 256 ≡ c
      cluster_is a b = omega (arith, a, b)

      above : 256 * c ≤ p → 256 * c ≤ p + 1
      above a = omega (arith, a)

      next : (q m : ℕ) → q < m → q + 1 ≤ m
      next q m a = omega (arith, a)

  -- where one is given back
  pub whole_back : (p count : ℕ) → IsWhole pages left counts frees n room flags marks groups filled mark → is_taken (page_at pages p) ≡ true →
      count ≡ get_or counts (p / 256) count →
      IsWhole (set pages p Free) (left + 1) (set counts (p / 256) (count - 1)) frees n room flags (set marks (p / 256) false)
      (set groups (p / 16384) false) filled mark
  whole_back p count w taken read =
      whole_given p count frees n room flags filled w taken read (λ q t h. h) (λ d h. inl h) refl w.len refl w.total w.once w.fills

  pub cluster_below : (p : ℕ) → IsWhole pages left counts frees n room flags marks groups filled mark
      → is_taken (page_at pages p) ≡ true → p / 256 < length flags
  cluster_below p w taken = sum _ w.busy (taken_below pages p taken)
    where
      sum : (l : ℕ) → l ≡ length pages / 256 + 1 → p < length pages → p / 256 < l
      sum l a b = omega (arith, a, b)

  pub has_room : (p : ℕ) → IsWhole pages left counts frees n room flags marks groups filled mark → is_taken (page_at pages p) ≡ true → n < room
  has_room p w taken = sum _ _ _ (sum_by-set (λ b. cond b 1 0) flags (p / 256) false true (cluster_below p w taken))
      (ap (λ b. cond b 1 0) (w.held p taken)) w.total w.len w.room
    where
      sum : (m k c : ℕ) → m + c ≡ k + 0 → c ≡ 1 → length frees + k ≡ length flags → n ≡ length frees → length flags ≤ room → n < room
      sum m k c a b d e f = omega (arith, a, b, d, e, f)

  pub whole_emptied : (p count n' room' : ℕ) (filled' : Option ℕ) → IsWhole pages left counts frees n room flags marks groups filled mark
      → is_taken (page_at pages p) ≡ true →
      count ≡ get_or counts (p / 256) count → has_taken (set pages p Free) (p / 256) ≡ false
      → n' ≡ n + 1 → room' ≡ room → Fills (set flags (p / 256) false) (length pages) mark filled' →
      IsWhole (set pages p Free) (left + 1) (set counts (p / 256) (count - 1)) (frees ++ (p / 256) ∷ []) n' room'
      (set flags (p / 256) false) (set marks (p / 256) false)
      (set groups (p / 16384) false) filled' mark
  whole_emptied p count n' room' filled' w taken read none len same fills =
      let below = cluster_below p w taken in
      let busy = w.held p taken in
      whole_given p count (frees ++ (p / 256) ∷ []) n' room' (set flags (p / 256) false) filled' w taken read kept opened (length-set flags (p / 256) false)
      (len ∙ ap (λ m. m + 1) w.len ∙ sym (length-append frees ((p / 256) ∷ []))) same
      (total_given (p / 256) frees flags below busy w.total) (once_given (p / 256) frees flags below busy w.once) fills
    where
      kept : (q : ℕ) → is_taken (page_at (set pages p Free) q) ≡ true → get_or flags (q / 256) true ≡ true →
          get_or (set flags (p / 256) false) (q / 256) true ≡ true
      kept q t h = get_or-set_other flags (p / 256) (q / 256) false true
          (λ e. false≢true (sym (none_taken (set pages p Free) (p / 256) q none e) ∙ t)) ∙ h

      opened : (d : ℕ) → get_or (set flags (p / 256) false) d true ≡ false → (get_or flags d true ≡ false) ⊎ (p / 256 ≡ d)
      opened d low = by (cases_eq d (p / 256))
        where
          by : (d ≡ p / 256) ⊎ (d ≡ p / 256 → ⊥) → (get_or flags d true ≡ false) ⊎ (p / 256 ≡ d)
          by (inl e) = inr (sym e)
          by (inr m) = inl (sym (get_or-set_other flags (p / 256) d false true m) ∙ low)

-- another cluster is still being filled
pub fills_unless : (flags : List Bool) (count mark c : ℕ) (filled : Option ℕ) → Fills flags count mark filled →
    Fills (set flags c false) count mark (unless c filled)
fills_unless flags count mark c None h = tt
fills_unless flags count mark c (Some d) h = by (c == d) refl
  where
    by : (b : Bool) → (c == d) ≡ b → Fills (set flags c false) count mark (cond b None (Some d))
    by true e = tt
    by false e = let apart : d ≢ c = grind (arith, nat_tests) in (get_or-set_other flags c d false true apart ∙ h.0, h.1, h.2, h.3)

first_is : (frees : List ℕ) (c : ℕ) → 0 < length frees → c ≡ get_or frees 0 c → frees ≡ c ∷ drop 1 frees
first_is [] c h is = absurd (omega (arith, h))
first_is (d ∷ frees) c h is = ap (λ x. x ∷ frees) (sym is)

-- the first free one, after a call that changes no value
pub first_in_new : (frees : List ℕ) (c : ℕ) → 0 < length frees → c ≡ get_or frees 0 c → (old new : Slots) → new ≡ old → old.free ≡ frees
    → new.free ≡ c ∷ drop 1 new.free
first_in_new frees c some is old new same named =
    let free : new.free ≡ frees = ap (λ (v : Slots). v.free) same ∙ named in
    free ∙ first_is frees c some is ∙ ap (λ (fs : List ℕ). c ∷ drop 1 fs) (sym free)

pub one_shorter : (frees : List ℕ) (c n n' : ℕ) → frees ≡ c ∷ drop 1 frees → n ≡ length frees → n' + 1 ≡ n → n' ≡ length (drop 1 frees)
one_shorter frees c n n' is e f = sum _ (e ∙ ap length is) f
  where
    sum : (m : ℕ) → n ≡ suc m → n' + 1 ≡ n → n' ≡ m
    sum m a b = omega (arith, a, b)

pub one_popped : (frees new out : List ℕ) (c n n' : ℕ) → frees ≡ c ∷ drop 1 frees → frees ≡ out ++ new → new ≡ drop 1 frees
    → n' + length out ≡ n → n' + 1 ≡ n
one_popped frees new out c n n' is e f g = sum _ _ _ _ (ap length is) (ap length e ∙ length-append out new) (ap length f) g
  where
    sum : (m k l o : ℕ) → m ≡ suc k → m ≡ o + l → l ≡ k → n' + o ≡ n → n' + 1 ≡ n
    sum m k l o a b d h = omega (arith, a, b, d, h)
