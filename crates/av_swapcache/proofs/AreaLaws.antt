-- The parts of an area after one page has changed.
use Rattle.std.proofs.Common.{◌≡◌, ℕ, suc, [], ◌∷◌, count_by, ◌+◌, ◌<◌, ◌≤◌, Bool, true, false, cond, not, ◌&&◌, ◌==◌, List, length, get_or, set, Option, Some, None, is_some, refl, sym, ap, subst, ◌∙◌, arith, ltb, length-set, get_or-set_same, get_or-set_other}
use Rattle.std.proofs.lemmas.Bool.{false≢true}
use Rattle.std.proofs.lemmas.Bool.Decides.{nat_tests}
use Rattle.std.proofs.lemmas.List.Sums.{sum_by-cons}
use Rattle.av_swapdev.specs.declared.header.Header.{Header}
use Rattle.std.specs.Prelude.{IsSomeAnd, MatchResult, Result, Ok, Err}
use Rattle.av_base.specs.Words.{with_at}
use Rattle.av_clusters.specs.declared.clusters.Page.{Page}
use Rattle.av_clusters.specs.declared.clusters.Page.TheVariants.{Unusable, Free, Taken}
use Rattle.av_clusters.specs.Clusters.{Slots, is_free, is_taken, page_at, take_slot}
use Rattle.av_swapmap.specs.Counts.{Store as Counts, Shown as ShownCounts, shown as shown_counts, with_cached, with_count}
use Rattle.av_swapcache.specs.Area.{AreaStore, IsArea, IsKept, after_count, area_shown, count_in, counted, frame_at, given_back, is_slot, uses_in, with_entries, with_frame}

-- a list with one item replaced, as a function
pub at-set : {X : Type 0} (xs : List X) (p : ℕ) (x d : X) → p < length xs → (λ q. get_or (set xs p x) q d) ≡ with_at p x (λ q. get_or xs q d)
at-set xs p x d below = λ k q. point q (q == p) refl k
  where
    point : (q : ℕ) (b : Bool) → (q == p) ≡ b → get_or (set xs p x) q d ≡ cond (q == p) x (get_or xs q d)
    point q true e = let is : q ≡ p = grind (arith, nat_tests) in
        ap (λ r. get_or (set xs p x) r d) is ∙ get_or-set_same xs p x d below ∙ sym (ap (λ b. cond b x (get_or xs q d)) e)
    point q false e = let ne : q ≡ p → ⊥ = grind (arith, nat_tests) in
        get_or-set_other xs p q x d ne ∙ sym (ap (λ b. cond b x (get_or xs q d)) e)

-- a function with its own value put at one number
pub with_own : {X : Type 0} (f : ℕ → X) (p q : ℕ) → f q ≡ with_at p (f p) f q
with_own f p q = by (q == p) refl
  where
    by : (b : Bool) → (q == p) ≡ b → f q ≡ cond (q == p) (f p) (f q)
    by true e = let is : q ≡ p = grind (arith, nat_tests) in ap f is ∙ sym (ap (λ b. cond b (f p) (f q)) e)
    by false e = sym (ap (λ b. cond b (f p) (f q)) e)

-- and its own value there
pub own : {X : Type 0} (p : ℕ) (f : ℕ → X) (x : X) → with_at p x f p ≡ x
own p f x = let is : (p == p) ≡ true = grind (arith, nat_tests) in ap (λ b. cond b x (f p)) is

-- as many items pass one test as pass another that says the same of each
pub count_alike : {X : Type 0} (p q : X → Bool) (d : X) (xs ys : List X) → length xs ≡ length ys → ((i : ℕ) → p (get_or xs i d) ≡ q (get_or ys i d))
    → count_by p xs ≡ count_by q ys
count_alike p q d [] [] e h = refl
count_alike p q d [] (y ∷ ys) e h = absurd (omega (arith, e))
count_alike p q d (x ∷ xs) [] e h = absurd (omega (arith, e))
count_alike p q d (x ∷ xs) (y ∷ ys) e h =
    sum_by-cons (λ z. cond (p z) 1 0) x xs
    ∙ (λ k. cond (h 0 k) 1 0 + count_alike p q d xs ys (omega (arith, e)) (λ i. h (suc i)) k)
    ∙ sym (sum_by-cons (λ z. cond (q z) 1 0) y ys)

-- one page's slot, count, flag and frame have changed
pub record Changes (p n : ℕ) (t : Page) (x : Option ℕ) (old new : ShownCounts) (all all' : List Page)
    (frames frames' : List (Option ℕ)) : Type 0 where
  pub many : new.pages ≡ old.pages
  pub bad : (q : ℕ) → new.bad q ≡ old.bad q
  pub cached : (q : ℕ) → new.cached q ≡ with_at p (is_some x) old.cached q
  pub count : (q : ℕ) → new.count q ≡ with_at p n old.count q
  pub pages : length all' ≡ length all
  pub page : (q : ℕ) → page_at all' q ≡ with_at p t (page_at all) q
  pub places : length frames' ≡ length frames
  pub frame : (q : ℕ) → frame_at frames' q ≡ with_at p x (frame_at frames) q

module _ (header : Header) (p n : ℕ) (t : Page) (x : Option ℕ) (old new : ShownCounts) (all all' : List Page) (frames frames' : List (Option ℕ)) where
  pub whole_changed : IsArea header old all frames → Changes p n t x old new all all' frames frames' → is_slot (page_at all p) ≡ true
      → is_slot t ≡ true →
      is_taken t ≡ ltb 0 (n + cond (is_some x) 1 0)
      → IsArea header new all' frames'
  whole_changed w c was is now = record {
    many = c.many ∙ w.many;
    pages = c.pages ∙ w.pages;
    places = c.places ∙ w.places;
    cached = λ q. c.cached q ∙ flags q (q == p) refl ∙ sym (ap is_some (c.frame q));
    taken = λ q. ap is_taken (c.page q) ∙ takes q (q == p) refl ∙ sym (ap (λ m. ltb 0 m) (sums (c.count q) (c.cached q)));
    number = count_alike is_slot is_slot Unusable all' all c.pages (λ q. ap is_slot (c.page q) ∙ slots q (q == p) refl ∙ sym (w.usable q)) ∙ w.number;
    usable = λ q. ap is_slot (c.page q) ∙ slots q (q == p) refl ∙ sym (ap (λ b. ltb 0 q && ltb q header.pages && not b) (c.bad q));
  }
    where
      sums : {a b : ℕ} {c d : Bool} → a ≡ b → c ≡ d → a + cond c 1 0 ≡ b + cond d 1 0
      sums e f = λ k. e k + cond (f k) 1 0

      flags : (q : ℕ) (b : Bool) → (q == p) ≡ b → cond (q == p) (is_some x) (old.cached q) ≡ is_some (cond (q == p) x (frame_at frames q))
      flags q true e = ap (λ b. cond b (is_some x) (old.cached q)) e ∙ sym (ap (λ b. is_some (cond b x (frame_at frames q))) e)
      flags q false e = ap (λ b. cond b (is_some x) (old.cached q)) e ∙ w.cached q ∙ sym (ap (λ b. is_some (cond b x (frame_at frames q))) e)

      takes : (q : ℕ) (b : Bool) → (q == p) ≡ b → is_taken (cond (q == p) t (page_at all q)) ≡ ltb 0
          (cond (q == p) n (old.count q) + cond (cond (q == p) (is_some x) (old.cached q)) 1 0)
      takes q true e = ap (λ b. is_taken (cond b t (page_at all q))) e ∙ now
          ∙ sym (ap (λ b. ltb 0 (cond b n (old.count q) + cond (cond b (is_some x) (old.cached q)) 1 0)) e)
      takes q false e = ap (λ b. is_taken (cond b t (page_at all q))) e ∙ w.taken q
          ∙ sym (ap (λ b. ltb 0 (cond b n (old.count q) + cond (cond b (is_some x) (old.cached q)) 1 0)) e)

      slots : (q : ℕ) (b : Bool) → (q == p) ≡ b → is_slot (cond (q == p) t (page_at all q)) ≡ (ltb 0 q && ltb q header.pages && not (old.bad q))
      slots q true e = let same : q ≡ p = grind (arith, nat_tests) in
          ap (λ b. is_slot (cond b t (page_at all q))) e ∙ is ∙ sym was ∙ sym (ap (λ r. is_slot (page_at all r)) same) ∙ w.usable q
      slots q false e = ap (λ b. is_slot (cond b t (page_at all q))) e ∙ w.usable q

module _ (header : Header) (counts : ShownCounts) (all : List Page) (frames : List (Option ℕ)) where
  -- a taken page is a slot, and so is a free one
  pub taken_is_slot : (page : Page) → is_taken page ≡ true → is_slot page ≡ true
  taken_is_slot Unusable h = h
  taken_is_slot Free h = refl
  taken_is_slot Taken h = refl

  pub free_is_slot : (page : Page) → is_free page ≡ true → is_slot page ≡ true
  free_is_slot Unusable h = h
  free_is_slot Free h = refl
  free_is_slot Taken h = absurd (false≢true h)

  -- a slot that something names is taken
  pub used_is_taken : (p : ℕ) → IsArea header counts all frames → 0 < uses_in counts p → is_taken (page_at all p) ≡ true
  used_is_taken p w h = w.taken p ∙ positive _ h
    where
      positive : (m : ℕ) → 0 < m → ltb 0 m ≡ true
      positive m h = grind (arith, nat_tests)

  -- the counts' own flag
  pub uses_are : (p : ℕ) → IsArea header counts all frames → uses_in counts p ≡ counted (counts.count p) (frame_at frames p)
  uses_are p w = ap (λ b. counts.count p + cond b 1 0) (w.cached p)

  all_three : (a b c : Bool) → (a && b && not c) ≡ true → (a ≡ true) × (b ≡ true) × (c ≡ false)
  all_three true true false h = (refl, refl, refl)
  all_three true true true h = absurd (false≢true h)
  all_three true false c h = absurd (false≢true h)
  all_three false b c h = absurd (false≢true h)

  pub slot_is : (p : ℕ) → IsArea header counts all frames → is_slot (page_at all p) ≡ true → (0 < p) × (p < header.pages) × (counts.bad p ≡ false)
  slot_is p w h =
      let t = all_three (ltb 0 p) (ltb p header.pages) (counts.bad p) (sym (w.usable p) ∙ h) in
      (low t.0, high t.1, t.2)
    where
      low : ltb 0 p ≡ true → 0 < p
      low e = grind (arith, nat_tests)

      high : ltb p header.pages ≡ true → p < header.pages
      high e = grind (arith, nat_tests)

-- the flag of a slot changes with its frame
pub flag_changes : (p : ℕ) (x : Option ℕ) (b : Bool) (old new : ShownCounts) (all : List Page) (frames : List (Option ℕ)) → b ≡ is_some x →
    new ≡ with_cached p b old → p < length frames
    → Changes p (old.count p) (page_at all p) x old new all all frames (set frames p x)
flag_changes p x b old new all frames is e below = record {
  many = λ k. (e k).pages;
  bad = λ q k. (e k).bad q;
  cached = λ q. (λ k. (e k).cached q) ∙ ap (λ c. with_at p c old.cached q) is;
  count = λ q. (λ k. (e k).count q) ∙ with_own old.count p q;
  pages = refl;
  page = λ q. with_own (page_at all) p q;
  places = length-set frames p x;
  frame = λ q k. at-set frames p x None below k q;
}

-- how many entries name a slot changes
pub count_changes : (header : Header) (p n : ℕ) (old new : ShownCounts) (all : List Page) (frames : List (Option ℕ)) → IsArea header old all frames →
    new ≡ with_count p n old
    → Changes p n (page_at all p) (frame_at frames p) old new all all frames frames
count_changes header p n old new all frames w e = record {
  many = λ k. (e k).pages;
  bad = λ q k. (e k).bad q;
  cached = λ q. (λ k. (e k).cached q) ∙ with_own old.cached p q ∙ ap (λ c. with_at p c old.cached q) (w.cached p);
  count = λ q k. (e k).count q;
  pages = refl;
  page = λ q. with_own (page_at all) p q;
  places = refl;
  frame = λ q. with_own (frame_at frames) p q;
}

-- what the page is changes, too
pub page_changes : (p n : ℕ) (t : Page) (x : Option ℕ) (old new : ShownCounts) (all all' : List Page) (frames frames' : List (Option ℕ)) →
    Changes p n (page_at all p) x old new all all frames frames' → all' ≡ set all p t → p < length all
    → Changes p n t x old new all all' frames frames'
page_changes p n t x old new all all' frames frames' c e below = record {
  many = c.many;
  bad = c.bad;
  cached = c.cached;
  count = c.count;
  pages = ap length e ∙ length-set all p t;
  page = λ q. ap (λ l. page_at l q) e ∙ (λ k. at-set all p t Unusable below k q);
  places = c.places;
  frame = c.frame;
}

-- a slot that is given back, unless something names it
pub give_changes : (p n : ℕ) (b : Bool) (x : Option ℕ) (old new : ShownCounts) (all all' : List Page) (frames frames' : List (Option ℕ)) →
    Changes p n (page_at all p) x old new all all frames frames' → page_at all p ≡ Taken → all' ≡ cond b all (set all p Free) → p < length all
    → Changes p n (cond b Taken Free) x old new all all' frames frames'
give_changes p n true x old new all all' frames frames' c is e below = record {
  many = c.many;
  bad = c.bad;
  cached = c.cached;
  count = c.count;
  pages = ap length e;
  page = λ q. ap (λ l. page_at l q) e ∙ with_own (page_at all) p q ∙ ap (λ t. with_at p t (page_at all) q) is;
  places = c.places;
  frame = c.frame;
}
give_changes p n false x old new all all' frames frames' c is e below = page_changes p n Free x old new all all' frames frames' c e below

pub taken_is : (page : Page) → is_taken page ≡ true → page ≡ Taken
taken_is Unusable h = absurd (false≢true h)
taken_is Free h = absurd (false≢true h)
taken_is Taken h = refl

-- a page is taken or free as its count says
pub given_is : (m : ℕ) (b : Bool) → b ≡ ltb 0 m → is_taken (cond b Taken Free) ≡ ltb 0 m
given_is m true e = e
given_is m false e = e

pub given_is_slot : (b : Bool) → is_slot (cond b Taken Free) ≡ true
given_is_slot true = refl
given_is_slot false = refl

pub counts_of : (old new : ShownCounts) (p : ℕ) (b : Bool) → new ≡ with_cached p b old → new.count ≡ old.count
counts_of old new p b e = λ k. (e k).count

-- ---- after each call

module _ (header : Header) (p : ℕ) (old new : ShownCounts) (all : List Page) (frames : List (Option ℕ)) where
  -- what is known of a slot that something names
  pub used_is : IsArea header old all frames → 0 < uses_in old p
      → (page_at all p ≡ Taken) × (0 < p) × (p < header.pages) × (old.bad p ≡ false) × (p < length all) × (p < length frames)
  used_is w used =
      let taken = used_is_taken header old all frames p w used in
      let s = slot_is header old all frames p w (taken_is_slot header old all frames _ taken) in
      let a = w.pages in
      let b = w.places in
      let below = s.1 in
      (taken_is _ taken, s.0, s.1, s.2, omega (arith, a, below), omega (arith, b, below))

  -- as slots with entries are: the count alone says so
  pub named_is_used : 0 < old.count p → 0 < uses_in old p
  named_is_used h = omega (arith, h)

  -- and of one that is free
  pub free_is : IsArea header old all frames → page_at all p ≡ Free
      → (0 < p) × (p < header.pages) × (old.bad p ≡ false) × (p < length all) × (p < length frames)
  free_is w free =
      let s = slot_is header old all frames p w (ap is_slot free) in
      let a = w.pages in
      let b = w.places in
      let below = s.1 in
      (s.0, s.1, s.2, omega (arith, a, below), omega (arith, b, below))

  -- which nothing names
  pub free_unused : IsArea header old all frames → page_at all p ≡ Free → counted (old.count p) (frame_at frames p) ≡ 0
  free_unused w free = sym (uses_are header old all frames p w) ∙ none (uses_in old p) (sym (w.taken p) ∙ ap is_taken free)
    where
      none : (m : ℕ) → ltb 0 m ≡ false → m ≡ 0
      none m h = grind (arith, nat_tests)

  pub cache_stays : (f : ℕ) → IsArea header old all frames → 0 < uses_in old p → new ≡ with_cached p true old
      → IsArea header new all (set frames p (Some f))
  cache_stays f w used e =
      let u = used_is w used in
      let slot : is_slot (page_at all p) ≡ true = ap is_slot u.0 in
      whole_changed header p (old.count p) (page_at all p) (Some f) old new all all frames (set frames p (Some f)) w
      (flag_changes p (Some f) true old new all frames refl e u.5) slot slot (ap is_taken u.0 ∙ sym (one_more (old.count p)))
    where
      one_more : (n : ℕ) → ltb 0 (n + 1) ≡ true
      one_more n = grind (arith, nat_tests)

  pub put_stays : (f : ℕ) (all' : List Page) → IsArea header old all frames → page_at all p ≡ Free → all' ≡ set all p Taken
      → new ≡ with_cached p true old
      → IsArea header new all' (set frames p (Some f))
  put_stays f all' w free taken e =
      let slot : is_slot (page_at all p) ≡ true = ap is_slot free in
      let s = slot_is header old all frames p w slot in
      let a = w.pages in
      let b = w.places in
      let low = s.1 in
      whole_changed header p (old.count p) Taken (Some f) old new all all' frames (set frames p (Some f)) w
      (page_changes p (old.count p) Taken (Some f) old new all all' frames (set frames p (Some f))
      (flag_changes p (Some f) true old new all frames refl e (omega (arith, b, low))) taken (omega (arith, a, low))) slot refl
      (sym (one_more (old.count p)))
    where
      one_more : (n : ℕ) → ltb 0 (n + 1) ≡ true
      one_more n = grind (arith, nat_tests)

  pub uncache_stays : (all' : List Page) → IsArea header old all frames → 0 < uses_in old p → new ≡ with_cached p false old →
      all' ≡ cond (ltb 0 (uses_in new p)) all (set all p Free) → IsArea header new all' (set frames p None)
  uncache_stays all' w used e given =
      let u = used_is w used in
      let flag : new.cached p ≡ false = (λ k. (e k).cached p) ∙ own p old.cached false in
      let left : uses_in new p ≡ old.count p + 0 = (λ k. (e k).count p + cond (flag k) 1 0) in
      whole_changed header p (old.count p) (cond (ltb 0 (uses_in new p)) Taken Free) None old new all all' frames (set frames p None) w
      (give_changes p (old.count p) (ltb 0 (uses_in new p)) None old new all all' frames (set frames p None)
      (flag_changes p None false old new all frames refl e u.5) u.0 given u.4) (ap is_slot u.0) (given_is_slot (ltb 0 (uses_in new p)))
      (given_is (old.count p + 0) (ltb 0 (uses_in new p)) (ap (λ n. ltb 0 n) left))

  pub up_stays : (n : ℕ) → IsArea header old all frames → 0 < uses_in old p → new ≡ with_count p (old.count p + n) old → IsArea header new all frames
  up_stays n w used e =
      let u = used_is w used in
      let slot : is_slot (page_at all p) ≡ true = ap is_slot u.0 in
      whole_changed header p (old.count p + n) (page_at all p) (frame_at frames p) old new all all frames frames w
      (count_changes header p (old.count p + n) old new all frames w e) slot slot
      (ap is_taken u.0 ∙ sym (positive _ (more (old.count p) (cond (is_some (frame_at frames p)) 1 0) (subst (λ m. 0 < m)
      (uses_are header old all frames p w) used))))
    where
      positive : (m : ℕ) → 0 < m → ltb 0 m ≡ true
      positive m h = grind (arith, nat_tests)

      more : (a b : ℕ) → 0 < a + b → 0 < (a + n) + b
      more a b h = omega (arith, h)

  pub up_either : {E : Type 0} (n : ℕ) (r : Result (Unit {0}) E) → IsArea header old all frames → 0 < uses_in old p →
      MatchResult r (λ _. new ≡ with_count p (old.count p + n) old) (λ _. (old.count p < 63) × (63 ≤ old.count p + n) × (new ≡ old))
      → IsArea header new all frames
  up_either n (Ok u) w used e = up_stays n w used e
  up_either n (Err x) w used e = subst (λ h. IsArea header h all frames) (sym e.2) w

  pub down_stays : (m : ℕ) (all' : List Page) → IsArea header old all frames → 0 < uses_in old p → new ≡ with_count p m old →
      all' ≡ cond (ltb 0 (uses_in new p)) all (set all p Free) → IsArea header new all' frames
  down_stays m all' w used e given =
      let u = used_is w used in
      let count : new.count p ≡ m = (λ k. (e k).count p) ∙ own p old.count m in
      let flag : new.cached p ≡ is_some (frame_at frames p) = (λ k. (e k).cached p) ∙ w.cached p in
      let left : uses_in new p ≡ m + cond (is_some (frame_at frames p)) 1 0 = (λ k. count k + cond (flag k) 1 0) in
      whole_changed header p m (cond (ltb 0 (uses_in new p)) Taken Free) (frame_at frames p) old new all all' frames frames w
      (give_changes p m (ltb 0 (uses_in new p)) (frame_at frames p) old new all all' frames frames
      (count_changes header p m old new all frames w e) u.0 given u.4) (ap is_slot u.0) (given_is_slot (ltb 0 (uses_in new p)))
      (given_is (m + cond (is_some (frame_at frames p)) 1 0) (ltb 0 (uses_in new p)) (ap (λ n. ltb 0 n) left))

-- ---- what is shown after each call

module _ (a : AreaStore) (counts : Counts) (p : ℕ) where
  pub shown_cached : (x : Option ℕ) (b : Bool) → shown_counts counts ≡ with_cached p b (shown_counts a.counts) → p < length a.cache
      → area_shown (record a { counts = counts; cache = set a.cache p x }) ≡ with_frame p x (area_shown a)
  shown_cached x b e below = λ k. record (area_shown a) { find = at-set a.cache p x None below k; entries = (e k).count; bad = (e k).bad }

  pub shown_put : (x : Option ℕ) (slots : Slots) → shown_counts counts ≡ with_cached p true (shown_counts a.counts) → p < length a.cache
      → area_shown (record a { counts = counts; slots = slots; cache = set a.cache p x }) ≡ record (with_frame p x (area_shown a)) { slots = slots }
  shown_put x slots e below =
      λ k. record (area_shown a) { find = at-set a.cache p x None below k; entries = (e k).count; bad = (e k).bad; slots = slots }

  -- with what was given, and what is left
  pub gave : (v now : AreaStore) (f : ℕ) → a ≡ v → take_slot a.slots ≡ Some (p, now.slots) →
      area_shown now ≡ record (with_frame p (Some f) (area_shown a)) { slots = now.slots }
      → IsSomeAnd (take_slot v.slots) (λ t. (t.0 ≡ p) × (area_shown now ≡ record (with_frame p (Some f) (area_shown v)) { slots = t.1 }))
  gave v now f same taken e =
      subst (λ (w : AreaStore). IsSomeAnd (take_slot w.slots)
      (λ t. (t.0 ≡ p) × (area_shown now ≡ record (with_frame p (Some f) (area_shown w)) { slots = t.1 })))
      same
      (subst (λ o. IsSomeAnd o (λ t. (t.0 ≡ p) × (area_shown now ≡ record (with_frame p (Some f) (area_shown a)) { slots = t.1 })))
      (sym taken) (refl, e))

  pub shown_uncached : (slots : Slots) → IsArea a.header (shown_counts a.counts) a.slots.pages a.cache →
      shown_counts counts ≡ with_cached p false (shown_counts a.counts) → p < length a.cache
      → slots ≡ after_count p (uses_in (shown_counts counts) p) a.slots
      → area_shown (record a { counts = counts; slots = slots; cache = set a.cache p None }) ≡ given_back p (with_frame p None (area_shown a))
  shown_uncached slots w e below is = λ k. record (area_shown a) {
    find = at-set a.cache p None None below k;
    entries = (e k).count;
    bad = (e k).bad;
    slots = slots_are k;
  }
    where
      count : uses_in (shown_counts counts) p ≡ count_in (with_frame p None (area_shown a)) p
      count = λ k. (e k).count p + cond (flag k) 1 0
        where
          flag : (shown_counts counts).cached p ≡ is_some (with_at p None (frame_at a.cache) p)
          flag = (λ k. (e k).cached p) ∙ own p (shown_counts a.counts).cached false ∙ sym (ap is_some (own p (frame_at a.cache) None))

      slots_are : slots ≡ after_count p (count_in (with_frame p None (area_shown a)) p) a.slots
      slots_are = is ∙ ap (λ n. after_count p n a.slots) count

  pub shown_down : (slots : Slots) (m : ℕ) → IsArea a.header (shown_counts a.counts) a.slots.pages a.cache →
      shown_counts counts ≡ with_count p m (shown_counts a.counts) → slots ≡ after_count p (uses_in (shown_counts counts) p) a.slots
      → area_shown (record a { counts = counts; slots = slots }) ≡ given_back p (with_entries p m (area_shown a))
  shown_down slots m w e is = λ k. record (area_shown a) {
    entries = (e k).count;
    bad = (e k).bad;
    slots = slots_are k;
  }
    where
      count : uses_in (shown_counts counts) p ≡ count_in (with_entries p m (area_shown a)) p
      count = λ k. (e k).count p + cond (flag k) 1 0
        where
          flag : (shown_counts counts).cached p ≡ is_some (frame_at a.cache p)
          flag = (λ k. (e k).cached p) ∙ w.cached p

      slots_are : slots ≡ after_count p (count_in (with_entries p m (area_shown a)) p) a.slots
      slots_are = is ∙ ap (λ n. after_count p n a.slots) count

  pub shown_up : (m : ℕ) → shown_counts counts ≡ with_count p m (shown_counts a.counts)
      → area_shown (record a { counts = counts }) ≡ with_entries p m (area_shown a)
  shown_up m e = λ k. record (area_shown a) { entries = (e k).count; bad = (e k).bad }

-- what is counted and what is cached is used
module _ (a : AreaStore) (p : ℕ) where
  pub count_is_used : IsArea a.header (shown_counts a.counts) a.slots.pages a.cache → 0 < count_in (area_shown a) p
      → 0 < uses_in (shown_counts a.counts) p
  count_is_used w h = subst (λ m. 0 < m) (sym (uses_are a.header (shown_counts a.counts) a.slots.pages a.cache p w)) h

  pub cached_is_used : IsArea a.header (shown_counts a.counts) a.slots.pages a.cache → is_some (frame_at a.cache p) ≡ true
      → 0 < uses_in (shown_counts a.counts) p
  cached_is_used w h = subst (λ b. 0 < (shown_counts a.counts).count p + cond b 1 0) (sym (w.cached p ∙ h)) (omega arith)

pub is_kept : (a v : AreaStore) → a ≡ v → IsArea a.header (shown_counts a.counts) a.slots.pages a.cache → IsKept (area_shown v)
is_kept a v same w = subst (λ (v : AreaStore). IsKept (area_shown v)) same (record {
  taken = λ p. w.taken p ∙ ap (λ n. ltb 0 n) (uses_are a.header (shown_counts a.counts) a.slots.pages a.cache p w);
  usable = w.usable;
  number = w.number;
})
