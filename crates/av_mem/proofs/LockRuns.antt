-- How the entries of locked pages are counted, up or down: one by one, run by run and area by area.
use Rattle.std.proofs.Common.{◌≡◌, ℕ, zero, suc, ◌+◌, ◌-◌, ◌<◌, ◌≤◌, ◌==◌, Bool, true}
use Rattle.std.proofs.Common.{false, cond, ◌&&◌, List, [], ◌∷◌, length, Option, Some, None, take}
use Rattle.std.proofs.Common.{drop, get_or, refl, sym, ap, subst, ◌∙◌, arith}
use Rattle.std.proofs.lemmas.Bool.Decides.{nat_tests}
use Rattle.std.proofs.lemmas.List.{length-take-le, take-append-drop}
use Rattle.std.specs.List.{All, range_with_len}
use Rattle.std.proofs.lemmas.List.Elements.{All-from_get_or}
use Rattle.av_base.specs.Words.{how_many}
use Rattle.av_chain.specs.Links.{one_if}
use Rattle.av_frames.specs.Store.{Shown, Store, shown, with_locks}
use Rattle.av_pagetable.specs.Entries.{entry_at}
use Rattle.av_pagetable.specs.Table.{IsRun, run_size}
use Rattle.av_pagetable.proofs.Run.{run_taken}
use Rattle.av_pagetable.specs.declared.pte.Pte.{Pte}
use Rattle.av_pagetable.specs.declared.pte.Pte.TheVariants.{Away, Empty, Here, Zero}
use Rattle.av_plain.proofs.Ledger.{how_many-append}
use Rattle.av_rmap.specs.Items.{shown as shown_items}
use Rattle.av_rmap.specs.Walk.{names_frame}
use Rattle.av_spaces.specs.Spaces.{AllSpaces, AreNumbered, pages_of}
use Rattle.av_swapcache.specs.Swap.{shown as shown_swap}
use Rattle.av_vma.specs.Areas.{area_of, is_locked}
use Rattle.av_vma.specs.Index.{past_of}
use Rattle.av_vma.specs.Pages.{AreLaid}
use Rattle.av_vma.specs.declared.area.Area.{Area}
use Rattle.av_vma.proofs.Laid.{has_from, has_parts}
use Rattle.av_mem.specs.Entries.{AreWithin, IsWithin}
use Rattle.av_mem.specs.Locked.{IsBelow, IsCounted, MayCount, is_lock_at, has_lock, locks_in}
use Rattle.av_mem.specs.Locked.{names_in}
use Rattle.av_mem.specs.Mem.{frame_count, plain, view, view_of_parts}
use Rattle.av_mem.specs.declared.locked.Way.{Way}
use Rattle.av_mem.specs.declared.locked.Way.TheVariants.{Down, Up}
use Rattle.av_mem.specs.declared.mem.Mem.{Mem}
use Rattle.av_mem.proofs.EntryCounts.{first-more}

-- ---- either way

-- none is counted
pub counted-none : (way : Way) (n : ℕ) → IsCounted way n n 0
counted-none Up n = omega arith
counted-none Down n = omega arith

-- some are, and then others
pub counted-then : (way : Way) (old now new n m : ℕ) → IsCounted way old now n
    → IsCounted way now new m → IsCounted way old new (n + m)
counted-then Up old now new n m first later = omega (arith, first, later)
counted-then Down old now new n m first later = omega (arith, first, later)

-- where all may be counted and some are, the rest may
pub may-then : (way : Way) (old now n m all : ℕ) → IsCounted way old now n
    → MayCount way old all → n + m ≤ all → MayCount way now m
may-then Up old now n m all done may few = omega (arith, done, may, few)
may-then Down old now n m all done may few = omega (arith, done, may, few)

-- and where all may be, fewer may
pub may-fewer : (way : Way) (now n all : ℕ) → MayCount way now all → n ≤ all → MayCount way now n
may-fewer Up now n all may few = omega (arith, may, few)
may-fewer Down now n all may few = omega (arith, may, few)

-- ---- one frame

equal : (a b : ℕ) → (a == b) ≡ true → a ≡ b
equal a b e = grind (arith, nat_tests, e)

module _ (old new : Shown) (frame f : ℕ) where
  pub one-up : new ≡ with_locks frame (old.locks frame + 1) old
      → IsCounted Up (old.locks f) (new.locks f) (one_if (f == frame))
  one-up is = ap (λ (s : Shown). s.locks f) is ∙ by (f == frame) refl
    where
      by : (b : Bool) → (f == frame) ≡ b
          → cond b (old.locks frame + 1) (old.locks f) ≡ old.locks f + one_if b
      by true e = ap (λ g. old.locks g + 1) (sym (equal f frame e))
      by false e = let same : old.locks f ≡ old.locks f + 0 = omega arith in same

  pub one-down : 1 ≤ old.locks frame → new ≡ with_locks frame (old.locks frame - 1) old
      → IsCounted Down (old.locks f) (new.locks f) (one_if (f == frame))
  one-down some is = by (f == frame) refl
      ∙ ap (λ n. n + one_if (f == frame)) (sym (ap (λ (s : Shown). s.locks f) is))
    where
      by : (b : Bool) → (f == frame) ≡ b
          → old.locks f ≡ cond b (old.locks frame - 1) (old.locks f) + one_if b
      by true e = let here = ap old.locks (equal f frame e) in omega (arith, some, here)
      by false e = let same : old.locks f ≡ old.locks f + 0 = omega arith in same

-- ---- a run

-- the counts alone change, and then change again
pub locks-alone : (old now new : Shown) → now ≡ record old { locks = now.locks }
    → new ≡ record now { locks = new.locks } → new ≡ record old { locks = new.locks }
locks-alone old now new first later =
    later ∙ ap (λ (s : Shown). record s { locks = new.locks }) first

-- an entry behind the first n is one of all
pub one-of-all : {X : Type 0} (test : X → Bool) (xs : List X) (n : ℕ) (x : X) → n < length xs
    → how_many test (take n xs) + cond (test (get_or xs n x)) 1 0 ≤ how_many test xs
one-of-all test xs n x under = few _ _ _ _ (first-more test n xs x under)
    (sym (how_many-append test (take (suc n) xs) (drop (suc n) xs))
    ∙ ap (how_many test) (take-append-drop (suc n) xs))
  where
    few : (more some left all : ℕ) → more ≡ some → more + left ≡ all → some ≤ all
    few more some left all e sum = omega (arith, e, sum)

pub one-more : {X : Type 0} (test : X → Bool) (xs : List X) (n : ℕ) (x : X) → n < length xs
    → how_many test (take n xs) + cond (test (get_or xs n x)) 1 0 ≡ how_many test (take (n + 1) xs)
one-more test xs n x under = sym (first-more test n xs x under)
    ∙ ap (λ k. how_many test (take k xs)) (let next : suc n ≡ n + 1 = omega arith in next)

-- what was read of so many pages is in the table, up to a lower number of them
pub record IsTaken (table : ℕ → Pte) (page len : ℕ) (run : List Pte) : Type 0 where
  pub long : length run ≡ len
  pub there : (i : ℕ) → i < length run → get_or run i Empty ≡ table (page + i)

pub taken : (table : ℕ → Pte) (page read len : ℕ) (run : List Pte) → IsRun table page read run
    → length run ≡ run_size → read ≤ run_size → len ≤ read → IsTaken table page len (take len run)
taken table page read len run are long most few =
    let fits : len ≤ length run = omega (arith, few, most, long) in
    record {
      long = length-take-le len run fits;
      there = run_taken table page len run fits (λ i under. are i (omega (arith, under, few)));
    }

-- frames that are there stay so while counts change
pub below-then : (old now : ℕ) → now ≡ old → (e : Pte) → IsBelow old e → IsBelow now e
below-then old now same e low = subst (λ count. IsBelow count e) (sym same) low

-- an entry that a table has names one that is there
within-below : (k : Mem) (e : Pte) → IsWithin (view k) (plain e) → IsBelow (frame_count k) e
within-below k Empty h = tt
within-below k Zero h = tt
within-below k (Here f write seen) h = h
within-below k (Away s) h = tt

pub run-below : (k : Mem) (p page len : ℕ) (run : List Pte) → AreWithin (view k)
    → IsTaken (entry_at k.tables p) page len run → All (IsBelow (frame_count k)) run
run-below k p page len run within are = All-from_get_or (IsBelow (frame_count k)) run Empty
    (λ i under. subst (IsBelow (frame_count k)) (sym (are.there i under))
    (within-below k (entry_at k.tables p (page + i)) (within p (page + i))))

-- ---- a range

-- how many of the n numbers from one on pass a test
abbrev many_in : (ℕ → Bool) → ℕ → ℕ → ℕ
many_in test from n = how_many test (range_with_len from n)

-- tests that agree within a range find as many there
same-in : (t u : ℕ → Bool) (a n : ℕ) → ((q : ℕ) → a ≤ q → q < a + n → t q ≡ u q)
    → many_in t a n ≡ many_in u a n
same-in t u a zero same = refl
same-in t u a (suc n) same =
    ap (λ b. cond b 1 0 + many_in t (a + 1) n) (same a (omega arith) (omega arith))
    ∙ ap (λ k. cond (u a) 1 0 + k) (same-in t u (a + 1) n
    (λ q low high. same q (omega (arith, low)) (omega (arith, high))))

none-in : (t : ℕ → Bool) (a n : ℕ) → ((q : ℕ) → a ≤ q → q < a + n → t q ≡ false)
    → many_in t a n ≡ 0
none-in t a zero none = refl
none-in t a (suc n) none =
    let rest = none-in t (a + 1) n
    (λ q low high. none q (omega (arith, low)) (omega (arith, high))) in
    ap (λ b. cond b 1 0 + many_in t (a + 1) n) (none a (omega arith) (omega arith))
    ∙ ap (λ k. 0 + k) rest

-- a range in two parts
in-parts : (t : ℕ → Bool) (a n m : ℕ)
    → many_in t a (n + m) ≡ many_in t a n + many_in t (a + n) m
in-parts t a zero m = by (many_in t a m) _ _
    (ap (many_in t a) (let e : 0 + m ≡ m = omega arith in e))
    (ap (λ b. many_in t b m) (let e : a + 0 ≡ a = omega arith in e))
  where
    by : (k x y : ℕ) → x ≡ k → y ≡ k → x ≡ 0 + y
    by k x y e h = omega (arith, e, h)
in-parts t a (suc n) m = by (cond (t a) 1 0) _ _ _ _
    (ap (many_in t a) (let e : suc n + m ≡ suc (n + m) = omega arith in e))
    (in-parts t (a + 1) n m)
    (ap (λ b. many_in t b m) (let e : (a + 1) + n ≡ a + suc n = omega arith in e))
  where
    by : (h all x y z : ℕ) {k : ℕ} → k ≡ h + all → all ≡ x + y → y ≡ z → k ≡ (h + x) + z
    by h all x y z e f g = omega (arith, e, f, g)

-- the entries of a run are those of its pages
of-run : (t : Pte → Bool) (table : ℕ → Pte) (page : ℕ) (run : List Pte)
    → ((i : ℕ) → i < length run → get_or run i Empty ≡ table (page + i))
    → how_many t run ≡ how_many (λ q. t (table q)) (range_with_len page (length run))
of-run t table page [] there = refl
of-run t table page (e ∷ run) there = by _ _ _ _
    (ap (λ b. cond b 1 0) (ap t (there 0 (omega arith)
    ∙ ap table (let same : page + 0 ≡ page = omega arith in same))))
    (of-run t table (page + 1) run (λ i under. there (suc i) (omega (arith, under))
    ∙ ap table (let same : page + suc i ≡ (page + 1) + i = omega arith in same)))
  where
    by : (a b c d : ℕ) → a ≡ b → c ≡ d → a + c ≡ b + d
    by a b c d e f = omega (arith, e, f)

-- what stands up to one number, and from there to another
parts-to : (t : ℕ → Bool) (from next past : ℕ) → from ≤ next → next ≤ past
    → many_in t from (past - from) ≡ many_in t from (next - from) + many_in t next (past - next)
parts-to t from next past low high =
    ap (many_in t from)
    (let e : past - from ≡ (next - from) + (past - next) = omega (arith, low, high) in e)
    ∙ in-parts t from (next - from) (past - next)
    ∙ ap (λ a. many_in t from (next - from) + many_in t a (past - next))
    (let e : from + (next - from) ≡ next = omega (arith, low) in e)

-- a range up to a page from which on there are none
none-behind : (t : ℕ → Bool) (from next past : ℕ) → (next - from) + (past - next) ≡ past - from
    → from ≤ next → ((q : ℕ) → next ≤ q → q < past → t q ≡ false)
    → many_in t from (next - from) ≡ many_in t from (past - from)
none-behind t from next past all low none = by _ _ _ _
    (ap (many_in t from) (sym all))
    (in-parts t from (next - from) (past - next))
    (none-in t (from + (next - from)) (past - next)
    (λ q least most. none q (omega (arith, low, least)) (omega (arith, low, most))))
  where
    by : (a b x y : ℕ) → a ≡ b → b ≡ x + y → y ≡ 0 → x ≡ a
    by a b x y e f g = omega (arith, e, f, g)

-- one more piece behind pages that have none
piece-more : (t : ℕ → Bool) (from next page past : ℕ) → from ≤ next → next ≤ page → page ≤ past
    → ((q : ℕ) → next ≤ q → q < page → t q ≡ false)
    → many_in t from (next - from) + many_in t page (past - page)
    ≡ many_in t from (past - from)
piece-more t from next page past low up high none = by _ _ _ _
    (parts-to t from page past (omega (arith, low, up)) high)
    (none-behind t from next page (omega (arith, low, up)) low none)
  where
    by : (all first now rest : ℕ) → all ≡ now + rest → first ≡ now → first + rest ≡ all
    by all first now rest e f = omega (arith, e, f)

-- no more stand in a part of a range
pub part-few : (t : ℕ → Bool) (from next past : ℕ) → from ≤ next → next ≤ past
    → many_in t from (next - from) ≤ many_in t from (past - from)
part-few t from next past low high = by _ _ _ (parts-to t from next past low high)
  where
    by : (all first rest : ℕ) → all ≡ first + rest → first ≤ all
    by all first rest e = omega (arith, e)

-- none is counted of an empty range
pub none-yet : (way : Way) (n : ℕ) (t : ℕ → Bool) (from : ℕ)
    → IsCounted way n n (many_in t from (from - from))
none-yet way n t from = subst (λ len. IsCounted way n n (many_in t from len))
    (let none : 0 ≡ from - from = omega arith in none) (counted-none way n)

-- ---- an area

-- where none is locked, no page is, and nothing is counted
pub no-locked-page : (s : AllSpaces) → AreNumbered s
    → ((number : ℕ) → is_locked (area_of s.areas number) ≡ false) → (p page : ℕ)
    → is_locked (pages_of s.processes p page) ≡ false
no-locked-page s numbered none p page = by (pages_of s.processes p page) refl
  where
    by : (o : Option Area) → pages_of s.processes p page ≡ o → is_locked o ≡ false
    by None is = refl
    by (Some area) is = let number = numbered.numbers p page area is in
        sym (ap is_locked number.1.at) ∙ none number.0

pub none-locked : (k : Mem) → AreNumbered k.spaces
    → ((number : ℕ) → is_locked (area_of k.spaces.areas number) ≡ false) → (p from n f : ℕ)
    → locks_in k p from n f ≡ 0
none-locked k numbered none p from n f = none-in (is_lock_at k f p) from n
    (λ q low high. ap (λ b. b && names_frame f (entry_at k.tables p q))
    (no-locked-page k.spaces numbered none p q))

-- where no area is, nothing is counted
pub no-area : (k : Mem) (p page f : ℕ) → pages_of k.spaces.processes p page ≡ None
    → locks_in k p page 1 f ≡ 0
no-area k p page f none = none-in (is_lock_at k f p) page 1 (λ q low high.
    let here : q ≡ page = omega (arith, low, high) in
    ap (λ q. is_lock_at k f p q) here
    ∙ ap (λ area. is_locked area && names_frame f (entry_at k.tables p page)) none)

module _ (k : Mem) (p from : ℕ) (area : Area) (laid : AreLaid (pages_of k.spaces.processes p))
    (at : pages_of k.spaces.processes p from ≡ Some area) where
  -- it goes on behind the page
  pub area-behind : from < past_of area
  area-behind = (has_parts area from (laid.here from area at)).1

  same-area : (q : ℕ) → from ≤ q → q < past_of area → pages_of k.spaces.processes p q ≡ Some area
  same-area q low high = laid.all from q area at (has_from area q
      (let first = (has_parts area from (laid.here from area at)).0 in omega (arith, first, low))
      high)

  is-lock : (b : Bool) → area.flags.locked ≡ b → (f q : ℕ) → from ≤ q → q < past_of area
      → is_lock_at k f p q ≡ (b && names_frame f (entry_at k.tables p q))
  is-lock b is f q low high =
      ap (λ area. is_locked area && names_frame f (entry_at k.tables p q)) (same-area q low high)
      ∙ ap (λ b. b && names_frame f (entry_at k.tables p q)) is

  -- up to a page within it
  module _ (end : ℕ) (high : end ≤ past_of area) where
    within-area : (q : ℕ) → from ≤ q → q < from + (end - from) → q < past_of area
    within-area q low under = let behind = area-behind in omega (arith, low, under, high, behind)

    -- each entry is counted where it is locked
    pub locked-area : area.flags.locked ≡ true → (f : ℕ)
        → locks_in k p from (end - from) f ≡ names_in k p from (end - from) f
    locked-area is f = same-in (is_lock_at k f p) (λ page. names_frame f (entry_at k.tables p page))
        from (end - from) (λ q low under. is-lock true is f q low (within-area q low under))

    -- and none where it isn't
    pub unlocked-area : area.flags.locked ≡ false → (f : ℕ) → locks_in k p from (end - from) f ≡ 0
    unlocked-area is f = none-in (is_lock_at k f p) from (end - from)
        (λ q low under. is-lock false is f q low (within-area q low under))

-- ---- the memory system

-- the view has no counts
pub same-view : (k : Mem) (frames : Store) → shown frames
    ≡ record (shown k.frames) { locks = (shown frames).locks }
    → view (record k { frames = frames }) ≡ view k
same-view k frames same = ap (λ (s : Shown). view_of_parts s k.lists (shown_items k.items)
    (λ p page. plain (entry_at k.tables p page)) k.spaces k.anons (shown_swap k.swap)) same

-- of a memory system that differs in its frames alone, up to a page
module _ (old now : Mem) (rest : now ≡ record old { frames = now.frames }) (p from next : ℕ)
    (low : from ≤ next) where
  no-entry : (q : ℕ) → entry_at now.tables p q ≡ Empty → entry_at old.tables p q ≡ Empty
  no-entry q none = sym (ap (λ (k : Mem). entry_at k.tables p q) rest) ∙ none

  no-name : (f q : ℕ) → entry_at now.tables p q ≡ Empty
      → names_frame f (entry_at old.tables p q) ≡ false
  no-name f q none = ap (names_frame f) (no-entry q none)

  no-lock : (f q : ℕ) → entry_at now.tables p q ≡ Empty → is_lock_at old f p q ≡ false
  no-lock f q none = ap (λ b. has_lock old (p, q) && b) (no-name f q none)
      ∙ by (has_lock old (p, q))
    where
      by : (b : Bool) → (b && false) ≡ false
      by true = refl
      by false = refl

  -- the entries of a run come to those before it
  pub run-counted : (page len : ℕ) (run : List Pte) → next ≤ page
      → ((q : ℕ) → next ≤ q → q < page → entry_at now.tables p q ≡ Empty)
      → IsTaken (entry_at now.tables p) page len run → (f : ℕ)
      → names_in old p from (next - from) f + how_many (names_frame f) run
      ≡ names_in old p from ((page + len) - from) f
  run-counted page len run up least are f =
      ap (λ n. names_in old p from (next - from) f + n)
      (of-run (names_frame f) (entry_at now.tables p) page run are.there
      ∙ ap (λ (k : Mem). names_in k p page (length run) f) rest
      ∙ ap (λ n. names_in old p page n f)
      (let e : length run ≡ (page + len) - page = omega (arith, are.long) in e))
      ∙ piece-more (λ q. names_frame f (entry_at old.tables p q)) from next page
      (page + len) low up (omega arith) (λ q a b. no-name f q (least q a b))

  -- behind the page there are none
  pub names-end : (past : ℕ) → (next - from) + (past - next) ≡ past - from
      → ((q : ℕ) → next ≤ q → q < past → entry_at now.tables p q ≡ Empty) → (f : ℕ)
      → names_in old p from (next - from) f ≡ names_in old p from (past - from) f
  names-end past all none f =
      none-behind (λ q. names_frame f (entry_at old.tables p q)) from next past all low
      (λ q a b. no-name f q (none q a b))

  -- the locked pages of a piece come to those before it
  pub piece-counted : (page past : ℕ) → next ≤ page → page ≤ past
      → ((q : ℕ) → next ≤ q → q < page → entry_at now.tables p q ≡ Empty) → (f : ℕ)
      → locks_in old p from (next - from) f + locks_in now p page (past - page) f
      ≡ locks_in old p from (past - from) f
  piece-counted page past up high least f =
      ap (λ (k : Mem). locks_in old p from (next - from) f + locks_in k p page (past - page) f) rest
      ∙ piece-more (is_lock_at old f p) from next page past low up high
      (λ q a b. no-lock f q (least q a b))

  pub locks-end : (past : ℕ) → (next - from) + (past - next) ≡ past - from
      → ((q : ℕ) → next ≤ q → q < past → entry_at now.tables p q ≡ Empty) → (f : ℕ)
      → locks_in old p from (next - from) f ≡ locks_in old p from (past - from) f
  locks-end past all none f = none-behind (is_lock_at old f p) from next past all low
      (λ q a b. no-lock f q (none q a b))
