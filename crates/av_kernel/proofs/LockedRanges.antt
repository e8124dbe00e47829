-- The entries of locked pages are counted: what a range's are, and how the counts go where these go, or the pages of a process change.
use Rattle.std.proofs.Common.{◌≡◌, ℕ, zero, suc, ◌+◌, ◌-◌, ◌*◌, ◌<◌, ◌≤◌, Bool, true, false, cond, ◌&&◌, T, List, length, Option, Some, None, is_some, option_map, refl, sym, ap, subst, ◌∙◌, arith, ◌==◌}
use Rattle.std.proofs.lemmas.Bool.{false≢true}
use Rattle.std.proofs.lemmas.Bool.Decides.{nat_tests}
use Rattle.std.specs.FinMap.Entries.{is_sorted}
use Rattle.av_base.specs.Keys.{Key, key_cmp}
use Rattle.av_base.specs.Limits.{most_processes, top_page}
use Rattle.av_base.specs.Words.{within}
use Rattle.av_base.specs.declared.flags.Flag.TheVariants.{Locked}
use Rattle.av_pagetable.specs.Entries.{ProcessTables, entry_at}
use Rattle.av_trace.specs.declared.note.Note.{Note}
use Rattle.av_vma.specs.Index.{first_of, past_of}
use Rattle.av_vma.specs.Pages.{AreLaid, Pages, pages_changed, to_flag}
use Rattle.av_vma.specs.declared.area.Area.{Area}
use Rattle.av_anon.specs.declared.anons.Anons.{Anons as AnonSet}
use Rattle.av_merge.specs.Kin.{lengths}
use Rattle.av_merge.specs.Mapping.{IsRemapped}
use Rattle.av_merge.specs.Pages.{GoesTo}
use Rattle.av_spaces.specs.Kin.{AnonsStay}
use Rattle.av_spaces.specs.Spaces.{AllRising, AllSpaces, AreThese, IsChanged, areas_of, is_taken, pages_of}
use Rattle.av_spaces.proofs.Rising.{laid}
use Rattle.av_plain.specs.Choice.{ChoosesAll}
use Rattle.av_plain.specs.Device.{Device, setting_of}
use Rattle.av_plain.specs.Event.{Event, after_all}
use Rattle.av_plain.specs.Ledger.{Entry, InFrame, InSlot, Ledger, Zero, entry, names_frame}
use Rattle.av_plain.specs.Stands.{AreasStand, ItemsAre, Pte as Plain, View, entry_of, free_of}
use Rattle.av_plain.specs.Transcript.{State}
use Rattle.av_plain.specs.World.{Page, Process, World, is_locked_page, pages, set_process, with_change_on, with_pages}
use Rattle.av_plain.specs.Zap.{keys_in, zaps_of}
use Rattle.av_plain.proofs.Ledger.{how_many-found}
use Rattle.av_plain.proofs.Sound.Bound.{map_count-pages}
use Rattle.av_plain.proofs.Sound.Counts.{same-itself}
use Rattle.av_plain.proofs.World.{pages-set}
use Rattle.av_plain.proofs.Zap.{entry-range}
use Rattle.av_swap_laws.specs.Locks.{AreLocks, lock_count}
use Rattle.av_swap_laws.specs.LockRange.{is_within, lock_at, lock_count_in, lock_of}
use Rattle.av_swap_laws.proofs.LockRange.{locked_at, locks-there, range-changed, range-few, range-next, range-none, range-off}
use Rattle.av_swap_laws.proofs.Locks.{locks-few, locks-range}
use Rattle.av_mem.specs.declared.mem.Mem.{Mem}
use Rattle.av_mem.specs.Entries.{AreWithin, IsEntryWithin, IsWithin}
use Rattle.av_mem.specs.Locked.{locks_in}
use Rattle.av_mem.specs.Mem.{HasLedger, Keeps, Sizes, SoundLedger, anons_of, locks_of, plain, setting_by, sizes_of, view}
use Rattle.av_mem.specs.Zap.{HasZapped}
use Rattle.av_mem.proofs.LockedLaws.{locks-in-range}
use Rattle.av_kernel.specs.Lock.{SetsLock}
use Rattle.av_step.proofs.StepLaws.{at_number, is_number, orderly}

-- ---- the pages of one process

-- which pages are locked once a process has these
pub locked-set : (w : World) (p : ℕ) (now : Process) (k : Key)
    → locked_at (set_process w p now) k ≡ cond (k.0 == p) (is_locked_page (now k.1)) (locked_at w k)
locked-set w p now k = ap is_locked_page (pages-set w p now k.0 k.1 ∙ ap (λ b. cond b (now k.1) (pages w k.0 k.1)) (at_number k.0 p))
    ∙ by (k.0 == p)
  where
    by : (b : Bool) → is_locked_page (cond b (now k.1) (pages w k.0 k.1)) ≡ cond b (is_locked_page (now k.1)) (locked_at w k)
    by true = refl
    by false = refl

-- its pages with entries are locked as before
pub locks-kept : (w : World) (p : ℕ) (now : Process) (l : Ledger) (f : ℕ)
    → ((page : ℕ) → is_some (entry l (p, page)) ≡ true → is_locked_page (now page) ≡ is_locked_page (pages w p page))
    → lock_count (set_process w p now) l f ≡ lock_count w l f
locks-kept w p now l f same = locks-there w (set_process w p now) l f
    (λ k some. locked-set w p now k ∙ by k some (k.0 == p) refl)
  where
    by : (k : Key) → is_some (entry l k) ≡ true → (b : Bool) → (k.0 == p) ≡ b
        → cond b (is_locked_page (now k.1)) (locked_at w k) ≡ locked_at w k
    by k some true is =
        let here : p ≡ k.0 = sym (is_number k.0 p is) in
        same k.1 (ap (λ q. is_some (entry l (q, k.1))) here ∙ some) ∙ ap (λ q. is_locked_page (pages w q k.1)) here
    by k some false is = refl

-- ---- the entries of a range

-- what a range counts goes by its entries alone
pub range-alike : (w : World) (l l' : Ledger) (p from n f : ℕ) → T (is_sorted key_cmp l.entries) → T (is_sorted key_cmp l'.entries)
    → ((page : ℕ) → within from n page ≡ true → entry l' (p, page) ≡ entry l (p, page))
    → lock_count_in w l' p from n f ≡ lock_count_in w l p from n f
range-alike w l l' p from zero f sorted sorted' same = range-none w l' p from f ∙ sym (range-none w l p from f)
range-alike w l l' p from (suc n) f sorted sorted' same =
    ap (λ m. lock_count_in w l' p from m f) (one_more n) ∙ range-next w l' p from sorted' n f
    ∙ (λ i. range-alike w l l' p from n f sorted sorted' (λ page inside. same page (wider n page inside)) i
    + lock_of w f (p, from + n) (same (from + n) (last n) i))
    ∙ sym (ap (λ m. lock_count_in w l p from m f) (one_more n) ∙ range-next w l p from sorted n f)
  where
    one_more : (n : ℕ) → suc n ≡ n + 1
    one_more n = omega arith

    wider : (n page : ℕ) → within from n page ≡ true → within from (suc n) page ≡ true
    wider n page inside = grind (arith, nat_tests, inside)

    last : (n : ℕ) → within from (suc n) (from + n) ≡ true
    last n = grind (arith, nat_tests)

module _ (w : World) (l : Ledger) (p from n f : ℕ) where
  abbrev gone : Ledger
  gone = after_all l (zaps_of l (keys_in l p from n))

  -- the pages of the range aren't mapped
  abbrev bare : Process
  bare = with_pages (pages w p) from n (λ _. None)

  outside : (page : ℕ) → is_some (entry gone (p, page)) ≡ true → within from n page ≡ false
  outside page some = by (within from n page) refl
      (sym (ap is_some (entry-range l p from n p page ∙ ap (λ b. cond (b && within from n page) None (entry l (p, page))) (itself p))) ∙ some)
    where
      itself : (p : ℕ) → (p == p) ≡ true
      itself p = grind (arith, nat_tests)

      by : (b : Bool) → within from n page ≡ b → is_some (cond b None (entry l (p, page))) ≡ true → within from n page ≡ false
      by true e there = absurd (false≢true there)
      by false e there = e

  -- its entries go: so many fewer are counted
  pub range-gone : lock_count w gone f + lock_count_in w l p from n f ≡ lock_count w l f
  range-gone = sum _ _ _ _ _
      (locks-kept w p bare gone f (λ page some. ap (λ b. is_locked_page (cond b None (pages w p page))) (outside page some)))
      (locks-range (set_process w p bare) p from n l f (λ page inside. here page inside))
      (range-off w (set_process w p bare) l p from n f others (λ k inside. at k inside (k.0 == p) refl))
    where
      sum : (a b c i t : ℕ) → b ≡ a → b ≡ c → c + i ≡ t → a + i ≡ t
      sum a b c i t e g h = omega arith

      unmapped : (page : ℕ) → within from n page ≡ true → is_locked_page (bare page) ≡ false
      unmapped page inside = ap (λ b. is_locked_page (cond b None (pages w p page))) inside

      here : (page : ℕ) → within from n page ≡ true → is_locked_page (pages (set_process w p bare) p page) ≡ false
      here page inside = locked-set w p bare (p, page) ∙ ap (λ b. cond b (is_locked_page (bare page)) (locked_at w (p, page))) (itself p)
          ∙ unmapped page inside
        where
          itself : (p : ℕ) → (p == p) ≡ true
          itself p = grind (arith, nat_tests)

      mine : (k : Key) → is_within p from n k ≡ true → (k.0 == p) ≡ true
      mine k h = grind (arith, nat_tests, h)

      inner : (k : Key) → is_within p from n k ≡ true → within from n k.1 ≡ true
      inner k h = grind (arith, nat_tests, h)

      at : (k : Key) → is_within p from n k ≡ true → (b : Bool) → (k.0 == p) ≡ b → locked_at (set_process w p bare) k ≡ false
      at k inside b is = locked-set w p bare k ∙ ap (λ b. cond b (is_locked_page (bare k.1)) (locked_at w k)) (mine k inside)
          ∙ unmapped k.1 (inner k inside)

      others : (k : Key) → is_within p from n k ≡ false → locked_at (set_process w p bare) k ≡ locked_at w k
      others k beyond = locked-set w p bare k ∙ by (k.0 == p) (within from n k.1) refl beyond
        where
          by : (b c : Bool) → (k.0 == p) ≡ b → (b && c) ≡ false
              → cond b (is_locked_page (cond c None (pages w p k.1))) (locked_at w k) ≡ locked_at w k
          by true true is h = absurd (false≢true (sym h))
          by true false is h = ap (λ q. is_locked_page (pages w q k.1)) (sym (is_number k.0 p is))
          by false c is h = refl

-- ---- what the memory system counts

-- an area's pages are below the top
pub below-top : (on : Pages) (page : ℕ) → AreLaid on → is_some (on page) ≡ true → page < top_page
below-top on page laid = by (on page) refl
  where
    inside : (first past : ℕ) → within first (past - first) page ≡ true → past ≤ top_page
        → page < top_page
    inside first past here high = grind (arith, nat_tests, here, high)

    by : (o : Option Area) → on page ≡ o → is_some o ≡ true → page < top_page
    by None at h = absurd (false≢true h)
    by (Some area) at h =
        inside (first_of area) (past_of area) (laid.here page area at) (laid.whole page area at).high

-- a frame that an entry names is one of the machine's
pub ledger-within : (d : Device) (k : Mem) (l : Ledger) → HasLedger d k l → AreWithin (view k)
ledger-within d k l h p page = by ((view k).table p page) (h.parts.tables.entries p page)
  where
    at : (e : Entry) → entry l (p, page) ≡ Some e → IsEntryWithin (view k) e
    at Zero is = tt
    at (InFrame f seen) is =
        let some = how_many-found (names_frame f) (p, page) l.entries (InFrame f seen) is (same-itself f) in
        h.sound.in_range f (omega (arith, some))
    at (InSlot s) is = tt

    by : (o : Option Plain) → entry_of o ≡ entry l (p, page) → IsWithin (view k) o
    by None is = tt
    by (Some t) is = at t.entry (sym is)

module _ {d : Device} (k : Mem) (s : State) (keeps : Keeps d k s) where
  pub steady-within : AreWithin (view k)
  steady-within = ledger-within d k s.ledger (orderly k s keeps)

  -- a range's entries of locked pages are those that memories and ledger say
  pub range-told : (p from n f : ℕ)
      → locks_in k p from n f ≡ lock_count_in s.world s.ledger p from n f
  range-told = locks-in-range k s.world s.ledger keeps.stands.sound.ledger.in_order
      keeps.stands.parts.areas keeps.stands.parts.ledger.tables.entries

  pub range-counted : (p from n f : ℕ) → locks_in k p from n f ≤ locks_of k f
  range-counted p from n f =
      let told = range-told p from n f in
      let few = range-few s.world s.ledger p from n f in
      let counted = keeps.locks f in
      omega (arith, told, few, counted)

  -- there is room to count more than a range can have
  pub counts-few : AllRising k.spaces.processes → (f : ℕ)
      → locks_of k f ≤ most_processes * top_page
  counts-few rising f =
      let counted = keeps.locks f in
      let few = locks-few s.world s.ledger f in
      let most = map_count-pages (setting_by d k) s.world s.ledger f keeps.stands.sound below in
      omega (arith, counted, few, most)
    where
      alike : (o : Option Area) (x : Option Page)
          → option_map (λ (area : Area). area.flags) o ≡ option_map (λ (y : Page). y.flags) x
          → is_some x ≡ true → is_some o ≡ true
      alike None None same h = h
      alike None (Some x) same h = cc
      alike (Some area) x same h = refl

      below : (p page : ℕ) → is_some (pages s.world p page) ≡ true → page < top_page
      below p page h = below-top (pages_of k.spaces.processes p) page
          (laid k.spaces.processes p rising)
          (alike (pages_of k.spaces.processes p page) (pages s.world p page)
          (keeps.stands.parts.areas.flags p page) h)

  -- a range's are off the count, and its entries or its pages have gone
  pub counted-off : (new : Mem) (p from n : ℕ) (w : World) (l : Ledger)
      → ((f : ℕ) → locks_of k f ≡ locks_of new f + locks_in k p from n f)
      → ((f : ℕ) → lock_count w l f + lock_count_in s.world s.ledger p from n f
      ≡ lock_count s.world s.ledger f)
      → AreLocks (locks_of new) w l
  counted-off new p from n w l off gone f =
      let counted = keeps.locks f in
      let told = range-told p from n f in
      let one = off f in
      let other = gone f in
      omega (arith, counted, told, one, other)

  -- a range's are off the count before its pages change, and counted again behind it
  pub counted-anew : (new : Mem) (p from n : ℕ) (now : Process)
      → AreasStand (view new) (set_process s.world p now) → new.tables ≡ k.tables
      → ((page : ℕ) → within from n page ≡ false
      → is_locked_page (now page) ≡ is_locked_page (pages s.world p page))
      → ((f : ℕ) → locks_of new f + locks_in k p from n f ≡ locks_of k f + locks_in new p from n f)
      → AreLocks (locks_of new) (set_process s.world p now) s.ledger
  counted-anew new p from n now areas tables same counts f =
      let counted = keeps.locks f in
      let was = range-told p from n f in
      let is = locks-in-range new (set_process s.world p now) s.ledger
      keeps.stands.sound.ledger.in_order areas entries p from n f in
      let anew = counts f in
      let changed = range-changed s.world (set_process s.world p now) s.ledger p from n f others in
      omega (arith, counted, was, is, anew, changed)
    where
      entries : (q page : ℕ) → entry_of (plain (entry_at new.tables q page)) ≡ entry s.ledger (q, page)
      entries q page = ap (λ (t : ProcessTables). entry_of (plain (entry_at t q page))) tables
          ∙ keeps.stands.parts.ledger.tables.entries q page

      others : (x : Key) → is_within p from n x ≡ false
          → locked_at (set_process s.world p now) x ≡ locked_at s.world x
      others x beyond = locked-set s.world p now x ∙ by (x.0 == p) (within from n x.1) refl refl beyond
        where
          by : (b c : Bool) → (x.0 == p) ≡ b → within from n x.1 ≡ c → (b && c) ≡ false
              → cond b (is_locked_page (now x.1)) (locked_at s.world x) ≡ locked_at s.world x
          by true true is in_range h = absurd (false≢true (sym h))
          by true false is out h =
              same x.1 out ∙ ap (λ q. is_locked_page (pages s.world q x.1)) (sym (is_number x.0 p is))
          by false c is h e = refl

  -- nothing is counted, and a change leaves which pages are locked
  pub counts-kept : (p from n : ℕ) (change : Page → Page)
      → ((x : Page) → (change x).flags.locked ≡ x.flags.locked)
      → AreLocks (locks_of k)
      (set_process s.world p (with_change_on (pages s.world p) from n change)) s.ledger
  counts-kept p from n change same f = keeps.locks f
      ∙ sym (locks-kept s.world p (with_change_on (pages s.world p) from n change) s.ledger f
      (λ page some. by (within from n page) (pages s.world p page)))
    where
      by : (b : Bool) (o : Option Page)
          → is_locked_page (cond b (option_map change o) o) ≡ is_locked_page o
      by true None = refl
      by true (Some x) = same x
      by false o = refl

-- ---- the frames alone are others

-- the memory system is seen as before
pub record IsRecounted (old new : Mem) : Type 0 where
  pub seen : view new ≡ view old
  pub rest : new ≡ record old { frames = new.frames }

module _ (d : Device) (old new : Mem) (h : IsRecounted old new) where
  pub recounted-ledger : (l : Ledger) → HasLedger d old l → HasLedger d new l
  recounted-ledger l had =
      subst (λ (v : View). SoundLedger (setting_of v.frames d) (sizes_of new) v l) (sym h.seen)
      (subst (λ (sizes : Sizes). SoundLedger (setting_by d old) sizes (view old) l)
      (sym (ap sizes_of h.rest)) had)

  pub recounted-zapped : (mid : Mem) (l : Ledger) (events : List Event) (before now : List Note)
      → HasZapped d new mid l events before now → HasZapped d old mid l events before now
  recounted-zapped mid l events before now zapped = record {
    stands = zapped.stands;
    notes = zapped.notes;
    free = subst (λ (v : View). ChoosesAll (setting_of v.frames d) None l events (free_of v)
        (free_of (view mid))) h.seen zapped.free;
    items = λ items are. zapped.items items
        (subst (λ (v : View). ItemsAre v l items) (sym h.seen) are);
  }

-- ---- a lock is set or cleared

-- the same frames and entries
pub within-by : (v v' : View) → v'.frames ≡ v.frames → v'.table ≡ v.table → AreWithin v → AreWithin v'
within-by v v' frames table h p page = by (v'.table p page)
    (subst (λ (o : Option Plain). IsWithin v o) (λ i. sym table i p page) (h p page))
  where
    at : (e : Entry) → IsEntryWithin v e → IsEntryWithin v' e
    at Zero is = tt
    at (InFrame f seen) is = subst (λ (n : ℕ). f < n) (sym frames) is
    at (InSlot s) is = tt

    by : (o : Option Plain) → IsWithin v o → IsWithin v' o
    by None is = tt
    by (Some t) is = at t.entry is

-- between `off` and `new` the areas change
module _ (set : Bool) (old off new : Mem) (spaces : AllSpaces) (anons : AnonSet) (p from n to : ℕ)
    (first : IsRecounted old off) (second : IsRecounted (record off { spaces = spaces; anons = anons }) new)
    (down : (f : ℕ) → locks_of old f ≡ locks_of off f + locks_in old p from (from + n - from) f)
    (up : (f : ℕ) → locks_of new f ≡ locks_of off f
    + locks_in (record off { spaces = spaces; anons = anons }) p from (from + n - from) f)
    (reached : GoesTo (is_taken off.spaces.processes p) from (from + n) to)
    (areas : IsChanged off.spaces.processes spaces.processes p (AreThese (pages_changed
    (lengths off.spaces.areas off.anons) (to_flag Locked set) from (to - from) (pages_of off.spaces.processes p))))
    (mapping : IsRemapped from to (to_flag Locked set) (pages_of off.spaces.processes p) (pages_of spaces.processes p))
    (stay : AnonsStay off.spaces off.anons spaces anons) where
  abbrev whole : Mem
  whole = record old { frames = new.frames; spaces = spaces; anons = anons }

  is : new ≡ whole
  is = second.rest ∙ ap (λ (k : Mem). record k { frames = new.frames; spaces = spaces; anons = anons }) first.rest

  pub sets-lock : SetsLock set old new p from n to
  sets-lock = subst (λ (k : Mem). SetsLock set old k p from n to) (sym is) (record {
    reached = subst (λ (k : Mem). GoesTo (is_taken k.spaces.processes p) from (from + n) to) first.rest reached;
    areas = subst (λ (k : Mem). IsChanged k.spaces.processes spaces.processes p (AreThese (pages_changed
        (lengths k.spaces.areas k.anons) (to_flag Locked set) from (to - from) (pages_of k.spaces.processes p))))
        first.rest areas;
    mapping = subst (λ (k : Mem). IsRemapped from to (to_flag Locked set) (pages_of k.spaces.processes p)
        (pages_of spaces.processes p)) first.rest mapping;
    anons = subst (λ (k : Mem). AnonsStay k.spaces k.anons spaces anons) first.rest stay;
    locks = λ f.
        let one = down f ∙ ap (λ m. locks_of off f + locks_in old p from m f) size in
        let other = up f ∙ ap (λ m. locks_of off f
        + locks_in (record off { spaces = spaces; anons = anons }) p from m f) size in
        let same = ap (λ (k : Mem). locks_in (record k { spaces = spaces; anons = anons }) p from n f) first.rest in
        sum _ _ _ _ _ _ one other same;
    seen = ap view (sym is) ∙ second.seen ∙ ap (λ (v : View). record v {
      processes = length spaces.processes;
      areas = areas_of spaces.processes;
      anons = anons_of spaces anons;
    }) first.seen;
    rest = refl;
  })
    where
      size : from + n - from ≡ n
      size = omega arith

      sum : (a b c i j k : ℕ) → a ≡ b + i → c ≡ b + j → j ≡ k → c + i ≡ a + k
      sum a b c i j k e g h = omega arith
