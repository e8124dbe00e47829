-- A process forks: the child has the entries of the parent that go over, and its pages hold what the flags of the parent's say.
use Rattle.std.proofs.Common.{◌≡◌, ℕ, ◌+◌, ◌-◌, ◌*◌, ◌<◌, ◌≤◌, Bool, true, false, cond, not, ◌&&◌, [], ◌∷◌, List, Some, None, IfSome, is_some, option_map, refl, sym, ap, subst, ◌∙◌, arith, ◌==◌, Option}
use Rattle.std.proofs.lemmas.Bool.Decides.{nat_tests}
use Rattle.std.proofs.lemmas.Bool.{false≢true}
use Rattle.std.specs.Prelude.{MatchOption, option_and_then}
use Rattle.av_base.specs.Flags.{unlocked}
use Rattle.av_base.specs.Keys.{Key}
use Rattle.av_base.specs.Limits.{most_processes, top_page}
use Rattle.av_base.specs.Words.{with_at, within}
use Rattle.av_base.specs.declared.flags.Flags.{Flags}
use Rattle.av_base.specs.declared.slot.Slot.{Slot}
use Rattle.av_trace.specs.declared.command.Command.TheVariants.{Fork}
use Rattle.av_trace.specs.declared.reply.Errno.TheVariants.{Esrch}
use Rattle.av_trace.specs.declared.reply.Answer.TheVariants.{Done}
use Rattle.av_trace.specs.Reply.{answer_only}
use Rattle.av_vma.specs.Index.{first_of, past_of}
use Rattle.av_vma.specs.Pages.{pages_in}
use Rattle.av_vma.specs.declared.area.Area.{Area}
use Rattle.av_pagetable.specs.Entries.{ProcessTables, entry_at, has}
use Rattle.av_plain.specs.Device.{Device}
use Rattle.av_plain.specs.World.{Page, child_of, is_locked_page, lives, page_of_child, pages, set_process, wiped, without_lock}
use Rattle.av_plain.specs.Ledger.{Ledger, entry}
use Rattle.av_plain.specs.Event.{Forked}
use Rattle.av_plain.specs.Fork.{goes_over, inheritance}
use Rattle.av_plain.specs.Refusal.{tests, refusal, Refuses}
use Rattle.av_plain.specs.Step.{Follows}
use Rattle.av_plain.specs.Choice.{Chooses}
use Rattle.av_plain.specs.Stands.{AnonsStand, AreasStand, BytesStand, HomesAre, ItemsAre, free_of}
use Rattle.av_plain.specs.Transcript.{State, IsStep, rmap_of}
use Rattle.av_plain.proofs.Covered.Fork.{GoWhole, IsWhole, sound-forked}
use Rattle.av_plain.proofs.Covered.MergedFork.{merged-forked}
use Rattle.av_plain.proofs.Covered.SlotsFork.{slots-forked}
use Rattle.av_plain.proofs.Fork.{child_ledger, inherited-goes}
use Rattle.av_plain.proofs.Fork.Areas.{ChildHas, child-has, forked_at, in_child}
use Rattle.av_plain.proofs.Sound.{no_entries}
use Rattle.av_plain.proofs.Sound.Bound.{map_count-pages}
use Rattle.av_plain.proofs.Sound.Counts.{same-itself}
use Rattle.av_plain.proofs.Sound.Means.{says}
use Rattle.av_plain.proofs.World.{pages-set, lives-set, length-set_new}
use Rattle.av_mem.specs.declared.mem.Mem.{Mem}
use Rattle.av_mem.specs.Mem.{locks_of, setting_by, view, HasLedger, HasTables, Keeps}
use Rattle.av_mem.specs.Steps.{KeepsRest}
use Rattle.av_swap_laws.proofs.Fork.{fork-bytes}
use Rattle.av_swap_laws.proofs.LockRange.{locked_at, locks-forked}
use Rattle.av_swap_laws.specs.Locks.{AreLocks}
use Rattle.av_swap_laws.specs.Held.{AllCovered}
use Rattle.av_mem.proofs.MemLaws.{alive_is, lives_is, all_apart, prot_on, prots_are}
use Rattle.av_anon.specs.declared.anons.Anons.{Anons as AnonSet}
use Rattle.av_spaces.specs.Spaces.{AllSpaces, areas_of, pages_of}
use Rattle.av_spaces.proofs.Rising.{laid}
use Rattle.av_fork.specs.Areas.{HasFork}
use Rattle.av_fork.specs.Entries.{FlagsAre, HasForkedEntries}
use Rattle.av_kernel.specs.Process.{new_tests}
use Rattle.av_step.specs.Step.{StepsBeside}
use Rattle.av_step.proofs.StepLaws.{at_number, is_number, moved_on, stays_orderly, stepped, swap_alike}
use Rattle.av_kernel.proofs.LockedRanges.{below-top, locked-set}
use Rattle.av_kernel.proofs.ProcessLaws.{absent, flags_at, new_is, new_refusal}
use Rattle.av_step.proofs.Loads.{world_as}

some_mapped : {X Y : Type 0} (f : X → Y) (o : Option X) → is_some (option_map f o) ≡ is_some o
some_mapped f None = refl
some_mapped f (Some x) = refl

-- ---- refusals
-- where the parent lives, it is refused as its child

pub fork_is : {d : Device} (k : Mem) (s : State) (p q : ℕ) → Keeps d k s → is_some (areas_of k.spaces.processes p) ≡ true
    → refusal (tests (setting_by d k) s.world s.ledger (Fork p q)) ≡ refusal (new_tests k.spaces.processes q)
fork_is {d} k s p q keeps alive = ap (λ b. cond (not b) (Some Esrch) (new_refusal s.world q)) (sym (lives_is d k s keeps p) ∙ alive)
    ∙ new_is k s q keeps

-- ---- entries

-- the parent is not the child
apart_from : {d : Device} (k : Mem) (s : State) (p q : ℕ) → Keeps d k s → is_some (areas_of k.spaces.processes p) ≡ true
    → areas_of k.spaces.processes q ≡ None → (p == q) ≡ false
apart_from {d} k s p q keeps alive dead = by (p == q) refl
  where
    by : (b : Bool) → (p == q) ≡ b → b ≡ false
    by true same = absurd (false≢true (sym (ap is_some (ap (areas_of k.spaces.processes) (is_number p q same) ∙ dead)) ∙ alive))
    by false other = refl

-- the areas of the others stay as the child's come
areas_left : (k gone : Mem) (s : State) (p q x : ℕ) → HasFork k gone p q s → (x == q) ≡ false
    → areas_of gone.spaces.processes x ≡ areas_of k.spaces.processes x
areas_left k gone s p q x shown other = shown.spawned.areas x ∙ ap (λ b. cond b (Some shown.these) (areas_of k.spaces.processes x)) other

-- so the parent's have the flags of its pages
pub flags_left : {d : Device} (k gone : Mem) (tables : ProcessTables) (s : State) (p q : ℕ) → Keeps d k s
    → is_some (areas_of k.spaces.processes p) ≡ true → areas_of k.spaces.processes q ≡ None → HasFork k gone p q s
    → FlagsAre (view (record gone { tables = tables })) p (pages s.world p)
flags_left k gone tables s p q keeps alive dead shown page =
    ap (λ o. flags_at o page) (areas_left k gone s p q p shown (apart_from k s p q keeps alive dead)) ∙ keeps.stands.parts.areas.flags p page

-- the pages of a process are below the top
pages_below : {d : Device} (k gone : Mem) (s : State) (p q : ℕ) → Keeps d k s → areas_of k.spaces.processes q ≡ None → HasFork k gone p q s
    → (x page : ℕ) → is_some (pages s.world x page) ≡ true → page < top_page
pages_below k gone s p q keeps dead shown x page is = by (x == q) refl
  where
    mapped : (o : Option (List Area)) → areas_of k.spaces.processes x ≡ o → is_some (pages_in o page) ≡ true
    mapped o at = sym (some_mapped (λ (area : Area). area.flags) (pages_in o page))
        ∙ ap (λ o. is_some (flags_at o page)) (sym at) ∙ ap is_some (keeps.stands.parts.areas.flags x page)
        ∙ some_mapped (λ (y : Page). y.flags) (pages s.world x page) ∙ is

    by : (b : Bool) → (x == q) ≡ b → page < top_page
    by true same = absurd (false≢true (mapped None (ap (areas_of k.spaces.processes) (is_number x q same) ∙ dead)))
    by false other = below-top (pages_of gone.spaces.processes x) page (laid gone.spaces.processes x shown.spawned.rising)
        (ap (λ o. is_some (pages_in o page)) (areas_left k gone s p q x shown other) ∙ mapped (areas_of k.spaces.processes x) refl)

-- no more entries name a frame than there may be pages
pub entries_few : {d : Device} (k gone : Mem) (s : State) (p q : ℕ) → Keeps d k s → areas_of k.spaces.processes q ≡ None → HasFork k gone p q s
    → (f : ℕ) → (view k).maps f ≤ most_processes * top_page
entries_few {d} k gone s p q keeps dead shown f =
    let same = keeps.stands.parts.ledger.frames.maps f in
    let few = map_count-pages (setting_by d k) s.world s.ledger f keeps.stands.sound (pages_below k gone s p q keeps dead shown) in
    omega (arith, same, few)

-- nor a slot than processes may live: of each process one does at most
pub slots_few : {d : Device} (k : Mem) (s : State) → Keeps d k s → (slot : Slot) → (view k).entries slot ≤ most_processes
slots_few {d} k s keeps slot =
    let same = keeps.stands.parts.ledger.swap.counts slot in
    let named = (says (setting_by d k) s.world s.ledger keeps.stands.sound).slot_entries_few slot in
    let few = keeps.stands.sound.world.few in
    omega (arith, same, named, few)

-- the parts stand for the ledger still, once the areas went over and the child has a table
pub still_orderly : (d : Device) (old gone : Mem) (tables : ProcessTables) (l : Ledger)
    → gone ≡ record old { spaces = gone.spaces; anons = gone.anons } →
    entry_at tables ≡ entry_at gone.tables → HasLedger d old l → HasLedger d (record gone { tables = tables }) l
still_orderly d old gone tables l rest entries h =
    subst (λ (k : Mem). HasLedger d (record k { tables = tables }) l) (sym rest)
    (stays_orderly d old tables gone.spaces gone.anons l (entries ∙ ap (λ (k : Mem). entry_at k.tables) rest) h)

-- the child has a table
pub has_table : (k : Mem) (tables : ProcessTables) (q : ℕ) → has tables ≡ with_at q true (has k.tables) → has tables q ≡ true
has_table k tables q processes = ap (λ (h : ℕ → Bool). h q) processes ∙ ap (λ b. cond b true (has k.tables q)) (itself q)
  where
    itself : (n : ℕ) → (n == n) ≡ true
    itself n = grind (arith, nat_tests)

-- ---- areas and pages alike

-- an area has the protection and the flags of the page, or there is neither
record AreAlike (area : Option Area) (page : Option Page) : Type 0 where
  prot : option_map prot_on area ≡ option_map (λ (x : Page). x.prot) page
  flags : option_map (λ (area : Area). area.flags) area ≡ option_map (λ (x : Page). x.flags) page

-- the child's area of a page is like the page that it gets
alike_in_child : (q : ℕ) (own : Option ℕ) (area : Option Area) (page : Option Page) (next : Option Area) → AreAlike area page
    → (forked_at area ≡ None → next ≡ None) → ((a : Area) → forked_at area ≡ Some a → next ≡ Some (in_child q a own))
    → AreAlike next (option_and_then page_of_child page)
alike_in_child q own None None next alike none here = subst (λ o. AreAlike o None) (sym (none refl)) (record { prot = refl; flags = refl })
alike_in_child q own None (Some x) next alike none here = absurd (let e = alike.flags in cc)
alike_in_child q own (Some a) None next alike none here = absurd (let e = alike.flags in cc)
alike_in_child q own (Some a) (Some x) next alike none here = by x.flags.dont_fork (ap (λ (f : Flags). f.dont_fork) same_flags) none (here a)
  where
    value : {X : Type 0} (y z : X) → Some y ≡ Some z → y ≡ z
    value y z e = cc

    same_flags : a.flags ≡ x.flags
    same_flags = value a.flags x.flags alike.flags

    same_prot : a.prot ≡ x.prot
    same_prot = value a.prot x.prot alike.prot

    kept : (b : Bool) → AreAlike (Some (in_child q a own)) (Some (without_lock (cond b (wiped x) x)))
    kept true = record { prot = ap Some same_prot; flags = ap (λ (f : Flags). Some (unlocked f)) same_flags }
    kept false = record { prot = ap Some same_prot; flags = ap (λ (f : Flags). Some (unlocked f)) same_flags }

    by : (b : Bool) → a.flags.dont_fork ≡ b → (cond a.flags.dont_fork None (Some a) ≡ None → next ≡ None)
        → (cond a.flags.dont_fork None (Some a) ≡ Some a → next ≡ Some (in_child q a own))
        → AreAlike next (cond b None (Some (without_lock (cond x.flags.wipe_on_fork (wiped x) x))))
    by true e none here = subst (λ o. AreAlike o None) (sym (none (ap (λ b. cond b None (Some a)) e))) (record { prot = refl; flags = refl })
    by false e none here = subst (λ o. AreAlike o (Some (without_lock (cond x.flags.wipe_on_fork (wiped x) x))))
        (sym (here (ap (λ b. cond b None (Some a)) e))) (kept x.flags.wipe_on_fork)

-- the area of a page that goes over with its entry goes over as it is
whole_by : (area : Option Area) (page : Option Page)
    → option_map (λ (area : Area). area.flags) area ≡ option_map (λ (x : Page). x.flags) page → goes_over page ≡ true → IfSome area IsWhole
whole_by None page same over = tt
whole_by (Some area) None same over = absurd (false≢true over)
whole_by (Some area) (Some page) same over =
    let two = neither page.flags.dont_fork page.flags.wipe_on_fork over in
    record { over = ap (λ (f : Flags). f.dont_fork) flags ∙ two.0; kept = ap (λ (f : Flags). f.wipe_on_fork) flags ∙ two.1 }
  where
    flags : area.flags ≡ page.flags
    flags = cc

    neither : (a b : Bool) → (not a && not b) ≡ true → (a ≡ false) × (b ≡ false)
    neither true b h = absurd (false≢true h)
    neither false true h = absurd (false≢true h)
    neither false false h = (refl, refl)

-- ---- the whole

-- the areas went over, and then the entries, into an empty table
module _ {d : Device} (old mid : Mem) (tables : ProcessTables) (spaces : AllSpaces) (anons : AnonSet) (s : State) (p q : ℕ) (keeps : Keeps d old s)
    (alive : is_some (areas_of old.spaces.processes p) ≡ true) (may : refusal (new_tests old.spaces.processes q) ≡ None)
    (shown : HasFork old (moved_on old old.tables spaces anons) p q s)
    (processes : has tables ≡ with_at q true (has old.tables)) (given : HasForkedEntries d (moved_on old tables spaces anons) mid (pages s.world p) s.ledger p q)
    (rest : KeepsRest (moved_on old tables spaces anons) mid) where
  abbrev new : Mem
  new = moved_on mid mid.tables spaces anons

  -- the pages of the entries that go over
  abbrev over : List ℕ
  over = inheritance (pages s.world p) s.ledger p

  abbrev l : Ledger
  l = child_ledger p q over s.ledger

  child_dead : lives s.world q ≡ false
  child_dead = sym (lives_is d old s keeps q) ∙ ap is_some (absent old.spaces.processes q may)

  apart : (p == q) ≡ false
  apart = apart_from old s p q keeps alive (absent old.spaces.processes q may)

  no_entry : (page : ℕ) → entry s.ledger (q, page) ≡ None
  no_entry = no_entries s.world s.ledger q keeps.stands.sound.at_pages child_dead

  child : ChildHas p q (rmap_of s) shown.next
  child = child-has p q (rmap_of s) shown.next shown.forked

  abbrev next : State
  next = record {
    world = set_process s.world q (child_of (pages s.world p));
    ledger = l;
    free = free_of (view mid);
    areas = shown.next.areas;
    anons = shown.next.anons;
    homes = shown.next.homes;
    items = shown.next.items;
  }

  allowed : refusal (tests (setting_by d old) s.world s.ledger (Fork p q)) ≡ None
  allowed = fork_is old s p q keeps alive ∙ may

  fork-step : IsStep (setting_by d old) s (Fork p q) (answer_only Done) next
  fork-step =
      let events = Forked p q (over) ∷ [] in
      record {
        events = events;
        legal = record {
          answer = subst (λ o. MatchOption o (Follows (setting_by d old) s.world s.ledger (Fork p q) events Done []) (λ e. Refuses e events Done []))
              (sym allowed) (refl, refl, refl);
          notes = refl;
        };
        world = world_as (setting_by d old) s.world s.ledger events (Fork p q) Done refl;
        ledger = refl;
        free = (
          free_of (view mid),
          subst (λ free. Chooses (setting_by d old) None s.ledger (Forked p q (over)) free (free_of (view mid)))
              keeps.stands.free given.free,
          refl,
        );
        rmap = shown.forked;
        shows = tt;
      }

  -- ---- what stands then

  page_now : (k page : ℕ) → pages next.world k page ≡ cond (k == q) (child_of (pages s.world p) page) (pages s.world k page)
  page_now k page = pages-set s.world q (child_of (pages s.world p)) k page
      ∙ ap (λ b. cond b (child_of (pages s.world p) page) (pages s.world k page)) (at_number k q)

  was_marked : (k page : ℕ) → AreAlike (s.areas k page) (pages s.world k page)
  was_marked k page = record {
    prot = ap (option_map prot_on) (sym (keeps.stands.areas k page)) ∙ sym (prots_are old.spaces.processes k page)
        ∙ keeps.stands.parts.areas.covers k page;
    flags = ap (option_map (λ (area : Area). area.flags)) (sym (keeps.stands.areas k page)) ∙ keeps.stands.parts.areas.flags k page;
  }

  -- the child's areas have the protections and flags of its pages
  marked : (k page : ℕ) → AreAlike (shown.next.areas k page) (pages next.world k page)
  marked k page = subst (AreAlike (shown.next.areas k page)) (sym (page_now k page)) (by (k == q) refl)
    where
      by : (b : Bool) → (k == q) ≡ b → AreAlike (shown.next.areas k page) (cond b (child_of (pages s.world p) page) (pages s.world k page))
      by true same = subst (λ n. AreAlike (shown.next.areas n page) (child_of (pages s.world p) page)) (sym (is_number k q same))
          (alike_in_child q (child.own page) (s.areas p page) (pages s.world p page) (shown.next.areas q page) (was_marked p page) (child.none page)
          (child.here page))
      by false other = subst (λ o. AreAlike o (pages s.world k page)) (sym (child.others k page other)) (was_marked k page)

  areas_now : AreasStand (view new) next.world
  areas_now = record {
    alive = λ k. ap is_some (shown.spawned.areas k) ∙ lives_as k (k == q)
        ∙ sym (lives-set s.world q (child_of (pages s.world p)) k ∙ ap (λ b. cond b true (lives s.world k)) (at_number k q));
    number = shown.spawned.number ∙ ap (λ n. n + 1) keeps.stands.parts.areas.number
        ∙ sym (length-set_new s.world q (child_of (pages s.world p)) keeps.stands.sound.world.in_order child_dead);
    apart = all_apart spaces.processes shown.spawned.rising;
    covers = λ k page. prots_are spaces.processes k page ∙ ap (option_map prot_on) (shown.areas k page) ∙ (marked k page).prot;
    flags = λ k page. ap (option_map (λ (area : Area). area.flags)) (shown.areas k page) ∙ (marked k page).flags;
  }
    where
      lives_as : (k : ℕ) (b : Bool) → is_some (cond b (Some shown.these) (areas_of old.spaces.processes k)) ≡ cond b true (lives s.world k)
      lives_as k true = refl
      lives_as k false = keeps.stands.parts.areas.alive k

  tables_now : HasTables new
  tables_now k = ap (λ (h : ℕ → Bool). h k) (rest.parts.processes ∙ processes) ∙ by (k == q)
      ∙ sym (alive_is spaces.processes k ∙ ap is_some (shown.spawned.areas k))
    where
      by : (b : Bool) → cond b true (has old.tables k) ≡ is_some (cond b (Some shown.these) (areas_of old.spaces.processes k))
      by true = refl
      by false = keeps.tables k ∙ alive_is old.spaces.processes k

  -- each page keeps its bytes, and the child's by the entry that went over
  bytes_now : BytesStand (view new) d next.world l
  bytes_now = fork-bytes (view old) (view new) d s.world s.ledger p q keeps.stands.sound.ledger.in_order rest.bytes no_entry keeps.stands.parts.bytes

  homes_now : HomesAre (view new) shown.next.homes
  homes_now f = ap (λ h. h f) rest.homes ∙ shown.homes f

  -- no item goes over
  items_now : ItemsAre (view new) l shown.next.items
  items_now = given.items shown.next.items shown.items

  -- what goes over with its entry is of areas that go over as they are
  whole : GoWhole over (s.areas p)
  whole page is = whole_by (s.areas p page) (pages s.world p page) (was_marked p page).flags (inherited-goes (pages s.world p) s.ledger p page is)

  covered_now : AllCovered l shown.next
  covered_now =
      let had = keeps.stands in
      let sorted = had.sound.ledger.in_order in
      record {
        frames = sound-forked s.ledger p q over (rmap_of s) shown.next sorted apart no_entry whole shown.forked had.reach;
        slots = slots-forked s.ledger p q over (rmap_of s) shown.next sorted apart no_entry whole shown.forked had.reach had.slots;
        merged = merged-forked s.ledger p q over (rmap_of s) shown.next sorted apart no_entry whole shown.forked had.reach had.slots had.merged;
      }

  -- none of the child's pages is locked
  locks_now : AreLocks (locks_of new) next.world l
  locks_now f = ap (λ (locks : ℕ → ℕ). locks f) rest.parts.locks ∙ keeps.locks f
      ∙ sym (locks-forked s.world next.world s.ledger p q over f no_entry child_off (λ k other. others k other))
    where
      off : (o : Option Page) → is_locked_page (option_and_then page_of_child o) ≡ false
      off None = refl
      off (Some x) = by x.flags.dont_fork x.flags.wipe_on_fork
        where
          by : (b c : Bool) → is_locked_page (cond b None (Some (without_lock (cond c (wiped x) x)))) ≡ false
          by true c = refl
          by false true = refl
          by false false = refl

      child_off : (page : ℕ) → locked_at next.world (q, page) ≡ false
      child_off page = locked-set s.world q (child_of (pages s.world p)) (q, page)
          ∙ ap (λ b. cond b (is_locked_page (child_of (pages s.world p) page)) (locked_at s.world (q, page))) (same-itself q)
          ∙ off (pages s.world p page)

      others : (k : Key) → (k.0 == q) ≡ false → locked_at next.world k ≡ locked_at s.world k
      others k other = locked-set s.world q (child_of (pages s.world p)) k
          ∙ ap (λ b. cond b (is_locked_page (child_of (pages s.world p) k.1)) (locked_at s.world k)) other

  anons_now : AnonsStand (view new) shown.next.areas shown.next.anons
  anons_now = record { next = shown.anons.next; kin = shown.anons.kin; chains = shown.anons.chains }

  steps : StepsBeside d old new s (Fork p q) (answer_only Done)
  steps = stepped old new s next (Fork p q) (answer_only Done) keeps fork-step rest.parts.count
      (swap_alike (moved_on old tables spaces anons) mid old new refl refl rest.parts.swap)
      (stays_orderly d mid mid.tables spaces anons l refl given.stands)
      refl shown.areas anons_now homes_now items_now covered_now shown.fit areas_now tables_now bytes_now locks_now

  forks : StepsBeside d old mid s (Fork p q) (answer_only Done)
  forks = subst (λ k. StepsBeside d old k s (Fork p q) (answer_only Done)) (sym rest.parts.stay) steps

-- neither frames nor entries changed as the areas went over
pub fork-steps : {d : Device} (old gone mid : Mem) (tables : ProcessTables) (s : State) (p q : ℕ) (keeps : Keeps d old s)
    → is_some (areas_of old.spaces.processes p) ≡ true → refusal (new_tests old.spaces.processes q) ≡ None
    → gone ≡ record old { spaces = gone.spaces; anons = gone.anons } → HasFork old gone p q s → has tables ≡ with_at q true (has gone.tables)
    → HasForkedEntries d (record gone { tables = tables }) mid (pages s.world p) s.ledger p q → KeepsRest (record gone { tables = tables }) mid →
    StepsBeside d old mid s (Fork p q) (answer_only Done)
fork-steps {d} old gone mid tables s p q keeps alive may same shown processes given rest =
    forks old mid tables gone.spaces gone.anons s p q keeps alive may
    (subst (λ (g : Mem). HasFork old g p q s) same shown)
    (processes ∙ ap (λ (g : Mem). with_at q true (has g.tables)) same)
    (subst (λ (g : Mem). HasForkedEntries d (record g { tables = tables }) mid (pages s.world p) s.ledger p q) same given)
    (subst (λ (g : Mem). KeepsRest (record g { tables = tables }) mid) same rest)
