-- A process that comes, and one that ends: its entries, its table and its areas have gone, and nothing of the others.
use Rattle.std.proofs.Common.{◌≡◌, ◌⊎◌, inl, inr, ℕ, suc, ◌+◌, ◌<◌, ◌≤◌, nat_le, Bool, true, false, cond, not, T, [], ◌∷◌, length, Some, None, is_some, option_map, refl, sym, ap, subst, ◌∙◌, arith, ◌==◌, Option, List}
use Rattle.std.proofs.lemmas.Bool.Decides.{nat_tests}
use Rattle.std.proofs.lemmas.Bool.{cases_lt, false≢true}
use Rattle.std.specs.Prelude.{MatchOption, map}
use Rattle.std.specs.Ordering.{nat_cmp, is_eq, is_lt}
use Rattle.std.specs.FinMap.Entries.{is_sorted, below_all, find}
use Rattle.av_base.specs.Keys.{Key}
use Rattle.av_base.specs.Limits.{most_processes}
use Rattle.av_base.specs.Words.{with_at}
use Rattle.av_base.specs.declared.flags.Flags.{Flags}
use Rattle.av_trace.specs.declared.command.Command.TheVariants.{Spawn, Exit}
use Rattle.av_vma.specs.declared.area.Area.{Area}
use Rattle.av_trace.specs.declared.reply.Errno.{Errno}
use Rattle.av_trace.specs.declared.reply.Errno.TheVariants.{Esrch, Eagain, Eexist}
use Rattle.av_trace.specs.declared.reply.Answer.TheVariants.{Done}
use Rattle.av_trace.specs.Reply.{answer_only}
use Rattle.av_trace.specs.declared.reply.Reply.{Reply}
use Rattle.av_trace.specs.declared.note.Note.{Note}
use Rattle.av_pagetable.specs.declared.pte.Pte.{Pte}
use Rattle.av_pagetable.specs.declared.pte.Pte.TheVariants.{Empty}
use Rattle.av_pagetable.specs.Entries.{ProcessTables, entry_at, has}
use Rattle.av_plain.specs.Device.{Device}
use Rattle.av_plain.specs.World.{World, Page, is_locked_page, no_pages, lives, pages, set_process, end_process}
use Rattle.av_plain.specs.Ledger.{Ledger, entry, names_frame}
use Rattle.av_plain.specs.Event.{Event, after_all, notes_of}
use Rattle.av_plain.specs.Fault.{asks_copy}
use Rattle.av_plain.specs.Zap.{keys_of_process, zaps_of}
use Rattle.av_plain.specs.Refusal.{tests, refusal, Refuses}
use Rattle.av_plain.specs.Step.{Follows}
use Rattle.av_plain.specs.Choice.{ChoosesAll}
use Rattle.av_plain.proofs.AreasLeft.{rmap_after_all-zaps}
use Rattle.av_plain.proofs.Covered.Zaps.{zaps-reach}
use Rattle.av_plain.specs.Areas.{AreNext, none_on}
use Rattle.av_vma.specs.Pages.{home_of, pages_in}
use Rattle.av_plain.specs.Stands.{AreasAre, View, free_of, Pte as Plain, IsKept, entry_of, prot_of, AreasStand, TablesStand}
use Rattle.av_plain.specs.Transcript.{State, IsStep, rmap_of}
use Rattle.av_plain.proofs.Ledger.Order.{both_first, both_second}
use Rattle.av_plain.proofs.World.{pages-set, lives-set, length-set_new}
use Rattle.av_plain.proofs.Zap.{entry-ended, entry-others}
use Rattle.av_plain.proofs.Sound.{no_entries}
use Rattle.av_plain.proofs.Sound.Counts.{same-itself}
use Rattle.av_plain.proofs.Sound.Zap.{process-ended, pages-ended}
use Rattle.av_mem.specs.declared.mem.Mem.{Mem}
use Rattle.av_spaces.specs.Spaces.{AllSpaces, Spaces, areas_of, pages_of, IsSpawned, IsEnded}
use Rattle.av_plain.specs.Report.{range_of}
use Rattle.av_mem.specs.Locked.{locks_in}
use Rattle.av_mem.specs.Mem.{locks_of, ranges_of, setting_by, plain, view, HasTables, Keeps, HasLedger}
use Rattle.av_swap_laws.specs.Locks.{AreLocks}
use Rattle.av_swap_laws.specs.LockRange.{lock_count_in}
use Rattle.av_swap_laws.proofs.LockRange.{locked_at, range-all}
use Rattle.av_swap_laws.proofs.Locks.{locks-process}
use Rattle.av_pagetable.specs.Table.{page_bound}
use Rattle.av_pagetable.proofs.Entries.{past_pages}
use Rattle.av_kernel.specs.Process.{new_tests}
use Rattle.av_kernel.proofs.LockedRanges.{IsRecounted, counted-off, locks-kept, recounted-zapped}
use Rattle.av_step.specs.Step.{StepsBeside}
use Rattle.av_mem.specs.Zap.{HasZapped}
use Rattle.av_mem.specs.Steps.{KeepsRest}
use Rattle.av_mem.proofs.StayLaws.{spaces-stay}
use Rattle.av_mem.proofs.MemLaws.{alive_is, lives_is, all_apart, kept-nothing}
use Rattle.av_anon.specs.declared.anons.Anons.{Anons as AnonSet}
use Rattle.av_spaces.specs.Kin.{AnonsStay}
use Rattle.av_mem.proofs.AnonLaws.{anons_stand, are_left, left_of}
use Rattle.av_step.proofs.CacheLeft.{bytes-left, cached-itself, zaps-cached}
use Rattle.av_step.proofs.StepLaws.{at_number, changed, is_number, moved_on, noted, orderly, reach_after, reach_of, state_after, stays_orderly, stepped, swap_alike, swap_itself}
use Rattle.av_step.proofs.Loads.{world_as}
use Rattle.av_plain.proofs.Load.{zaps-load_nothing}

-- ---- the ranges of a process that comes or goes

ranges_spawned : (old new : Spaces) (p : ℕ) → IsSpawned old new p [] → (q : ℕ) → ranges_of new q ≡ cond (q == p) (Some []) (ranges_of old q)
ranges_spawned old new p h q = ap (option_map (map range_of)) (h.areas q) ∙ by (q == p)
  where
    by : (b : Bool) → option_map (map range_of) (cond b (Some []) (areas_of old q)) ≡ cond b (Some []) (ranges_of old q)
    by true = refl
    by false = refl

ranges_ended : (old new : Spaces) (p : ℕ) → IsEnded old new p → (q : ℕ) → ranges_of new q ≡ cond (q == p) None (ranges_of old q)
ranges_ended old new p h q = ap (option_map (map range_of)) (h.areas q) ∙ by (q == p)
  where
    by : (b : Bool) → option_map (map range_of) (cond b None (areas_of old q)) ≡ cond b None (ranges_of old q)
    by true = refl
    by false = refl

-- the flags of a page of a process that may not live
abbrev pub flags_at : Option (List Area) → ℕ → Option Flags
flags_at areas page = option_map (λ (area : Area). area.flags) (pages_in areas page)

-- ---- one more process

-- the tests of a process that is to live, by the memories
abbrev pub new_refusal : World → ℕ → Option Errno
new_refusal w p = cond (lives w p) (Some Eexist) (cond (nat_le most_processes (length w)) (Some Eagain) None)

pub new_is : {d : Device} (k : Mem) (s : State) (p : ℕ) → Keeps d k s → new_refusal s.world p ≡ refusal (new_tests k.spaces.processes p)
new_is {d} k s p keeps = λ i. cond (sym (lives_is d k s keeps p) i) (Some Eexist)
    (cond (nat_le most_processes (sym keeps.stands.parts.areas.number i)) (Some Eagain) None)

-- one that may come doesn't live
pub absent : (s : Spaces) (p : ℕ) → refusal (new_tests s p) ≡ None → areas_of s p ≡ None
absent s p = by (areas_of s p)
  where
    by : (o : Option (List Area)) → cond (is_some o) (Some Eexist) (cond (nat_le most_processes (length s)) (Some Eagain) None) ≡ None → o ≡ None
    by None may = refl
    by (Some areas) may = cc

pub no_table : {d : Device} (k : Mem) (s : State) (p : ℕ) → Keeps d k s → areas_of k.spaces.processes p ≡ None → has k.tables p ≡ false
no_table {d} k s p keeps gone = keeps.tables p ∙ alive_is k.spaces.processes p ∙ ap is_some gone

-- ---- spawn

-- a process that didn't live does now
module _ {d : Device} (old : Mem) (tables : ProcessTables) (spaces : AllSpaces) (s : State) (p : ℕ) (keeps : Keeps d old s)
    (may : refusal (new_tests old.spaces.processes p) ≡ None)
    (entries : entry_at tables ≡ entry_at old.tables) (processes : has tables ≡ with_at p true (has old.tables))
    (spawned : IsSpawned old.spaces.processes spaces.processes p [])
    (stay : AnonsStay old.spaces old.anons spaces old.anons) where
  dead_before : lives s.world p ≡ false
  dead_before = sym (lives_is d old s keeps p) ∙ ap is_some (absent old.spaces.processes p may)

  spawn-allowed : refusal (tests (setting_by d old) s.world s.ledger (Spawn p)) ≡ None
  spawn-allowed = new_is old s p keeps ∙ may

  spawn-on : AreasAre (view (moved_on old tables spaces old.anons)) (with_at p none_on s.areas)
  spawn-on q page = ap (λ a. pages_in a page) (spawned.areas q) ∙ by (q == p)
    where
      by : (b : Bool) → pages_in (cond b (Some []) (areas_of old.spaces.processes q)) page ≡ (cond b none_on (s.areas q)) page
      by true = refl
      by false = keeps.stands.areas q page

  spawn-step : IsStep (setting_by d old) s (Spawn p) (answer_only Done) (state_after s p no_pages none_on s.ledger (free_of (view old)) old.anons)
  spawn-step = record {
    events = [];
    legal = record {
      answer = subst (λ o. MatchOption o (Follows (setting_by d old) s.world s.ledger (Spawn p) [] Done []) (λ e. Refuses e [] Done []))
          (sym spawn-allowed) (refl, refl, refl);
      notes = refl;
    };
    world = world_as (setting_by d old) s.world s.ledger [] (Spawn p) Done refl;
    ledger = refl;
    free = keeps.stands.free;
    rmap = record {
      areas = refl;
      anons = are_left d old s keeps spaces old.anons stay (with_at p none_on s.areas) spawn-on;
      homes = refl;
      items = refl;
    };
    shows = tt;
  }

  spawn-alive : (q : ℕ) → is_some (areas_of spaces.processes q) ≡ lives (set_process s.world p no_pages) q
  spawn-alive q = ap is_some (spawned.areas q) ∙ by (q == p) refl
      ∙ sym (lives-set s.world p no_pages q ∙ ap (λ b. cond b true (lives s.world q)) (at_number q p))
    where
      by : (b : Bool) → (q == p) ≡ b → is_some (cond b (Some []) (areas_of old.spaces.processes q)) ≡ cond b true (lives s.world q)
      by true e = refl
      by false e = keeps.stands.parts.areas.alive q

  spawn-areas : AreasStand (view (moved_on old tables spaces old.anons)) (set_process s.world p no_pages)
  spawn-areas = record {
    alive = spawn-alive;
    number = spawned.number ∙ ap (λ n. n + 1) keeps.stands.parts.areas.number
        ∙ sym (length-set_new s.world p no_pages keeps.stands.sound.world.in_order dead_before);
    apart = all_apart spaces.processes spawned.rising;
    covers = λ q page. ap (λ o. prot_of o page) (ranges_spawned old.spaces.processes spaces.processes p spawned q) ∙ by q page (q == p)
        ∙ sym (ap (option_map (λ (x : Page). x.prot))
        (pages-set s.world p no_pages q page ∙ ap (λ b. cond b None (pages s.world q page)) (at_number q p)));
    flags = λ q page. ap (λ o. flags_at o page) (spawned.areas q) ∙ flags_by q page (q == p)
        ∙ sym (ap (option_map (λ (x : Page). x.flags))
        (pages-set s.world p no_pages q page ∙ ap (λ b. cond b None (pages s.world q page)) (at_number q p)));
  }
    where
      by : (q page : ℕ) (b : Bool) → prot_of (cond b (Some []) (ranges_of old.spaces.processes q)) page ≡ option_map (λ (x : Page). x.prot)
          (cond b None (pages s.world q page))
      by q page true = refl
      by q page false = keeps.stands.parts.areas.covers q page

      flags_by : (q page : ℕ) (b : Bool) → flags_at (cond b (Some []) (areas_of old.spaces.processes q)) page ≡ option_map (λ (x : Page). x.flags)
          (cond b None (pages s.world q page))
      flags_by q page true = refl
      flags_by q page false = keeps.stands.parts.areas.flags q page

  spawn-tables : HasTables (moved_on old tables spaces old.anons)
  spawn-tables q = ap (λ (h : ℕ → Bool). h q) processes ∙ by (q == p)
      ∙ sym (ap is_some (ranges_spawned old.spaces.processes spaces.processes p spawned q))
    where
      by : (b : Bool) → cond b true (has old.tables q) ≡ is_some (cond b (Some []) (ranges_of old.spaces.processes q))
      by true = refl
      by false = keeps.tables q

  -- a process that did not live has no entry
  no_entry : (page : ℕ) → is_some (entry s.ledger (p, page)) ≡ true → ⊥
  no_entry page there = false≢true (sym (ap is_some (no_entries s.world s.ledger p keeps.stands.sound.at_pages dead_before page)) ∙ there)

  pub spawned-steps : StepsBeside d old (moved_on old tables spaces old.anons) s (Spawn p) (answer_only Done)
  spawned-steps = changed old (moved_on old tables spaces old.anons) s p no_pages none_on s.ledger keeps stay refl
      (swap_alike old old old (moved_on old tables spaces old.anons) refl refl (swap_itself old))
      (stays_orderly d old tables spaces old.anons s.ledger entries (orderly old s keeps))
      refl refl keeps.stands.items
      (λ q page other. refl) (cached-itself s.ledger) (λ page. kept-nothing d (view old) s.ledger (entry s.ledger (p, page))) (reach_of old s keeps)
      (λ page home there is. absurd (no_entry page there))
      (λ f. keeps.locks f ∙ sym (locks-kept s.world p no_pages s.ledger f (λ page there. absurd (no_entry page there)))) (Spawn p) (answer_only Done) spawn-step spawn-on spawn-areas spawn-tables

-- ---- exit: the memories

-- a process below all others takes away nothing of them
none_ended : (p : ℕ) (w : World) → T (below_all nat_cmp p w) → end_process w p ≡ w
none_ended p [] h = refl
none_ended p (e ∷ w) h = ap (λ b. cond (not b) (e ∷ end_process w p) (end_process w p))
    (other p e.0 (both_first (is_lt (nat_cmp p e.0)) (below_all nat_cmp p w) h))
    ∙ ap (λ w. e ∷ w) (none_ended p w (both_second (is_lt (nat_cmp p e.0)) (below_all nat_cmp p w) h))
  where
    other : (p q : ℕ) → T (is_lt (nat_cmp p q)) → (q == p) ≡ false
    other p q h = grind (arith, nat_tests, h)

-- one process fewer lives
length_ended : (w : World) (p : ℕ) → T (is_sorted nat_cmp w) → lives w p ≡ true → length (end_process w p) + 1 ≡ length w
length_ended [] p sorted alive = absurd (false≢true alive)
length_ended (e ∷ w) p sorted alive = by (e.0 == p) refl alive (λ alive. length_ended w p
    (both_second (below_all nat_cmp e.0 w) (is_sorted nat_cmp w) sorted) alive)
  where
    apart : (q p : ℕ) → (q == p) ≡ false → is_eq (nat_cmp p q) ≡ false
    apart q p h = grind (arith, nat_tests, h)

    longer : (n : ℕ) → n + 1 ≡ suc n
    longer n = omega arith

    one_more : (n m : ℕ) → n + 1 ≡ m → suc n + 1 ≡ suc m
    one_more n m h = omega arith

    by : (b : Bool) → (e.0 == p) ≡ b → lives (e ∷ w) p ≡ true → (lives w p ≡ true → length (end_process w p) + 1 ≡ length w)
        → length (cond (not b) (e ∷ end_process w p) (end_process w p)) + 1 ≡ suc (length w)
    by true is alive rest =
        ap (λ w. length w + 1) (none_ended p w (subst (λ q. T (below_all nat_cmp q w)) (is_number e.0 p is)
        (both_first (below_all nat_cmp e.0 w) (is_sorted nat_cmp w) sorted))) ∙ longer (length w)
    by false is alive rest = one_more (length (end_process w p)) (length w)
        (rest (sym (ap (λ b. is_some (cond b (Some e.1) (find nat_cmp p w))) (apart e.0 p is)) ∙ alive))

lives-ended : (w : World) (p q : ℕ) → lives (end_process w p) q ≡ cond (q == p) false (lives w q)
lives-ended w p q = ap is_some (process-ended w p q) ∙ by (q == p)
  where
    by : (b : Bool) → is_some (cond b None (find nat_cmp q w)) ≡ cond b false (is_some (find nat_cmp q w))
    by true = refl
    by false = refl

-- ---- exit: the end

-- its entries are counted no more (`off`) and have gone, and then its table and its areas
module _ {d : Device} (old off mid : Mem) (tables : ProcessTables) (spaces : AllSpaces) (anons : AnonSet) (s : State) (p : ℕ) (before notes : List Note)
    (keeps : Keeps d old s) (alive : is_some (ranges_of old.spaces.processes p) ≡ true)
    (same : IsRecounted old off) (most : ℕ) (high : page_bound ≤ most)
    (counts : (f : ℕ) → locks_of old f ≡ locks_of off f + locks_in old p 0 most f)
    (zapped : HasZapped d off mid s.ledger (zaps_of s.ledger (keys_of_process s.ledger p)) before notes) (rest : KeepsRest off mid)
    (processes : has tables ≡ with_at p false (has mid.tables)) (entries : entry_at tables ≡ with_at p (λ page. Empty) (entry_at mid.tables))
    (ended : IsEnded mid.spaces.processes spaces.processes p) (stay : AnonsStay old.spaces old.anons spaces anons) where
  -- its entries go by these events
  abbrev events : List Event
  events = zaps_of s.ledger (keys_of_process s.ledger p)

  abbrev l : Ledger
  l = after_all s.ledger events

  abbrev new : Mem
  new = moved_on mid tables spaces anons

  taken : HasZapped d old mid s.ledger events before notes
  taken = recounted-zapped d old off same mid s.ledger events before notes zapped

  same_spaces : mid.spaces ≡ old.spaces
  same_spaces = spaces-stay rest.parts ∙ ap (λ (k : Mem). k.spaces) same.rest

  same_tables : has mid.tables ≡ has old.tables
  same_tables = rest.parts.processes ∙ ap (λ (k : Mem). has k.tables) same.rest

  abbrev next : State
  next = record {
    world = end_process s.world p;
    ledger = l;
    free = free_of (view mid);
    areas = with_at p none_on s.areas;
    anons = left_of anons s.anons;
    homes = s.homes;
    items = s.items;
  }

  abbrev reply : Reply
  reply = noted Done (notes_of events)

  alive_now : lives s.world p ≡ true
  alive_now = sym (lives_is d old s keeps p) ∙ sym (alive_is old.spaces.processes p) ∙ alive

  allowed : refusal (tests (setting_by d old) s.world s.ledger (Exit p)) ≡ None
  allowed = ap (λ b. cond (not b) (Some Esrch) None) alive_now

  exit-on : AreasAre (view new) (with_at p none_on s.areas)
  exit-on q page = ap (λ a. pages_in a page) (ended.areas q) ∙ by (q == p)
    where
      by : (b : Bool) → pages_in (cond b None (areas_of mid.spaces.processes q)) page ≡ (cond b none_on (s.areas q)) page
      by true = refl
      by false = ap (λ (x : AllSpaces). pages_of x.processes q page) same_spaces ∙ keeps.stands.areas q page

  exit-step : IsStep (setting_by d old) s (Exit p) reply next
  exit-step = record {
    events = events;
    legal = record {
      answer = subst (λ o. MatchOption o (Follows (setting_by d old) s.world s.ledger (Exit p) events Done []) (λ e. Refuses e events Done []))
          (sym allowed) (refl, refl, refl);
      notes = refl;
    };
    world = world_as (setting_by d old) s.world s.ledger events (Exit p) Done (zaps-load_nothing s.ledger (keys_of_process s.ledger p));
    ledger = refl;
    free = subst (λ free. ChoosesAll (setting_by d old) None s.ledger events free (free_of (view mid))) keeps.stands.free taken.free;
    rmap = subst (λ r. AreNext r s.world (Exit p) Done (rmap_of next))
        (sym (rmap_after_all-zaps s.ledger (keys_of_process s.ledger p) s.ledger (rmap_of s)))
        (record { areas = refl; anons = are_left d old s keeps spaces anons stay (with_at p none_on s.areas) exit-on; homes = refl; items = refl });
    shows = tt;
  }

  -- ---- what stands then

  entry_is : (q page : ℕ) → entry_at tables q page ≡ cond (q == p) Empty (entry_at mid.tables q page)
  entry_is q page = ap (λ (t : ℕ → ℕ → Pte). t q page) entries ∙ by (q == p)
    where
      by : (b : Bool) → cond b (λ page. Empty) (entry_at mid.tables q) page ≡ cond b Empty (entry_at mid.tables q page)
      by true = refl
      by false = refl

  tables_now : TablesStand (view new) l
  tables_now = record {
    entries = λ q page. ap (λ e. entry_of (plain e)) (entry_is q page) ∙ kept q page (q == p) refl;
    write_bits = λ q page t f is writes names. bits (q == p) q page t f (sym (ap plain (entry_is q page)) ∙ is) writes names;
  }
    where
      kept : (q page : ℕ) (b : Bool) → (q == p) ≡ b → entry_of (plain (cond b Empty (entry_at mid.tables q page))) ≡ entry l (q, page)
      kept q page true e = sym (ap (λ n. entry l (n, page)) (is_number q p e) ∙ entry-ended s.ledger p page)
      kept q page false e = taken.stands.parts.tables.entries q page

      clash : {t : Plain} → None ≡ Some t → ⊥
      clash e = cc

      bits : (b : Bool) (q page : ℕ) (t : Plain) (f : ℕ) → plain (cond b Empty (entry_at mid.tables q page)) ≡ Some t →
          t.write ≡ true → names_frame f t.entry ≡ true → asks_copy l f ≡ false
      bits true q page t f is writes names = absurd (clash is)
      bits false q page t f is writes names = taken.stands.parts.tables.write_bits q page t f is writes names

  areas_now : AreasStand (view new) (end_process s.world p)
  areas_now = record {
    alive = λ q. ap is_some (ended.areas q) ∙ lives_as q (q == p) ∙ sym (lives-ended s.world p q);
    number = number _ _ _ _ (ended.number ∙ ap (λ (x : AllSpaces). length x.processes) same_spaces) keeps.stands.parts.areas.number
        (length_ended s.world p keeps.stands.sound.world.in_order alive_now);
    apart = all_apart spaces.processes ended.rising;
    covers = λ q page. ap (λ o. prot_of o page) (ranges_ended mid.spaces.processes spaces.processes p ended q) ∙ covered q page (q == p)
        ∙ sym (ap (option_map (λ (x : Page). x.prot)) (pages-ended s.world p q page));
    flags = λ q page. ap (λ o. flags_at o page) (ended.areas q) ∙ flagged q page (q == p)
        ∙ sym (ap (option_map (λ (x : Page). x.flags)) (pages-ended s.world p q page));
  }
    where
      number : (n m w w' : ℕ) → n + 1 ≡ m → m ≡ w → w' + 1 ≡ w → n ≡ w'
      number n m w w' a b c = omega arith

      lives_as : (q : ℕ) (b : Bool) → is_some (cond b None (areas_of mid.spaces.processes q)) ≡ cond b false (lives s.world q)
      lives_as q true = refl
      lives_as q false = ap (λ (x : AllSpaces). is_some (areas_of x.processes q)) same_spaces ∙ keeps.stands.parts.areas.alive q

      covered : (q page : ℕ) (b : Bool) → prot_of (cond b None (ranges_of mid.spaces.processes q)) page ≡ option_map (λ (x : Page). x.prot)
          (cond b None (pages s.world q page))
      covered q page true = refl
      covered q page false = ap (λ (x : AllSpaces). prot_of (ranges_of x.processes q) page) same_spaces ∙ keeps.stands.parts.areas.covers q page

      flagged : (q page : ℕ) (b : Bool) → flags_at (cond b None (areas_of mid.spaces.processes q)) page ≡ option_map (λ (x : Page). x.flags)
          (cond b None (pages s.world q page))
      flagged q page true = refl
      flagged q page false = ap (λ (x : AllSpaces). flags_at (areas_of x.processes q) page) same_spaces
          ∙ keeps.stands.parts.areas.flags q page

  kept_now : (q page : ℕ) → IsKept (view old) d s.ledger (entry l (q, page)) (pages (end_process s.world p) q page)
  kept_now q page = subst (IsKept (view old) d s.ledger (entry l (q, page))) (sym (pages-ended s.world p q page)) (by (q == p) refl)
    where
      by : (b : Bool) → (q == p) ≡ b → IsKept (view old) d s.ledger (entry l (q, page)) (cond b None (pages s.world q page))
      by true e = kept-nothing d (view old) s.ledger (entry l (q, page))
      by false e = subst (λ x. IsKept (view old) d s.ledger x (pages s.world q page)) (sym (entry-others s.ledger p q page e))
          (keeps.stands.parts.bytes.kept q page)

  has_now : HasTables new
  has_now q = ap (λ (h : ℕ → Bool). h q) processes ∙ has_as q (q == p)
      ∙ sym (ap is_some (ranges_ended mid.spaces.processes spaces.processes p ended q))
    where
      has_as : (q : ℕ) (b : Bool) → cond b false (has mid.tables q) ≡ is_some (cond b None (ranges_of mid.spaces.processes q))
      has_as q true = refl
      has_as q false = ap (λ (h : ℕ → Bool). h q) same_tables ∙ keeps.tables q
          ∙ sym (ap (λ (x : AllSpaces). is_some (ranges_of x.processes q)) same_spaces)

  stands_now : HasLedger d new l
  stands_now = record {
    sound = taken.stands.sound;
    there = taken.stands.there;
    parts =
        let had = taken.stands.parts in
        record {
          frames = record {
            frames = had.frames.frames;
            maps = had.frames.maps;
            slots = had.frames.slots;
            dirty = had.frames.dirty;
            free =
                had.frames.free;
          };
          lists = record { active = had.lists.active; inactive = had.lists.inactive };
          tables = tables_now;
          swap = record { finds = had.swap.finds; counts = had.swap.counts; flight = had.swap.flight; on = had.swap.on };
        };
    lists = taken.stands.lists;
    items = taken.stands.items;
    swap = taken.stands.swap;
  }

  -- only entries of others are left
  homes_stay : (k : Key) (home : ℕ × ℕ) → is_some (entry l k) ≡ true → home_of k.1 (s.areas k.0 k.1) ≡ Some home
      → home_of k.1 ((with_at p none_on s.areas) k.0 k.1) ≡ Some home
  homes_stay k home there is = by (k.0 == p) refl
    where
      by : (b : Bool) → (k.0 == p) ≡ b → home_of k.1 ((cond b none_on (s.areas k.0)) k.1) ≡ Some home
      by true e = absurd (false≢true (sym (ap is_some (ap (λ n. entry l (n, k.1)) (is_number k.0 p e) ∙ entry-ended s.ledger p k.1)) ∙ there))
      by false e = is

  -- nothing of it is locked, and it has no entries
  locks_now : AreLocks (locks_of new) (end_process s.world p) l
  locks_now = counted-off old s keeps new p 0 most (end_process s.world p) l
      (λ f. counts f ∙ (λ i. sym rest.parts.locks i f + locks_in old p 0 most f))
      (λ f. ap (λ c. c + lock_count_in s.world s.ledger p 0 most f) (locks-process (end_process s.world p) p s.ledger f bare)
      ∙ range-all s.world (end_process s.world p) s.ledger p most f others bare (λ page there. below page there (cases_lt page most)))
    where
      bare : (page : ℕ) → is_locked_page (pages (end_process s.world p) p page) ≡ false
      bare page = ap is_locked_page (pages-ended s.world p p page ∙ ap (λ b. cond b None (pages s.world p page)) (same-itself p))

      others : (k : Key) → (k.0 == p) ≡ false → locked_at (end_process s.world p) k ≡ locked_at s.world k
      others k other = ap is_locked_page (pages-ended s.world p k.0 k.1 ∙ ap (λ b. cond b None (pages s.world k.0 k.1)) other)

      -- no page past those of a page table has an entry
      below : (page : ℕ) → is_some (entry s.ledger (p, page)) ≡ true → (page < most) ⊎ (most ≤ page) → page < most
      below page there (inl less) = less
      below page there (inr past) = absurd (false≢true (sym (ap is_some (sym (keeps.stands.parts.ledger.tables.entries p page)
          ∙ ap (λ e. entry_of (plain e)) (past_pages old.tables p page (omega (arith, past, high))))) ∙ there))

  pub exit-steps : StepsBeside d old new s (Exit p) reply
  exit-steps = stepped old new s next (Exit p) reply keeps exit-step
      (rest.parts.count ∙ ap (λ (v : View). v.frames) same.seen)
      (swap_alike off mid old new (sym (ap (λ (k : Mem). k.swap) same.rest)) refl rest.parts.swap)
      stands_now refl
      exit-on (anons_stand d old s keeps spaces anons stay (with_at p none_on s.areas) exit-on new refl refl)
      (λ f. ap (λ h. h f) (rest.homes ∙ ap (λ (v : View). v.homes) same.seen) ∙ keeps.stands.homes f) (taken.items s.items keeps.stands.items)
      (reach_after old s keeps spaces anons stay l (with_at p none_on s.areas) exit-on homes_stay
      (zaps-reach s.ledger (rmap_of s) (keys_of_process s.ledger p) (reach_of old s keeps)))
      stay.fit areas_now has_now
      (bytes-left d (view old) (view new) s.world (end_process s.world p) s.ledger l (rest.bytes ∙ ap (λ (v : View). v.bytes) same.seen)
      (zaps-cached (setting_by d old) s.ledger (keys_of_process s.ledger p) keeps.stands.sound.ledger) keeps.stands.parts.bytes kept_now) locks_now
