-- What mlock and munlock leave: the flag first, and then, for an mlock, the pages that came in.
use Rattle.std.proofs.Common.{◌≡◌, ℕ, zero, suc, ◌+◌, ◌-◌, ◌*◌, ◌/◌, ◌^◌, ◌<◌, ◌≤◌, max, Bool, true, false, cond, not, List, [], ◌∷◌, ◌++◌, Option, Some, None, is_some, option_map, refl, sym, ap, subst, ◌∙◌, arith, ◌==◌, nat_le, nat_lt}
use Rattle.std.proofs.lemmas.Bool.Decides.{nat_tests}
use Rattle.std.specs.Ordering.{eq_by_cmp, nat_cmp}
use Rattle.std.specs.Prelude.{MatchBool, MatchOption}
use Rattle.av_base.specs.Page.{address_of, page_of, pages_met}
use Rattle.av_base.specs.Words.{with_at, within}
use Rattle.av_base.specs.declared.flags.Flag.TheVariants.{Locked}
use Rattle.av_io.specs.Count.{RoseBy}
use Rattle.av_vma.specs.Pages.{Lengths, pages_changed, to_flag}
use Rattle.av_anon.specs.declared.anons.Anons.{Anons as AnonSet}
use Rattle.av_merge.specs.Pages.{GoesTo}
use Rattle.av_spaces.specs.Spaces.{AllSpaces, areas_of, is_taken}
use Rattle.av_trace.specs.declared.command.Command.{Command}
use Rattle.av_trace.specs.declared.command.Command.TheVariants.{Mlock, Munlock}
use Rattle.av_trace.specs.declared.note.Note.{Note}
use Rattle.av_trace.specs.declared.reply.Answer.{Answer}
use Rattle.av_trace.specs.declared.reply.Answer.TheVariants.{Done, Refused}
use Rattle.av_trace.specs.declared.reply.Errno.{Errno}
use Rattle.av_trace.specs.declared.reply.Errno.TheVariants.{Einval, Enomem, Esrch}
use Rattle.av_trace.specs.declared.reply.Reply.{Reply}
use Rattle.av_trace.specs.Reply.{answer_only}
use Rattle.av_plain.specs.Access.{Accesses, End, Stopped, Whole, write_answer}
use Rattle.av_plain.specs.Areas.{Anons, Areas, Rmap, chain_length, next_areas, rmap_after_all}
use Rattle.av_plain.specs.Choice.{ChoosesAll}
use Rattle.av_plain.specs.Device.{Device, IsSameDevice, Wrote, device_by, setting_of}
use Rattle.av_plain.specs.Event.{Event, FlagSet, after_all, notes_of}
use Rattle.av_plain.specs.Fault.{Denied, Lost, Starved}
use Rattle.av_plain.specs.Fork.{IsRmapNext}
use Rattle.av_plain.specs.Ledger.{Ledger, Setting}
use Rattle.av_plain.specs.Load.{with_loads}
use Rattle.av_plain.specs.Lock.{BringsIn, access_of, accesses_of, lock_event, with_lock}
use Rattle.av_plain.specs.Map.{hole_answer}
use Rattle.av_plain.specs.Pass.{pages_written}
use Rattle.av_plain.specs.Refusal.{Refuses, ends_too_high, locks_too_many, refusal, tests}
use Rattle.av_plain.specs.Report.{ShowsAreas}
use Rattle.av_plain.specs.Stands.{AreasStand, View, free_of}
use Rattle.av_plain.specs.Step.{Follows, causes, closing_swap_area, next}
use Rattle.av_plain.specs.Transcript.{State, rmap_of}
use Rattle.av_plain.specs.World.{Page, Process, World, is_locked_page, is_mapped, pages, pages_to_hole, set_process, with_change_on, with_page_flag}
use Rattle.av_plain.proofs.Sound.{map_count-loads}
use Rattle.av_plain.proofs.Transcript.{is_fork, next-plain}
use Rattle.av_plain.proofs.World.{pages-set}
use Rattle.av_plain.proofs.Wrote.{device-itself, wrote-none}
use Rattle.av_swap_laws.proofs.Free.{chooses-nothing}
use Rattle.av_mem.specs.declared.mem.Mem.{Mem}
use Rattle.av_swap_laws.specs.Locks.{AreLocks}
use Rattle.av_mem.specs.Mem.{Keeps, IsSteadyAt, frame_count, locks_of, ranges_of, setting_by, view}
use Rattle.av_mem.proofs.AnonLaws.{left_of}
use Rattle.av_mem.proofs.MemLaws.{alive_is}
use Rattle.av_step.specs.Step.{IsSteadyFor, MemSteps, StepsBeside}
use Rattle.av_step.proofs.Loads.{world_as}
use Rattle.av_step.proofs.StepLaws.{left_alone, moved_on, none_rose}
use Rattle.av_access.specs.Access.{HasServed, IsBroughtIn, answer_at, causes_of_access, end_at}
use Rattle.av_access.proofs.AccessLoads.{loads-flagged}
use Rattle.av_access.proofs.LockTurns.{brought-causes}
use Rattle.av_kernel.specs.Lock.{SetsLock}
use Rattle.av_kernel.proofs.ChangeLaws.{AreChanged, anons_left, are_changed, areas_then, change-keeps, change-steps, flag_effect, none_left_out, state_changed}
use Rattle.av_kernel.proofs.LockedRanges.{IsRecounted, counted-anew}
use Rattle.av_kernel.proofs.MapLaws.{leads, lived}

abbrev no_events : List Event
no_events = []

-- ---- what is refused

module _ {d : Device} (k : Mem) (s : State) (p a len : ℕ) (keeps : Keeps d k s) (alive : is_some (areas_of k.spaces.processes p) ≡ true) where
  abbrev few : Option Errno
  few = cond (locks_too_many a len) (Some Enomem) None

  pub mlock-high : ends_too_high a len ≡ true → refusal (tests (setting_by d k) s.world s.ledger (Mlock p a len)) ≡ Some Einval
  mlock-high high = lived k s p keeps alive (cond (ends_too_high a len) (Some Einval) few) ∙ ap (λ b. cond b (Some Einval) few) high

  pub mlock-many : ends_too_high a len ≡ false → locks_too_many a len ≡ true
      → refusal (tests (setting_by d k) s.world s.ledger (Mlock p a len)) ≡ Some Enomem
  mlock-many low many = lived k s p keeps alive (cond (ends_too_high a len) (Some Einval) few) ∙ ap (λ b. cond b (Some Einval) few) low
      ∙ ap (λ b. cond b (Some Enomem) None) many

  mlock-allowed : ends_too_high a len ≡ false → locks_too_many a len ≡ false
      → refusal (tests (setting_by d k) s.world s.ledger (Mlock p a len)) ≡ None
  mlock-allowed low fits = lived k s p keeps alive (cond (ends_too_high a len) (Some Einval) few) ∙ ap (λ b. cond b (Some Einval) few) low
      ∙ ap (λ b. cond b (Some Enomem) None) fits

  pub munlock-high : ends_too_high a len ≡ true → refusal (tests (setting_by d k) s.world s.ledger (Munlock p a len)) ≡ Some Einval
  munlock-high high = lived k s p keeps alive (cond (ends_too_high a len) (Some Einval) None) ∙ ap (λ b. cond b (Some Einval) None) high

  munlock-allowed : ends_too_high a len ≡ false → refusal (tests (setting_by d k) s.world s.ledger (Munlock p a len)) ≡ None
  munlock-allowed low = lived k s p keeps alive (cond (ends_too_high a len) (Some Einval) None) ∙ ap (λ b. cond b (Some Einval) None) low

-- pages whose addresses fit into 64 bits
pub low_end : (a len : ℕ) → ends_too_high a len ≡ false → page_of a + pages_met a len < 2 ^ 52
low_end a len low = by (page_of a + pages_met a len) low
  where
    by : (n : ℕ) → nat_le (2 ^ 64) (4096 * n) ≡ false → n < 2 ^ 52
    by n low = grind (arith, nat_tests, low)

-- ---- the pages

-- the pages of one process are accessed as those of another that may be accessed alike
accesses-as : (q r : Process) → ((page : ℕ) → access_of page (q page) ≡ access_of page (r page)) → (from n : ℕ) → accesses_of q from n ≡ accesses_of r from n
accesses-as q r h from zero = refl
accesses-as q r h from (suc n) = λ i. h from i ++ accesses-as q r h (from + 1) n i

-- a lock changes no protection
accesses-locked : (w : World) (p from n : ℕ) (set : Bool) (at k : ℕ)
    → accesses_of (pages (set_process w p (with_change_on (pages w p) from n (with_page_flag Locked set))) p) at k ≡ accesses_of (pages w p) at k
accesses-locked w p from n set at k = accesses-as _ (pages w p) (λ page. ap (access_of page) (pages-set w p new p page
    ∙ ap (λ b. cond b (new page) (pages w p page)) (itself p)) ∙ by page (within from n page) (pages w p page)) at k
  where
    new : Process
    new = with_change_on (pages w p) from n (with_page_flag Locked set)

    itself : (p : ℕ) → eq_by_cmp nat_cmp p p ≡ true
    itself p = grind (arith, nat_tests)

    by : (page : ℕ) (b : Bool) (o : Option Page) → access_of page (cond b (option_map (with_page_flag Locked set) o) o) ≡ access_of page o
    by page true None = refl
    by page true (Some x) = refl
    by page false o = refl

-- as many pages are mapped where the same ones are
hole-as : (q r : Process) (from n : ℕ) → ((page : ℕ) → is_mapped q page ≡ is_mapped r page) → pages_to_hole q from n ≡ pages_to_hole r from n
hole-as q r from zero h = refl
hole-as q r from (suc n) h = λ i. cond (h from i) (hole-as q r (from + 1) n h i + 1) 0

-- an mlock locks its pages, whatever came of their coming in
next-locked : (w : World) (p a len first : ℕ) (end : End)
    → next w (Mlock p a len) (write_answer first end) ≡ with_lock true w p (page_of a) (pages_met a len)
next-locked w p a len first Whole = refl
next-locked w p a len first (Stopped page Denied) = refl
next-locked w p a len first (Stopped page (Starved out)) = refl
next-locked w p a len first (Stopped page Lost) = refl

-- ---- the flag

-- `flagged` is the memory system once the flag is set or cleared
module _ {d : Device} (old flagged : Mem) (s : State) (p a len reached : ℕ) (set : Bool) (keeps : Keeps d old s)
    (alive : is_some (areas_of old.spaces.processes p) ≡ true) (sets : SetsLock set old flagged p (page_of a) (pages_met a len) reached) where
  abbrev n : ℕ
  n = reached - page_of a

  abbrev event : Event
  event = lock_event set (pages s.world p) p (page_of a) (pages_met a len)

  pub ranges : is_some (ranges_of old.spaces.processes p) ≡ true
  ranges = alive_is old.spaces.processes p ∙ alive

  pub led : pages_to_hole (pages s.world p) (page_of a) (pages_met a len) ≡ n
  led = leads old s p (page_of a) (pages_met a len) reached keeps sets.reached

  pub are : AreChanged old flagged.spaces flagged.anons p (page_of a) n (to_flag Locked set)
  are = are_changed old flagged.spaces flagged.anons p (page_of a) reached n (to_flag Locked set) refl sets.areas sets.mapping sets.anons

  -- what the kernel stands for then
  abbrev pub flagged_state : State
  flagged_state = state_changed old flagged.spaces flagged.anons s p (page_of a) n (to_flag Locked set) (with_page_flag Locked set) keeps ranges
      (flag_effect Locked set) are

  recounted : IsRecounted (moved_on old old.tables flagged.spaces flagged.anons) flagged
  recounted = record { seen = sets.seen; rest = sets.rest }

  counted : AreLocks (locks_of flagged) flagged_state.world s.ledger
  counted = counted-anew old s keeps flagged p (page_of a) (pages_met a len) (with_change_on (pages s.world p) (page_of a) n (with_page_flag Locked set))
      (subst (λ (v : View). AreasStand v flagged_state.world) (sym sets.seen)
      (areas_then old flagged.spaces flagged.anons s p (page_of a) n (to_flag Locked set) (with_page_flag Locked set) keeps ranges (flag_effect Locked set) are))
      (ap (λ (k : Mem). k.tables) sets.rest)
      (λ page out. ap (λ b. is_locked_page (cond b (option_map (with_page_flag Locked set) (pages s.world p page)) (pages s.world p page))) (beyond page out))
      sets.locks
    where
      beyond : (page : ℕ) → within (page_of a) (pages_met a len) page ≡ false → within (page_of a) n page ≡ false
      beyond page out = narrower (page_of a) (pages_met a len) n page few out
        where
          few : n ≤ pages_met a len
          few = let high = sets.reached.highest in omega (arith, high)

          narrower : (from n m page : ℕ) → m ≤ n → within from n page ≡ false → within from m page ≡ false
          narrower from n m page less out = grind (arith, nat_tests, less, out)

  pub flagged-keeps : Keeps d flagged flagged_state
  flagged-keeps = change-keeps old flagged.spaces flagged.anons s p (page_of a) n (to_flag Locked set) (with_page_flag Locked set) keeps ranges
      (flag_effect Locked set) are flagged recounted counted

  pub flagged-world : flagged_state.world ≡ with_lock set s.world p (page_of a) (pages_met a len)
  flagged-world = ap (λ k. set_process s.world p (with_change_on (pages s.world p) (page_of a) k (with_page_flag Locked set))) (sym led)

  -- the areas are those after the event
  areas-are : with_at p (pages_changed (chain_length s.anons) (to_flag Locked set) (page_of a) n (s.areas p)) s.areas
      ≡ (rmap_after_all s.ledger (event ∷ []) (rmap_of s)).areas
  areas-are = ap (λ k. with_at p (pages_changed (chain_length s.anons) (to_flag Locked set) (page_of a) k (s.areas p)) s.areas) (sym led)

  -- what reverse mapping goes by is as after the event: no anon_vma went
  pub flagged-rmap : rmap_of flagged_state ≡ rmap_after_all s.ledger (event ∷ []) (rmap_of s)
  flagged-rmap = λ i. record {
    areas = areas-are i;
    anons = none_left_out old flagged.spaces flagged.anons s p (page_of a) n (to_flag Locked set) (with_page_flag Locked set) keeps ranges (flag_effect Locked set) are i;
    homes = s.homes;
    items = s.items;
  }

  pub flagged-steps : (command : Command) (answer : Answer) → is_fork command ≡ false → closing_swap_area command ≡ None
      → ((long : Lengths) (on : Areas) → next_areas long on s.world command answer ≡ on) → ShowsAreas s.areas s.anons command answer []
      → MatchOption (refusal (tests (setting_by d old) s.world s.ledger command)) (Follows (setting_by d old) s.world s.ledger command (event ∷ []) answer [])
      (λ e. Refuses e (event ∷ []) answer [])
      → next s.world command answer ≡ with_lock set s.world p (page_of a) (pages_met a len)
      → StepsBeside d old flagged s command (answer_only answer)
  flagged-steps command answer plain open_all stay shows legal world =
      change-steps old flagged.spaces flagged.anons s p (page_of a) n (to_flag Locked set) (with_page_flag Locked set) keeps ranges (flag_effect Locked set) are
      flagged recounted counted command (answer_only answer)
      (record {
        events = event ∷ [];
        legal = record { answer = legal; notes = refl };
        world = flagged-world ∙ sym world ∙ world_as (setting_by d old) s.world s.ledger (event ∷ []) command answer refl;
        ledger = refl;
        free = subst (λ closing. ChoosesAll (setting_by d old) closing s.ledger (event ∷ []) s.free (free_of (view old))) (sym open_all)
            (subst (λ free. ChoosesAll (setting_by d old) None s.ledger (event ∷ []) free (free_of (view old))) keeps.stands.free (
              free_of (view old),
              chooses-nothing (setting_by d old) None s.ledger event (free_of (view old))
                  (record { frames = λ g used. used; slots = λ t used. used }) refl refl refl refl,
              refl,
            ));
        rmap = next-plain (rmap_after_all s.ledger (event ∷ []) (rmap_of s)) s.world command answer _ plain (record {
          areas = areas-are ∙ sym (stay (chain_length s.anons) (rmap_after_all s.ledger (event ∷ []) (rmap_of s)).areas);
          anons = anons_left old flagged.spaces flagged.anons s p (page_of a) n (to_flag Locked set) (with_page_flag Locked set) keeps ranges (flag_effect Locked set) are;
          homes = refl;
          items = refl;
        });
        shows = shows;
      })

  -- all pages were mapped
  pub all_mapped : page_of a + pages_met a len ≤ reached → (pages_to_hole (pages s.world p) (page_of a) (pages_met a len) == pages_met a len) ≡ true
  all_mapped whole =
      let high = sets.reached.highest in
      let size : reached - page_of a ≡ pages_met a len = omega (arith, whole, high) in
      equal _ (pages_met a len) (led ∙ size)
    where
      equal : (k n : ℕ) → k ≡ n → (k == n) ≡ true
      equal k n e = grind (arith, nat_tests, e)

  -- a page before the end was not
  pub hole_met : reached < page_of a + pages_met a len → (pages_to_hole (pages s.world p) (page_of a) (pages_met a len) == pages_met a len) ≡ false
  hole_met less =
      let least = sets.reached.lowest in
      let fewer : reached - page_of a < pages_met a len = omega (arith, less, least) in
      differ _ _ (pages_met a len) led fewer
    where
      differ : (k m n : ℕ) → k ≡ m → m < n → (k == n) ≡ false
      differ k m n e h = grind (arith, nat_tests, e, h)

-- ---- a munlock

module _ {d : Device} (old flagged : Mem) (s : State) (p a len reached : ℕ) (keeps : Keeps d old s)
    (alive : is_some (areas_of old.spaces.processes p) ≡ true) (low : ends_too_high a len ≡ false)
    (sets : SetsLock false old flagged p (page_of a) (pages_met a len) reached) where
  abbrev unlock_event : Event
  unlock_event = lock_event false (pages s.world p) p (page_of a) (pages_met a len)

  munlocks : (answer : Answer) → answer ≡ hole_answer (pages s.world p) (page_of a) (pages_met a len)
      → MatchOption (refusal (tests (setting_by d old) s.world s.ledger (Munlock p a len)))
      (Follows (setting_by d old) s.world s.ledger (Munlock p a len) (unlock_event ∷ []) answer []) (λ e. Refuses e (unlock_event ∷ []) answer [])
  munlocks answer is = subst (λ o. MatchOption o (Follows (setting_by d old) s.world s.ledger (Munlock p a len) (unlock_event ∷ []) answer [])
      (λ e. Refuses e (unlock_event ∷ []) answer [])) (sym (munlock-allowed old s p a len keeps alive low)) (is, refl, refl)

  pub munlock-steps : page_of a + pages_met a len ≤ reached
      → StepsBeside d old flagged s (Munlock p a len) (answer_only Done)
  munlock-steps whole = flagged-steps old flagged s p a len reached false keeps alive sets (Munlock p a len) Done refl refl (λ long on. refl) tt
      (munlocks Done (sym (ap (λ b. cond b Done (Refused Enomem)) (all_mapped old flagged s p a len reached false keeps alive sets whole)))) refl

  pub munlock-stops : reached < page_of a + pages_met a len
      → StepsBeside d old flagged s (Munlock p a len) (answer_only (Refused Enomem))
  munlock-stops less = flagged-steps old flagged s p a len reached false keeps alive sets (Munlock p a len) (Refused Enomem) refl refl
      (λ long on. refl) tt
      (munlocks (Refused Enomem) (sym (ap (λ b. cond b Done (Refused Enomem)) (hole_met old flagged s p a len reached false keeps alive sets less))))
      refl

-- ---- an mlock

module _ {d : Device} (old flagged : Mem) (s : State) (p a len reached : ℕ) (keeps : Keeps d old s)
    (alive : is_some (areas_of old.spaces.processes p) ≡ true) (low : ends_too_high a len ≡ false) (fits : locks_too_many a len ≡ false)
    (sets : SetsLock true old flagged p (page_of a) (pages_met a len) reached) where
  abbrev first : Event
  first = lock_event true (pages s.world p) p (page_of a) (pages_met a len)

  mlocks : (events : List Event) (answer : Answer) → Follows (setting_by d old) s.world s.ledger (Mlock p a len) events answer []
      → MatchOption (refusal (tests (setting_by d old) s.world s.ledger (Mlock p a len)))
      (Follows (setting_by d old) s.world s.ledger (Mlock p a len) events answer []) (λ e. Refuses e events answer [])
  mlocks events answer h = subst (λ o. MatchOption o (Follows (setting_by d old) s.world s.ledger (Mlock p a len) events answer [])
      (λ e. Refuses e events answer [])) (sym (mlock-allowed old s p a len keeps alive low fits)) h

  -- a page isn't mapped: the others come in neither
  pub mlock-stops : reached < page_of a + pages_met a len
      → StepsBeside d old flagged s (Mlock p a len) (answer_only (Refused Enomem))
  mlock-stops less = flagged-steps old flagged s p a len reached true keeps alive sets (Mlock p a len) (Refused Enomem) refl refl
      (λ long on. refl) tt
      (mlocks (first ∷ []) (Refused Enomem) (
        no_events,
        refl,
        refl,
        subst (λ b. MatchBool b (BringsIn (setting_by d old) s.world s.ledger p (page_of a) (pages_met a len) no_events (Refused Enomem))
            ((no_events ≡ []) × (Refused Enomem ≡ Refused Enomem)))
            (sym (hole_met old flagged s p a len reached true keeps alive sets less)) (refl, refl),
      ))
      (ap (λ b. cond b s.world (with_lock true s.world p (page_of a) (pages_met a len))) fits)

  -- all are locked, and then come in
  module _ {d' : Device} (new : Mem) (before notes : List Note) (answer : Answer) (whole : page_of a + pages_met a len ≤ reached)
      (same : frame_count new ≡ frame_count old) (fresh : before ≡ [])
      (h : IsBroughtIn d d' (flagged_state old flagged s p a len reached true keeps alive sets) new p (page_of a) (pages_met a len) before
      notes answer) where
    abbrev many : ℕ
    many = reached - page_of a

    abbrev mid : State
    mid = flagged_state old flagged s p a len reached true keeps alive sets

    abbrev coming : List Event
    coming = h.served.events

    abbrev end : End
    end = end_at h.stop h.page

    abbrev loaded : World
    loaded = with_loads (setting_by d old) s.world s.ledger coming

    alone : notes ≡ notes_of coming
    alone = h.served.notes ∙ ap (λ ns. ns ++ notes_of coming) fresh

    comes : Accesses (setting_by d old) (with_lock true s.world p (page_of a) (pages_met a len)) s.ledger p
        (accesses_of (pages s.world p) (page_of a) (pages_met a len)) coming end
    comes = subst (λ w. Accesses (setting_by d old) w s.ledger p (accesses_of (pages s.world p) (page_of a) (pages_met a len)) coming end)
        (flagged-world old flagged s p a len reached true keeps alive sets)
        (subst (λ turns. Accesses (setting_by d old) mid.world s.ledger p turns coming end)
        (accesses-locked s.world p (page_of a) many true (page_of a) (pages_met a len))
        (subst (λ c. Accesses (setting_of c d) mid.world s.ledger p (accesses_of (pages mid.world p) (page_of a) (pages_met a len)) coming end) same
        h.served.accesses))

    -- the pages that are mapped are so after loads
    still_led : pages_to_hole (pages loaded p) (page_of a) (pages_met a len) ≡ many
    still_led = hole-as (pages loaded p) (pages s.world p) (page_of a) (pages_met a len) (map_count-loads (setting_by d old) s.world s.ledger coming p)
        ∙ led old flagged s p a len reached true keeps alive sets

    world-next : h.served.next.world ≡ next loaded (Mlock p a len) answer
    world-next = h.served.world ∙ ap (λ c. with_loads (setting_of c d) mid.world s.ledger coming) same
        ∙ loads-flagged p (page_of a) many Locked true (setting_by d old) s.world s.ledger coming
        ∙ ap (λ c. set_process loaded p (with_change_on (pages loaded p) (page_of a) c (with_page_flag Locked true))) (sym still_led)
        ∙ sym (next-locked loaded p a len (address_of (page_of a)) end) ∙ ap (next loaded (Mlock p a len)) (sym h.answers)

    told : causes (record { answer = answer; notes = notes; rows = [] }) ≡ causes_of_access (notes_of coming) h.stop
    told = ap (λ ns. causes (record { answer = answer; notes = ns; rows = [] })) alone
        ∙ brought-causes (flagged_state old flagged s p a len reached true keeps alive sets) new p (page_of a) (pages_met a len) before notes
        answer h (notes_of coming)

    pub mlock-steps : MemSteps d d' old new s (Mlock p a len) (record { answer = answer; notes = notes; rows = [] })
    mlock-steps = record {
      next = h.served.next;
      step = record {
        events = first ∷ coming;
        legal = record {
          answer = mlocks (first ∷ coming) answer (
            coming,
            refl,
            refl,
            subst (λ b. MatchBool b (BringsIn (setting_by d old) s.world s.ledger p (page_of a) (pages_met a len) coming answer)
                ((coming ≡ []) × (answer ≡ Refused Enomem)))
                (sym (all_mapped old flagged s p a len reached true keeps alive sets whole)) (end, comes, h.answers),
          );
          notes = alone;
        };
        world = world-next;
        ledger = h.served.ledger;
        free = subst (λ free. ChoosesAll (setting_by d old) None s.ledger (first ∷ coming) free h.served.next.free) keeps.stands.free (
          free_of (view old),
          chooses-nothing (setting_by d old) None s.ledger first (free_of (view old))
              (record { frames = λ g used. used; slots = λ t used. used }) refl refl refl refl,
          subst (λ c. ChoosesAll (setting_of c d) None s.ledger coming (free_of (view old)) h.served.next.free) same h.served.free,
        );
        rmap = subst (λ r. IsRmapNext r s.world (Mlock p a len) answer (rmap_of h.served.next))
            (h.served.rmap ∙ ap (rmap_after_all s.ledger coming) (flagged-rmap old flagged s p a len reached true keeps alive sets))
            (next-plain (rmap_of h.served.next) s.world (Mlock p a len) answer (rmap_of h.served.next) refl (record {
              areas = refl;
              anons = left_alone new h.served.next h.served.keeps;
              homes = refl;
              items = refl;
            }));
        shows = tt;
      };
      keeps = h.served.keeps;
      same = h.served.same;
      wrote = subst (λ ns. Wrote (pages_written ns) d.history d'.history) (sym alone) h.served.wrote;
      failures = subst (λ n. RoseBy n d.failures d'.failures) (sym told) h.served.failures;
    }

-- ---- over a device

-- a step beside the device that only a refusal without a failure answers is one over it
pub over-device : {d : Device} {old new : Mem} {s : State} {command : Command} (error : Errno) → causes (answer_only (Refused error)) ≡ 0
    → StepsBeside d old new s command (answer_only (Refused error)) → MemSteps d d old new s command (answer_only (Refused error))
over-device {d} error none h = record {
  next = h.next;
  step = h.step;
  keeps = h.keeps;
  same = device-itself d;
  wrote = wrote-none d.history;
  failures = none_rose (causes (answer_only (Refused error))) d.failures none;
}
