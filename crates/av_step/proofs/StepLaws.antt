-- One command's step: the ledger's parts stand after its events, and so do the areas and the bytes of the pages that it changed.
use Rattle.std.proofs.Common.{◌≡◌, ◌≢◌, ℕ, ◌+◌, max, Bool, true, false, cond, not, [], ◌++◌, Option, Some, None, IsSome, is_some, option_map, Result, Ok, Err, refl, sym, ap, subst, ◌∙◌, arith, ◌==◌}
use Rattle.std.proofs.lemmas.Bool.Decides.{nat_tests}
use Rattle.std.proofs.lemmas.Bool.{false≢true}
use Rattle.std.specs.Ordering.{nat_cmp, eq_by_cmp}
use Rattle.std.specs.FinMap.Entries.{find}
use Rattle.std.specs.Prelude.{IfSome, IsSomeAnd, List, MatchOption, IsErr, IsErrAnd}
use Rattle.av_trace.specs.declared.command.Command.{Command}
use Rattle.av_trace.specs.declared.reply.Errno.{Errno}
use Rattle.av_trace.specs.declared.reply.Errno.TheVariants.{Esrch}
use Rattle.av_trace.specs.declared.note.Note.{Note}
use Rattle.av_trace.specs.declared.reply.Reply.{Reply}
use Rattle.av_trace.specs.declared.reply.Answer.{Answer}
use Rattle.av_trace.specs.declared.reply.Answer.TheVariants.{Refused}
use Rattle.av_trace.specs.Reply.{IsCleared, answer_only}
use Rattle.av_plain.specs.Device.{Device, IsSameDevice, setting_of, device_by, Wrote}
use Rattle.av_plain.specs.Fork.{IsRmapNext}
use Rattle.av_plain.specs.World.{Process, lives, pages, set_process}
use Rattle.av_plain.specs.Ledger.{HasNumbers, Ledger, SwapArea, entry}
use Rattle.av_plain.specs.Refusal.{tests, refusal, Refuses}
use Rattle.av_plain.specs.Transcript.{State, IsStep, rmap_of}
use Rattle.av_plain.specs.Sound.{AllSound}
use Rattle.av_plain.specs.Choice.{Free, ListsAll}
use Rattle.av_base.specs.Keys.{Key}
use Rattle.av_base.specs.Words.{with_at}
use Rattle.av_vma.specs.Pages.{Pages, home_of}
use Rattle.av_plain.specs.Stands.{AnonsStand, AreasAre, AreasStand, BytesStand, HeadersStand, HomesAre, IsKept, ItemsAre, entry_of, free_of, kin_of}
use Rattle.av_anon.specs.declared.anons.Anons.{Anons as AnonSet}
use Rattle.av_anon.specs.declared.infos.Info.{Info}
use Rattle.av_spaces.specs.Kin.{AnonsFit, AnonsStay, chain_by, info_of}
use Rattle.av_spaces.proofs.Kin.{stay_same}
use Rattle.av_plain.specs.Areas.{AnonVma, AreLeft, AreNext, Areas, chain_length, next_areas}
use Rattle.av_plain.proofs.Covered.{stay-left}
use Rattle.av_plain.proofs.Covered.Swap.{Reach}
use Rattle.av_plain.proofs.Covered.Zaps.{next-reach}
use Rattle.av_plain.proofs.Device.{setting-layouts}
use Rattle.av_swap_laws.specs.Held.{AllCovered}
use Rattle.av_swap_laws.specs.Locks.{AreLocks}
use Rattle.av_mem.proofs.AnonLaws.{anons_stand, are_left, left_of}
use Rattle.av_plain.proofs.FreeSteps.{step-lists}
use Rattle.av_plain.proofs.Refusal.{refused-areas, refused-next}
use Rattle.av_plain.proofs.Report.Areas.{shows-refused}
use Rattle.av_plain.proofs.Sound.{step-sound}
use Rattle.av_plain.proofs.World.{pages-set}
use Rattle.av_pagetable.specs.Entries.{ProcessTables, entry_at}
use Rattle.av_pagetable.specs.declared.pte.Pte.{Pte}
use Rattle.av_mem.specs.declared.mem.Mem.{Mem}
use Rattle.av_spaces.specs.Spaces.{AllSpaces, areas_of, pages_of as areas_on}
use Rattle.av_plain.proofs.Transcript.{is_fork, next-plain}
use Rattle.av_mem.specs.Mem.{anon_vma, ranges_of, setting_by, plain, view, frame_count, locks_of, HasTables, IsSteady, Keeps, HasLedger, IsSteadyAt}
use Rattle.av_mem.specs.Steps.{KeepsSwap}
use Rattle.av_swapcache.specs.Swap.{shown as shown_swap}
use Rattle.av_step.specs.declared.refusal.Refusal.{Refusal}
use Rattle.av_step.specs.declared.refusal.Refusal.TheVariants as refusals
use Rattle.av_step.specs.Step.{Does, DoesBeside, MemSteps, StepsBeside, reply_in, reply_of}
use Rattle.av_io.specs.Count.{RoseBy}
use Rattle.av_plain.specs.Pass.{fails}
use Rattle.av_plain.specs.Step.{Follows, causes, failure_answers, uses_device}
use Rattle.av_plain.proofs.Faultless.{unused-causes, unused-writes}
use Rattle.av_step.proofs.Loads.{world_as}
use Rattle.av_mem.proofs.KeepsLaws.{fits-kept}
use Rattle.av_mem.proofs.MemLaws.{alive_is, lives_is}
use Rattle.av_mem.proofs.SwapAreas.{areas-kept}
use Rattle.av_step.proofs.CacheLeft.{KeepsCached, bytes-left}
use Rattle.av_plain.proofs.Wrote.{device-itself, wrote-none}

pub at_number : (q p : ℕ) → eq_by_cmp nat_cmp q p ≡ (q == p)
at_number q p = grind (arith, nat_tests)

pub is_number : (q p : ℕ) → (q == p) ≡ true → q ≡ p
is_number q p e = grind (arith, nat_tests)

pub other_number : (q p : ℕ) → (q == p) ≡ false → q ≢ p
other_number q p e = grind (arith, nat_tests)

-- ---- areas and anon_vmas

-- each anon_vma that is there is linked
pub left_alone : {d : Device} (k : Mem) (s : State) → Keeps d k s → AreLeft s.anons s.areas s.anons
left_alone {d} k s keeps =
    let h = are_left d k s keeps k.spaces k.anons (stay_same k.spaces k.anons keeps.anons) s.areas keeps.stands.areas in
    record { next = refl; there = λ v there. h.there v (still v there); linked = λ v linked. refl }
  where
    still : (v : ℕ) → IsSome (s.anons.anon v) → IsSome ((left_of k.anons s.anons).anon v)
    still v there = by (info_of k.anons v) refl (s.anons.anon v) there (keeps.stands.anons.kin v)
      where
        by : (i : Option Info) → info_of k.anons v ≡ i → (o : Option AnonVma) → IsSome o →
            option_map kin_of (option_map (anon_vma (chain_by k.spaces k.anons (Some v))) i) ≡ option_map kin_of o
            → IsSome (cond (is_some i) o None)
        by None e None there same = there
        by None e (Some x) there same = absurd (false≢true (ap is_some same))
        by (Some i) e o there same = there

-- so a command that leaves the areas leaves the anon_vmas
pub areas_kept : {d : Device} (k : Mem) (s : State) (command : Command) (answer : Answer) → Keeps d k s →
    next_areas (chain_length s.anons) s.areas s.world command answer ≡ s.areas
    → AreNext (rmap_of s) s.world command answer (rmap_of s)
areas_kept {d} k s command answer keeps stay = record { areas = sym stay; anons = left_alone k s keeps; homes = refl; items = refl }

-- after any command but a fork
pub rmap_kept : {d : Device} (k : Mem) (s : State) (command : Command) (answer : Answer) → is_fork command ≡ false → Keeps d k s →
    next_areas (chain_length s.anons) s.areas s.world command answer ≡ s.areas
    → IsRmapNext (rmap_of s) s.world command answer (rmap_of s)
rmap_kept {d} k s command answer plain keeps stay =
    next-plain (rmap_of s) s.world command answer (rmap_of s) plain (areas_kept k s command answer keeps stay)

-- ---- a refusal

-- the first test that holds refuses the command, and nothing changes
pub refused : {d : Device} (k : Mem) (s : State) (command : Command) (error : Errno) → Keeps d k s →
    refusal (tests (setting_by d k) s.world s.ledger command) ≡ Some error → StepsBeside d k k s command (answer_only (Refused error))
refused {d} k s command error keeps is = record {
  next = s;
  step = record {
    events = [];
    legal = record {
      answer = subst (λ o. MatchOption o (Follows (setting_by d k) s.world s.ledger command [] (Refused error) [])
          (λ e. Refuses e [] (Refused error) []))
          (sym is) (refl, refl, refl);
      notes = refl;
    };
    world = sym (refused-next (setting_by d k) s.world s.world s.ledger command error is)
        ∙ world_as (setting_by d k) s.world s.ledger [] command (Refused error) refl;
    ledger = refl;
    free = refl;
    rmap = areas_kept k s command (Refused error) keeps (refused-areas (setting_by d k) s.world s.ledger (chain_length s.anons) s.areas command
        error is);
    shows = shows-refused s.areas s.anons command error [];
  };
  keeps = keeps;
}

-- so a command is done where it is refused
pub refuses : (k : Mem) (command : Command) (error : Errno) → ((d : Device) (s : State) → Keeps d k s →
    refusal (tests (setting_by d k) s.world s.ledger command) ≡ Some error) → DoesBeside k k command (Err (refusals.Refused error))
refuses k command error is = record { step = λ d s keeps. refused k s command error keeps (is d s keeps); count = refl }

-- and where memory is wanting nothing is promised but the number of frames
pub wants : (old new : Mem) (command : Command) → frame_count new ≡ frame_count old → DoesBeside old new command (Err refusals.Memory)
wants old new command same = record { step = λ d s keeps. tt; count = same }

-- as `?` hands it out
pub wants-by : (old new : Mem) (command : Command) (reply : Reply) (r : Result (Unit {0}) Refusal) → IsErr r × IsErrAnd r (λ e. e ≡ refusals.Memory) →
    frame_count new ≡ frame_count old → DoesBeside old new command (reply_in reply r)
wants-by old new command reply (Ok done) is same = absurd is.1
wants-by old new command reply (Err e) is same = subst (λ e. DoesBeside old new command (Err e)) (sym is.1) (wants old new command same)

pub refuses-by : (old new : Mem) (command : Command) (error : Errno) (reply : Reply) (r : Result (Unit {0}) Refusal) →
    IsErr r × IsErrAnd r (λ e. e ≡ refusals.Refused error) → DoesBeside old new command (Err (refusals.Refused error))
    → DoesBeside old new command (reply_in reply r)
refuses-by old new command error reply (Ok done) is does = absurd is.1
refuses-by old new command error reply (Err e) is does = subst (λ e. DoesBeside old new command (Err e)) (sym is.1) does

pub refuses-as : (old new : Mem) (command : Command) (error : Errno) (reply : Reply) (r : Result (Unit {0}) Refusal) (x : Refusal) →
    IsErr r × IsErrAnd r (λ e. e ≡ x) → x ≡ refusals.Refused error → DoesBeside old new command (Err (refusals.Refused error)) →
    DoesBeside old new command (reply_in reply r)
refuses-as old new command error reply r x is same does = refuses-by old new command error reply r
    (is.0, subst (λ (y : Refusal). IsErrAnd r (λ e. e ≡ y)) same is.1) does

-- ---- beside a device

pub none_rose : (n count : ℕ) → n ≡ 0 → RoseBy n count count
none_rose n count none = omega (arith, none)

-- at some sizes it is steady
pub steady_of : (sizes : ℕ → Option ℕ) (k : Mem) → IsSteadyAt sizes k → IsSteady k
steady_of sizes k h = (device_by sizes None h.0, h.1, h.2)

-- what is so of a reply is so in other words
pub reply-so : (o : Option Reply) (P Q : Reply → Type 0) → ((reply : Reply) → P reply → Q reply) → IfSome o P → IfSome o Q
reply-so None P Q f h = tt
reply-so (Some reply) P Q f h = f reply h

-- a command that doesn't use the device does the same over any, which stays as it is
pub beside : (old new : Mem) (command : Command) (result : Result Reply Refusal) → uses_device command ≡ false → DoesBeside old new command result →
    (d : Device) → Does d d old new command result
beside old new command result unused does d = record {
  step = λ s keeps. reply-so (reply_of result) (StepsBeside d old new s command) (MemSteps d d old new s command) (λ reply h. record {
    next = h.next;
    step = h.step;
    keeps = h.keeps;
    same = device-itself d;
    wrote = subst (λ ps. Wrote ps d.history d.history)
        (sym (unused-writes (setting_by d old) s.world s.ledger command reply h.step.events unused h.step.legal)) (wrote-none d.history);
    failures = none_rose (causes reply) d.failures
        (unused-causes (setting_by d old) s.world s.ledger command reply h.step.events unused h.step.legal);
  }) (does.step d s keeps);
  steady = λ steady. let untold = device_by d.sizes None steady.0 in
      reply-so (reply_of result) (StepsBeside untold old new steady.1 command) (λ reply. IsSteadyAt d.sizes new)
      (λ reply h. (steady.0, h.next, h.keeps)) (does.step untold steady.1 steady.2);
  same = device-itself d;
  count = does.count;
}

-- ---- refusals of a command that uses the device

-- its first test refuses it, over any device
pub refused-over : (k : Mem) (command : Command) (error : Errno) → failure_answers (Refused error) ≡ 0 → ((d : Device) (s : State) → Keeps d k s →
    refusal (tests (setting_by d k) s.world s.ledger command) ≡ Some error) → (d : Device) → Does d d k k command (Err (refusals.Refused error))
refused-over k command error mild is d = record {
  step = λ s keeps. let h = refused k s command error keeps (is d s keeps) in record {
    next = h.next;
    step = h.step;
    keeps = h.keeps;
    same = device-itself d;
    wrote = wrote-none d.history;
    failures = none_rose (causes (answer_only (Refused error))) d.failures (ap (λ n. max (fails []) 0 + n) mild);
  };
  steady = λ steady. steady;
  same = device-itself d;
  count = refl;
}

-- as `?` hands it out
pub beside-by : (k : Mem) (command : Command) (error : Errno) (reply : Reply) (r : Result (Unit {0}) Refusal) (x : Refusal) →
    IsErr r × IsErrAnd r (λ e. e ≡ x) → x ≡ refusals.Refused error → failure_answers (Refused error) ≡ 0 → ((d : Device) (s : State) → Keeps d k s →
    refusal (tests (setting_by d k) s.world s.ledger command) ≡ Some error) → (d : Device) → Does d d k k command (reply_in reply r)
beside-by k command error reply (Ok done) x is same mild refuses d = absurd is.1
beside-by k command error reply (Err e) x is same mild refuses d =
    subst (λ e. Does d d k k command (Err e)) (sym (is.1 ∙ same)) (refused-over k command error mild refuses d)

-- and where memory is wanting, what is promised of the device
pub wants-over : (d d' : Device) (old new : Mem) (command : Command) (reply : Reply) (r : Result (Unit {0}) Refusal) →
    IsErr r × IsErrAnd r (λ e. e ≡ refusals.Memory) → IsSameDevice d d' → frame_count new ≡ frame_count old →
    Does d d' old new command (reply_in reply r)
wants-over d d' old new command reply (Ok done) is same count = absurd is.1
wants-over d d' old new command reply (Err e) is same count = subst (λ e. Does d d' old new command (Err e)) (sym is.1) (record {
  step = λ s keeps. tt;
  steady = λ steady. tt;
  same = same;
  count = count;
})

-- a cleared reply that is given an answer says no more
pub only_answer : (reply : Reply) (answer : Answer) → IsCleared reply → record reply { answer = answer } ≡ answer_only answer
only_answer reply answer cleared = λ i. record { answer = answer; notes = cleared.notes i; rows = cleared.rows i }

pub answers : {d : Device} {old new : Mem} {s : State} {command : Command} {answer : Answer} (reply reply' : Reply) → IsCleared reply →
    reply' ≡ record reply { answer = answer } → StepsBeside d old new s command (answer_only answer) → StepsBeside d old new s command reply'
answers {d} {old} {new} {s} {command} {answer} reply reply' cleared is steps =
    subst (StepsBeside d old new s command) (sym (is ∙ only_answer reply answer cleared)) steps

-- so one that is given notes, too
abbrev pub noted : Answer → List Note → Reply
noted answer notes = record { answer = answer; notes = notes; rows = [] }

pub answers-noted : {d : Device} {old new : Mem} {s : State} {command : Command} {answer : Answer} (reply reply' : Reply) (notes added : List Note) →
    IsCleared reply → reply' ≡ record reply { answer = answer; notes = notes } → notes ≡ reply.notes ++ added
    → StepsBeside d old new s command (noted answer added) → StepsBeside d old new s command reply'
answers-noted {d} {old} {new} {s} {command} {answer} reply reply' notes added cleared is grown steps =
    subst (StepsBeside d old new s command)
    (sym (is ∙ (λ i. record { answer = answer; notes = (grown ∙ ap (λ x. x ++ added) cleared.notes) i; rows = cleared.rows i }))) steps

-- a process that has no areas is refused first
pub dead_first : {d : Device} (k : Mem) (s : State) (p : ℕ) (rest : Option Errno) → Keeps d k s → is_some (areas_of k.spaces.processes p) ≡ false →
    cond (not (lives s.world p)) (Some Esrch) rest ≡ Some Esrch
dead_first {d} k s p rest keeps dead = ap (λ b. cond (not b) (Some Esrch) rest) (sym (lives_is d k s keeps p) ∙ dead)

-- a process that has areas has ranges
pub ranges_there : (k : Mem) (p : ℕ) → is_some (areas_of k.spaces.processes p) ≡ true → is_some (ranges_of k.spaces.processes p) ≡ true
ranges_there k p alive = alive_is k.spaces.processes p ∙ alive

-- ---- a step, from its parts

-- the parts that speak of the ledger alone
pub orderly : {d : Device} (k : Mem) (s : State) → Keeps d k s → HasLedger d k s.ledger
orderly {d} k s keeps = record {
  sound = keeps.stands.sound.ledger;
  there = keeps.stands.sound.in_areas;
  parts = keeps.stands.parts.ledger;
  lists = keeps.lists;
  items = keeps.items;
  swap = keeps.swap.frames;
}

-- each entry of a frame, merged or not, or of a slot is covered
pub reach_of : {d : Device} (k : Mem) (s : State) → Keeps d k s → Reach s.ledger (rmap_of s)
reach_of {d} k s keeps = record {
  in_order = keeps.stands.sound.ledger.in_order;
  once = keeps.stands.sound.ledger.slots_once;
  sound = keeps.stands.reach;
  slots = keeps.stands.slots;
  merged = keeps.stands.merged;
}

-- the kernel stands for a state that is sound, and in which what is free is listed
pub keeps-next : {d : Device} (old new : Mem) (s next : State) → Keeps d old s → AllSound (setting_by d old) next.world next.ledger
    → ListsAll (setting_by d old) next.ledger next.free →
    frame_count new ≡ frame_count old → KeepsSwap old new → HasLedger d new next.ledger → free_of (view new) ≡ next.free
    → AreasAre (view new) next.areas → AnonsStand (view new) next.areas next.anons → HomesAre (view new) next.homes
    → ItemsAre (view new) next.ledger next.items → AllCovered next.ledger (rmap_of next) →
    AnonsFit new.spaces new.anons → AreasStand (view new) next.world → HasTables new → BytesStand (view new) d next.world next.ledger
    → AreLocks (locks_of new) next.world next.ledger → Keeps d new next
keeps-next {d} old new s next keeps sound lists same_count swap stands free areas_now anons_now homes_now items_now covered fit areas tables bytes
    locks = record {
      stands = record {
        over = record { sizes = refl; headers = refl };
        sound = subst (λ n. AllSound (setting_of n d) next.world next.ledger) (sym same_count) sound;
        parts = record { ledger = stands.parts; areas = areas; bytes = bytes; headers = headers };
        free = free;
        lists = subst (λ n. ListsAll (setting_of n d) next.ledger next.free) (sym same_count) lists;
        areas = areas_now;
        anons = anons_now;
        homes = homes_now;
        items = items_now;
        reach = covered.frames;
        slots = covered.slots;
        merged = covered.merged;
      };
      locks = locks;
      lists = stands.lists;
      items = stands.items;
      tables = tables;
      anons = fit;
      swap = fits-kept d None old new swap same_count keeps.swap;
    }
  where
    same_on : next.ledger.on ≡ s.ledger.on
    same_on = sym stands.parts.swap.on ∙ areas-kept old new swap ∙ keeps.stands.parts.ledger.swap.on

    headers : HeadersStand (setting_by d new) next.ledger
    headers k = subst (λ (on : List (ℕ × SwapArea)). IfSome (find nat_cmp k on)
        (λ area. IfSome (setting_by d new).headers (λ headers. IsSomeAnd (headers k) (HasNumbers area)))) (sym same_on) (keeps.stands.parts.headers k)

-- so it does for what a step leaves
after-sound : {d : Device} (old : Mem) (s next : State) (command : Command) (reply : Reply) → Keeps d old s
    → IsStep (setting_by d old) s command reply next → AllSound (setting_by d old) next.world next.ledger
after-sound {d} old s next command reply keeps step = step-sound (setting_by d old) s command reply next keeps.stands.sound step

after-lists : {d : Device} (old : Mem) (s next : State) (command : Command) (reply : Reply) → Keeps d old s
    → IsStep (setting_by d old) s command reply next → ListsAll (setting_by d old) next.ledger next.free
after-lists {d} old s next command reply keeps step =
    step-lists (setting_by d old) s command reply next (setting-layouts (frame_count old) d) keeps.stands.sound keeps.stands.lists step

pub stepped : {d : Device} (old new : Mem) (s next : State) (command : Command) (reply : Reply) → Keeps d old s
    → IsStep (setting_by d old) s command reply next →
    frame_count new ≡ frame_count old → KeepsSwap old new → HasLedger d new next.ledger → free_of (view new) ≡ next.free
    → AreasAre (view new) next.areas → AnonsStand (view new) next.areas next.anons → HomesAre (view new) next.homes
    → ItemsAre (view new) next.ledger next.items → AllCovered next.ledger (rmap_of next) →
    AnonsFit new.spaces new.anons → AreasStand (view new) next.world → HasTables new → BytesStand (view new) d next.world next.ledger
    → AreLocks (locks_of new) next.world next.ledger → StepsBeside d old new s command reply
stepped {d} old new s next command reply keeps step same_count swap stands free areas_now anons_now homes_now items_now covered fit areas
    tables bytes locks = record {
      next = next;
      step = step;
      keeps = keeps-next old new s next keeps (after-sound old s next command reply keeps step) (after-lists old s next command reply keeps step)
          same_count swap stands free areas_now anons_now homes_now items_now covered fit areas tables bytes locks;
    }

-- ---- what reverse mapping goes by, after areas changed

-- each page with an entry keeps the home that frames have from it
pub reach_after : {d : Device} (old : Mem) (s : State) → Keeps d old s → (spaces : AllSpaces) (anons : AnonSet)
    → AnonsStay old.spaces old.anons spaces anons →
    (l : Ledger) (on : Areas) → ((q page : ℕ) → areas_on spaces.processes q page ≡ on q page)
    → ((k : Key) (home : ℕ × ℕ) → is_some (entry l k) ≡ true → home_of k.1 (s.areas k.0 k.1) ≡ Some home → home_of k.1 (on k.0 k.1) ≡ Some home)
    → Reach l (rmap_of s) → AllCovered l (record { areas = on; anons = left_of anons s.anons; homes = s.homes; items = s.items })
reach_after {d} old s keeps spaces anons stay l on same homes reach =
    let after = next-reach l (rmap_of s) (record { areas = on; anons = left_of anons s.anons; homes = s.homes; items = s.items }) homes owns
    (stay-left s.anons on (left_of anons s.anons) (are_left d old s keeps spaces anons stay on same)) refl refl reach in
    record { frames = after.sound; slots = after.slots; merged = after.merged }
  where
    owns : (p page v : ℕ) → IsSomeAnd (on p page) (λ area. area.anon ≡ Some v) →
        (q : ℕ) × (other : ℕ) × IsSomeAnd (s.areas q other) (λ area. area.anon ≡ Some v)
    owns p page v is =
        let had = stay.owned v (p, page, subst (λ o. IsSomeAnd o (λ area. area.anon ≡ Some v)) (sym (same p page)) is) in
        (had.0, had.1, subst (λ o. IsSomeAnd o (λ area. area.anon ≡ Some v)) (keeps.stands.areas had.0 had.1) had.2)

-- ---- a step that changes one process

abbrev pub state_after : State → ℕ → Process → Pages → Ledger → Free → AnonSet → State
state_after s p now on l free anons = record {
  world = set_process s.world p now;
  ledger = l;
  free = free;
  areas = with_at p on s.areas;
  anons = left_of anons s.anons;
  homes = s.homes;
  items = s.items;
}

module _ {d : Device} (old new : Mem) (s : State) (p : ℕ) (now : Process) (on : Pages) (l : Ledger)
    (keeps : Keeps d old s) (stay : AnonsStay old.spaces old.anons new.spaces new.anons) (same_count : frame_count new ≡ frame_count old)
    (swap : KeepsSwap old new) (stands : HasLedger d new l)
    (bytes : (view new).bytes ≡ (view old).bytes) (homes : (view new).homes ≡ (view old).homes)
    (items : ItemsAre (view new) l s.items)
    (others : (q page : ℕ) → (q == p) ≡ false → entry l (q, page) ≡ entry s.ledger (q, page))
    (cached : KeepsCached s.ledger l) (kept : (page : ℕ) → IsKept (view old) d s.ledger (entry l (p, page)) (now page))
    (reach : Reach l (rmap_of s)) (home : (page : ℕ) (home : ℕ × ℕ) → is_some (entry l (p, page)) ≡ true →
    home_of page (s.areas p page) ≡ Some home → home_of page (on page) ≡ Some home) (locks : AreLocks (locks_of new) (set_process s.world p now) l) where
  kept-all : (q page : ℕ) → IsKept (view old) d s.ledger (entry l (q, page)) (pages (set_process s.world p now) q page)
  kept-all q page = subst (IsKept (view old) d s.ledger (entry l (q, page)))
      (sym (pages-set s.world p now q page ∙ ap (λ b. cond b (now page) (pages s.world q page)) (at_number q p))) (by (q == p) refl)
    where
      by : (b : Bool) → (q == p) ≡ b → IsKept (view old) d s.ledger (entry l (q, page)) (cond b (now page) (pages s.world q page))
      by true e = subst (λ n. IsKept (view old) d s.ledger (entry l (n, page)) (now page)) (sym (is_number q p e)) (kept page)
      by false e = subst (λ x. IsKept (view old) d s.ledger x (pages s.world q page)) (sym (others q page e)) (keeps.stands.parts.bytes.kept q page)

  home-all : (k : Key) (h : ℕ × ℕ) → is_some (entry l k) ≡ true → home_of k.1 (s.areas k.0 k.1) ≡ Some h
      → home_of k.1 ((with_at p on s.areas) k.0 k.1) ≡ Some h
  home-all k h there is = by (k.0 == p) refl
    where
      by : (b : Bool) → (k.0 == p) ≡ b → home_of k.1 ((cond b on (s.areas k.0)) k.1) ≡ Some h
      by true e = home k.1 h (ap (λ q. is_some (entry l (q, k.1))) (sym (is_number k.0 p e)) ∙ there)
          (ap (λ q. home_of k.1 (s.areas q k.1)) (sym (is_number k.0 p e)) ∙ is)
      by false e = is

  pub changed-keeps : AllSound (setting_by d old) (set_process s.world p now) l → ListsAll (setting_by d old) l (free_of (view new)) →
      AreasAre (view new) (with_at p on s.areas) → AreasStand (view new) (set_process s.world p now) → HasTables new
      → Keeps d new (state_after s p now on l (free_of (view new)) new.anons)
  changed-keeps sound lists areas_now areas tables = keeps-next old new s (state_after s p now on l (free_of (view new)) new.anons) keeps sound lists
      same_count swap stands refl areas_now
      (anons_stand d old s keeps new.spaces new.anons stay (with_at p on s.areas) areas_now new refl refl)
      (λ f. ap (λ h. h f) homes ∙ keeps.stands.homes f) items
      (reach_after old s keeps new.spaces new.anons stay l (with_at p on s.areas) areas_now home-all reach) stay.fit areas tables
      (bytes-left d (view old) (view new) s.world (set_process s.world p now) s.ledger l bytes cached keeps.stands.parts.bytes kept-all) locks

  pub changed : (command : Command) (reply : Reply)
      → IsStep (setting_by d old) s command reply (state_after s p now on l (free_of (view new)) new.anons) →
      AreasAre (view new) (with_at p on s.areas) → AreasStand (view new) (set_process s.world p now) → HasTables new
      → StepsBeside d old new s command reply
  changed command reply step areas_now areas tables =
      let next = state_after s p now on l (free_of (view new)) new.anons in record {
        next = next;
        step = step;
        keeps = changed-keeps (after-sound old s next command reply keeps step) (after-lists old s next command reply keeps step) areas_now areas tables;
      }

-- ---- the frames and the entries stay

-- the tables and the areas change, the frames and the entries don't
abbrev pub moved_on : Mem → ProcessTables → AllSpaces → AnonSet → Mem
moved_on old tables spaces anons = record old { tables = tables; spaces = spaces; anons = anons }

pub swap_itself : (k : Mem) → KeepsSwap k k
swap_itself k = record { frames = refl; on = refl; bad = refl; closing = refl; priority = refl }

-- the swap areas of others with the same ones stay, too
pub swap_alike : (old new before now : Mem) → before.swap ≡ old.swap → now.swap ≡ new.swap → KeepsSwap old new → KeepsSwap before now
swap_alike old new before now was is h = record {
  frames = ap (λ s. (shown_swap s).frames) is ∙ h.frames ∙ sym (ap (λ s. (shown_swap s).frames) was);
  on = ap (λ s. (shown_swap s).on) is ∙ h.on ∙ sym (ap (λ s. (shown_swap s).on) was);
  bad = ap (λ s. (shown_swap s).bad) is ∙ h.bad ∙ sym (ap (λ s. (shown_swap s).bad) was);
  closing = ap (λ s. (shown_swap s).closing) is ∙ h.closing ∙ sym (ap (λ s. (shown_swap s).closing) was);
  priority = ap (λ s. (shown_swap s).priority) is ∙ h.priority ∙ sym (ap (λ s. (shown_swap s).priority) was);
}

pub stays_orderly : (d : Device) (old : Mem) (tables : ProcessTables) (spaces : AllSpaces) (anons : AnonSet) (l : Ledger)
    → entry_at tables ≡ entry_at old.tables →
    HasLedger d old l → HasLedger d (moved_on old tables spaces anons) l
stays_orderly d old tables spaces anons l entries h = record {
  sound = h.sound;
  there = h.there;
  parts =
      let had = h.parts in
      record {
        frames = record {
          frames = had.frames.frames;
          maps = had.frames.maps;
          slots = had.frames.slots;
          dirty = had.frames.dirty;
          free =
              had.frames.free;
        };
        lists = record { active = had.lists.active; inactive = had.lists.inactive };
        tables = record {
          entries = λ q page. ap (λ (t : ℕ → ℕ → Pte). entry_of (plain (t q page))) entries ∙ had.tables.entries q page;
          write_bits = λ q page t f is. had.tables.write_bits q page t f (sym (ap (λ (t : ℕ → ℕ → Pte). plain (t q page)) entries) ∙ is);
        };
        swap = record { finds = had.swap.finds; counts = had.swap.counts; flight = had.swap.flight; on = had.swap.on };
      };
  lists = h.lists;
  items = h.items;
  swap = h.swap;
}
