-- A swap area that is turned off: what was done to empty it is the step of the command, whether it went off or not.
use Rattle.std.proofs.Common.{◌≡◌, ℕ, ◌+◌, ◌≤◌, Bool, true, false, cond, not, List, [], ◌++◌, Some, None, Ok, Err, refl, sym, ap, subst, ◌∙◌, arith}
use Rattle.std.specs.Prelude.{MatchOption}
use Rattle.av_io.specs.Count.{RoseBy}
use Rattle.av_swapcache.specs.Swap.{is_on as is_shown_on, shown as shown_swap}
use Rattle.av_trace.specs.declared.command.Command.TheVariants.{Swapoff}
use Rattle.av_trace.specs.declared.note.Note.{Note}
use Rattle.av_trace.specs.declared.reply.Answer.{Answer}
use Rattle.av_trace.specs.declared.reply.Errno.TheVariants.{Einval}
use Rattle.av_trace.specs.declared.reply.Reply.{Reply}
use Rattle.av_trace.specs.Reply.{IsCleared}
use Rattle.av_vma.specs.Pages.{Lengths}
use Rattle.av_plain.specs.Areas.{Anons, Areas, Rmap, chain_length, next_areas, rmap_after_all}
use Rattle.av_plain.specs.Choice.{ChoosesAll, Free}
use Rattle.av_plain.specs.Device.{Device, IsSameDevice, as_told, device_by, Wrote}
use Rattle.av_plain.specs.Event.{Event, after_all}
use Rattle.av_plain.specs.Ledger.{Ledger, Setting}
use Rattle.av_plain.specs.Load.{with_loads}
use Rattle.av_plain.specs.Pass.{fails, pages_written}
use Rattle.av_plain.specs.Refusal.{Refuses, refusal, tests}
use Rattle.av_plain.specs.Report.{ShowsAreas}
use Rattle.av_plain.specs.Step.{Follows, causes, next}
use Rattle.av_plain.specs.Swapoff.{close_answer}
use Rattle.av_plain.specs.Transcript.{State, rmap_of}
use Rattle.av_plain.specs.World.{World}
use Rattle.av_plain.proofs.Transcript.{next-plain}
use Rattle.av_mem.specs.declared.mem.Mem.{Mem}
use Rattle.av_mem.specs.Between as between
use Rattle.av_mem.specs.Mem.{Keeps, frame_count, setting_by}
use Rattle.av_mem.proofs.KeepsLaws.{keeps-whenever, serves-keeps, state_by}
use Rattle.av_swapoff.specs.Command.{HasTurnedOff, swapoff_events}
use Rattle.av_swapoff.specs.Empty.{close_of, failed_by, lost_by}
use Rattle.av_swapoff.specs.declared.empty.EmptyEnd.{EmptyEnd}
use Rattle.av_swapoff.specs.declared.empty.EmptyEnd.TheVariants.{Empty, NoFrame, NoPage}
use Rattle.av_swapoff.proofs.CloseLaws.{on-shown}
use Rattle.av_step.specs.Step.{Does, MemSteps}
use Rattle.av_step.specs.declared.refusal.Refusal.TheVariants as refusals
use Rattle.av_swap.proofs.ReclaimLaws.{stands-between}
use Rattle.av_step.proofs.StepLaws.{left_alone, noted, refused-over}
use Rattle.av_swapoff.proofs.TurnsOffLaws.{swapoff-notes}

-- the answer
abbrev pub answer_by : EmptyEnd → Answer
answer_by end = close_answer (close_of end)

-- ---- whatever the end, the answer alone changes nothing

world-kept : (area : ℕ) (w : World) (end : EmptyEnd) → next w (Swapoff area) (answer_by end) ≡ w
world-kept area w Empty = refl
world-kept area w (NoFrame out) = refl
world-kept area w NoPage = refl

areas-kept : (area : ℕ) (long : Lengths) (on : Areas) (w : World) (end : EmptyEnd) → next_areas long on w (Swapoff area) (answer_by end) ≡ on
areas-kept area long on w Empty = refl
areas-kept area long on w (NoFrame out) = refl
areas-kept area long on w NoPage = refl

shows-none : (area : ℕ) (on : Areas) (anons : Anons) (end : EmptyEnd) → ShowsAreas on anons (Swapoff area) (answer_by end) []
shows-none area on anons Empty = tt
shows-none area on anons (NoFrame out) = tt
shows-none area on anons NoPage = tt

-- what only failures explain
rose-by : (end : EmptyEnd) (notes : List Note) (a b : ℕ) → failed_by end ≤ fails notes → RoseBy (fails notes + lost_by end) a b
    → RoseBy (causes (noted (answer_by end) notes)) a b
rose-by Empty notes a b failed h = omega (arith, h)
rose-by (NoFrame out) notes a b failed h = omega (arith, h, failed)
rose-by NoPage notes a b failed h = omega (arith, h)

-- ---- the test

tested : (d : Device) (k : Mem) (s : State) (area : ℕ) (b : Bool) → Keeps d k s → is_shown_on (shown_swap k.swap) area ≡ b
    → refusal (tests (setting_by d k) s.world s.ledger (Swapoff area)) ≡ cond b None (Some Einval)
tested d k s area b keeps on = ap (λ b. cond (not b) (Some Einval) None) (on-shown k s.ledger keeps.stands.parts.ledger.swap area ∙ on) ∙ by b
  where
    by : (b : Bool) → cond (not b) (Some Einval) None ≡ cond b None (Some Einval)
    by true = refl
    by false = refl

-- an area that is off is refused
pub swapoff-refused : (k : Mem) (area : ℕ) → is_shown_on (shown_swap k.swap) area ≡ false → (d : Device)
    → Does d d k k (Swapoff area) (Err (refusals.Refused Einval))
swapoff-refused k area off d = refused-over k (Swapoff area) Einval refl (λ d s keeps. tested d k s area false keeps off) d

-- ---- the step

module _ (area : ℕ) where
  turned-steps : (d d' : Device) (old new : Mem) (s : State) (before now : List Note) (end : EmptyEnd) → Keeps d old s → before ≡ []
      → is_shown_on (shown_swap old.swap) area ≡ true → HasTurnedOff d d' old new s.world (rmap_of s) s.ledger area before now end
      → MemSteps d d' old new s (Swapoff area) (noted (answer_by end) now)
  turned-steps d d' old new s before now end keeps fresh on h =
      let events : List Event = swapoff_events area h.added end in
      let m : Setting = setting_by d old in
      let r : Rmap = rmap_after_all s.ledger events (rmap_of s) in
      let l : Ledger = after_all s.ledger events in
      let w : World = with_loads m s.world s.ledger events in
      let after : State = state_by new w r l in
      let kept : Keeps d' new after = serves-keeps d' new w r l h.done.between.sound h.done.between.serves in
      let notes : now ≡ h.added = h.noted.notes ∙ ap (λ ns. ns ++ h.added) fresh in
      record {
        next = after;
        step = record {
          events = events;
          legal = record {
            answer = subst (λ o. MatchOption o (Follows m s.world s.ledger (Swapoff area) events (answer_by end) [])
                (λ error. Refuses error events (answer_by end) [])) (sym (tested d old s area true keeps on)) h.turns_off;
            notes = notes ∙ sym (swapoff-notes area h.added end);
          };
          world = sym (world-kept area w end);
          ledger = refl;
          free = subst (λ (free : Free). ChoosesAll m (Some area) s.ledger events free after.free) keeps.stands.free h.done.free;
          rmap = next-plain r s.world (Swapoff area) (answer_by end) r refl (record {
            areas = sym (areas-kept area (chain_length r.anons) r.areas s.world end);
            anons = left_alone new after kept;
            homes = refl;
            items = refl;
          });
          shows = shows-none area s.areas s.anons end;
        };
        keeps = kept;
        same = h.done.same;
        wrote = subst (λ ns. Wrote (pages_written ns) d.history d'.history) (swapoff-notes area h.added end ∙ sym notes) h.done.wrote;
        failures = subst (λ ns. RoseBy (causes (noted (answer_by end) ns)) d.failures d'.failures) (sym notes)
            (rose-by end h.added d.failures d'.failures h.noted.failed h.noted.failures);
      }

  -- so it does, whatever stood
  turned-does : (d d' : Device) (old new : Mem) (before now : List Note) (end : EmptyEnd) → before ≡ []
      → is_shown_on (shown_swap old.swap) area ≡ true
      → IsSameDevice d d' → frame_count new ≡ frame_count old
      → between.WhateverStood d d' old (λ d d' w r l. HasTurnedOff d d' old new w r l area before now end)
      → Does d d' old new (Swapoff area) (Ok (noted (answer_by end) now))
  turned-does d d' old new before now end fresh on same count h = record {
    step = λ s keeps. turned-steps d d' old new s before now end keeps fresh on (h true s.world (rmap_of s) s.ledger (stands-between d old s keeps));
    steady = λ steady.
        let s = steady.1 in
        let keeps = keeps-whenever d.sizes None steady.0 (d.failures, d.history) old s steady.2 in
        let after = turned-steps (as_told false d) (as_told false d') old new s before now end keeps fresh on
        (h false s.world (rmap_of s) s.ledger (stands-between (as_told false d) old s keeps)) in (
          (d'.failures, d'.history),
          after.next,
          subst (λ sizes. Keeps (device_by sizes None (d'.failures, d'.history)) new after.next) after.same.sizes after.keeps,
        );
    same = same;
    count = count;
  }

  -- with the reply that was given these notes and its answer
  pub swapoff-does : (d d' : Device) (old new : Mem) (reply reply' : Reply) (now : List Note) (end : EmptyEnd) (answer : Answer) → IsCleared reply
      → reply' ≡ record reply { answer = answer; notes = now } → answer ≡ answer_by end → is_shown_on (shown_swap old.swap) area ≡ true
      → IsSameDevice d d' → frame_count new ≡ frame_count old
      → between.WhateverStood d d' old (λ d d' w r l. HasTurnedOff d d' old new w r l area reply.notes now end)
      → Does d d' old new (Swapoff area) (Ok reply')
  swapoff-does d d' old new reply reply' now end answer cleared is answered on same count h = subst (λ r. Does d d' old new (Swapoff area) (Ok r))
      (sym (is ∙ (λ i. record { answer = answered i; notes = now; rows = cleared.rows i })))
      (turned-does d d' old new reply.notes now end cleared.notes on same count h)
