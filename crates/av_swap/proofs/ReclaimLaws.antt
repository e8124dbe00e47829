-- A command that only adds notes over the device: what they tell is done, and that is its step.
use Rattle.std.proofs.Common.{◌≡◌, ◌+◌, ℕ, max, [], ◌++◌, None, Ok, refl, sym, ap, subst, ◌∙◌, false, true, arith}
use Rattle.std.specs.Prelude.{List, MatchOption, Option}
use Rattle.av_trace.specs.declared.command.Command.{Command}
use Rattle.av_trace.specs.declared.note.Note.{Note}
use Rattle.av_trace.specs.declared.reply.Answer.TheVariants.{Done}
use Rattle.av_trace.specs.declared.reply.Reply.{Reply}
use Rattle.av_trace.specs.Reply.{IsCleared}
use Rattle.av_io.specs.Count.{RoseBy}
use Rattle.av_vma.specs.Pages.{Lengths}
use Rattle.av_plain.specs.Areas.{Anons, Areas, Rmap, next_areas, rmap_after_all}
use Rattle.av_plain.specs.Choice.{ChoosesAll, Free}
use Rattle.av_plain.specs.Device.{Device, IsSameDevice, as_told, device_by, Wrote}
use Rattle.av_plain.specs.Event.{Event, after_all, note_events}
use Rattle.av_plain.specs.Ledger.{Ledger, Setting}
use Rattle.av_plain.specs.Load.{with_loads}
use Rattle.av_plain.specs.Pass.{fails, pages_written}
use Rattle.av_plain.specs.Refusal.{Refuses, refusal, tests}
use Rattle.av_plain.specs.Report.{ShowsAreas}
use Rattle.av_plain.specs.Step.{Follows, closing_swap_area, next}
use Rattle.av_plain.specs.Transcript.{State, rmap_of}
use Rattle.av_plain.specs.World.{World}
use Rattle.av_plain.proofs.Access.{notes_of-note_events}
use Rattle.av_plain.proofs.Transcript.{is_fork, next-plain}
use Rattle.av_mem.specs.declared.mem.Mem.{Mem}
use Rattle.av_mem.specs.Between as between
use Rattle.av_mem.specs.Between.{IsBetween, KeepsBetween}
use Rattle.av_mem.specs.Mem.{IsSteadyAt, Keeps, frame_count, setting_by}
use Rattle.av_mem.proofs.KeepsLaws.{keeps-serves, keeps-whenever, serves-keeps, state_by}
use Rattle.av_reclaim.specs.Commands.{HasAdded}
use Rattle.av_step.specs.Step.{Does, MemSteps}
use Rattle.av_step.proofs.StepLaws.{left_alone, noted}

-- ---- what stands between two events

pub stands-between : (d : Device) (k : Mem) (s : State) → Keeps d k s → KeepsBetween d k s.world (rmap_of s) s.ledger
stands-between d k s keeps = record { sound = keeps.stands.sound.ledger; serves = keeps-serves d k s keeps }

pub steady-between : (sizes : ℕ → Option ℕ) (k : Mem) → IsSteadyAt sizes k → IsBetween sizes k
steady-between sizes k h = (h.0, h.1.world, rmap_of h.1, h.1.ledger, stands-between (device_by sizes None h.0) k h.1 h.2)

-- ---- a command that adds notes

-- no test refuses the command, and what it changes is in its events alone
pub record IsByNotes (command : Command) : Type 0 where
  pub tested : (m : Setting) (w : World) (l : Ledger) → tests m w l command ≡ []
  pub plain : is_fork command ≡ false
  pub closing : closing_swap_area command ≡ None
  pub world : (w : World) → next w command Done ≡ w
  pub areas : (long : Lengths) (on : Areas) (w : World) → next_areas long on w command Done ≡ on
  pub shows : (on : Areas) (anons : Anons) → ShowsAreas on anons command Done []

-- what is asked of the notes that it adds
abbrev pub AsksNotes : Command → Setting → World → Ledger → List Note → Type 0
AsksNotes command m w l added = Follows m w l command (note_events added) Done []

-- the notes alone tell of failures
rose-noted : (n a b : ℕ) → RoseBy n a b → RoseBy (max n 0 + 0) a b
rose-noted n a b h = omega (arith, h)

module _ (command : Command) (by : IsByNotes command) where
  -- its step, from where the memory system stood
  added-steps : (d d' : Device) (old new : Mem) (s : State) (before now : List Note) → Keeps d old s → before ≡ []
      → HasAdded (AsksNotes command) d d' old new s.world (rmap_of s) s.ledger before now → MemSteps d d' old new s command (noted Done now)
  added-steps d d' old new s before now keeps fresh h =
      let events : List Event = note_events h.added in
      let m : Setting = setting_by d old in
      let r : Rmap = rmap_after_all s.ledger events (rmap_of s) in
      let l : Ledger = after_all s.ledger events in
      let w : World = with_loads m s.world s.ledger events in
      let after : State = state_by new w r l in
      let kept : Keeps d' new after = serves-keeps d' new w r l h.done.between.sound h.done.between.serves in
      let notes : now ≡ h.added = h.notes ∙ ap (λ ns. ns ++ h.added) fresh in
      record {
        next = after;
        step = record {
          events = events;
          legal = record {
            answer = subst (λ ts. MatchOption (refusal ts) (Follows m s.world s.ledger command events Done [])
                (λ error. Refuses error events Done [])) (sym (by.tested m s.world s.ledger)) h.asked;
            notes = notes ∙ sym (notes_of-note_events h.added);
          };
          world = sym (by.world w);
          ledger = refl;
          free = subst (λ (o : Option ℕ). ChoosesAll m o s.ledger events s.free after.free) (sym by.closing)
              (subst (λ (free : Free). ChoosesAll m None s.ledger events free after.free) keeps.stands.free h.done.free);
          rmap = next-plain r s.world command Done r by.plain (record {
            areas = sym (by.areas _ r.areas s.world);
            anons = left_alone new after kept;
            homes = refl;
            items = refl;
          });
          shows = by.shows s.areas s.anons;
        };
        keeps = kept;
        same = h.done.same;
        wrote = subst (λ ns. Wrote (pages_written ns) d.history d'.history) (notes_of-note_events h.added ∙ sym notes) h.done.wrote;
        failures = rose-noted (fails now) d.failures d'.failures (subst (λ ns. RoseBy (fails ns) d.failures d'.failures) (sym notes) h.failures);
      }

  -- so it does, whatever stood
  does-added : (d d' : Device) (old new : Mem) (before now : List Note) → before ≡ [] → IsSameDevice d d' → frame_count new ≡ frame_count old
      → between.WhateverStood d d' old (λ d d' w r l. HasAdded (AsksNotes command) d d' old new w r l before now)
      → Does d d' old new command (Ok (noted Done now))
  does-added d d' old new before now fresh same count h = record {
    step = λ s keeps. added-steps d d' old new s before now keeps fresh (h true s.world (rmap_of s) s.ledger (stands-between d old s keeps));
    steady = λ steady.
        let s = steady.1 in
        let keeps = keeps-whenever d.sizes None steady.0 (d.failures, d.history) old s steady.2 in
        let after = added-steps (as_told false d) (as_told false d') old new s before now keeps fresh
        (h false s.world (rmap_of s) s.ledger (stands-between (as_told false d) old s keeps)) in (
          (d'.failures, d'.history),
          after.next,
          subst (λ sizes. Keeps (device_by sizes None (d'.failures, d'.history)) new after.next) after.same.sizes after.keeps,
        );
    same = same;
    count = count;
  }

  -- with the reply that was given these notes and its answer
  does-noted : (d d' : Device) (old new : Mem) (reply reply' : Reply) (now : List Note) → IsCleared reply
      → reply' ≡ record reply { answer = Done; notes = now } → IsSameDevice d d' → frame_count new ≡ frame_count old
      → between.WhateverStood d d' old (λ d d' w r l. HasAdded (AsksNotes command) d d' old new w r l reply.notes now)
      → Does d d' old new command (Ok reply')
  does-noted d d' old new reply reply' now cleared is same count h = subst (λ r. Does d d' old new command (Ok r))
      (sym (is ∙ (λ i. record { answer = Done; notes = now; rows = cleared.rows i })))
      (does-added d d' old new reply.notes now cleared.notes same count h)

-- a command that goes over so many frames or slots
pub does-counted : (command : ℕ → Command) → ((n : ℕ) → IsByNotes (command n)) → (n count : ℕ) → count ≡ n → (d d' : Device) (old new : Mem)
    (reply reply' : Reply) (now : List Note) → IsCleared reply → reply' ≡ record reply { answer = Done; notes = now } → IsSameDevice d d'
    → frame_count new ≡ frame_count old
    → between.WhateverStood d d' old (λ d d' w r l. HasAdded (AsksNotes (command count)) d d' old new w r l reply.notes now)
    → Does d d' old new (command n) (Ok reply')
does-counted command by n count so_many d d' old new reply reply' now cleared is same frames h =
    subst (λ n. Does d d' old new (command n) (Ok reply')) so_many
    (does-noted (command count) (by count) d d' old new reply reply' now cleared is same frames h)
