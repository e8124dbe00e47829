use Rattle.std.specs.Prelude.{false, true, [], ◌∷◌, refl}
use Rattle.av_trace.specs.declared.note.Note.TheVariants.{Failed, Written}
use Rattle.av_plain.specs.Event.{note_events}
use Rattle.av_laws.specs.Examples.{slot}
use Rattle.av_laws.specs.SwapSteps.{both_written}
use Rattle.av_laws.proofs.swap_steps.the_first_writes_are_completed.Goals as goal

pub returns-clause-first_completed : goal.returns-clause-first_completed
returns-clause-first_completed c =
    record { answer = (Written (slot 2) ∷ [], (false, [], refl, refl), refl, refl, refl); notes = refl }

pub returns-clause-both_completed : goal.returns-clause-both_completed
returns-clause-both_completed c = (
  note_events both_written,
  record {
    answer = (both_written, (false, Written (slot 1) ∷ [], refl, (false, [], refl, refl)), refl, refl, refl);
    notes = refl;
  },
)

pub returns-clause-failed_stays : goal.returns-clause-failed_stays
returns-clause-failed_stays c = (
  note_events (Failed (slot 2) ∷ []),
  record { answer = (Failed (slot 2) ∷ [], (true, [], refl, refl), refl, refl, refl); notes = refl },
)
