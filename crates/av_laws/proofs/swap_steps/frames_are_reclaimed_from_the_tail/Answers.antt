use Rattle.std.specs.Prelude.{[], ◌∷◌, refl}
use Rattle.av_trace.specs.declared.note.Cause.TheVariants.{Referenced, NoSlot, WriteStarted, Writeback}
use Rattle.av_trace.specs.declared.note.Note.TheVariants.{Dropped, Kept, Put, Started, Unmapped}
use Rattle.av_plain.specs.Event.{note_events}
use Rattle.av_laws.specs.Examples.{slot}
use Rattle.av_laws.specs.SwapSteps.{four_reclaimed, two_kept}
use Rattle.av_laws.proofs.swap_steps.frames_are_reclaimed_from_the_tail.Goals as goal

pub returns-clause-four_reclaimed : goal.returns-clause-four_reclaimed
returns-clause-four_reclaimed c = (
  note_events four_reclaimed,
  record {
    answer = (
      four_reclaimed,
      (
        Kept 0 Writeback ∷ [],
        Kept 1 Referenced ∷ Put 2 (slot 2) ∷ Unmapped 2 ∷ Started (slot 2) ∷ Kept 2 WriteStarted ∷ Kept 3 NoSlot ∷ [],
        refl,
        refl,
        (
          Kept 1 Referenced ∷ [],
          Put 2 (slot 2) ∷ Unmapped 2 ∷ Started (slot 2) ∷ Kept 2 WriteStarted ∷ Kept 3 NoSlot ∷ [],
          refl,
          refl,
          (
            Put 2 (slot 2) ∷ Unmapped 2 ∷ Started (slot 2) ∷ Kept 2 WriteStarted ∷ [],
            Kept 3 NoSlot ∷ [],
            refl,
            (slot 2, refl, refl),
            (Kept 3 NoSlot ∷ [], [], refl, refl, refl),
          ),
        ),
      ),
      refl,
      refl,
      refl,
    );
    notes = refl;
  },
)

pub returns-clause-two_reclaimed : goal.returns-clause-two_reclaimed
returns-clause-two_reclaimed c = (
  note_events two_kept,
  record {
    answer = (
      two_kept,
      (Kept 0 Writeback ∷ [], Kept 1 Referenced ∷ [], refl, refl, (Kept 1 Referenced ∷ [], [], refl, refl, refl)),
      refl,
      refl,
      refl,
    );
    notes = refl;
  },
)

pub returns-clause-seen_kept : goal.returns-clause-seen_kept
returns-clause-seen_kept c = (
  note_events (Kept 0 Referenced ∷ []),
  record {
    answer = (Kept 0 Referenced ∷ [], (Kept 0 Referenced ∷ [], [], refl, refl, refl), refl, refl, refl);
    notes = refl;
  },
)

pub returns-clause-clean_reclaimed : goal.returns-clause-clean_reclaimed
returns-clause-clean_reclaimed c = (
  note_events (Unmapped 0 ∷ Dropped (slot 1) ∷ []),
  record {
    answer = (
      Unmapped 0 ∷ Dropped (slot 1) ∷ [],
      (Unmapped 0 ∷ Dropped (slot 1) ∷ [], [], refl, (slot 1, refl, refl), refl),
      refl,
      refl,
      refl,
    );
    notes = refl;
  },
)
