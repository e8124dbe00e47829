use Rattle.std.specs.Prelude.{[], ◌∷◌, false, true, refl}
use Rattle.std.proofs.Common.{inr}
use Rattle.av_trace.specs.declared.note.Note.TheVariants.{Dropped, Failed}
use Rattle.av_plain.specs.Access.{Stopped}
use Rattle.av_plain.specs.Fault.{Lost}
use Rattle.av_laws.specs.Examples.{slot}
use Rattle.av_laws.specs.PassTurns.{lost_reply}
use Rattle.av_laws.proofs.pass_turns.pages_are_lost_behind_a_pass.Goals as goal

pub returns-clause-lost_behind_pass : goal.returns-clause-lost_behind_pass
returns-clause-lost_behind_pass c = record {
  answer = (
    Stopped 0x10 Lost,
    [],
    inr (
      lost_reply.notes,
      Lost,
      (
        refl,
        record {
          slot = slot 3;
          absent = refl;
          seeks = (Failed (slot 2) ∷ [], Dropped (slot 1) ∷ [], refl, (true, [], refl, refl), (slot 1, false, refl, refl));
          frame = refl;
        },
      ),
      refl,
      refl,
    ),
    (refl, tt, tt),
    refl,
    refl,
  );
  notes = refl;
}
