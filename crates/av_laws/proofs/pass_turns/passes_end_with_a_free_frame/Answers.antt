use Rattle.std.specs.Prelude.{[], ◌∷◌, false, true, refl}
use Rattle.av_trace.specs.declared.note.Note.TheVariants.{Dropped, Written}
use Rattle.av_laws.specs.Examples.{slot}
use Rattle.av_laws.specs.PassTurns.{failure_first}
use Rattle.av_laws.proofs.pass_turns.passes_end_with_a_free_frame.Goals as goal

pub returns-clause-past_failure : goal.returns-clause-past_failure
returns-clause-past_failure c =
    ([], failure_first, refl, refl, (slot 2, true, refl, (Dropped (slot 1) ∷ [], refl, (slot 1, false, refl, refl))))

pub returns-clause-freed_by_completion : goal.returns-clause-freed_by_completion
returns-clause-freed_by_completion c = (Written (slot 1) ∷ Dropped (slot 1) ∷ [], [], refl, (false, [], refl, refl), refl)

pub returns-clause-write_behind_ends : goal.returns-clause-write_behind_ends
returns-clause-write_behind_ends c = (
  Written (slot 1) ∷ Dropped (slot 1) ∷ Written (slot 2) ∷ [],
  [],
  refl,
  (false, Written (slot 2) ∷ [], refl, (false, [], refl, refl)),
  refl,
)

pub returns-clause-all_completed : goal.returns-clause-all_completed
returns-clause-all_completed c = (
  Written (slot 1) ∷ Written (slot 2) ∷ [],
  Dropped (slot 2) ∷ [],
  refl,
  (false, Written (slot 2) ∷ [], refl, (false, [], refl, refl)),
  (slot 2, false, refl, refl),
)
