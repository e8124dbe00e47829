use Rattle.std.specs.Prelude.{[], ◌∷◌, None, refl}
use Rattle.av_plain.specs.Choice.{no_slots}
use Rattle.av_plain.specs.Ledger.{first_ledger}
use Rattle.av_laws.specs.Examples.{machine, taken_and_freed}
use Rattle.av_laws.proofs.Choice.{all-chosen, chosen-by}
use Rattle.av_laws.proofs.examples.frames_are_chosen.Goals as goal

pub returns-clause-taken_and_freed : goal.returns-clause-taken_and_freed
returns-clause-taken_and_freed c =
    all-chosen (machine 3) None first_ledger taken_and_freed (0 ∷ 1 ∷ 2 ∷ []) (1 ∷ 0 ∷ 2 ∷ []) no_slots
    (chosen-by (machine 3) first_ledger taken_and_freed (0 ∷ 1 ∷ 2 ∷ []) (1 ∷ 0 ∷ 2 ∷ []) refl) refl
