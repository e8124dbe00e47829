use Rattle.std.specs.Prelude.{[], ◌∷◌, None, refl}
use Rattle.std.proofs.Common.{arith}
use Rattle.av_laws.specs.Examples.{slot, with_swap}
use Rattle.av_laws.specs.Slots.{no_slot_yet, none_on, puts_when_on_again}
use Rattle.av_laws.proofs.Choice.{may}
use Rattle.av_laws.proofs.slots.areas_are_turned_on_anew.Goals as goal

pub returns-clause-on_again : goal.returns-clause-on_again
returns-clause-on_again c =
    may (with_swap 4 300 299) None none_on (puts_when_on_again (slot 1)) no_slot_yet (1 ∷ 2 ∷ 3 ∷ []) refl refl

pub returns-clause-adds_up : goal.returns-clause-adds_up
returns-clause-adds_up c =
    (8, 1 ∷ 2 ∷ 3 ∷ 4 ∷ [], omega arith, refl, refl, refl)
