use Rattle.std.specs.Prelude.{[], ◌∷◌, None, refl}
use Rattle.av_laws.specs.Examples.{slot, with_slots, with_swap}
use Rattle.av_laws.specs.Slots.{no_slot_yet, none_on, puts, puts_again, puts_then, three_in_use}
use Rattle.av_laws.proofs.Choice.{may}
use Rattle.av_laws.proofs.slots.slots_are_given_in_turn.Goals as goal

pub returns-clause-put_in_turn : goal.returns-clause-put_in_turn
returns-clause-put_in_turn c =
    may (with_swap 4 8 7) None three_in_use (puts (slot 3)) (with_slots 8 [] 0 (3 ∷ [])) (3 ∷ []) refl refl

pub returns-clause-put_again : goal.returns-clause-put_again
returns-clause-put_again c =
    may (with_swap 4 8 7) None three_in_use (puts_again (slot 1)) (with_slots 8 [] 0 (3 ∷ [])) (3 ∷ []) refl refl

pub returns-clause-second_cluster : goal.returns-clause-second_cluster
returns-clause-second_cluster c =
    may (with_swap 4 300 299) None none_on (puts_then (slot 256)) no_slot_yet (1 ∷ 2 ∷ 3 ∷ []) refl refl
