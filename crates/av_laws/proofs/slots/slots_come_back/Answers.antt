use Rattle.std.specs.Prelude.{[], ◌∷◌, None, refl}
use Rattle.av_laws.specs.Examples.{slot, with_slots, with_swap}
use Rattle.av_laws.specs.Slots.{cached_and_named, puts_after_drop, puts_after_fail, puts_after_zap, some_given, some_out, three_in_use}
use Rattle.av_laws.proofs.Choice.{may}
use Rattle.av_laws.proofs.slots.slots_come_back.Goals as goal

pub returns-clause-zapped_last : goal.returns-clause-zapped_last
returns-clause-zapped_last c =
    may (with_swap 4 8 7) None (some_out 1) (puts_after_zap (slot 1)) (some_given 1) (1 ∷ 2 ∷ 3 ∷ []) refl refl

pub returns-clause-zapped_first : goal.returns-clause-zapped_first
returns-clause-zapped_first c =
    may (with_swap 4 8 7) None (some_out 2) (puts_after_zap (slot 3)) (some_given 2) (1 ∷ 2 ∷ 3 ∷ []) refl refl

pub returns-clause-still_named : goal.returns-clause-still_named
returns-clause-still_named c =
    may (with_swap 4 8 7) None cached_and_named (puts_after_drop (slot 2)) (with_slots 8 [] 1 (2 ∷ 3 ∷ [])) (0 ∷ 2 ∷ 3 ∷ []) refl refl

pub returns-clause-not_written : goal.returns-clause-not_written
returns-clause-not_written c =
    may (with_swap 4 8 7) None three_in_use (puts_after_fail (slot 2)) (with_slots 8 [] 0 (3 ∷ [])) (3 ∷ []) refl refl
