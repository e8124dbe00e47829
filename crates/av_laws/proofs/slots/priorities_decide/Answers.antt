use Rattle.std.specs.Prelude.{[], ◌∷◌, None, Some, refl}
use Rattle.av_laws.specs.Slots.{lower_given, one_put, slot_at, two_swaps, upper_before_lower}
use Rattle.av_laws.proofs.Choice.{may}
use Rattle.av_laws.proofs.slots.priorities_decide.Goals as goal

pub returns-clause-put_at_greatest : goal.returns-clause-put_at_greatest
returns-clause-put_at_greatest c =
    may two_swaps None upper_before_lower (one_put (slot_at 1 1)) (lower_given 0) (1 ∷ 2 ∷ 3 ∷ []) refl refl

pub returns-clause-put_while_closing : goal.returns-clause-put_while_closing
returns-clause-put_while_closing c =
    may two_swaps (Some 1) upper_before_lower (one_put (slot_at 0 1)) (lower_given 0) (1 ∷ 2 ∷ 3 ∷ []) refl refl
