use Rattle.std.specs.Prelude.{[], ◌∷◌, None, Some, refl}
use Rattle.av_laws.specs.Slots.{lower_given, lower_in_use, one_put, slot_at, two_swaps}
use Rattle.av_laws.proofs.Choice.{may}
use Rattle.av_laws.proofs.slots.the_first_area_gives.Goals as goal

pub returns-clause-lower_gives : goal.returns-clause-lower_gives
returns-clause-lower_gives c =
    may two_swaps None (lower_in_use 1) (one_put (slot_at 0 2)) (lower_given 1) (1 ∷ 2 ∷ 3 ∷ []) refl refl

pub returns-clause-upper_gives : goal.returns-clause-upper_gives
returns-clause-upper_gives c =
    may two_swaps None (lower_in_use 2) (one_put (slot_at 1 1)) (lower_given 2) (1 ∷ 2 ∷ 3 ∷ []) refl refl

pub returns-clause-past_a_closing : goal.returns-clause-past_a_closing
returns-clause-past_a_closing c =
    may two_swaps (Some 0) (lower_in_use 1) (one_put (slot_at 1 1)) (lower_given 1) (1 ∷ 2 ∷ 3 ∷ []) refl refl
