use Rattle.std.specs.Prelude.{refl}
use Rattle.av_plain.specs.World.{is_mapped, pages}
use Rattle.av_laws.specs.Examples.{at_rest}
use Rattle.av_laws.proofs.Gaps.{one_below}
use Rattle.av_laws.proofs.examples.mappings_have_room.Goals as goal

pub returns-clause-automatic : goal.returns-clause-automatic
returns-clause-automatic c = one_below (is_mapped (pages at_rest.world 1)) refl refl
