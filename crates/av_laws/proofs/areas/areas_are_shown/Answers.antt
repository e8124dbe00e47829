use Rattle.std.specs.Prelude.{refl}
use Rattle.std.proofs.Common.{arith}
use Rattle.av_laws.specs.Areas.{four_areas}
use Rattle.av_laws.proofs.areas.areas_are_shown.Goals as goal

pub returns : goal.returns
returns c =
    (four_areas, refl, (omega arith, omega arith, (omega arith, omega arith, (omega arith, omega arith, omega arith))), λ page. refl)
