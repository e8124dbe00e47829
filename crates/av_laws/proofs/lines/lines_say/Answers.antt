use Rattle.std.proofs.Common.{refl, arith}
use Rattle.std.specs.Fmt.{digits}
use Rattle.av_laws.proofs.lines.lines_say.Goals as goal

pub returns-clause-parent_first : goal.returns-clause-parent_first
unfolding digits
returns-clause-parent_first c =
    ((record { least = omega arith; most = omega arith }, record { least = omega arith; most = omega arith }), refl)

pub returns-clause-old_first : goal.returns-clause-old_first
unfolding digits
returns-clause-old_first c =
    ((record { least = omega arith; most = omega arith }, omega arith, omega arith, omega arith, tt), refl)
