use Rattle.std.proofs.Common.{arith, refl}
use Rattle.std.specs.Fmt.{digits}
use Rattle.av_examples.proofs.texts.reads_have_a_length.Goals as goal

pub returns-clause-most : goal.returns-clause-most
unfolding digits
returns-clause-most c = (
  (record { least = omega arith; most = omega arith }, omega arith, record { least = omega arith; most = omega arith }),
  refl,
)
