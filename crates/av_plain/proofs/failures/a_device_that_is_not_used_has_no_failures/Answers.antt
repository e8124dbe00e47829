use Rattle.av_plain.proofs.Faultless.{unused-causes}
use Rattle.av_plain.proofs.failures.a_device_that_is_not_used_has_no_failures.Goals as goal

pub returns : goal.returns
returns c = unused-causes
