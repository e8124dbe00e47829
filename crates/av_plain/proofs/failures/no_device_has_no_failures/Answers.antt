use Rattle.av_plain.proofs.NoDevice.{no-causes}
use Rattle.av_plain.proofs.failures.no_device_has_no_failures.Goals as goal

pub returns : goal.returns
returns c = no-causes
