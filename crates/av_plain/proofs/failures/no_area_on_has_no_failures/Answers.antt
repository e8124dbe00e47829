use Rattle.av_plain.proofs.NoDevice.{no-causes-off}
use Rattle.av_plain.proofs.failures.no_area_on_has_no_failures.Goals as goal

pub returns : goal.returns
returns c = no-causes-off
