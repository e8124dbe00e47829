use Rattle.av_swapdev.specs.Device.{no_history}
use Rattle.av_run_tests.proofs.fault.is_stopped.Goals as goal

pub touch-requires : goal.touch-requires
touch-requires c = ((0, no_history), _, c.requires _)
