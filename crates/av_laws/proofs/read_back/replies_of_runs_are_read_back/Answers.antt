use Rattle.av_laws.proofs.ReadBack.Device.{small-alone, small-device}
use Rattle.av_laws.proofs.ReadBack.OfRuns.{run-reads_back}
use Rattle.av_laws.proofs.read_back.replies_of_runs_are_read_back.Goals as goal

pub returns : goal.returns
returns c = record { in_runs = run-reads_back; of_devices = small-device; without_device = small-alone }
