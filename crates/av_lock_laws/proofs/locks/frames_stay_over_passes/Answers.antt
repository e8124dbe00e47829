use Rattle.av_lock_laws.proofs.PassLaws.{has_page-pass}
use Rattle.av_lock_laws.proofs.locks.frames_stay_over_passes.Goals as goal

pub returns : goal.returns
returns c = has_page-pass
