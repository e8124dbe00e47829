use Rattle.av_lock_laws.proofs.ReclaimLaws.{has_page-outcomes}
use Rattle.av_lock_laws.proofs.locks.frames_stay_over_reclaims.Goals as goal

pub returns : goal.returns
returns c = has_page-outcomes
