use Rattle.av_lock_laws.proofs.PassLaws.{has_page-completes}
use Rattle.av_lock_laws.proofs.locks.frames_stay_over_completions.Goals as goal

pub returns : goal.returns
returns c = has_page-completes
