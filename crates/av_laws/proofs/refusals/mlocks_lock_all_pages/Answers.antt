use Rattle.av_plain.proofs.Midway.{mlock-locks}
use Rattle.av_laws.proofs.refusals.mlocks_lock_all_pages.Goals as goal

pub returns : goal.returns
returns c = record { all = mlock-locks }
