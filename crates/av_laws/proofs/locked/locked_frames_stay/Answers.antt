use Rattle.av_laws.proofs.Along.{compact-along}
use Rattle.av_laws.proofs.Spared.{legal-spares}
use Rattle.av_laws.proofs.Stay.{legal-stays}
use Rattle.av_laws.proofs.locked.locked_frames_stay.Goals as goal

pub returns-clause-unmaps_none : goal.returns-clause-unmaps_none
returns-clause-unmaps_none c = legal-spares

pub returns-clause-entries_stay : goal.returns-clause-entries_stay
returns-clause-entries_stay c = legal-stays

pub returns-clause-entries_go_along : goal.returns-clause-entries_go_along
returns-clause-entries_go_along c = compact-along
