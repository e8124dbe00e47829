use Rattle.av_plain.proofs.Midway.{mlock-stops, mprotect-stops, munlock-stops}
use Rattle.av_laws.proofs.refusals.refusals_at_a_hole_change_the_pages_before_it.Goals as goal

pub returns-clause-mprotect : goal.returns-clause-mprotect
returns-clause-mprotect c = mprotect-stops

pub returns-clause-mlock : goal.returns-clause-mlock
returns-clause-mlock c = mlock-stops

pub returns-clause-munlock : goal.returns-clause-munlock
returns-clause-munlock c = munlock-stops
