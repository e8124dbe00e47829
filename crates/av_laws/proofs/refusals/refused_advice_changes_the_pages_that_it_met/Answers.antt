use Rattle.av_plain.proofs.Midway.{dontneed-ends, madvise-flags}
use Rattle.av_laws.proofs.refusals.refused_advice_changes_the_pages_that_it_met.Goals as goal

pub returns-clause-flags : goal.returns-clause-flags
returns-clause-flags c = madvise-flags

pub returns-clause-dontneed : goal.returns-clause-dontneed
returns-clause-dontneed c = dontneed-ends
