use Rattle.std.proofs.Common.{sym}
use Rattle.av_swapmap.proofs.Numbers.{worth_is, byte_cached, never_bad}
use Rattle.av_swapmap.proofs.Places.{past_is}
use Rattle.av_swapmap.proofs.digits.digits_are_worth_the_count.Goals as goal

pub returns-clause-worth : goal.returns-clause-worth
returns-clause-worth c = worth_is

pub returns-clause-no_more : goal.returns-clause-no_more
returns-clause-no_more c = λ n i h far. sym (past_is n i h far)

pub returns-clause-flag : goal.returns-clause-flag
returns-clause-flag c = byte_cached

pub returns-clause-not_bad : goal.returns-clause-not_bad
returns-clause-not_bad c = never_bad
