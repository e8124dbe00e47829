use Rattle.std.proofs.Common.{◌≡◌, length}
use Rattle.av_text.specs.Number.{digits_from}
use Rattle.av_text.proofs.number.more_digits.Given as goal

-- the digits so far and the rest tell what those before and all the bytes tell
abbrev pub invariant-loop-rest : goal.invariant-loop-rest
invariant-loop-rest l = digits_from l.base l.value l.rest ≡ digits_from l.base l.so_far l.bytes

abbrev pub decreases-loop-rest : goal.decreases-loop-rest
decreases-loop-rest l = length l.rest
