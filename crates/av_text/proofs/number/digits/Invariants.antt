use Rattle.std.proofs.Common.{◌≡◌, ◌<◌, ◌^◌}
use Rattle.av_text.specs.Number.{digits_from}
use Rattle.av_text.proofs.number.digits.Given as goal

-- the digits so far and the rest tell what all the bytes tell, and so many digits are a small number
abbrev pub invariant-loop-place : goal.invariant-loop-place
invariant-loop-place l = record { same : digits_from l.base l.value l.rest ≡ digits_from l.base 0 l.bytes; small : l.value < 16 ^ l._place }
