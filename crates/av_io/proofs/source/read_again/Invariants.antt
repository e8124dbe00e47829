-- The buffer keeps its length, and an interrupted read takes nothing of what is known.
use Rattle.std.proofs.Common.{◌≡◌, length}
use Rattle.std.specs.Io.KnownBytes.{Keeps}
use Rattle.av_io.proofs.source.read_again.Given as goal

abbrev pub invariant-loop-turn : goal.invariant-loop-turn
invariant-loop-turn g l = (length l.into ≡ length l.initial.into)
    × Keeps (g.R.Read.remaining l.initial.reader) (g.R.Read.remaining l.reader)
