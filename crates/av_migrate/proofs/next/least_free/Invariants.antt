use Rattle.std.proofs.Common.{◌≡◌, ◌<◌, ◌≤◌, ℕ, false}
use Rattle.av_base.specs.Words.{is_in}
use Rattle.av_migrate.proofs.next.least_free.Given as goal

abbrev pub invariant-loop-frame : goal.invariant-loop-frame
invariant-loop-frame l = (f : ℕ) → l.low ≤ f → f < l.frame → is_in f l.frames.free ≡ false
