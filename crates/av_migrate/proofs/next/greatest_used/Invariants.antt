use Rattle.std.proofs.Common.{◌-◌, ◌≡◌, ◌<◌, ◌≤◌, ℕ, true}
use Rattle.av_base.specs.Words.{is_in}
use Rattle.av_migrate.proofs.next.greatest_used.Given as goal

abbrev pub invariant-loop-frame : goal.invariant-loop-frame
invariant-loop-frame l = (l.frame ≤ l.past)
    × ((f : ℕ) → l.frame ≤ f → f < l.past → is_in f l.frames.free ≡ true)

abbrev pub decreases-loop-frame : goal.decreases-loop-frame
decreases-loop-frame l = l.frame - l.low
