use Rattle.std.proofs.Common.{◌≡◌, Bool, true, false, not, ◌&&◌, ◌∙◌, sym}
use Rattle.av_spaces.specs.Spaces.{pages_of}
use Rattle.av_fork.proofs.EntriesLeft.{run-alike, run-further}
use Rattle.av_fork.proofs.entries.run_from.Goals as goal
use Rattle.av_fork.proofs.entries.run_from.Goals.{else-not-area, then-not-area}

pub returns-after-not-area-clause-further : goal.returns-after-not-area-clause-further
returns-after-not-area-clause-further c =
    run-further (pages_of c.args.spaces.now.processes c.args.process) c.area.ensures.laid c.args.page c.in-Some.area (sym c.in-Some.ensures.area)

both_go : (a b goes : Bool) → not a ≡ true → goes ≡ not b → (not a && not b) ≡ goes
both_go true b goes h e = cc
both_go false b goes h e = sym e

left_out : (a b goes : Bool) → not a ≡ false → goes ≡ not a → (not a && not b) ≡ goes
left_out true b goes h e = sym e
left_out false b goes h e = cc

pub returns-after-not-area-clause-alike : goal.returns-after-not-area-clause-alike
returns-after-not-area-clause-alike c = λ other low high.
    let flags = c.in-Some.area.flags in
    run-alike (pages_of c.args.spaces.now.processes c.args.process) c.area.ensures.laid c.args.page c.in-Some.area (sym c.in-Some.ensures.area) other
    low high ∙ elim c.if-not-area.branch [
      | then-not-area w ↦ both_go flags.dont_fork flags.wipe_on_fork c.if-not-area.goes w.if-not-area.true w.goes-is
      | else-not-area w ↦ left_out flags.dont_fork flags.wipe_on_fork c.if-not-area.goes w.if-not-area.false w.goes-is
    ]
