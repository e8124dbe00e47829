use Rattle.std.proofs.Common.{ℕ, ◌-◌, ◌<◌, arith, subst, sym}
use Rattle.std.specs.Prelude.{◌^◌}
use Rattle.av_audit_ranges.specs.Ranges.{marks_at}
use Rattle.av_audit_report.specs.Runs.{IsBound}
use Rattle.av_audit_report.proofs.RunLaws.{AreCutTo, cut-all, cut-more, none-cut}
use Rattle.av_audit_report.proofs.runs.pieces.Goals as goal

pub loop-next-init : goal.loop-next-init
loop-next-init c = subst (AreCutTo (marks_at c.args.ranges.now) 0) (sym c.new-cut.ensures.items) (none-cut (marks_at c.args.ranges.now))

smaller : (page next : ℕ) → page < next → next < 2 ^ 64 → 2 ^ 64 - next < 2 ^ 64 - page
smaller page next h g = omega (arith, h, g)

pub loop-next-smaller : goal.loop-next-smaller
loop-next-smaller c = smaller c.loop-next.page c.in-Some.next
    (subst (IsBound (marks_at c.args.ranges.now) c.loop-next.page) c.in-Some.is c.bound_above.ensures).0 c.fits.ensures

pub loop-next-preserved : goal.loop-next-preserved
loop-next-preserved c =
    let said = marks_at c.args.ranges.now in
    cut-more said c.loop-next.page c.in-Some.next c.marks.result c.loop-next.cut.items c.add_piece.new.cut.items c.loop-next.invariant
    (subst (IsBound said c.loop-next.page) c.in-Some.is c.bound_above.ensures) c.marks.ensures c.in_ok-add_piece.ensures

pub returns : goal.returns
returns c = cut-all (marks_at c.args.ranges.now) c.loop-next.page c.loop-next.cut.items c.loop-next.invariant
    (subst (IsBound (marks_at c.args.ranges.now) c.loop-next.page) c.in_default.is c.bound_above.ensures)
