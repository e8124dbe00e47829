use Rattle.std.proofs.Common.{subst}
use Rattle.av_audit_ranges.proofs.MarksLaws.{IsBoundAbove, next-above}
use Rattle.av_audit_ranges.proofs.ranges.Ranges.bound_above.Goals as goal

pub returns : goal.returns
returns c = subst (λ b. IsBoundAbove b c.args.page c.next.result) c.self.view_is
    (next-above c.self.inside.bounds c.self.inside.holes c.args.page c.next.result c.self.invariant c.next.ensures)
