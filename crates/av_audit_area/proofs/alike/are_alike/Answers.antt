use Rattle.std.proofs.Common.{sym, ◌∙◌}
use Rattle.av_audit_ranges.specs.Ranges.{marks_at}
use Rattle.av_audit_area.proofs.AlikeLaws.{more-said}
use Rattle.av_audit_area.proofs.alike.are_alike.Goals as goal

pub loop-page-preserved : goal.loop-page-preserved
loop-page-preserved c =
    more-said (marks_at c.args.one.now) (marks_at c.args.other.now) c.loop-page.page c.same_up_to-to.result c.same_up_to-page.result
    c.loop-page.invariant (sym c.marks.ensures ∙ c.are_same.ensures.yes c.if-not-are_same.false ∙ c.marks-in-loop-page.ensures)
    c.same_up_to-to.ensures.same c.same_up_to-page.ensures.same c.same_up_to-page.ensures.most
