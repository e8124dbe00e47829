use Rattle.std.proofs.Common.{ℕ, Option}
use Rattle.av_audit_ranges.specs.Marks.{marks_of_rewrite}
use Rattle.av_audit_ranges.specs.declared.marks.Marks.{Marks}
use Rattle.av_audit_ranges.specs.Ranges.{is_mapped, marks_at}
use Rattle.av_audit_ranges.proofs.HolesLaws.{index-kept}
use Rattle.av_audit_ranges.proofs.MarksLaws.{mapped-above, mapped-before}
use Rattle.av_audit_ranges.proofs.ranges.Ranges.rewrite.Goals as goal

pub with_holes-requires-clause-holes : goal.with_holes-requires-clause-holes
with_holes-requires-clause-holes c =
    let old = c.self.inside.bounds in
    let new = c.rewrite-result.new.self in
    let around = c.around-low.ensures in
    let f : ℕ → Option Marks = λ q. marks_of_rewrite c.args.rewrite (marks_at old q) in
    index-kept (is_mapped old) (is_mapped new) c.around-low.result.0 c.around-low.result.1 around.below around.above
    (λ q low high. mapped-before c.rewrite-result.result old new f c.args.from c.args.n c.rewrite-result.ensures.ok c.rewrite-result.ensures.err q
    (around.from q low high))
    (λ q low high. mapped-above c.rewrite-result.result old new f c.args.from c.args.n c.rewrite-result.ensures.ok c.rewrite-result.ensures.err q
    (around.end q high low))
    c.without_holes-holes.result c.without_holes-holes.ensures.holes
