use Rattle.std.proofs.Common.{◌+◌, arith, cond, ◌∙◌}
use Rattle.av_base.specs.Words.{within}
use Rattle.av_audit_ranges.specs.Marks.{marks_of_rewrite}
use Rattle.av_audit_ranges.specs.Ranges.{bound_at}
use Rattle.av_audit_ranges.proofs.MarksLaws.{rewrite-all, tight-all}
use Rattle.av_audit_ranges.proofs.bounds.Bounds.rewrite.Goals as goal

pub returns-clause-ok : goal.returns-clause-ok
returns-clause-ok c = λ q.
    let old = c.cut-2.ensures.same q ∙ c.cut.ensures.same q in
    c.join-2.ensures.marks q
    ∙ rewrite-all (bound_at c.cut-2.new.self) (bound_at c.rewrite_between.new.self) c.args.from (c.args.from + c.args.n)
    (marks_of_rewrite c.args.rewrite) c.in_default.ensures.bound c.rewrite_between.ensures.below c.rewrite_between.ensures.above q
    ∙ (λ i. cond (within c.args.from c.args.n q) (marks_of_rewrite c.args.rewrite (old i)) (old i))

pub returns-clause-tight : goal.returns-clause-tight
returns-clause-tight c = λ tight.
    let old = c.args.self.now in
    let cut = c.cut-2.new.self in
    let done = c.rewrite_between.new.self in
    let from = c.args.from in
    let end = c.args.from + c.args.n in
    tight-all old cut done c.join-2.new.self from end (omega arith) tight c.in_default.ensures.bound
    (λ q a b. c.cut-2.ensures.kept q b ∙ c.cut.ensures.kept q a) (λ q. c.cut-2.ensures.same q ∙ c.cut.ensures.same q)
    c.rewrite_between.ensures.before c.rewrite_between.ensures.tight c.rewrite_between.ensures.above
    c.join-2.ensures.others c.join-2.ensures.marks c.join-2.ensures.tight
