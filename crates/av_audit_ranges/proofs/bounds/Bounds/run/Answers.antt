use Rattle.std.proofs.Common.{◌≡◌, None, arith, subst, sym}
use Rattle.std.proofs.lemmas.Map.Keys.{le_from_not_gt}
use Rattle.av_audit_ranges.specs.Ranges.{bound_at, marks_at}
use Rattle.av_audit_ranges.proofs.MarksLaws.{marks-by-last, marks-by-none}
use Rattle.av_audit_ranges.proofs.bounds.Bounds.run.Goals as goal

pub returns-in-None-clause-same : goal.returns-in-None-clause-same
returns-in-None-clause-same c = λ q low high. subst (λ b. marks_at b q ≡ None) c.self.view_is
    (marks-by-none (bound_at c.self.inside.map.entries) c.args.page
    (λ q h. (c.range.ensures.in_range tt).5 c.in-None.ensures.steps.0 q (tt, h)) q high)

pub returns-in-None-clause-marks : goal.returns-in-None-clause-marks
returns-in-None-clause-marks c = sym (returns-in-None-clause-same c c.args.page (omega arith) (omega arith))

pub returns-in-Some-clause-same : goal.returns-in-Some-clause-same
returns-in-Some-clause-same c = λ q low high.
    let in_range = c.range.ensures.in_range tt in
    let start = c.in-Some.start.now in
    let marks = c.in-Some.marks.now in
    subst (λ b. marks_at b q ≡ marks) c.self.view_is
    (marks-by-last (bound_at c.self.inside.map.entries) c.args.page start marks
    (in_range.3 (start, marks) _ c.in-Some.ensures.steps).1
    (λ q h some. in_range.4 (start, marks) _ c.in-Some.ensures.steps q (tt, h) some) q low high)

pub returns-in-Some-clause-marks : goal.returns-in-Some-clause-marks
returns-in-Some-clause-marks c =
    let in_range = c.range.ensures.in_range tt in
    let start = c.in-Some.start.now in
    let marks = c.in-Some.marks.now in
    sym (returns-in-Some-clause-same c c.args.page (le_from_not_gt start c.args.page (in_range.3 (start, marks) _ c.in-Some.ensures.steps).0.1) (omega arith))
