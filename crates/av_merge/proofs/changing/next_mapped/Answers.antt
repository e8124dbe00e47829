use Rattle.std.proofs.Common.{◌<◌, ◌≤◌, is_some, IfSome, sym, ap, subst, ◌∙◌, arith}
use Rattle.av_vmatree.specs.declared.span.Span.{Span}
use Rattle.av_vmatree.proofs.Sides.{from_is}
use Rattle.av_merge.proofs.ChangingOver.{free_to, next_taken, nobody}
use Rattle.av_merge.proofs.changing.next_mapped.Goals as goal

pub returns-in-Some-clause-least : goal.returns-in-Some-clause-least
returns-in-Some-clause-least c =
    let there = from_is c.args.tree.now c.args.from c.in-Some.span c.requires.spans.distinct (sym c.around-above.ensures.above ∙ c.in-Some.is) in
    let side : c.args.from ≤ c.in-Some.span.from = there.side in
    let forward = c.requires.forward in
    omega arith

pub returns-in-Some-clause-free : goal.returns-in-Some-clause-free
returns-in-Some-clause-free c = λ page low high.
    ap is_some (free_to c.args.tree.now c.args.from page c.requires.spans.apart
    (nobody c.args.tree.now c.args.from (ap is_some (sym c.find.ensures.area) ∙ sym c.is_some.ensures ∙ c.if-is_some.false)) low
    (subst (λ o. IfSome o (λ (s : Span). page < s.from)) (sym (sym c.around-above.ensures.above ∙ c.in-Some.is)) (omega arith)))

pub returns-in-Some-clause-mapped : goal.returns-in-Some-clause-mapped
returns-in-Some-clause-mapped c = λ less.
    next_taken c.args.tree.now c.args.from c.args.to c.min.result c.in-Some.span c.requires.spans
    (sym c.around-above.ensures.above ∙ c.in-Some.is) (omega arith) less

pub returns-in-None-clause-free : goal.returns-in-None-clause-free
returns-in-None-clause-free c = λ page low high.
    ap is_some (free_to c.args.tree.now c.args.from page c.requires.spans.apart
    (nobody c.args.tree.now c.args.from (ap is_some (sym c.find.ensures.area) ∙ sym c.is_some.ensures ∙ c.if-is_some.false)) low
    (subst (λ o. IfSome o (λ (s : Span). page < s.from)) (sym (sym c.around-above.ensures.above ∙ c.in-None.is)) tt))
