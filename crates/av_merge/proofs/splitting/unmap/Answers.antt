use Rattle.std.proofs.Common.{IfSome, IsSomeAnd, ◌<◌, ◌≤◌, ◌∙◌, sym, subst}
use Rattle.av_vmatree.proofs.Sides.{below_is}
use Rattle.av_vma.specs.Areas.{area_of}
use Rattle.av_merge.proofs.SplittingEmpty.{unmap_of_none}
use Rattle.av_merge.proofs.splitting.unmap.Goals as goal

pub unmap_within-requires-clause-inside : goal.unmap_within-requires-clause-inside
unmap_within-requires-clause-inside c =
    let k = below_is c.args.tree.now c.args.from c.in-Some.span c.requires.stands.1.spans_are.distinct
    (sym c.around-below.ensures.below ∙ c.in-Some.is) in
    subst (λ o. IsSomeAnd o (λ s. (s.from < c.args.from) × (c.args.to < s.to))) (sym k.there) (k.side, c.if-to-span.true)

pub returns-then-lie_beside-clause-pages : goal.returns-then-lie_beside-clause-pages
returns-then-lie_beside-clause-pages c =
    let sides = c.lie_beside.ensures c.if-lie_beside.true in
    unmap_of_none c.requires.stands.0 c.args.from c.args.to (area_of c.args.areas.now) c.args.tree.now c.requires.stands.1 c.requires.forward
    (subst (λ o. IfSome o (λ s. s.to ≤ c.args.from)) c.around-below.ensures.below sides.0)
    (subst (λ o. IfSome o (λ s. c.args.to ≤ s.from)) c.around-below.ensures.above sides.1)
