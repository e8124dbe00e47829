use Rattle.std.proofs.Common.{◌∙◌, sym, ap, subst}
use Rattle.std.specs.Option.{option_or}
use Rattle.av_vmatree.specs.Spans.{AreApart, first_from, last_below}
use Rattle.av_vmatree.proofs.Spans.{apart_left, apart_right, below_left, below_right, from_left, from_right, left_shorter, or_nothing, right_shorter}
use Rattle.av_vmatree.proofs.tree.Tree.around.Goals as goal

pub down-preserved-then-span-page : goal.down-preserved-then-span-page
down-preserved-then-span-page c =
    let s = c.in-Some in
    let e = s.ensures.parts.entries in
    let i = c.down.invariant in (
      below_right c.args.page c.down.part s.left s.span s.right c.down.below e c.if-span-page.true ∙ i.0,
      from_right c.args.page c.down.part s.left s.span s.right c.down.above e i.2 c.if-span-page.true ∙ i.1,
      apart_right s.left s.span s.right (subst AreApart e i.2),
    )

pub down-preserved : goal.down-preserved
down-preserved c =
    let s = c.in-Some in
    let e = s.ensures.parts.entries in
    let i = c.down.invariant in (
      below_left c.args.page c.down.part s.left s.span s.right c.down.below e i.2 c.if-span-page.false ∙ i.0,
      from_left c.args.page c.down.part s.left s.span s.right c.down.above e c.if-span-page.false ∙ i.1,
      apart_left s.left s.span s.right (subst AreApart e i.2),
    )

pub down-init : goal.down-init
down-init c =
    let all = c.part-part.ensures ∙ c.self.view_is in (
      or_nothing (last_below c.part-part.result c.args.page) ∙ ap (λ d. last_below d c.args.page) all,
      or_nothing (first_from c.part-part.result c.args.page) ∙ ap (λ d. first_from d c.args.page) all,
      subst AreApart (sym c.part-part.ensures) c.self.invariant.apart,
    )

pub down-smaller-then-span-page : goal.down-smaller-then-span-page
down-smaller-then-span-page c =
    let s = c.in-Some in
    right_shorter c.down.part s.left s.span s.right s.ensures.parts.entries

pub down-smaller : goal.down-smaller
down-smaller c =
    let s = c.in-Some in
    left_shorter c.down.part s.left s.span s.right s.ensures.parts.entries

pub returns-clause-below : goal.returns-clause-below
returns-clause-below c =
    sym (ap (λ d. option_or (last_below d c.args.page) c.down.below) c.in_default.ensures.parts) ∙ c.down.invariant.0

pub returns-clause-above : goal.returns-clause-above
returns-clause-above c =
    sym (ap (λ d. option_or (first_from d c.args.page) c.down.above) c.in_default.ensures.parts) ∙ c.down.invariant.1
