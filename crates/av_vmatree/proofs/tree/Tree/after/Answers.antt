use Rattle.std.proofs.Common.{◌∙◌, sym, ap, subst}
use Rattle.av_vmatree.specs.Spans.{AreApart, area_after}
use Rattle.std.specs.Option.{option_or}
use Rattle.av_vmatree.proofs.Spans.{apart_left, apart_right, after_left, after_right, left_shorter, or_none, right_shorter}
use Rattle.av_vmatree.proofs.tree.Tree.after.Goals as goal

pub down-preserved-then-span-page : goal.down-preserved-then-span-page
down-preserved-then-span-page c =
    let s = c.in-Some in
    let apart = subst AreApart s.ensures.parts.entries c.down.invariant.1 in (
      after_right c.args.page c.down.part s.left s.span s.right c.down.nearest s.ensures.parts.entries c.down.invariant.1 c.if-span-page.true
          ∙ c.down.invariant.0,
      apart_right s.left s.span s.right apart,
    )

pub down-preserved : goal.down-preserved
down-preserved c =
    let s = c.in-Some in
    let apart = subst AreApart s.ensures.parts.entries c.down.invariant.1 in (
      after_left c.args.page c.down.part s.left s.span s.right c.down.nearest s.ensures.parts.entries c.if-span-page.false ∙ c.down.invariant.0,
      apart_left s.left s.span s.right apart,
    )

pub down-init : goal.down-init
down-init c =
    let all = c.part-part.ensures ∙ c.self.view_is in (
      or_none (area_after c.part-part.result c.args.page) ∙ ap (λ d. area_after d c.args.page) all,
      subst AreApart (sym c.part-part.ensures) c.self.invariant.apart,
    )

pub down-smaller-then-span-page : goal.down-smaller-then-span-page
down-smaller-then-span-page c =
    let s = c.in-Some in
    right_shorter c.down.part s.left s.span s.right s.ensures.parts.entries

pub down-smaller : goal.down-smaller
down-smaller c =
    let s = c.in-Some in
    left_shorter c.down.part s.left s.span s.right s.ensures.parts.entries

pub returns : goal.returns
returns c = sym (ap (λ d. option_or (area_after d c.args.page) c.down.nearest) c.in_default.ensures.parts) ∙ c.down.invariant.0
