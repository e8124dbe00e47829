use Rattle.std.proofs.Common.{◌≡◌, ◌∙◌, sym, ap, subst, true, IfSome, IsSomeAnd}
use Rattle.av_vmatree.specs.Spans.{AreApart, AreDistinct, area_at, holds, span_of}
use Rattle.av_vmatree.proofs.Spans.{at_left, at_right, at_here, apart_left, apart_right, held, left_shorter, right_shorter}
use Rattle.av_vmatree.proofs.tree.Tree.find.Goals as goal

pub down-preserved-then-page-span : goal.down-preserved-then-page-span
down-preserved-then-page-span c =
    let s = c.in-Some in
    let e = s.ensures.parts.entries in
    let apart = c.down.invariant.1 in (
      at_left c.args.page c.down.part s.left s.span s.right e apart c.if-page-span.true ∙ c.down.invariant.0,
      apart_left s.left s.span s.right (subst AreApart e apart),
    )

pub down-preserved : goal.down-preserved
down-preserved c =
    let s = c.in-Some in
    let e = s.ensures.parts.entries in
    let apart = c.down.invariant.1 in (
      at_right c.args.page c.down.part s.left s.span s.right e apart c.if-span-page.true ∙ c.down.invariant.0,
      apart_right s.left s.span s.right (subst AreApart e apart),
    )

pub returns-else-span-page : goal.returns-else-span-page
returns-else-span-page c =
    let s = c.in-Some in
    let here = at_here c.args.page c.down.part s.left s.span s.right s.ensures.parts.entries c.down.invariant.1 c.if-page-span.false
    c.if-span-page.false
    ∙ c.down.invariant.0 in
    record {
      area = here;
      span = subst (λ o. IfSome o (λ n. IsSomeAnd (span_of c.args.self.now n) (λ s. holds s c.args.page ≡ true))) (sym here)
          (held c.args.self.now c.args.page (subst AreDistinct c.self.view_is c.self.invariant.distinct));
    }

pub down-init : goal.down-init
down-init c = (
  ap (λ d. area_at d c.args.page) (c.part-part.ensures ∙ c.self.view_is),
  subst AreApart (sym c.part-part.ensures) c.self.invariant.apart,
)

pub down-smaller-then-page-span : goal.down-smaller-then-page-span
down-smaller-then-page-span c =
    let s = c.in-Some in
    left_shorter c.down.part s.left s.span s.right s.ensures.parts.entries

pub down-smaller : goal.down-smaller
down-smaller c =
    let s = c.in-Some in
    right_shorter c.down.part s.left s.span s.right s.ensures.parts.entries

pub returns-clause-area : goal.returns-clause-area
returns-clause-area c = sym (ap (λ d. area_at d c.args.page) c.in_default.ensures.parts) ∙ c.down.invariant.0
