use Rattle.std.proofs.Common.{◌≤◌, ◌<◌, ◌∙◌, sym, ap, subst, max, is_some, arith}
use Rattle.av_vmatree.specs.Spans.{AreApart, area_at}
use Rattle.av_vmatree.proofs.Spans.{at_left, at_right, at_here, apart_left, apart_right, left_shorter, right_shorter, wide_at}
use Rattle.av_vmatree.proofs.tree.Tree.is_free.Goals as goal

pub down-preserved-then-to-span : goal.down-preserved-then-to-span
down-preserved-then-to-span c =
    let s = c.in-Some in
    let e = s.ensures.parts.entries in
    let apart = c.down.invariant.1 in (
      λ page low high. at_left page c.down.part s.left s.span s.right e apart (omega arith) ∙ c.down.invariant.0 page low high,
      apart_left s.left s.span s.right (subst AreApart e apart),
    )

pub down-preserved : goal.down-preserved
down-preserved c =
    let s = c.in-Some in
    let e = s.ensures.parts.entries in
    let apart = c.down.invariant.1 in (
      λ page low high. at_right page c.down.part s.left s.span s.right e apart (omega arith) ∙ c.down.invariant.0 page low high,
      apart_right s.left s.span s.right (subst AreApart e apart),
    )

pub returns-else-span-from-clause-met : goal.returns-else-span-from-clause-met
returns-else-span-from-clause-met c _ =
    let s = c.in-Some in
    let wide : s.span.from < s.span.to = wide_at s.left s.span s.right (subst AreApart s.ensures.parts.entries c.down.invariant.1) in
    let page = max c.args.from s.span.from in
    let low : c.args.from ≤ page = omega arith in
    let high : page < c.args.to = omega arith in
    record {
      page = page;
      lowest = low;
      highest = high;
      met = ap is_some (sym (at_here page c.down.part s.left s.span s.right s.ensures.parts.entries c.down.invariant.1 (omega arith) (omega arith)
          ∙ c.down.invariant.0 page low high));
    }

pub returns-then-from-to-clause-free : goal.returns-then-from-to-clause-free
returns-then-from-to-clause-free c _ = λ page low high. let same = c.if-from-to.true in absurd (omega arith)

pub returns-then-from-to-clause-met : goal.returns-then-from-to-clause-met
returns-then-from-to-clause-met c e = cc

pub down-init : goal.down-init
down-init c = (
  λ page low high. ap (λ d. area_at d page) (c.part-part.ensures ∙ c.self.view_is),
  subst AreApart (sym c.part-part.ensures) c.self.invariant.apart,
)

pub down-smaller-then-to-span : goal.down-smaller-then-to-span
down-smaller-then-to-span c =
    let s = c.in-Some in
    left_shorter c.down.part s.left s.span s.right s.ensures.parts.entries

pub down-smaller : goal.down-smaller
down-smaller c =
    let s = c.in-Some in
    right_shorter c.down.part s.left s.span s.right s.ensures.parts.entries

pub returns-else-span-from-clause-free : goal.returns-else-span-from-clause-free
returns-else-span-from-clause-free c e = cc

pub returns-clause-free : goal.returns-clause-free
returns-clause-free c _ = λ page low high.
    ap is_some (sym (c.down.invariant.0 page low high) ∙ ap (λ d. area_at d page) c.in_default.ensures.parts)

pub returns-clause-met : goal.returns-clause-met
returns-clause-met c e = cc
