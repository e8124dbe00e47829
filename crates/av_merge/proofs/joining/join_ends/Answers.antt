use Rattle.std.proofs.Common.{◌≡◌, ◌∙◌, sym, ap, arith}
use Rattle.std.proofs.lemmas.Option.{same_Some}
use Rattle.av_vmatree.specs.declared.span.Span.{Span}
use Rattle.av_vmatree.specs.Spans.{span_of}
use Rattle.av_vmatree.proofs.Sides.{from_is}
use Rattle.av_merge.proofs.JoiningLaws.{last_side, left_side, right_side}
use Rattle.av_merge.proofs.joining.join_ends.Goals as goal

pub join_beside-requires : goal.join_beside-requires
join_beside-requires c =
    let spans = c.args.tree.now in
    let good = c.requires.stands.1.spans_are in
    let i = c.in-Some-Some-Some in
    let here = sym c.around-below.ensures.above ∙ i.is-1 in
    record {
      order = c.requires.order;
      stands = c.requires.stands;
      apart = λ above_is.
          let same = same_Some i.right.area i.middle.area above_is in
          let a = (from_is spans c.args.from i.middle good.distinct here).there in
          let b = (from_is spans c.args.past i.right good.distinct (sym c.around-above.ensures.above ∙ i.is-2)).there in
          let one : i.right ≡ i.middle = same_Some i.right i.middle (sym b ∙ (ap (span_of spans) same ∙ a)) in
          let from : i.right.from ≡ i.middle.from = ap (λ (s : Span). s.from) one in
          let forward = c.requires.forward in
          let first = c.if-middle-from.true in
          let last = c.if-right-past.true in
          absurd (omega arith);
      below = left_side spans c.args.from i.left good c.requires.some (sym c.around-below.ensures.below ∙ i.is-0) c.if-left-from.true;
      first = right_side spans c.args.from i.middle good here c.if-middle-from.true;
      last = last_side spans c.args.from c.args.past i.middle good c.requires.forward here c.if-middle-from.true c.if-middle-past.true;
      above = right_side spans c.args.past i.right good (sym c.around-above.ensures.above ∙ i.is-2) c.if-right-past.true;
    }
