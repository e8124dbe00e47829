use Rattle.std.proofs.Common.{arith, Result, Ok, Err, OnOk, sym, subst}
use Rattle.av_vmatree.proofs.SplitLaws.{HasSpan, IsCut, begins, cut_if, cut_spans, next}
use Rattle.av_vmatree.proofs.Spans.{entry_there, room_more}
use Rattle.av_vmatree.proofs.tree.Tree.split.Goals as goal

on_ok : {E : Type 0} (r : Result Unit E) (P Q : Type 0) → (P → Q) → OnOk r P → OnOk r Q
on_ok (Ok _) P Q f p = f p
on_ok (Err _) P Q f p = tt

pub split-requires : goal.split-requires
split-requires c =
    let l = c.args.lower in
    let u = c.args.upper in
    let r = c.requires in
    let xs = c.self.inside.spans in
    let there = subst (λ zs. HasSpan zs l.area l.from u.to) (sym c.self.view_is) r.there in
    let some = r.some in
    let apart = r.apart in
    record {
      room = room_more _ c.self.invariant;
      there = entry_there l.area l.from xs (begins xs l.area l.from u.to there);
      after = omega arith;
      next = next l.area l.from u.from u.to xs c.self.invariant.apart there r.more;
    }

pub invariant_of-self : goal.invariant_of-self
invariant_of-self c =
    let r = c.requires in
    (cut_if c.split.result c.args.lower c.args.upper c.self.inside.spans c.args.self.now c.split.new.self c.self.view_is c.split.ensures.entries
    c.self.invariant r.there r.apart r.some r.more r.other).1

pub returns : goal.returns
returns c =
    let r = c.requires in
    let l = c.args.lower in
    let u = c.args.upper in
    let xs = c.args.self.now in
    let new = c.split.new.self in
    let h = cut_if c.split.result l u c.self.inside.spans xs new c.self.view_is c.split.ensures.entries c.self.invariant
    r.there r.apart r.some r.more r.other in
    record {
      spans = cut_spans c.split.result l u c.self.inside.spans xs new c.self.view_is c.split.ensures.entries h.0;
      areas = on_ok c.split.result (IsCut l u xs new) _ (λ i. i.areas) h.0;
      pages = on_ok c.split.result (IsCut l u xs new) _ (λ i. i.pages) h.0;
      kept = h.1;
    }
