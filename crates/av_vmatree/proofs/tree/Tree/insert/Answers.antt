use Rattle.std.proofs.Common.{arith, Result, Ok, Err, OnOk}
use Rattle.av_vmatree.specs.Spans.{span}
use Rattle.av_vmatree.proofs.Spans.{IsInserted, inserted_if, room_more, no_start}
use Rattle.av_vmatree.proofs.tree.Tree.insert.Goals as goal

on_ok : {E : Type 0} (r : Result Unit E) (P Q : Type 0) → (P → Q) → OnOk r P → OnOk r Q
on_ok (Ok _) P Q f p = f p
on_ok (Err _) P Q f p = tt

pub insert-requires : goal.insert-requires
insert-requires c = record {
  room = room_more _ c.self.invariant;
  other = no_start c.self.inside.spans c.self.invariant.apart c.args.from
      (rw (← c.self.view_is) at (c.requires.free c.args.from (omega arith) c.requires.some));
}

pub invariant_of-self : goal.invariant_of-self
invariant_of-self c =
    let r = c.requires in
    let d = c.self.inside.spans in
    (inserted_if c.insert.result (span c.args.area c.args.from c.args.to) d c.args.self.now c.insert.new.self c.self.view_is c.insert.ensures.entries
    c.self.invariant r.some r.low r.high r.free r.other).1

pub returns : goal.returns
returns c =
    let a = span c.args.area c.args.from c.args.to in
    let xs = c.args.self.now in
    let new = c.insert.new.self in
    let r = c.requires in
    let h = inserted_if c.insert.result a c.self.inside.spans xs new c.self.view_is c.insert.ensures.entries c.self.invariant
    r.some r.low r.high r.free r.other in
    record {
      spans = rw (← c.self.view_is) c.insert.ensures.entries;
      areas = on_ok c.insert.result (IsInserted a xs new) _ (λ i. i.areas) h.0;
      pages = on_ok c.insert.result (IsInserted a xs new) _ (λ i. i.pages) h.0;
      kept = h.1;
    }
