use Rattle.std.proofs.Common.{◌≡◌, ◌≤◌, length}
use Rattle.std.specs.Vec.{vec_capacity}
use Rattle.av_pagetable.specs.Images.{AreImages}
use Rattle.av_pagetable.specs.Table.{child_entry}
use Rattle.av_pagetable.proofs.parts.many_for_child.Given as goal

abbrev pub invariant-loop-part : goal.invariant-loop-part
invariant-loop-part g l = record {
  many : length l.children.items ≡ l.part-index;
  within : length l.children.items ≤ length l.parts;
  images : AreImages g.C.Level.at child_entry (length l.children.items) l.parts l.children.items;
  room : length l.parts ≤ vec_capacity l.children;
}
