use Rattle.std.proofs.Common.{Bool, arith}
use Rattle.av_vma.specs.declared.area.Area.{Area}
use Rattle.av_vma.proofs.Counted.{added-count, within}
use Rattle.av_vma.proofs.areas.Areas.add.Goals as goal

pub count_with-self-inside-requires : goal.count_with-self-inside-requires
count_with-self-inside-requires c =
    let flag : Area → Bool = λ a. a.flags.locked in
    let changes = c.in_ok-id.ensures.updates in
    let moved = added-count flag c.self.inside.slab.slots c.insert.new.self.slots c.in_ok-id.id c.args.area changes.others c.in_ok-id.ensures.was_vacant changes.changed in
    omega (arith, moved, within flag c.insert.new.self.slots, c.self.invariant.locked_ones, c.len-count.ensures)

pub count_with-self-inside-requires-2 : goal.count_with-self-inside-requires-2
count_with-self-inside-requires-2 c =
    let flag : Area → Bool = λ a. a.flags.mergeable in
    let changes = c.in_ok-id.ensures.updates in
    let moved = added-count flag c.self.inside.slab.slots c.insert.new.self.slots c.in_ok-id.id c.args.area changes.others c.in_ok-id.ensures.was_vacant changes.changed in
    omega (arith, moved, within flag c.insert.new.self.slots, c.self.invariant.mergeable_ones, c.len-count.ensures)

pub invariant_of-self-2 : goal.invariant_of-self-2
invariant_of-self-2 c =
    let old = c.self.inside.slab.slots in
    let new = c.insert.new.self.slots in
    let changes = c.in_ok-id.ensures.updates in
    let moved = λ (flag : Area → Bool). added-count flag old new c.in_ok-id.id c.args.area changes.others c.in_ok-id.ensures.was_vacant changes.changed in
    record {
      locked_ones = omega (arith, moved (λ a. a.flags.locked), c.self.invariant.locked_ones, c.count_with-self-inside.ensures);
      mergeable_ones = omega (arith, moved (λ a. a.flags.mergeable), c.self.invariant.mergeable_ones, c.count_with-self-inside-2.ensures);
    }
