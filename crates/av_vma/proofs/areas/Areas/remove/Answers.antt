use Rattle.std.proofs.Common.{Bool, arith}
use Rattle.av_vma.specs.declared.area.Area.{Area}
use Rattle.av_vma.proofs.Counted.{counts-in, gone-count}
use Rattle.av_vma.proofs.areas.Areas.remove.Goals as goal

pub count_without-self-inside-requires : goal.count_without-self-inside-requires
count_without-self-inside-requires c =
    let there = counts-in (λ a. a.flags.locked) c.self.inside.slab.slots c.args.id c.remove-area.result c.remove-area.ensures.value in
    omega (arith, c.self.invariant.locked_ones, there)

pub count_without-self-inside-requires-2 : goal.count_without-self-inside-requires-2
count_without-self-inside-requires-2 c =
    let there = counts-in (λ a. a.flags.mergeable) c.self.inside.slab.slots c.args.id c.remove-area.result c.remove-area.ensures.value in
    omega (arith, c.self.invariant.mergeable_ones, there)

pub invariant_of-self : goal.invariant_of-self
invariant_of-self c =
    let gone = c.remove-area.ensures in
    let left = λ (flag : Area → Bool).
    gone-count flag c.self.inside.slab.slots c.remove-area.new.self.slots c.args.id c.remove-area.result gone.updates.others gone.value gone.updates.changed in
    record {
      locked_ones = omega (arith, left (λ a. a.flags.locked), c.self.invariant.locked_ones, c.count_without-self-inside.ensures);
      mergeable_ones = omega (arith, left (λ a. a.flags.mergeable), c.self.invariant.mergeable_ones, c.count_without-self-inside-2.ensures);
    }
