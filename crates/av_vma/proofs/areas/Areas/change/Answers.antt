use Rattle.std.proofs.Common.{Bool, Some, arith, set}
use Rattle.av_vma.specs.declared.area.Area.{Area}
use Rattle.av_vma.proofs.Counted.{counts-in, replaced-count, within}
use Rattle.av_vma.proofs.areas.Areas.change.Goals as goal

pub count_without-locked-requires : goal.count_without-locked-requires
count_without-locked-requires c =
    let there = counts-in (λ a. a.flags.locked) c.self.inside.slab.slots c.args.id c.index_mut-place.result.now c.index_mut-place.ensures.value in
    omega (arith, c.self.invariant.locked_ones, there)

pub count_without-mergeable-requires : goal.count_without-mergeable-requires
count_without-mergeable-requires c =
    let there = counts-in (λ a. a.flags.mergeable) c.self.inside.slab.slots c.args.id c.index_mut-place.result.now c.index_mut-place.ensures.value in
    omega (arith, c.self.invariant.mergeable_ones, there)

pub count_with-self-inside-requires : goal.count_with-self-inside-requires
count_with-self-inside-requires c =
    let flag : Area → Bool = λ a. a.flags.locked in
    let old = c.self.inside.slab.slots in
    let value = c.index_mut-place.ensures.value in
    let moved = replaced-count flag old c.args.id c.index_mut-place.result.now c.args.area value in
    let there = counts-in flag old c.args.id c.index_mut-place.result.now value in
    omega (
      arith,
      moved,
      there,
      within flag (set old c.args.id (Some c.args.area)),
      c.len-count.ensures,
      c.self.invariant.locked_ones,
      c.count_without-locked.ensures,
    )

pub count_with-self-inside-requires-2 : goal.count_with-self-inside-requires-2
count_with-self-inside-requires-2 c =
    let flag : Area → Bool = λ a. a.flags.mergeable in
    let old = c.self.inside.slab.slots in
    let value = c.index_mut-place.ensures.value in
    let moved = replaced-count flag old c.args.id c.index_mut-place.result.now c.args.area value in
    let there = counts-in flag old c.args.id c.index_mut-place.result.now value in
    omega (
      arith,
      moved,
      there,
      within flag (set old c.args.id (Some c.args.area)),
      c.len-count.ensures,
      c.self.invariant.mergeable_ones,
      c.count_without-mergeable.ensures,
    )

pub invariant_of-self : goal.invariant_of-self
invariant_of-self c =
    let old = c.self.inside.slab.slots in
    let value = c.index_mut-place.ensures.value in
    let moved = λ (flag : Area → Bool). replaced-count flag old c.args.id c.index_mut-place.result.now c.args.area value in
    let there = λ (flag : Area → Bool). counts-in flag old c.args.id c.index_mut-place.result.now value in
    record {
      locked_ones = omega (
        arith,
        moved (λ a. a.flags.locked),
        there (λ a. a.flags.locked),
        c.self.invariant.locked_ones,
        c.count_without-locked.ensures,
        c.count_with-self-inside.ensures,
      );
      mergeable_ones = omega (
        arith,
        moved (λ a. a.flags.mergeable),
        there (λ a. a.flags.mergeable),
        c.self.invariant.mergeable_ones,
        c.count_without-mergeable.ensures,
        c.count_with-self-inside-2.ensures,
      );
    }
