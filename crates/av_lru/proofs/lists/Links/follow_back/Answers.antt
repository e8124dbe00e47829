use Rattle.std.proofs.Common.{◌+◌, ◌∙◌, ap, length, refl, arith, length-append}
use Rattle.std.specs.Prelude.{slice_index}
use Rattle.av_lru.specs.Links.{walk}
use Rattle.av_lru.proofs.Paths.{length-walk}
use Rattle.av_lru.proofs.Whole.{read}
use Rattle.av_lru.proofs.Tails.{grown, stepped}
use Rattle.av_lru.proofs.lists.Links.follow_back.Goals as goal

pub index-at-requires : goal.index-at-requires
index-at-requires c =
    let here = c.loop-step.invariant.1 in
    let inside = c.requires.within c.loop-step._step c.loop-step-test.true in
    let len = c.args.self.now.prev.ok.0 in
    omega (arith, here, inside, len)

pub overflow_cast-at : goal.overflow_cast-at
overflow_cast-at c =
    let here = c.loop-step.invariant.1 in
    let inside = c.requires.within c.loop-step._step c.loop-step-test.true in
    let is = read c.args.self.now.prev.items c.loop-step.at c.index-at.result.now c.index-at.ensures (omega (arith, here, inside)) in
    let next = stepped (slice_index c.args.self.now.prev.items) c.loop-step._step (c.loop-step._step + 1) c.args.from c.loop-step.at
    c.index-at.result.now refl here is in
    let small = c.requires.small c.loop-step._step c.loop-step-test.true in
    omega (arith, next, small)

pub push_reserved-requires : goal.push_reserved-requires
push_reserved-requires c =
    let len = c.loop-step.found.ok.0 in
    let so_far = ap length c.loop-step.invariant.0 in
    let both = length-append c.args.found.now.items (walk (slice_index c.args.self.now.prev.items) c.loop-step._step c.args.from) in
    let walked = length-walk (slice_index c.args.self.now.prev.items) c.loop-step._step c.args.from in
    let capacity = c.loop-step.invariant.2 in
    let room = c.requires.room in
    let test = c.loop-step-test.true in
    omega (arith, len, so_far, both, walked, capacity, room, test)

pub loop-step-preserved : goal.loop-step-preserved
loop-step-preserved c =
    let here = c.loop-step.invariant.1 in
    let inside = c.requires.within c.loop-step._step c.loop-step-test.true in
    let is = read c.args.self.now.prev.items c.loop-step.at c.index-at.result.now c.index-at.ensures (omega (arith, here, inside)) in (
      grown c.args.found.now.items c.loop-step.found.items c.push_reserved.new.self.items (slice_index c.args.self.now.prev.items) c.loop-step._step
          (c.loop-step._step + 1) c.args.from c.loop-step.at c.index-at.result.now refl c.loop-step.invariant.0 here is c.push_reserved.ensures.items,
      stepped (slice_index c.args.self.now.prev.items) c.loop-step._step (c.loop-step._step + 1) c.args.from c.loop-step.at
          c.index-at.result.now refl here is,
      c.push_reserved.ensures.capacity ∙ c.loop-step.invariant.2,
    )
