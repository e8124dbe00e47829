use Rattle.std.proofs.Common.{arith}
use Rattle.av_spaces.proofs.ForkLaws.{forks_all, forks_in_turn, forks_more, forks_none, forks_without, next_free, next_used, next_whole}
use Rattle.av_spaces.proofs.fork.fork_each.Goals as goal

pub loop-span-init : goal.loop-span-init
loop-span-init c = forks_none c.args.child c.args.areas.now c.args.anons.now c.args.tree.now c.args.spans.now c.requires.order c.requires.none
    c.requires.empty

pub get-is_left_out-requires : goal.get-is_left_out-requires
get-is_left_out-requires c = record {
  used = next_used c.args.child c.requires.parent.0 c.args.areas.now c.loop-span.areas c.loop-span.tree c.args.anons.now c.loop-span.anons
      c.args.spans.now c.loop-span.span-index c.loop-span-test.true c.requires.parent.1 c.requires.none c.loop-span.invariant;
}

pub loop-span-preserved-then-is_left_out : goal.loop-span-preserved-then-is_left_out
loop-span-preserved-then-is_left_out c =
    forks_without c.args.child c.requires.parent.0 c.args.areas.now c.loop-span.areas c.loop-span.tree c.args.anons.now c.loop-span.anons
    c.args.spans.now c.loop-span.span-index c.loop-span-test.true c.requires.parent.1 c.requires.none c.loop-span.invariant
    c.get-is_left_out.result c.get-is_left_out.ensures c.if-is_left_out.true

pub fork-requires-clause-whole : goal.fork-requires-clause-whole
fork-requires-clause-whole c =
    next_whole c.args.child c.requires.parent.0 c.args.areas.now c.loop-span.areas c.loop-span.tree c.args.anons.now c.loop-span.anons
    c.args.spans.now c.loop-span.span-index c.loop-span-test.true c.requires.parent.1 c.requires.none c.loop-span.invariant

pub fork-requires-clause-free : goal.fork-requires-clause-free
fork-requires-clause-free c =
    next_free c.args.child c.requires.parent.0 c.args.areas.now c.loop-span.areas c.loop-span.tree c.args.anons.now c.loop-span.anons
    c.args.spans.now c.loop-span.span-index c.loop-span-test.true c.requires.parent.1 c.requires.none c.loop-span.invariant

pub loop-span-preserved : goal.loop-span-preserved
loop-span-preserved c =
    forks_more c.args.child c.requires.parent.0 c.args.areas.now c.loop-span.areas c.loop-span.tree c.args.anons.now c.loop-span.anons
    c.args.spans.now c.loop-span.span-index c.loop-span-test.true c.requires.parent.1 c.requires.none c.loop-span.invariant
    c.fork.new.areas c.fork.new.tree c.fork.new.anons c.fork.ensures.stands c.get-is_left_out.result c.get-is_left_out.ensures c.if-is_left_out.false
    c.in_ok-fork.ensures.forked

pub returns-clause-forked : goal.returns-clause-forked
returns-clause-forked c =
    forks_all c.args.child c.args.areas.now c.loop-span.areas c.loop-span.tree c.args.anons.now c.loop-span.anons
    c.args.spans.now c.loop-span.span-index (omega arith) c.loop-span.invariant

pub returns-clause-in_turn : goal.returns-clause-in_turn
returns-clause-in_turn c =
    forks_in_turn c.args.child c.args.areas.now c.loop-span.areas c.loop-span.tree c.args.anons.now c.loop-span.anons
    c.args.spans.now c.loop-span.span-index (omega arith) c.loop-span.invariant
