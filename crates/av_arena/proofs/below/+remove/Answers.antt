use Rattle.av_arena.proofs.Entries.{keeps_keeps}
use Rattle.std.proofs.Common.{rules, ◌≡◌, ℕ, None, Some, false, sym, ◌∙◌, subst}
use Rattle.av_arena.specs.Arena.{store_of}
use Rattle.av_arena.specs.Below.{IsAt, child_number}
use Rattle.av_arena.proofs.BelowLemmas.{cut, removed_further, removed_never, removed_step, IsRemoveStep}
use Rattle.av_arena.proofs.below.+remove.Given.{Over}
use Rattle.av_arena.proofs.below.+remove.Goals.{removed_on-After-removed_below-out}
use Rattle.av_arena.proofs.below.+remove.Goals as goal

pub removed_on-take_child-requires-clause-there : goal.removed_on-take_child-requires-clause-there
removed_on-take_child-requires-clause-there g t c =
    let m = g.T.Entry in
    let s = store_of c.args.arena.now in
    let at : child_number c.args.side (s c.args.number) ≡ Some c.in-Some.child = sym c.child_of.ensures ∙ c.in-Some.is in
    (removed_further m.key m.unit m.op m.of g.met.T.Entry.laws c.args.side s c.args.number c.in-Some.child c.args.like.now c.requires.there at
    c.requires.other c.requires.side).asked

pub removed_on-returns-then-is_at-clause-removed : goal.removed_on-returns-then-is_at-clause-removed
removed_on-returns-then-is_at-clause-removed g t c =
    let m = g.T.Entry in
    let s = store_of c.args.arena.now in
    let at : child_number c.args.side (s c.args.number) ≡ Some c.in-Some.child = sym c.child_of.ensures ∙ c.in-Some.is in
    (cut m.key m.unit m.op m.of g.met.T.Entry.laws c.args.side s (store_of c.take_child.new.arena) c.args.number c.in-Some.child c.args.like.now at
    c.requires.other c.requires.side c.requires.there c.take_child.ensures.taken)

pub removed_on-unreachable-requires : goal.removed_on-unreachable-requires
removed_on-unreachable-requires g t c =
    let m = g.T.Entry in
    let s = store_of c.args.arena.now in
    let at : child_number c.args.side (s c.args.number) ≡ None = sym c.child_of.ensures ∙ search rules in
    removed_never m.key m.unit m.op m.of g.met.T.Entry.laws c.args.side s c.args.number c.args.like.now c.requires.there at c.requires.other
    c.requires.side

pub removed_on-removed_below-out-requires : goal.removed_on-removed_below-out-requires
removed_on-removed_below-out-requires g t c κs within =
    let m = g.T.Entry in
    let s = store_of c.args.arena.now in
    let at : child_number c.args.side (s c.args.number) ≡ Some c.in-Some.child = sym c.child_of.ensures ∙ c.in-Some.is in
    let f = removed_further m.key m.unit m.op m.of g.met.T.Entry.laws c.args.side s c.args.number c.in-Some.child c.args.like.now c.requires.there at
    c.requires.other c.requires.side in
    let o : IsAt m.key m.unit m.op m.of s c.in-Some.child c.args.like.now false =
    subst (IsAt m.key m.unit m.op m.of s c.in-Some.child c.args.like.now)
    c.if-is_at.false c.is_at.ensures in
    search (rules, f.asked, f.falls, o)

-- what follows of the call below
stepped : (g : Over) (t : ℕ) (c : removed_on-After-removed_below-out g t) → let m = g.T.Entry in
    IsRemoveStep m.key m.unit m.op m.of g.met.T.Entry.laws c.args.side (store_of c.args.arena.now)
    (store_of c.removed_below-out.new.arena) c.args.number
    c.in-Some.child
    c.args.like.now c.removed_below-out.result.0 c.removed_below-out.result.1
stepped g t c =
    let m = g.T.Entry in
    removed_step m.key m.unit m.op m.of g.met.T.Entry.laws c.args.side _ _ c.args.number c.in-Some.child c.args.like.now c.removed_below-out.result.0
    c.removed_below-out.result.1 c.requires.there
    (sym c.child_of.ensures ∙ c.in-Some.is) c.requires.other c.requires.side c.removed_below-out.ensures.removed

pub removed_on-returns-then-not-changed-clause-removed : goal.removed_on-returns-then-not-changed-clause-removed
removed_on-returns-then-not-changed-clause-removed g t c =
    (stepped g t (goal.at.removed_on-returns-then-not-changed-clause-removed g t c).After-removed_below-out).same (search rules)

pub removed_on-settle_side-requires-clause-child : goal.removed_on-settle_side-requires-clause-child
removed_on-settle_side-requires-clause-child g t c =
    (stepped g t (goal.at.removed_on-settle_side-requires-clause-child g t c).After-removed_below-out).ready

pub removed_on-settle_side-requires-clause-used : goal.removed_on-settle_side-requires-clause-used
removed_on-settle_side-requires-clause-used g t c =
    (stepped g t (goal.at.removed_on-settle_side-requires-clause-used g t c).After-removed_below-out).used

pub removed_on-returns-clause-removed : goal.removed_on-returns-clause-removed
removed_on-returns-clause-removed g t c =
    (stepped g t (goal.at.removed_on-returns-clause-removed g t c).After-removed_below-out).settled _ _ c.settle_side.ensures.settled

pub removed_on-returns-then-is_at-clause-node : goal.removed_on-returns-then-is_at-clause-node
removed_on-returns-then-is_at-clause-node g t c =
    let m = g.T.Entry in
    subst (IsAt m.key m.unit m.op m.of (store_of c.args.arena.now) c.in-Some.child c.args.like.now) c.if-is_at.true c.is_at.ensures

pub removed_on-returns-clause-kept : goal.removed_on-returns-clause-kept
removed_on-returns-clause-kept g t c = keeps_keeps _ _ _ c.removed_below-out.ensures.kept c.settle_side.ensures.kept
