use Rattle.std.proofs.Common.{rules, ◌≡◌, ℕ, None, Some, sym, ◌∙◌, subst}
use Rattle.av_arena.specs.Arena.{store_of}
use Rattle.av_arena.specs.Below.{IsBeside, child_number}
use Rattle.av_arena.specs.declared.link.Side.TheVariants.{Left, Right}
use Rattle.av_arena.proofs.JoinLemmas.{join_further, join_never, join_step, IsJoinStep}
use Rattle.av_arena.proofs.below.+join.Given.{Over}
use Rattle.av_arena.proofs.below.+join.Goals.{joined_on-After-joined_below-out}
use Rattle.av_arena.proofs.below.+join.Goals as goal

pub joined_below-joined_on-requires : goal.joined_below-joined_on-requires
joined_below-joined_on-requires g t c κs within =
    let m = g.T.Entry in
    let is : c.side_beside.result ≡ Some Left = search rules in
    let on = subst (IsBeside m.key m.unit m.op m.of (store_of c.args.arena.now) c.args.number c.args.lower.now c.args.upper.now) is
    c.side_beside.ensures in
    search (rules, on)

pub joined_below-joined_on-requires-in-Some-Right : goal.joined_below-joined_on-requires-in-Some-Right
joined_below-joined_on-requires-in-Some-Right g t c κs within =
    let m = g.T.Entry in
    let is : c.side_beside.result ≡ Some Right = search rules in
    let on = subst (IsBeside m.key m.unit m.op m.of (store_of c.args.arena.now) c.args.number c.args.lower.now c.args.upper.now) is
    c.side_beside.ensures in
    search (rules, on)

pub joined_on-unreachable-requires : goal.joined_on-unreachable-requires
joined_on-unreachable-requires g t c =
    let m = g.T.Entry in
    let s = store_of c.args.arena.now in
    let at : child_number c.args.side (s c.args.number) ≡ None = sym c.child_of.ensures ∙ search rules in
    join_never m.key m.unit m.op m.of g.met.T.Entry.laws c.args.side s c.args.number c.args.lower.now c.args.upper.now c.args.joined.now
    c.requires.join at
    c.requires.side

pub joined_on-joined_below-out-requires : goal.joined_on-joined_below-out-requires
joined_on-joined_below-out-requires g t c κs within =
    let m = g.T.Entry in
    let s = store_of c.args.arena.now in
    let at : child_number c.args.side (s c.args.number) ≡ Some c.in-Some.child = sym c.child_of.ensures ∙ c.in-Some.is in
    let f = join_further m.key m.unit m.op m.of g.met.T.Entry.laws c.args.side s c.args.number c.in-Some.child c.args.lower.now c.args.upper.now
    c.args.joined.now c.requires.join at c.requires.side in
    search (rules, f.asked, f.falls)

-- what follows of the call below
stepped : (g : Over) (t : ℕ) (c : joined_on-After-joined_below-out g t) → let m = g.T.Entry in
    IsJoinStep m.key m.unit m.op m.of g.met.T.Entry.laws c.args.side (store_of c.args.arena.now) (store_of c.joined_below-out.new.arena) c.args.number
    c.in-Some.child
    c.args.lower.now c.args.upper.now c.args.joined.now c.joined_below-out.result.0 c.joined_below-out.result.1
stepped g t c =
    let m = g.T.Entry in
    join_step m.key m.unit m.op m.of g.met.T.Entry.laws c.args.side _ _ c.args.number c.in-Some.child c.args.lower.now c.args.upper.now
    c.args.joined.now
    c.joined_below-out.result.0 c.joined_below-out.result.1 c.requires.join
    (sym c.child_of.ensures ∙ c.in-Some.is) c.requires.side c.joined_below-out.ensures

pub joined_on-returns-then-not-changed : goal.joined_on-returns-then-not-changed
joined_on-returns-then-not-changed g t c = (stepped g t (goal.at.joined_on-returns-then-not-changed g t c).After-joined_below-out).same (search rules)

pub joined_on-settle_side-requires-clause-child : goal.joined_on-settle_side-requires-clause-child
joined_on-settle_side-requires-clause-child g t c =
    (stepped g t (goal.at.joined_on-settle_side-requires-clause-child g t c).After-joined_below-out).ready

pub joined_on-settle_side-requires-clause-used : goal.joined_on-settle_side-requires-clause-used
joined_on-settle_side-requires-clause-used g t c =
    (stepped g t (goal.at.joined_on-settle_side-requires-clause-used g t c).After-joined_below-out).used

pub joined_on-returns : goal.joined_on-returns
joined_on-returns g t c = (stepped g t (goal.at.joined_on-returns g t c).After-joined_below-out).settled _ _ c.settle_side.ensures.settled
