use Rattle.std.proofs.Common.{rules, ◌≡◌, ℕ, None, Some, sym, ◌∙◌, subst}
use Rattle.av_arena.specs.Arena.{store_of}
use Rattle.av_arena.specs.Below.{IsBeside, IsBetween, child_number}
use Rattle.av_arena.specs.declared.link.Side.TheVariants.{Left, Right}
use Rattle.av_arena.proofs.BelowLemmas.{replaced_at, split_at, split_further, split_never, split_ready, split_step, IsSplitStep}
use Rattle.av_arena.proofs.below.+split.Given.{Over}
use Rattle.av_arena.proofs.below.+split.Goals.{split_on-After-split_below}
use Rattle.av_arena.proofs.below.+split.Goals as goal

pub split_below-split_on-requires : goal.split_below-split_on-requires
split_below-split_on-requires g t c κs within =
    let m = g.T.Entry in
    let is : c.side_beside.result ≡ Some Left = search rules in
    let on = subst (IsBeside m.key m.unit m.op m.of (store_of c.args.arena.now) c.args.number c.args.lower.now c.args.lower.now) is
    c.side_beside.ensures in
    search (rules, on)

pub split_below-split_on-requires-in-Some-Right : goal.split_below-split_on-requires-in-Some-Right
split_below-split_on-requires-in-Some-Right g t c κs within =
    let m = g.T.Entry in
    let is : c.side_beside.result ≡ Some Right = search rules in
    let on = subst (IsBeside m.key m.unit m.op m.of (store_of c.args.arena.now) c.args.number c.args.lower.now c.args.lower.now) is
    c.side_beside.ensures in
    search (rules, on)

pub split_below-placed_below-requires : goal.split_below-placed_below-requires
split_below-placed_below-requires g t c =
    let m = g.T.Entry in
    let s = store_of c.args.arena.now in
    let none : c.side_beside.result ≡ None = search rules in
    let between : IsBetween m.key m.unit m.op m.of s c.args.number c.args.lower.now c.args.lower.now =
    subst (IsBeside m.key m.unit m.op m.of s c.args.number c.args.lower.now c.args.lower.now) none c.side_beside.ensures in
    let r = replaced_at m.key m.unit m.op m.of g.met.T.Entry.laws s (store_of c.set_entry.new.self) c.args.number c.args.lower.now between
    c.set_entry.ensures in
    split_ready m.key m.unit m.op m.of g.met.T.Entry.laws s (store_of c.set_entry.new.self) c.args.number c.args.new c.args.lower.now c.args.upper.now
    c.requires r

pub split_below-returns-in-None : goal.split_below-returns-in-None
split_below-returns-in-None g t c =
    let m = g.T.Entry in
    let s = store_of c.args.arena.now in
    let none : c.side_beside.result ≡ None = search rules in
    let between : IsBetween m.key m.unit m.op m.of s c.args.number c.args.lower.now c.args.lower.now =
    subst (IsBeside m.key m.unit m.op m.of s c.args.number c.args.lower.now c.args.lower.now) none c.side_beside.ensures in
    let r = replaced_at m.key m.unit m.op m.of g.met.T.Entry.laws s (store_of c.set_entry.new.self) c.args.number c.args.lower.now between
    c.set_entry.ensures in
    split_at m.key m.unit m.op m.of g.met.T.Entry.laws s (store_of c.set_entry.new.self) (store_of c.placed_below.new.arena) c.args.number c.args.new
    c.args.lower.now c.args.upper.now _ between r
    c.placed_below.ensures.placed

pub split_on-unreachable-requires : goal.split_on-unreachable-requires
split_on-unreachable-requires g t c =
    let m = g.T.Entry in
    let s = store_of c.args.arena.now in
    let at : child_number c.args.side (s c.args.number) ≡ None = sym c.child_of.ensures ∙ search rules in
    split_never m.key m.unit m.op m.of g.met.T.Entry.laws c.args.side s c.args.number c.args.new c.args.lower.now c.args.upper.now c.requires.split at
    c.requires.side

pub split_on-split_below-requires : goal.split_on-split_below-requires
split_on-split_below-requires g t c κs within =
    let m = g.T.Entry in
    let s = store_of c.args.arena.now in
    let at : child_number c.args.side (s c.args.number) ≡ Some c.in-Some.child = sym c.child_of.ensures ∙ c.in-Some.is in
    let f = split_further m.key m.unit m.op m.of g.met.T.Entry.laws c.args.side s c.args.number c.in-Some.child c.args.new c.args.lower.now
    c.args.upper.now
    c.requires.split at c.requires.side in
    search (rules, f.asked, f.falls)

-- what follows of the call below
stepped : (g : Over) (t : ℕ) (c : split_on-After-split_below g t) → let m = g.T.Entry in
    IsSplitStep m.key m.unit m.op m.of g.met.T.Entry.laws c.args.side (store_of c.args.arena.now) (store_of c.split_below.new.arena) c.args.number
    c.in-Some.child
    c.args.new c.args.lower.now c.args.upper.now c.split_below.result
stepped g t c =
    let m = g.T.Entry in
    split_step m.key m.unit m.op m.of g.met.T.Entry.laws c.args.side _ _ c.args.number c.in-Some.child c.args.new c.args.lower.now c.args.upper.now
    c.split_below.result c.requires.split
    (sym c.child_of.ensures ∙ c.in-Some.is) c.requires.side c.split_below.ensures

pub split_on-returns-then-not-split_below : goal.split_on-returns-then-not-split_below
split_on-returns-then-not-split_below g t c =
    (stepped g t (goal.at.split_on-returns-then-not-split_below g t c).After-split_below).same (search rules)

pub split_on-settle_side-requires-clause-child : goal.split_on-settle_side-requires-clause-child
split_on-settle_side-requires-clause-child g t c = (stepped g t (goal.at.split_on-settle_side-requires-clause-child g t c).After-split_below).ready

pub split_on-settle_side-requires-clause-used : goal.split_on-settle_side-requires-clause-used
split_on-settle_side-requires-clause-used g t c = (stepped g t (goal.at.split_on-settle_side-requires-clause-used g t c).After-split_below).used

pub split_on-returns : goal.split_on-returns
split_on-returns g t c = (stepped g t (goal.at.split_on-returns g t c).After-split_below).settled _ _ c.settle_side.ensures.settled
