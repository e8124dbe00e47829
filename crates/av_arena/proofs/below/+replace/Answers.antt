use Rattle.std.proofs.Common.{rules, ◌≡◌, ℕ, None, Some, sym, ◌∙◌, subst}
use Rattle.av_arena.specs.Arena.{store_of}
use Rattle.av_arena.specs.Below.{IsBeside, IsBetween, child_number}
use Rattle.av_arena.specs.declared.link.Side.TheVariants.{Left, Right}
use Rattle.av_arena.proofs.BelowLemmas.{replaced_at, replaced_further, replaced_never, replaced_step, IsReplaceStep}
use Rattle.av_arena.proofs.below.+replace.Given.{Over}
use Rattle.av_arena.proofs.below.+replace.Goals.{replaced_on-After-replaced_below}
use Rattle.av_arena.proofs.below.+replace.Goals as goal

pub replaced_below-replaced_on-requires : goal.replaced_below-replaced_on-requires
replaced_below-replaced_on-requires g t c κs within =
    let m = g.T.Entry in
    let is : c.side_beside.result ≡ Some Left = search rules in
    let on = subst (IsBeside m.key m.unit m.op m.of (store_of c.args.arena.now) c.args.number c.args.entry.now c.args.entry.now) is
    c.side_beside.ensures in
    search (rules, on)

pub replaced_below-replaced_on-requires-in-Some-Right : goal.replaced_below-replaced_on-requires-in-Some-Right
replaced_below-replaced_on-requires-in-Some-Right g t c κs within =
    let m = g.T.Entry in
    let is : c.side_beside.result ≡ Some Right = search rules in
    let on = subst (IsBeside m.key m.unit m.op m.of (store_of c.args.arena.now) c.args.number c.args.entry.now c.args.entry.now) is
    c.side_beside.ensures in
    search (rules, on)

pub replaced_below-returns-in-None : goal.replaced_below-returns-in-None
replaced_below-returns-in-None g t c =
    let m = g.T.Entry in
    let s = store_of c.args.arena.now in
    let none : c.side_beside.result ≡ None = search rules in
    let between : IsBetween m.key m.unit m.op m.of s c.args.number c.args.entry.now c.args.entry.now =
    subst (IsBeside m.key m.unit m.op m.of s c.args.number c.args.entry.now c.args.entry.now) none c.side_beside.ensures in
    replaced_at m.key m.unit m.op m.of g.met.T.Entry.laws s (store_of c.set_entry.new.self) c.args.number c.args.entry.now between c.set_entry.ensures

pub replaced_on-unreachable-requires : goal.replaced_on-unreachable-requires
replaced_on-unreachable-requires g t c =
    let m = g.T.Entry in
    let s = store_of c.args.arena.now in
    let at : child_number c.args.side (s c.args.number) ≡ None = sym c.child_of.ensures ∙ search rules in
    replaced_never m.key m.unit m.op m.of g.met.T.Entry.laws c.args.side s c.args.number c.args.entry.now c.requires.key at c.requires.side

pub replaced_on-replaced_below-requires : goal.replaced_on-replaced_below-requires
replaced_on-replaced_below-requires g t c κs within =
    let m = g.T.Entry in
    let s = store_of c.args.arena.now in
    let at : child_number c.args.side (s c.args.number) ≡ Some c.in-Some.child = sym c.child_of.ensures ∙ c.in-Some.is in
    let f = replaced_further m.key m.unit m.op m.of g.met.T.Entry.laws c.args.side s c.args.number c.in-Some.child c.args.entry.now c.requires.key at
    c.requires.side in
    search (rules, f.asked, f.falls)

-- what follows of the call below
stepped : (g : Over) (t : ℕ) (c : replaced_on-After-replaced_below g t) → let m = g.T.Entry in
    IsReplaceStep m.key m.unit m.op m.of g.met.T.Entry.laws c.args.side (store_of c.args.arena.now)
    (store_of c.replaced_below.new.arena) c.args.number
    c.in-Some.child
    c.args.entry.now c.replaced_below.result
stepped g t c =
    let m = g.T.Entry in
    replaced_step m.key m.unit m.op m.of g.met.T.Entry.laws c.args.side _ _ c.args.number c.in-Some.child c.args.entry.now c.replaced_below.result
    c.requires.key
    (sym c.child_of.ensures ∙ c.in-Some.is) c.requires.side c.replaced_below.ensures

pub replaced_on-returns-then-not-replaced_below : goal.replaced_on-returns-then-not-replaced_below
replaced_on-returns-then-not-replaced_below g t c =
    (stepped g t (goal.at.replaced_on-returns-then-not-replaced_below g t c).After-replaced_below).same (search rules)

pub replaced_on-settle_side-requires-clause-child : goal.replaced_on-settle_side-requires-clause-child
replaced_on-settle_side-requires-clause-child g t c =
    (stepped g t (goal.at.replaced_on-settle_side-requires-clause-child g t c).After-replaced_below).ready

pub replaced_on-settle_side-requires-clause-used : goal.replaced_on-settle_side-requires-clause-used
replaced_on-settle_side-requires-clause-used g t c =
    (stepped g t (goal.at.replaced_on-settle_side-requires-clause-used g t c).After-replaced_below).used

pub replaced_on-returns : goal.replaced_on-returns
replaced_on-returns g t c = (stepped g t (goal.at.replaced_on-returns g t c).After-replaced_below).settled _ _ c.settle_side.ensures.settled
