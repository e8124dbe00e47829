use Rattle.av_arena.proofs.Entries.{puts_keeps}
use Rattle.std.proofs.Common.{rules, ◌≡◌, ℕ, None, Some, sym, ◌∙◌}
use Rattle.av_arena.specs.Arena.{store_of}
use Rattle.av_arena.specs.Below.{child_number}
use Rattle.av_arena.proofs.BelowLemmas.{placed_further, placed_hung, placed_step, IsPlaceStep}
use Rattle.av_arena.proofs.below.+place.Given.{Over}
use Rattle.av_arena.proofs.below.+place.Goals.{placed_on-After-placed_below}
use Rattle.av_arena.proofs.below.+place.Goals as goal

pub placed_on-returns-in_default-clause-placed : goal.placed_on-returns-in_default-clause-placed
placed_on-returns-in_default-clause-placed g t c =
    let m = g.T.Entry in
    let s = store_of c.args.arena.now in
    let at : child_number c.args.side (s c.args.number) ≡ None = sym c.child_of.ensures ∙ search rules in
    placed_hung m.key m.unit m.op m.of g.met.T.Entry.laws c.args.side s (store_of c.hang.new.arena) c.args.number c.args.new c.args.entry.now at
    c.requires.side c.hang.ensures.hung

pub placed_on-placed_below-requires : goal.placed_on-placed_below-requires
placed_on-placed_below-requires g t c κs within =
    let m = g.T.Entry in
    let s = store_of c.args.arena.now in
    let at : child_number c.args.side (s c.args.number) ≡ Some c.in-Some.child = sym c.child_of.ensures ∙ c.in-Some.is in
    let f = placed_further m.key m.unit m.op m.of g.met.T.Entry.laws c.args.side s c.args.number c.in-Some.child c.args.new c.args.entry.now
    c.requires.place
    at c.requires.side in
    search (rules, f.asked, f.falls)

-- what follows of the call below
stepped : (g : Over) (t : ℕ) (c : placed_on-After-placed_below g t) → let m = g.T.Entry in
    IsPlaceStep m.key m.unit m.op m.of g.met.T.Entry.laws c.args.side (store_of c.args.arena.now) (store_of c.placed_below.new.arena) c.args.number
    c.in-Some.child
    c.args.new c.args.entry.now c.placed_below.result
stepped g t c =
    let m = g.T.Entry in
    placed_step m.key m.unit m.op m.of g.met.T.Entry.laws c.args.side _ _ c.args.number c.in-Some.child c.args.new c.args.entry.now
    c.placed_below.result
    c.requires.place
    (sym c.child_of.ensures ∙ c.in-Some.is) c.requires.side c.placed_below.ensures.placed

pub placed_on-returns-then-not-placed_below-clause-placed : goal.placed_on-returns-then-not-placed_below-clause-placed
placed_on-returns-then-not-placed_below-clause-placed g t c =
    (stepped g t (goal.at.placed_on-returns-then-not-placed_below-clause-placed g t c).After-placed_below).same (search rules)

pub placed_on-settle_side-requires-clause-child : goal.placed_on-settle_side-requires-clause-child
placed_on-settle_side-requires-clause-child g t c = (stepped g t (goal.at.placed_on-settle_side-requires-clause-child g t c).After-placed_below).ready

pub placed_on-settle_side-requires-clause-used : goal.placed_on-settle_side-requires-clause-used
placed_on-settle_side-requires-clause-used g t c = (stepped g t (goal.at.placed_on-settle_side-requires-clause-used g t c).After-placed_below).used

pub placed_on-returns-clause-placed : goal.placed_on-returns-clause-placed
placed_on-returns-clause-placed g t c =
    (stepped g t (goal.at.placed_on-returns-clause-placed g t c).After-placed_below).settled _ _ c.settle_side.ensures.settled

pub placed_on-returns-clause-put : goal.placed_on-returns-clause-put
placed_on-returns-clause-put g t c = puts_keeps _ _ _ c.args.new _ c.placed_below.ensures.put c.settle_side.ensures.kept
