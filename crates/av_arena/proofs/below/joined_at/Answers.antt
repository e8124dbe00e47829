use Rattle.av_arena.specs.Cell.{node_in}
use Rattle.std.proofs.Common.{rules, ◌≤◌, arith}
use Rattle.std.proofs.lemmas.Bool.{ltb-true, ltb-false}
use Rattle.av_arena.specs.Arena.{store_of}
use Rattle.av_arena.proofs.JoinLemmas.{join_lower_goes, join_lower_has, join_upper_goes, join_upper_has, not_at_lower, not_at_upper}
use Rattle.av_arena.proofs.below.joined_at.Goals as goal

pub returns-then-is_before : goal.returns-then-is_before
returns-then-is_before g c =
    let m = g.T.Entry in
    let r = c.removed_below-out in
    join_lower_goes m.key m.unit m.op m.of g.met.T.Entry.laws (store_of c.args.arena.now) (store_of r.new.arena)
    (store_of c.set_entry.new.self) c.args.number
    r.result.0 (node_in c.cell.result.now) c.args.lower.now c.args.upper.now c.args.joined.now r.result.1 c.cell.ensures c.requires.meets
    (ltb-true _ _ (search rules))
    r.ensures.removed (r.ensures.kept c.args.number) c.set_entry.ensures

pub returns : goal.returns
returns g c =
    let m = g.T.Entry in
    let r = c.removed_below-out-2 in
    join_upper_goes m.key m.unit m.op m.of g.met.T.Entry.laws (store_of c.args.arena.now) (store_of r.new.arena)
    (store_of c.set_entry-2.new.self) c.args.number
    r.result.0 (node_in c.cell.result.now) c.args.lower.now c.args.upper.now c.args.joined.now r.result.1 c.cell.ensures c.requires.meets
    (ltb-false _ _ (search rules))
    r.ensures.removed (r.ensures.kept c.args.number) c.set_entry-2.ensures

pub removed_below-out-requires-clause-there : goal.removed_below-out-requires-clause-there
removed_below-out-requires-clause-there g c =
    let m = g.T.Entry in
    join_lower_has m.key m.unit m.op m.of g.met.T.Entry.laws (store_of c.args.arena.now) c.args.number c.args.lower.now c.args.upper.now
    c.args.joined.now c.requires.join

pub removed_below-out-requires-clause-other : goal.removed_below-out-requires-clause-other
removed_below-out-requires-clause-other g c =
    let m = g.T.Entry in
    not_at_lower m.key m.unit m.op m.of g.met.T.Entry.laws (store_of c.args.arena.now) c.args.number (node_in c.cell.result.now) c.args.lower.now c.cell.ensures
    (ltb-true _ _ (search rules))

pub removed_below-out-requires-2-clause-there : goal.removed_below-out-requires-2-clause-there
removed_below-out-requires-2-clause-there g c =
    let m = g.T.Entry in
    join_upper_has m.key m.unit m.op m.of g.met.T.Entry.laws (store_of c.args.arena.now) c.args.number c.args.lower.now c.args.upper.now
    c.args.joined.now c.requires.join

pub removed_below-out-requires-2-clause-other : goal.removed_below-out-requires-2-clause-other
removed_below-out-requires-2-clause-other g c =
    let m = g.T.Entry in
    let low : m.key c.cell.result.now.entry ≤ m.key c.args.lower.now = ltb-false _ _ (search rules) in
    let after = c.requires.join.asked.after in
    not_at_upper m.key m.unit m.op m.of g.met.T.Entry.laws (store_of c.args.arena.now) c.args.number (node_in c.cell.result.now)
    c.args.upper.now c.cell.ensures (omega arith)
