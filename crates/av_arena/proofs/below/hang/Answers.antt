use Rattle.av_arena.proofs.Entries.{puts_keeps, side_keeps}
use Rattle.av_arena.specs.Arena.{store_of}
use Rattle.av_arena.proofs.TreeLemmas.{still_used}
use Rattle.std.proofs.Common.{None}
use Rattle.av_arena.proofs.below.hang.Goals as goal

pub set_side-requires : goal.set_side-requires
set_side-requires g c =
    let m = g.T.Entry in
    still_used m.key m.unit m.op m.of g.met.T.Entry.laws (store_of c.args.arena.now) (store_of c.close-link.new.arena) c.args.new None
    c.args.entry.now None
    c.close-link.result c.close-link.ensures.set c.args.number c.requires.used

pub returns-clause-put : goal.returns-clause-put
returns-clause-put g c =
    puts_keeps _ _ _ c.args.new _ c.close-link.ensures.put (side_keeps c.args.side _ _ c.args.number _ c.set_side.ensures)
