use Rattle.av_arena.specs.Arena.{store_of}
use Rattle.av_arena.proofs.AvlLemmas.{none_lost, no_entry}
use Rattle.av_arena.proofs.avl.Avl.with_room.Goals as goal

pub invariant_of-result : goal.invariant_of-result
invariant_of-result g c =
    let m = g.T.Entry in none_lost m.key m.unit m.op m.of g.met.T.Entry.laws (store_of c.in_ok-with_room.field-0) c.in_ok-with_room.ensures

pub returns : goal.returns
returns g c = let m = g.T.Entry in record { empty = no_entry m.key m.unit m.op m.of g.met.T.Entry.laws (store_of c.in_ok-with_room.field-0) }
