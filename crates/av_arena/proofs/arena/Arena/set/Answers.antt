use Rattle.std.proofs.Common.{ap, Some}
use Rattle.av_arena.proofs.CellLemmas.{listed_set, put_node, used_in}
use Rattle.av_arena.proofs.arena.Arena.set.Goals as goal

pub invariant_of-self : goal.invariant_of-self
invariant_of-self g c =
    listed_set c.self.inside.cells.items c.args.number _ c.self.inside.free (used_in _ _ _ c.self.view_is c.requires) c.self.invariant

pub returns : goal.returns
returns g c =
    put_node c.self.inside.cells.items _ c.args.number c.of.result _ c.self.view_is (used_in _ _ _ c.self.view_is c.requires).within c.of.ensures.used
    (ap Some c.of.ensures.node)
