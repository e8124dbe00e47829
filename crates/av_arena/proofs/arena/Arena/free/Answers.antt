use Rattle.std.proofs.Common.{refl}
use Rattle.av_arena.proofs.CellLemmas.{listed_free, put_none, used_in}
use Rattle.av_arena.proofs.arena.Arena.free.Goals as goal

pub invariant_of-self : goal.invariant_of-self
invariant_of-self g c =
    listed_free c.self.inside.cells.items c.args.number _ c.self.inside.free (used_in _ _ _ c.self.view_is c.requires) refl refl c.self.invariant

pub returns : goal.returns
returns g c = put_none c.self.inside.cells.items _ c.args.number _ c.self.view_is (used_in _ _ _ c.self.view_is c.requires).within refl
