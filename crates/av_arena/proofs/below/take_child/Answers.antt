use Rattle.av_arena.proofs.Entries.{keeps_keeps, side_keeps}
use Rattle.av_arena.proofs.below.take_child.Goals as goal

pub returns-clause-kept : goal.returns-clause-kept
returns-clause-kept g c = keeps_keeps _ _ _ c.take-rest.ensures.kept (side_keeps c.args.side _ _ c.args.number _ c.set_side.ensures)
