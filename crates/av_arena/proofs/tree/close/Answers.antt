use Rattle.av_arena.proofs.Entries.{node_puts}
use Rattle.av_arena.proofs.tree.close.Goals as goal

pub returns-clause-put : goal.returns-clause-put
returns-clause-put g c = node_puts _ _ c.args.number _ c.set.ensures
