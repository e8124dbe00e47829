use Rattle.av_chain.proofs.Drained.{AreLeft}
use Rattle.av_chain.proofs.lists.Lists.free_all.Given as goal

abbrev pub invariant-loop-area : goal.invariant-loop-area
invariant-loop-area l = AreLeft l.area-iterator l.nodes.blocks
