use Rattle.std.proofs.Common.{◌≡◌, length}
use Rattle.av_chain.specs.declared.node.Way.TheVariants.{Area}
use Rattle.av_chain.specs.Rows.{row, without_row}
use Rattle.av_chain.proofs.Drained.{IsLeft}
use Rattle.av_chain.proofs.nodes.Nodes.free_row.Given as goal

abbrev pub invariant-loop-at : goal.invariant-loop-at
invariant-loop-at l = record {
  left : IsLeft l.area l.at l.self.blocks;
  others : without_row Area l.area l.self.blocks ≡ without_row Area l.area l.initial.self.blocks;
}

abbrev pub decreases-loop-at : goal.decreases-loop-at
decreases-loop-at l = length (row Area l.area l.self.blocks)
