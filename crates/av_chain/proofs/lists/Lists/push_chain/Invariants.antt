use Rattle.std.proofs.Common.{◌≡◌, ℕ, ◌+◌, ◌-◌, ◌++◌, length}
use Rattle.av_chain.specs.declared.node.Way.TheVariants.{Area}
use Rattle.av_chain.specs.Rows.{row}
use Rattle.av_chain.specs.Lists.{anons_of}
use Rattle.av_chain.proofs.Passing.{IsPast}
use Rattle.av_chain.proofs.lists.Lists.push_chain.Given as goal

abbrev pub invariant-loop-at : goal.invariant-loop-at
invariant-loop-at l = (step : ℕ) × (a : IsPast Area l.area l.self.nodes.blocks l.at step)
    × (l.chain.items ≡ l.initial.chain.items ++ anons_of a.0)

abbrev pub decreases-loop-at : goal.decreases-loop-at
decreases-loop-at l = length l.initial.chain.items + length (row Area l.area l.self.nodes.blocks) - length l.chain.items
