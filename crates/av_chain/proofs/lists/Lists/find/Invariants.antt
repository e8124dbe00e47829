use Rattle.av_base.specs.Words.{is_in}
use Rattle.std.proofs.Common.{◌≡◌, false}
use Rattle.av_chain.specs.declared.node.Way.TheVariants.{Area}
use Rattle.av_chain.specs.Lists.{anons_of}
use Rattle.av_chain.proofs.Passing.{IsPast}
use Rattle.av_chain.proofs.lists.Lists.find.Given as goal

abbrev pub invariant-loop-step : goal.invariant-loop-step
invariant-loop-step l = (a : IsPast Area l.area l.self.nodes.blocks l.at l._step) × (is_in l.anon (anons_of a.0) ≡ false)
