use Rattle.std.proofs.Common.{◌≡◌, ◌+◌, ◌⊎◌, [], length}
use Rattle.av_io.specs.Source.{Took}
use Rattle.av_ports.specs.Ports.{AreUnfailed, undone}
use Rattle.av_audit_input.specs.Input.{IsOpen, OnlyReads}
use Rattle.av_audit_input.specs.Unit.{IsOne}
use Rattle.av_audit_input.proofs.unit.read_unit.Given as goal

abbrev pub invariant-loop-unit : goal.invariant-loop-unit
invariant-loop-unit g l = record {
  part : (l.unit.items ≡ []) ⊎ IsOne l.unit.items;
  took : Took (undone l.fn.pending (g.P.Ports.view l.fn.ports)) (undone l.pending (g.P.Ports.view l.ports)) l.unit.items;
  counts : l.fn.extent.left ≡ l.extent.left + length l.unit.items;
  stays : IsOpen l.fn.extent.ended l.extent.ended l.pending (g.P.Ports.view l.fn.ports) (g.P.Ports.view l.ports);
  only : OnlyReads (g.P.Ports.view l.fn.ports) (g.P.Ports.view l.ports);
  unfailed : AreUnfailed (g.P.Ports.view l.fn.ports) (g.P.Ports.view l.ports);
  kept : g.P.Ports.kept l.ports ≡ g.P.Ports.kept l.fn.ports;
}

abbrev pub decreases-loop-unit : goal.decreases-loop-unit
decreases-loop-unit g l = l.extent.left
