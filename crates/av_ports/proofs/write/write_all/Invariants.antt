use Rattle.std.proofs.Common.{◌≡◌, ◌≤◌, ◌-◌, length, take}
use Rattle.av_ports.specs.Ports.{OnlySink, Writes}
use Rattle.av_ports.proofs.write.write_all.Given as goal

abbrev pub invariant-loop-start : goal.invariant-loop-start
invariant-loop-start g l = record {
  within : l.start ≤ length l.piece;
  unfailed : (g.P.Ports.view l.ports).sink.failures ≡ (g.P.Ports.view l.fn.ports).sink.failures;
  writes : Writes (g.P.Ports.view l.fn.ports).sink (g.P.Ports.view l.ports).sink (take l.start l.piece);
  only : OnlySink (g.P.Ports.view l.fn.ports) (g.P.Ports.view l.ports);
  kept : g.P.Ports.kept l.ports ≡ g.P.Ports.kept l.fn.ports;
}

abbrev pub decreases-loop-start : goal.decreases-loop-start
decreases-loop-start g l = length l.piece - l.start
