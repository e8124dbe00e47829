use Rattle.std.proofs.Common.{◌≡◌, ◌-◌, length}
use Rattle.av_ports.specs.Ports.{undone, AreFlushed, AreUnfailed, StaysOpen}
use Rattle.av_ports.proofs.line.read_line.Given as goal

abbrev pub invariant-loop-size : goal.invariant-loop-size
invariant-loop-size g l = record {
  same : undone l.pending (g.P.Ports.view l.ports) ≡ undone l.fn.pending (g.P.Ports.view l.fn.ports);
  held : (g.P.Ports.view l.ports).sink.held ≡ (g.P.Ports.view l.fn.ports).sink.held;
  device : (g.P.Ports.view l.ports).device ≡ (g.P.Ports.view l.fn.ports).device;
  kept : g.P.Ports.kept l.ports ≡ g.P.Ports.kept l.fn.ports;
  unfailed : AreUnfailed (g.P.Ports.view l.fn.ports) (g.P.Ports.view l.ports);
  flushed : AreFlushed 0 (g.P.Ports.view l.fn.ports) (g.P.Ports.view l.ports);
  stays_open : StaysOpen (g.P.Ports.view l.fn.ports).source (g.P.Ports.view l.ports).source;
}

abbrev pub decreases-loop-size : goal.decreases-loop-size
decreases-loop-size g l = 8449 - length l.pending
