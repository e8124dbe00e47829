use Rattle.std.proofs.Common.{◌≡◌, ◌≤◌, length}
use Rattle.av_ports.specs.Ports.{AreFlushed}
use Rattle.av_replay.proofs.Runs.{Past, SoFar}
use Rattle.av_replay.proofs.replay.do_lines.Given as goal

abbrev pub invariant-loop-number : goal.invariant-loop-number
invariant-loop-number g l = record {
  so_far : (past : Past) × SoFar l.fn.kernel.frames past l.pending (g.P.Ports.view l.fn.ports) (g.P.Ports.view l.ports) l.kernel
      × (length past.lines ≡ l.number);
  flushed : AreFlushed 0 (g.P.Ports.view l.fn.ports) (g.P.Ports.view l.ports);
  kept : g.P.Ports.kept l.ports ≡ g.P.Ports.kept l.fn.ports;
  steps : l.kernel.steps ≤ l.number;
}
