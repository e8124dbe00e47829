use Rattle.std.proofs.Common.{◌≡◌, ℕ, List}
use Rattle.av_trace.specs.declared.command.Command.{Command}
use Rattle.av_ports.specs.Ports.{AreUnfailed, StaysOpen}
use Rattle.av_audit_input.specs.Input.{OnlyReads}
use Rattle.av_audit_input.specs.Script.{IsScript}
use Rattle.av_audit_input.proofs.TraceLaws.{Past}
use Rattle.av_audit_input.proofs.trace.read_trace.Given as goal

abbrev pub invariant-loop-number : goal.invariant-loop-number
invariant-loop-number g l = record {
  past : (lines : List (List ℕ)) × (commands : List Command) × IsScript l.script commands
      × Past lines commands l.number l.fn.pending l.pending (g.P.Ports.view l.fn.ports) (g.P.Ports.view l.ports);
  only : OnlyReads (g.P.Ports.view l.fn.ports) (g.P.Ports.view l.ports);
  unfailed : AreUnfailed (g.P.Ports.view l.fn.ports) (g.P.Ports.view l.ports);
  untold : StaysOpen (g.P.Ports.view l.fn.ports).source (g.P.Ports.view l.ports).source;
  kept : g.P.Ports.kept l.ports ≡ g.P.Ports.kept l.fn.ports;
}
