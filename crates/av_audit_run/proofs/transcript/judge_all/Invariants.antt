use Rattle.std.proofs.Common.{◌≡◌, List, drop}
use Rattle.av_audit.specs.Judge.{machine_of, phase_of}
use Rattle.av_audit.specs.declared.auditor.Phase.TheVariants.{Going}
use Rattle.av_audit_book.specs.Machine.{setting_of}
use Rattle.av_ports.specs.Ports.{AreUnfailed, undone}
use Rattle.av_audit_input.specs.Input.{IsOpen, OnlyReads}
use Rattle.av_audit_input.specs.Script.{AreLinesOf, IsScript}
use Rattle.av_trace.specs.declared.command.Command.{Command}
use Rattle.av_audit_run.proofs.JudgeAll.{LegalSoFar}
use Rattle.av_audit_run.proofs.transcript.judge_all.Given as goal

abbrev pub invariant-loop-index : goal.invariant-loop-index
invariant-loop-index g l = record {
  machine : machine_of l.auditor ≡ machine_of l.fn.auditor;
  going : phase_of l.auditor ≡ Going;
  legal : (commands : List Command) → IsScript l.script commands
      → AreLinesOf l.rest (drop l.index commands)
      × LegalSoFar (setting_of (machine_of l.fn.auditor)) commands l.index (undone l.fn.pending (g.P.Ports.view l.fn.ports))
      (undone l.pending (g.P.Ports.view l.ports)) l.extent.left l.auditor;
  stays : IsOpen l.fn.extent.ended l.extent.ended l.pending (g.P.Ports.view l.fn.ports) (g.P.Ports.view l.ports);
  only : OnlyReads (g.P.Ports.view l.fn.ports) (g.P.Ports.view l.ports);
  unfailed : AreUnfailed (g.P.Ports.view l.fn.ports) (g.P.Ports.view l.ports);
  kept : g.P.Ports.kept l.ports ≡ g.P.Ports.kept l.fn.ports;
}
