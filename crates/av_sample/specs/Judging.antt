-- What is said of a reply.
use Rattle.std.specs.Prelude.{ℕ, List, Some}
use Rattle.av_trace.specs.declared.command.Command.{Command}
use Rattle.av_trace.specs.Line.{Says}
use Rattle.av_plain.specs.Ledger.{Ledger, Setting}
use Rattle.av_plain.specs.World.{World}
use Rattle.av_audit.specs.Judge.{IsRight}
use Rattle.av_audit.specs.declared.auditor.Auditor.{Auditor}
use Rattle.av_audit.specs.declared.auditor.Verdict.{Verdict}

-- The line says a command; the verdict on the text is right for it, and the auditor is at what a
-- legal one leaves.
pub record Judged (line : List ℕ) (m : Setting) (w : World) (l : Ledger) (text : List ℕ)
    (verdict : Verdict) (new : Auditor) : Type 0 where
  pub command : Command
  pub says : Says line (Some command)
  pub right : IsRight m w l command text verdict new
