-- How an audit ends.
use Rattle.std.specs.Prelude.{◌≡◌, ◌⊎◌, ℕ, ◌<◌, List, [], ◌∷◌, ◌++◌, codes, length, None}
use Rattle.av_io.specs.Count.{Rose}
use Rattle.av_io.specs.Sink.{HasFailed}
use Rattle.av_plain.specs.Device.{Device, setting_of}
use Rattle.av_plain.specs.Ledger.{Setting}
use Rattle.av_ports.specs.Ports.{PortsView, AreUnfailed, IsReadFault, OnlySink}
use Rattle.av_trace.specs.declared.command.Command.{Command}
use Rattle.av_audit_input.specs.Input.{FailsBy, OnlyReads}
use Rattle.av_audit_input.specs.declared.input_err.InputErr.{InputErr}
use Rattle.av_audit_input.specs.declared.input_err.InputErr.TheVariants as input
use Rattle.av_audit_input.specs.Unit.{most_bytes, units_of}
use Rattle.av_audit_run.specs.Transcript.{AuditStops, Audits, IsFinding}
use Rattle.av_audit_run.specs.declared.transcript.Finding.{Finding}
use Rattle.av_audit_run.specs.declared.transcript.Finding.TheVariants as findings
use Rattle.av_audit_machine.specs.Heads.{IsSettingOf, OnlyFails}
use Rattle.av_replay.specs.Attach.{Attaches, Tries}
use Rattle.av_replay.specs.Summary.{EndsText}
use Rattle.av_replay.specs.declared.status.Status.{Status}
use Rattle.av_replay.specs.declared.status.Status.TheVariants as statuses

-- what is written of a transcript that is legal
abbrev pub legal_text : List ℕ
legal_text = codes "legal" ++ 10 ∷ []

-- an audit came to this, having written nothing, and nothing failed
abbrev pub Finds : Finding → Setting → PortsView → PortsView → Type 0
Finds finding m old new = Audits finding m old new × OnlyReads old new × AreUnfailed old new

-- it was found legal, and that was written, or not, by the status
abbrev pub WritesLegal : Status → Setting → PortsView → PortsView → Type 0
WritesLegal status m old new =
    (mid : PortsView) × Finds findings.Legal m old mid × OnlySink mid new
    × EndsText status mid.sink new.sink legal_text

-- it could not go on
abbrev pub CannotGoOn : InputErr → Setting → PortsView → PortsView → Type 0
CannotGoOn error m old new = AuditStops error m old new × OnlyReads old new × FailsBy error old new

-- how an audit ends on a machine of this setting, by the status
abbrev pub EndsAudit : Status → Setting → PortsView → PortsView → Type 0
EndsAudit statuses.Done m old new = WritesLegal statuses.Done m old new
EndsAudit (statuses.Illegal n) m old new = Finds (findings.Illegal n) m old new
EndsAudit (statuses.BadLine n) m old new = CannotGoOn (input.BadLine n) m old new
EndsAudit statuses.TooMany m old new = CannotGoOn input.TooMany m old new
EndsAudit statuses.TooLong m old new = CannotGoOn input.TooLong m old new
EndsAudit statuses.ReadFault m old new = CannotGoOn input.Read m old new
EndsAudit statuses.WriteFault m old new =
    CannotGoOn input.Write m old new ⊎ WritesLegal statuses.WriteFault m old new
EndsAudit statuses.Memory m old new =
    CannotGoOn input.Memory m old new ⊎ WritesLegal statuses.Memory m old new
EndsAudit statuses.Usage m old new = ⊥
EndsAudit statuses.AttachFault m old new = ⊥

-- How an audit ends of a trace of these commands, its mark and this transcript: what it finds is so
-- of all units, unless there are too many bytes, memory is wanting, or source or sink failed.
abbrev pub IsJudged :
    Status → Setting → List Command → List ℕ → PortsView → PortsView → Type 0
IsJudged statuses.Done m commands transcript old new =
    IsFinding findings.Legal m commands (units_of transcript)
IsJudged (statuses.Illegal n) m commands transcript old new =
    IsFinding (findings.Illegal n) m commands (units_of transcript)
IsJudged statuses.TooLong m commands transcript old new = most_bytes < length transcript
IsJudged statuses.ReadFault m commands transcript old new = IsReadFault old.source new.source
IsJudged statuses.WriteFault m commands transcript old new = HasFailed old.sink new.sink
IsJudged statuses.Memory m commands transcript old new = Unit {0}
IsJudged status m commands transcript old new = ⊥

-- what an audit says that was begun, on a machine of so many frames over the device
abbrev pub DoesAudit : ℕ → Status → PortsView → PortsView → Type 0
DoesAudit frames status old new =
    (m : Setting) × IsSettingOf frames old.device m × EndsAudit status m old new

-- every area was attached, and then page 0 of one could not be read
pub record LosesHeader (names : List (List ℕ)) (old new : Device) : Type 0 where
  pub pages : List ℕ
  pub many : length pages ≡ length names
  pub attached : Device
  pub attaches : Attaches pages old attached
  pub tries : Tries names (length pages) None old.history attached.history
  pub same : OnlyFails attached new
  pub failures : Rose attached.failures new.failures

-- the status of an audit that could not go on
abbrev pub status_by : InputErr → Status
status_by (input.BadLine n) = statuses.BadLine n
status_by input.TooMany = statuses.TooMany
status_by input.TooLong = statuses.TooLong
status_by input.Read = statuses.ReadFault
status_by input.Write = statuses.WriteFault
status_by input.Memory = statuses.Memory
