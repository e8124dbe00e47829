-- What an audit finds in a transcript.
use Rattle.std.specs.Prelude.{◌≡◌, ◌⊎◌, ℕ, ◌+◌, ◌≤◌, Bool, List, [], ◌∷◌, ◌++◌}
use Rattle.std.specs.Prelude.{length, Option, Some, None}
use Rattle.std.specs.List.{AllByRecursion}
use Rattle.av_ports.specs.Ports.{PortsView, room, undone}
use Rattle.av_trace.specs.declared.command.Command.{Command}
use Rattle.av_plain.specs.Ledger.{Ledger, Setting, first_ledger}
use Rattle.av_plain.specs.World.{World}
use Rattle.av_audit_laws.specs.Unit.{AreUnits, IsUnit}
use Rattle.av_audit_input.specs.Input.{IsEnded}
use Rattle.av_audit_input.specs.Unit.{Cuts, IsOne, StopsUnit, bytes_of, most_bytes, units_of}
use Rattle.av_audit_input.specs.Trace.{AreLines, IsTrace, StopsWithin, TakesTrace, all_lines, mark}
use Rattle.av_audit_input.specs.declared.input_err.InputErr.{InputErr}
use Rattle.av_audit_input.specs.declared.input_err.InputErr.TheVariants as input
use Rattle.av_audit.specs.declared.auditor.Verdict.{Verdict}
use Rattle.av_audit.specs.declared.auditor.Verdict.TheVariants as verdicts
use Rattle.av_audit_run.specs.declared.transcript.Finding.{Finding}
use Rattle.av_audit_run.specs.declared.transcript.Finding.TheVariants as findings

-- ---- where units are no transcript

-- the next unit isn't legal for the next command, is wanting, or comes behind the last command
abbrev pub IsWrong : Setting → World → Ledger → List Command → List (List ℕ) → Type 0
IsWrong m w l [] [] = ⊥
IsWrong m w l [] (unit ∷ units) = Unit {0}
IsWrong m w l (command ∷ commands) [] = Unit {0}
IsWrong m w l (command ∷ commands) (unit ∷ units) = IsUnit m w l command unit → ⊥

-- the first units are legal for the first commands in turn, all before the one of this number; and
-- this is said of it, by what they leave
pub record StopsAt (m : Setting) (commands : List Command) (units : List (List ℕ)) (number : ℕ)
    (Stops : Setting → World → Ledger → List Command → List (List ℕ) → Type 0) : Type 0 where
  pub done : List Command
  pub others : List Command
  pub commands_are : commands ≡ done ++ others
  pub legal : List (List ℕ)
  pub rest : List (List ℕ)
  pub units_are : units ≡ legal ++ rest
  pub number_is : number ≡ length legal + 1
  pub world : World
  pub ledger : Ledger
  pub are_units : AreUnits m [] first_ledger done legal world ledger
  pub stops : Stops m world ledger others rest

-- the units are legal for the commands, one for each
abbrev pub AreLegal : Setting → List Command → List (List ℕ) → Type 0
AreLegal m commands units =
    (w : World) × (l : Ledger) × AreUnits m [] first_ledger commands units w l

-- what is found in units, which are all where the input has ended: one that isn't legal is the last
-- of them, or is wanting behind them at the end
abbrev pub FindsIn : Finding → Setting → List Command → List (List ℕ) → Type 0 → Type 0
FindsIn findings.Legal m commands units Ended = AreLegal m commands units × Ended
FindsIn (findings.Illegal n) m commands units Ended =
    StopsAt m commands units n IsWrong
    × ((n ≡ length units) ⊎ ((n ≡ length units + 1) × Ended))

-- ---- a transcript that is read

-- Some units were taken, and that was found of them. They are the first ones of the transcript, all
-- where it has ended, and have no more bytes than they may have; and no more was read behind them
-- than one read gives.
pub record Judges (finding : Finding) (m : Setting) (commands : List Command)
    (before : Option (List ℕ)) (rest : List ℕ) (new : PortsView) : Type 0 where
  pub units : List (List ℕ)
  pub each : AllByRecursion IsOne units
  pub cuts : Cuts units before (undone rest new)
  pub few : length (bytes_of units) ≤ most_bytes
  pub near : length rest ≤ room
  pub finds : FindsIn finding m commands units (IsEnded rest new)

-- Some units were taken, which are legal for the first commands. Of the next one, which was not
-- judged, all or a part was taken, of the bytes that may still come; behind it no more was read
-- than one read gives.
pub record BreaksOff (error : InputErr) (m : Setting) (commands : List Command)
    (before : Option (List ℕ)) (rest : List ℕ) (new : PortsView) : Type 0 where
  pub done : List Command
  pub others : List Command
  pub commands_are : commands ≡ done ++ others
  pub units : List (List ℕ)
  pub each : AllByRecursion IsOne units
  pub between : Option (List ℕ)
  pub cuts : Cuts units before between
  pub legal : AreLegal m done units
  pub left : ℕ
  pub counts : most_bytes ≡ left + length (bytes_of units)
  pub unit : List ℕ
  pub stops : StopsUnit error left unit between rest new

-- ---- trace and transcript

-- a trace was read, and that was found of the transcript behind it
pub record Audits (finding : Finding) (m : Setting) (old new : PortsView) : Type 0 where
  pub commands : List Command
  pub ahead : List ℕ
  pub between : PortsView
  pub ended : Bool
  pub trace : TakesTrace ended commands [] ahead old between
  pub rest : List ℕ
  pub judges : Judges finding m commands (undone ahead between) rest new

-- memory was wanting before anything was done; or the trace was not read; or it was, and then not
-- the transcript
abbrev pub AuditStops : InputErr → Setting → PortsView → PortsView → Type 0
AuditStops error m old new =
    ((error ≡ input.Memory) × (new ≡ old))
    ⊎ ((rest : List ℕ) × StopsWithin error [] rest old new)
    ⊎ ((commands : List Command) × (ahead rest : List ℕ) × (between : PortsView) × (ended : Bool)
    × TakesTrace ended commands [] ahead old between
    × BreaksOff error m commands (undone ahead between) rest new)

-- what is found at the unit of this number, if the audit ends there
abbrev pub finding_of : Verdict → ℕ → Option Finding
finding_of verdicts.Legal number = None
finding_of verdicts.Illegal number = Some (findings.Illegal number)

-- ---- of an input that is told

-- that is found of all units
abbrev pub IsFinding : Finding → Setting → List Command → List (List ℕ) → Type 0
IsFinding findings.Legal m commands units = AreLegal m commands units
IsFinding (findings.Illegal n) m commands units = StopsAt m commands units n IsWrong

-- the bytes are a trace with its mark, or all of an input without one
abbrev pub IsFront : List (List ℕ) → List ℕ → List ℕ → Type 0
IsFront lines bytes transcript =
    (bytes ≡ all_lines (lines ++ mark ∷ []))
    ⊎ ((AreLines lines bytes ⊎ (bytes ≡ all_lines lines ++ mark)) × (transcript ≡ []))

-- an input is a trace and behind it a transcript, of whose units that is found
pub record IsAuditOf (finding : Finding) (m : Setting) (content : List ℕ) : Type 0 where
  pub lines : List (List ℕ)
  pub commands : List Command
  pub trace : IsTrace lines commands
  pub bytes : List ℕ
  pub transcript : List ℕ
  pub content_is : content ≡ bytes ++ transcript
  pub front : IsFront lines bytes transcript
  pub finds : IsFinding finding m commands (units_of transcript)
