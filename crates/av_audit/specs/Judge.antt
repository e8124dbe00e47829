-- What an auditor answers.
use Rattle.std.specs.Prelude.{◌≡◌, ℕ, Bool, if◌then◌else◌, List, MatchBool}
use Rattle.av_trace.specs.declared.command.Command.{Command}
use Rattle.av_plain.specs.Ledger.{Ledger, Setting}
use Rattle.av_plain.specs.Sound.{AllSound}
use Rattle.av_plain.specs.World.{World}
use Rattle.av_audit_laws.specs.Unit.{IsUnit, Leaves}
use Rattle.av_audit_book.specs.Book.{ledger_of}
use Rattle.av_audit_book.specs.Machine.{setting_of}
use Rattle.av_audit_book.specs.declared.book.Book.{Book}
use Rattle.av_audit_book.specs.declared.machine.Machine.{Machine}
use Rattle.av_audit_world.specs.Memories.{IsWorld}
use Rattle.av_audit_world.specs.declared.memories.Memories.{Memories}
use Rattle.av_audit.specs.declared.auditor.Auditor.{Auditor}
use Rattle.av_audit.specs.declared.auditor.Phase.{Phase}
use Rattle.av_audit.specs.declared.auditor.Verdict.{Verdict}
use Rattle.av_audit.specs.declared.auditor.Verdict.TheVariants.{Legal, Illegal}

-- the frames and swap areas for which the auditor judges
abbrev pub machine_of : Auditor → Machine
machine_of a = a.machine

-- whether it goes on
abbrev pub phase_of : Auditor → Phase
phase_of a = a.phase

-- the auditor keeps these memories and this ledger, and they are sound
pub record IsAt (a : Auditor) (w : World) (l : Ledger) : Type 0 where
  pub world : IsWorld a.memories w
  pub ledger : l ≡ ledger_of a.book
  pub sound : AllSound (setting_of a.machine) w l

-- what is said of a unit
abbrev pub verdict_of : Bool → Verdict
verdict_of legal = if legal then Legal else Illegal

-- the unit is legal, and the auditor is at what it leaves; or it isn't legal
abbrev pub IsRight : Setting → World → Ledger → Command → List ℕ → Verdict → Auditor → Type 0
IsRight m w l command unit Legal new =
    (w' : World) × (l' : Ledger) × Leaves m w l command unit w' l' × IsAt new w' l'
IsRight m w l command unit Illegal new = IsUnit m w l command unit → ⊥

-- the unit is legal, and leaves this ledger and what these memories keep; or it isn't
abbrev pub IsLeftAt : Setting → World → Ledger → Command → List ℕ → Bool → Ledger → Memories
    → Type 0
IsLeftAt m w l command unit legal l' memories = MatchBool legal
    ((w' : World) × Leaves m w l command unit w' l' × IsWorld memories w')
    (IsUnit m w l command unit → ⊥)

-- the ledger is that of this book
abbrev pub IsLeft : Setting → World → Ledger → Command → List ℕ → Bool → Memories → Book → Type 0
IsLeft m w l command unit legal memories book =
    IsLeftAt m w l command unit legal (ledger_of book) memories

-- the ledger is as it was
abbrev pub LeavesLedger : Setting → World → Ledger → Command → List ℕ → Bool → Memories → Type 0
LeavesLedger m w l command unit legal memories = IsLeftAt m w l command unit legal l memories
