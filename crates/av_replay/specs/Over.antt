-- A run over the swap areas that the words name.
use Rattle.std.specs.Prelude.{◌≡◌, ◌⊎◌, ℕ, ◌≤◌, List, length, Option, None}
use Rattle.av_plain.specs.Device.{Device}
use Rattle.av_kernel.specs.Machine.{Machine}
use Rattle.av_io.specs.Sink.{SinkView}
use Rattle.av_replay.specs.declared.status.Status.{Status}
use Rattle.av_replay.specs.declared.status.Status.TheVariants as statuses
use Rattle.av_words.specs.declared.words.Asked.{Asked}
use Rattle.av_words.specs.declared.words.Asked.TheVariants as asked
use Rattle.av_replay.specs.Audit.{DoesAudit}
use Rattle.av_replay.specs.Attach.{Attaches, Tries}
use Rattle.av_ports.specs.Ports.{PortsView}
use Rattle.av_replay.specs.Replay.{DoesTrace}
use Rattle.av_replay.specs.Work.{load_lines}
use Rattle.av_replay.specs.Summary.{DoesLoad}

-- What a run says whose words name these swap areas: they were attached, and it did this over the
-- device as it was then; or memory was wanting for one of them, and nothing else was done.
pub record RunsOverAreas (names : List (List ℕ)) (status : Status) (old : Device)
    (Does Stays : Device → Type 0) : Type 0 where
  pub pages : List ℕ
  pub few : length pages ≤ length names
  pub attached : Device
  pub attaches : Attaches pages old attached
  pub failed : Option (List ℕ)
  pub tries : Tries names (length pages) failed old.history attached.history
  pub does : Does attached
  pub all : (length pages ≡ length names) ⊎ ((status ≡ statuses.Memory) × Stays attached)

-- it replayed the trace of its source
abbrev pub ReplaysOver :
    ℕ → List (List ℕ) → Status → PortsView → PortsView → Option Machine → Type 0
ReplaysOver frames names status old new kernel = RunsOverAreas names status old.device
    (λ attached. DoesTrace frames status (record old { device = attached }) new kernel)
    (λ attached. (new ≡ record old { device = attached }) × (kernel ≡ None))

-- it did a load of so many lines from a seed on, and read nothing
abbrev pub WorksOver :
    ℕ → ℕ → ℕ → List (List ℕ) → Status → SinkView → SinkView → Device → Device → Option Machine
    → Type 0
WorksOver seed lines frames names status old new device device' kernel =
    RunsOverAreas names status device
    (λ attached.
    DoesLoad frames (load_lines (length names) seed lines) status old new attached device' kernel)
    (λ attached. (new ≡ old) × (device' ≡ attached) × (kernel ≡ None))

-- it judged a transcript
abbrev pub AuditsOver : ℕ → List (List ℕ) → Status → PortsView → PortsView → Type 0
AuditsOver frames names status old new = RunsOverAreas names status old.device
    (λ attached. DoesAudit frames status (record old { device = attached }) new)
    (λ attached. new ≡ record old { device = attached })

-- it did what the words ask for
abbrev pub DoesOver :
    Asked → List (List ℕ) → Status → PortsView → PortsView → Option Machine → Type 0
DoesOver (asked.Run frames) names status old new kernel =
    ReplaysOver frames names status old new kernel
DoesOver (asked.Audit frames) names status old new kernel =
    (kernel ≡ None) × AuditsOver frames names status old new
DoesOver (asked.Work seed lines frames) names status old new kernel =
    (new.source ≡ old.source)
    × WorksOver seed lines frames names status old.sink new.sink old.device new.device kernel
