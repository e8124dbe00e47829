-- What the top call makes of the command line's words.
use Rattle.std.specs.Prelude.{◌≡◌, ◌≢◌, ◌⊎◌, ℕ, List, Option, None, length}
use Rattle.av_plain.specs.Device.{Device}
use Rattle.av_kernel.specs.Machine.{Machine}
use Rattle.av_words.specs.Words.{HasNoForm, IsForm}
use Rattle.av_words.specs.declared.words.Asked.{Asked}
use Rattle.av_words.specs.declared.words.Asked.TheVariants as asked
use Rattle.av_words.specs.declared.words.WordsErr.{WordsErr}
use Rattle.av_words.specs.declared.words.WordsErr.TheVariants as errors
use Rattle.av_replay.specs.declared.status.Status.{Status}
use Rattle.av_replay.specs.declared.status.Status.TheVariants as statuses
use Rattle.av_replay.specs.Attach.{AttachesFewer}
use Rattle.av_replay.specs.Audit.{LosesHeader}
use Rattle.av_replay.specs.Over.{DoesOver}
use Rattle.av_ports.specs.Ports.{PortsView}

-- how a run ends whose words could not be read
abbrev pub status_of : WordsErr → Status
status_of errors.Usage = statuses.Usage
status_of errors.Memory = statuses.Memory

-- the status is a usage error only where the words are of no form, and then always, unless memory
-- was wanting
pub record RefusesWords (status : Status) (words : List (List ℕ)) : Type 0 where
  pub only : status ≡ statuses.Usage → HasNoForm words
  pub always : status ≢ statuses.Memory → HasNoForm words → status ≡ statuses.Usage

-- it did what the words ask for; or memory was wanting for them, so that nothing was done
abbrev pub DoesAsked :
    List (List ℕ) → Status → PortsView → PortsView → Option Machine → Type 0
DoesAsked words status old new kernel =
    ((status ≡ statuses.Memory) × (new ≡ old) × (kernel ≡ None))
    ⊎ ((demand : Asked) × (names : List (List ℕ)) × IsForm words demand names
    × DoesOver demand names status old new kernel)

-- the words ask for a load
abbrev pub AskForLoad : List (List ℕ) → Type 0
AskForLoad words =
    (seed lines frames : ℕ) × (names : List (List ℕ))
    × IsForm words (asked.Work seed lines frames) names

-- the words ask for an audit
abbrev pub AskForAudit : List (List ℕ) → Type 0
AskForAudit words =
    (frames : ℕ) × (names : List (List ℕ)) × IsForm words (asked.Audit frames) names

-- fewer areas are attached than the words name, up to the first that failed; or for an audit all,
-- and page 0 of one could not be read
abbrev pub AttachesFewerAsked : List (List ℕ) → Device → Device → Type 0
AttachesFewerAsked words old new =
    (demand : Asked) × (names : List (List ℕ)) × IsForm words demand names
    × (AttachesFewer names old new ⊎ (AskForAudit words × LosesHeader names old new))
