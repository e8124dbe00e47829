-- A run, and an audit of what it wrote, by what `run` says of each call.
use Rattle.std.specs.Prelude.{◌≡◌, ℕ, ◌<◌, List, [], ◌∷◌, ◌++◌, length, Option, Some, is_some, true}
use Rattle.av_plain.specs.Device.{Device, headers_of}
use Rattle.av_kernel.specs.Machine.{Machine}
use Rattle.av_io.specs.Sink.{Gained, HasFailed}
use Rattle.av_ports.specs.Ports.{IsReadFault, PortsView}
use Rattle.av_words.specs.Words.{IsForm}
use Rattle.av_words.specs.declared.words.Asked.TheVariants as asked
use Rattle.av_audit_input.specs.Trace.{all_lines, mark}
use Rattle.av_audit_input.specs.Unit.{most_bytes}
use Rattle.av_replay.specs.Audit.{legal_text}
use Rattle.av_replay.specs.Trace.{lines_of}
use Rattle.av_replay.specs.TopCall.{DoesAsked}
use Rattle.av_replay.specs.declared.status.Status.{Status}
use Rattle.av_replay.specs.declared.status.Status.TheVariants as statuses

-- A run with so many frames is done. Its source told that it had this trace, and its sink that it
-- gained this transcript; and this is its device in the end.
pub record RunWrites (frames : ℕ) (trace transcript : List ℕ) (device : Device) : Type 0 where
  pub words : List (List ℕ)
  pub names : List (List ℕ)
  pub form : IsForm words (asked.Run frames) names
  pub old : PortsView
  pub new : PortsView
  pub kernel : Option Machine
  pub does : DoesAsked words statuses.Done old new kernel
  pub read : old.source.left ≡ Some trace
  pub before : List ℕ
  pub held : old.sink.held ≡ Some before
  pub wrote : new.sink.held ≡ Some (before ++ transcript)
  pub device_is : new.device ≡ device

-- the lines of a trace, each with its newline, the mark, and a transcript
abbrev pub input_of : List ℕ → List ℕ → List ℕ
input_of trace transcript = all_lines (lines_of trace ++ mark ∷ []) ++ transcript

-- An audit with so many frames ended so. Its source told that it had this input; and this is its
-- device in the end.
pub record AuditEnds (frames : ℕ) (input : List ℕ) (status : Status) (device : Device)
    : Type 0 where
  pub words : List (List ℕ)
  pub names : List (List ℕ)
  pub form : IsForm words (asked.Audit frames) names
  pub old : PortsView
  pub new : PortsView
  pub kernel : Option Machine
  pub does : DoesAsked words status old new kernel
  pub read : old.source.left ≡ Some input
  pub device_is : new.device ≡ device

-- two devices tell their pages, and have swap areas of the same sizes, whose headers say the same
pub record SayAlike (device other : Device) : Type 0 where
  pub told : is_some other.pages ≡ true
  pub sizes : other.sizes ≡ device.sizes
  pub headers : headers_of other ≡ headers_of device

-- how an audit ends of a transcript that is legal: it writes so, unless memory is wanting, its
-- source or its sink failed, or the transcript is too long
abbrev pub FindsLegal : Status → List ℕ → PortsView → PortsView → Type 0
FindsLegal statuses.Done transcript old new = Gained old.sink.held new.sink.held legal_text
FindsLegal statuses.Memory transcript old new = Unit {0}
FindsLegal statuses.ReadFault transcript old new = IsReadFault old.source new.source
FindsLegal statuses.WriteFault transcript old new = HasFailed old.sink new.sink
FindsLegal statuses.TooLong transcript old new = most_bytes < length transcript
FindsLegal status transcript old new = ⊥
