-- What reading the input of an audit changes, and why no more of it is read.
use Rattle.std.specs.Prelude.{◌≡◌, ◌⊎◌, ◌<◌, ℕ, Bool, true, false, List, []}
use Rattle.std.specs.Prelude.{None, Result, Ok, Err, length}
use Rattle.av_io.specs.Sink.{HasFailed}
use Rattle.av_ports.specs.Ports.{AreFlushed, AreUnfailed, IsAtEnd, IsReadFault, PortsView}
use Rattle.av_ports.specs.Ports.{StaysOpen}
use Rattle.av_ports.specs.declared.run_err.RunErr.{RunErr}
use Rattle.av_ports.specs.declared.run_err.RunErr.TheVariants as errors
use Rattle.av_audit_input.specs.declared.input_err.InputErr.{InputErr}
use Rattle.av_audit_input.specs.declared.input_err.InputErr.TheVariants as input

-- why the line of this number could not be had
abbrev pub error_at : RunErr → ℕ → InputErr
error_at errors.BadLine number = input.BadLine number
error_at errors.Read number = input.Read
error_at errors.Write number = input.Write
error_at errors.Memory number = input.Memory

-- nothing is written, the device is as it was, and there was one flush for each read
pub record OnlyReads (old new : PortsView) : Type 0 where
  pub held : new.sink.held ≡ old.sink.held
  pub device : new.device ≡ old.device
  pub flushed : AreFlushed 0 old new

-- the source failed, once, and nothing was kept back while it was waited for
pub record FailsAtRead (old new : PortsView) : Type 0 where
  pub read : IsReadFault old.source new.source
  pub sink : new.sink.failures ≡ old.sink.failures
  pub none_kept : new.sink.kept_back ≡ []

-- the sink failed, once, at a flush, and doesn't tell what it holds
pub record FailsAtFlush (old new : PortsView) : Type 0 where
  pub source : new.source.failures ≡ old.source.failures
  pub sink : HasFailed old.sink new.sink
  pub untold : new.sink.held ≡ None

-- what failed is what the error tells of, and nothing where it tells of something else
abbrev pub FailsBy : InputErr → PortsView → PortsView → Type 0
FailsBy input.Read old new = FailsAtRead old new
FailsBy input.Write old new = FailsAtFlush old new
FailsBy error old new = AreUnfailed old new

abbrev pub FailsOnly : {A : Type 0} → Result A InputErr → PortsView → PortsView → Type 0
FailsOnly (Ok x) old new = AreUnfailed old new
FailsOnly (Err error) old new = FailsBy error old new

-- the input has ended, and nothing of it is left
abbrev pub IsEnded : List ℕ → PortsView → Type 0
IsEnded ahead now = (ahead ≡ []) × IsAtEnd now.source

-- whether the input had ended, and whether it has now: then nothing is left of it, and what has
-- ended stays so; and where it has not, the source told no end
pub record IsOpen (was is : Bool) (ahead : List ℕ) (old new : PortsView) : Type 0 where
  pub stays : was ≡ true → is ≡ true
  pub ended : is ≡ true → IsEnded ahead new
  pub untold : is ≡ false → StaysOpen old.source new.source

-- there is something that was read and not done; or the input has ended
abbrev pub HasMore : Bool → List ℕ → PortsView → Type 0
HasMore true ahead now = 0 < length ahead
HasMore false ahead now = IsEnded ahead now

-- a call of the source or the sink failed
abbrev pub IsPortErr : InputErr → Type 0
IsPortErr error = (error ≡ input.Read) ⊎ (error ≡ input.Write)

abbrev pub IsNoPortErr : InputErr → Type 0
IsNoPortErr error = IsPortErr error → ⊥
