-- A line of input: how it is found in what was read, and what reading on for one leaves.
use Rattle.std.specs.Prelude.{◌≡◌, ◌≢◌, ℕ, ◌+◌, ◌<◌, ◌≤◌, List, [], ◌∷◌, ◌++◌, ◌⊎◌, length, take}
use Rattle.std.specs.Prelude.{drop, Option, Some, None, Result, Ok, Err, All}
use Rattle.av_io.specs.Source.{SourceView}
use Rattle.av_io.specs.Sink.{HasFailed}
use Rattle.av_ports.specs.declared.line.FoundLine.{FoundLine}
use Rattle.av_ports.specs.declared.line.FoundLine.TheVariants as founds
use Rattle.av_ports.specs.declared.line.Line.{Line}
use Rattle.av_ports.specs.declared.run_err.RunErr.{RunErr}
use Rattle.av_ports.specs.declared.run_err.RunErr.TheVariants as errors
use Rattle.av_ports.specs.Ports.{PortsView, AreUnfailed, IsAtEnd, IsReadFault, StaysOpen}

-- a line has at most so many bytes
abbrev pub longest : ℕ
longest = 8448

-- the byte is no newline
abbrev pub IsNoNewline : ℕ → Type 0
IsNoNewline b = b ≢ 10

-- none of the bytes is a newline
abbrev pub HasNoNewline : List ℕ → Type 0
HasNoNewline bytes = All IsNoNewline bytes

-- a line, or a part of one, without its newline
pub record IsLine (bytes : List ℕ) : Type 0 where
  pub one : HasNoNewline bytes
  pub short : length bytes ≤ longest

-- one byte more than a line may have came without a newline
pub record IsTooLong (bytes : List ℕ) : Type 0 where
  pub one : HasNoNewline (take (longest + 1) bytes)
  pub long : longest < length bytes

-- a line of so many bytes stands in front, and its newline
pub record HasLine (size : ℕ) (bytes : List ℕ) : Type 0 where
  pub line : IsLine (take size bytes)
  pub within : size < length bytes
  pub newline : bytes ≡ take size bytes ++ 10 ∷ drop (size + 1) bytes

-- what stands in front of these bytes
abbrev pub Finds : FoundLine → List ℕ → Type 0
Finds (founds.Line size) bytes = HasLine size bytes
Finds founds.TooLong bytes = IsTooLong bytes
Finds founds.Part bytes = IsLine bytes

-- the next line stands in front of what was read, to its newline; the last line may end with the
-- input
abbrev pub IsNext : Line → List ℕ → SourceView → SourceView → Type 0
IsNext line ahead old new =
    (HasLine line.size ahead × (line.whole ≡ line.size + 1) × StaysOpen old new)
    ⊎ (IsLine ahead × (line.size ≡ length ahead) × (0 < line.size) × (line.whole ≡ line.size)
    × IsAtEnd new)

-- why no more could be read: the source failed, or the sink could not hand on what it kept back
abbrev pub IsUnread : RunErr → PortsView → PortsView → Type 0
IsUnread errors.Read old new = IsReadFault old.source new.source
IsUnread errors.Write old new = (new.sink.held ≡ None) × HasFailed old.sink new.sink
IsUnread errors.BadLine old new = ⊥
IsUnread errors.Memory old new = ⊥

-- why no further line can be had
abbrev pub StopsReading : RunErr → List ℕ → PortsView → PortsView → Type 0
StopsReading errors.BadLine ahead old new = IsTooLong ahead
StopsReading error ahead old new = IsLine ahead × IsUnread error old new

-- nothing failed but what the error tells of
abbrev pub FailsBy : RunErr → PortsView → PortsView → Type 0
FailsBy errors.Read old new = new.sink.failures ≡ old.sink.failures
FailsBy errors.Write old new = new.source.failures ≡ old.source.failures
FailsBy error old new = AreUnfailed old new

-- nothing failed but what the result tells of
abbrev pub FailsOnly : {A : Type 0} → Result A RunErr → PortsView → PortsView → Type 0
FailsOnly (Ok x) old new = AreUnfailed old new
FailsOnly (Err error) old new = FailsBy error old new

-- how the reading of a line ended, or of none at the end of the input
abbrev pub LineRead : Result (Option Line) RunErr → List ℕ → PortsView → PortsView → Type 0
LineRead (Ok (Some line)) ahead old new = IsNext line ahead old.source new.source
LineRead (Ok None) ahead old new = (ahead ≡ []) × IsAtEnd new.source
LineRead (Err error) ahead old new = StopsReading error ahead old new
