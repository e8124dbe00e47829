-- One turn of the loop over the lines.
use Rattle.std.specs.Prelude.{◌≡◌, ℕ, ◌+◌, ◌<◌, ◌≤◌, List, [], ◌∷◌, ◌++◌, ◌⊎◌, length, take, Option}
use Rattle.std.specs.Prelude.{Some, None, flat_map, option_map, Bool, true, false, Result, Ok, Err}
use Rattle.std.specs.Option.{option_to_list}
use Rattle.av_trace.specs.declared.command.Command.{Command}
use Rattle.av_trace.specs.Line.{Says}
use Rattle.av_plain.specs.Transcript.{Exchange, State, IsRun, causes_of, text_of_run}
use Rattle.av_kernel.specs.Machine.{Machine}
use Rattle.av_kernel.specs.Kernel.{Stands}
use Rattle.av_kernel.specs.Step.{has_device}
use Rattle.av_kernel.specs.Tally.{tally_with}
use Rattle.av_kernel.specs.declared.tally.Tally.{Tally}
use Rattle.av_plain.specs.Device.{Device, IsSameDevice, setting_of, Wrote}
use Rattle.av_io.specs.Count.{RoseBy}
use Rattle.av_io.specs.Source.{SourceView, Took}
use Rattle.av_io.specs.Sink.{Gained, HasFailed}
use Rattle.av_replay.specs.declared.status.Status.{Status}
use Rattle.av_replay.specs.declared.status.Status.TheVariants as statuses
use Rattle.av_ports.specs.declared.run_err.RunErr.{RunErr}
use Rattle.av_ports.specs.declared.run_err.RunErr.TheVariants as errors
use Rattle.av_ports.specs.Ports.{PortsView, undone, room, ReadsOn, IsAtEnd, IsReadFault}
use Rattle.av_ports.specs.Ports.{StaysOpen, Writes}
use Rattle.av_ports.specs.Line.{IsLine, IsTooLong}
use Rattle.av_plain.specs.Pass.{pages_written}
use Rattle.av_base.specs.declared.slot.Slot.{Slot}

-- ---- what a line does

-- a line commands this, or nothing
abbrev pub Commands : List ℕ → Option Exchange → Type 0
Commands line did = Says line (option_map (λ e. e.command) did)

-- the line is outside the grammar
abbrev pub SaysNothing : List ℕ → Type 0
SaysNothing line = (said : Option Command) → Says line said → ⊥

-- the line commands something that is handed the device
abbrev pub HandsDevice : List ℕ → Type 0
HandsDevice line = (command : Command) × Says line (Some command) × (has_device command ≡ true)

-- these replies, counted onto others
abbrev pub tally_of : List Exchange → Tally → Tally
tally_of [] tally = tally
tally_of (e ∷ es) tally = tally_of es (tally_with e.reply.answer tally)

-- the kernel counted these replies, and is no more spent than it was
pub record CountsReplies (old new : Machine) (es : List Exchange) : Type 0 where
  pub steps : new.steps ≡ old.steps + length es
  pub tally : new.tally ≡ tally_of es old.tally
  pub frames : new.frames ≡ old.frames
  pub sizes : new.sizes ≡ old.sizes
  pub spent : old.spent ≡ false → new.spent ≡ false

-- the pages that replies tell were to be written to the device, in order
abbrev pub pages_of_run : List Exchange → List Slot
pages_of_run es = flat_map (λ e. pages_written e.reply.notes) es

-- what a line does in a state, over a device: this one before it, and that one after it
pub record Answers (line : List ℕ) (device device' : Device) (s : State) (old new : Machine)
    (text : List ℕ) : Type 0 where
  pub did : Option Exchange
  pub next : State
  pub commands : Commands line did
  pub run : IsRun (setting_of old.frames device) s (option_to_list did) next
  pub said : text ≡ text_of_run (option_to_list did)
  pub stands : Stands new device' next
  pub counts : CountsReplies old new (option_to_list did)
  pub failures : RoseBy (causes_of (option_to_list did)) device.failures device'.failures
  pub asked : Wrote (pages_of_run (option_to_list did)) device.history device'.history

-- the kernel does a line, and this is the text of the reply
pub record DoesLine (line : List ℕ) (device device' : Device) (old new : Machine) (text : List ℕ)
    : Type 0 where
  pub answers : (s : State) → Stands old device s → Answers line device device' s old new text
  pub steps : new.steps ≤ old.steps + 1

-- a line that isn't done leaves the device, unless it hands it to its command
abbrev pub LeavesDevice : List ℕ → PortsView → PortsView → Type 0
LeavesDevice line old new = (new.device ≡ old.device) ⊎ HandsDevice line

-- why a line is not done
abbrev pub IsNotDone : RunErr → List ℕ → PortsView → PortsView → Machine → Machine → Type 0
IsNotDone errors.BadLine line old new k k' = SaysNothing line × (k' ≡ k) × (new ≡ old)
IsNotDone errors.Memory line old new k k' = LeavesDevice line old new
IsNotDone errors.Read line old new k k' = ⊥
IsNotDone errors.Write line old new k k' = ⊥

-- a line was done, and its text cut short
pub record IsCut (line : List ℕ) (old new : PortsView) (k k' : Machine) : Type 0 where
  pub text : List ℕ
  pub size : ℕ
  pub short : size < length text
  pub does : DoesLine line old.device new.device k k' text
  pub writes : Writes old.sink new.sink (take size text)

-- why a line is not done, or its text not written
abbrev pub IsNotAnswered :
    RunErr → List ℕ → PortsView → PortsView → Machine → Machine → Type 0
IsNotAnswered errors.BadLine line old new k k' =
    SaysNothing line × (k' ≡ k) × (new ≡ old)
IsNotAnswered errors.Memory line old new k k' =
    ((new.sink ≡ old.sink) × LeavesDevice line old new) ⊎ IsCut line old new k k'
IsNotAnswered errors.Write line old new k k' =
    IsCut line old new k k' × HasFailed old.sink new.sink
IsNotAnswered errors.Read line old new k k' = ⊥

-- ---- a turn

-- the source is as it was, and the device the same one
pub record LeavesSource (old new : PortsView) : Type 0 where
  pub source : new.source ≡ old.source
  pub device : IsSameDevice old.device new.device

-- the line in front of what was read, which ends at its newline or with the input
abbrev pub StandsNext : List ℕ → List ℕ → SourceView → Type 0
StandsNext line bytes source =
    ((more : List ℕ) × (bytes ≡ line ++ 10 ∷ more))
    ⊎ ((bytes ≡ line) × (0 < length line) × IsAtEnd source)

-- the next line commands something that is handed the device
abbrev pub HandsDeviceNext : List ℕ → SourceView → Type 0
HandsDeviceNext bytes source =
    (line : List ℕ) × IsLine line × HandsDevice line × StandsNext line bytes source

-- a line was begun of what was read, and none done: the device may have been used for it, if it is
-- one that is handed the device
pub record Begins (ahead ahead' : List ℕ) (old new : PortsView) : Type 0 where
  pub same : undone ahead' new ≡ undone ahead old
  pub held : new.sink.held ≡ old.sink.held
  pub device : IsSameDevice old.device new.device
  pub used : (new.device ≡ old.device) ⊎ HandsDeviceNext ahead' new.source
  pub near : length ahead' ≤ room

-- the next line is not to be done: it is outside the grammar, or too long
abbrev pub IsBad : List ℕ → SourceView → Type 0
IsBad bytes source =
    IsTooLong bytes
    ⊎ ((line : List ℕ) × IsLine line × SaysNothing line × StandsNext line bytes source)

-- how a line that was taken ended: at its newline, or with the input
abbrev pub IsEnding : List ℕ → List ℕ → List ℕ → SourceView → Type 0
IsEnding line ending rest source =
    (ending ≡ 10 ∷ [])
    ⊎ ((ending ≡ []) × (rest ≡ []) × (0 < length line) × IsAtEnd source)

-- a line was taken and done, this was written, and these bytes were read beyond it
pub record TakesLine
    (ahead : List ℕ) (old new : PortsView) (k k' : Machine) (line ending rest text written : List ℕ)
    : Type 0 where
  pub is_line : IsLine line
  pub took : Took (undone ahead old) (undone rest new) (line ++ ending)
  pub ends : IsEnding line ending rest new.source
  pub near : length rest ≤ room
  pub does : DoesLine line old.device new.device k k' text
  pub gained : Gained old.sink.held new.sink.held written
  pub device : IsSameDevice old.device new.device

-- nothing was done
pub record Waits (ahead ahead' : List ℕ) (old new : PortsView) (k k' : Machine) : Type 0 where
  pub reads : ReadsOn ahead ahead' old new
  pub kernel : k' ≡ k

-- a line was done, and its text cut short
pub record CutsShort (ahead : List ℕ) (old new : PortsView) (k k' : Machine) : Type 0 where
  pub line : List ℕ
  pub ending : List ℕ
  pub rest : List ℕ
  pub text : List ℕ
  pub size : ℕ
  pub short : size < length text
  pub takes : TakesLine ahead old new k k' line ending rest text (take size text)

-- the sink could not hand on what it kept back, before more of a line was read
pub record IsUnflushed (ahead ahead' : List ℕ) (old new : PortsView) (k k' : Machine)
    : Type 0 where
  pub waits : Waits ahead ahead' old new k k'
  pub part : IsLine ahead'
  pub untold : new.sink.held ≡ None

-- why a turn did not end well
abbrev pub Halts :
    RunErr → List ℕ → List ℕ → PortsView → PortsView → Machine → Machine → Type 0
Halts errors.BadLine ahead ahead' old new k k' =
    Waits ahead ahead' old new k k' × IsBad ahead' new.source
Halts errors.Read ahead ahead' old new k k' =
    Waits ahead ahead' old new k k' × IsLine ahead' × IsReadFault old.source new.source
Halts errors.Write ahead ahead' old new k k' =
    (CutsShort ahead old new k k' ⊎ IsUnflushed ahead ahead' old new k k')
    × HasFailed old.sink new.sink
Halts errors.Memory ahead ahead' old new k k' =
    Begins ahead ahead' old new ⊎ CutsShort ahead old new k k'

-- a line was done, with its newline or as the last one
pub record DoesNext (ahead ahead' : List ℕ) (old new : PortsView) (k k' : Machine)
    (ending : List ℕ) : Type 0 where
  pub line : List ℕ
  pub text : List ℕ
  pub takes : TakesLine ahead old new k k' line ending ahead' text text

-- nothing was left to be done
pub record FindsEnd (ahead ahead' : List ℕ) (old new : PortsView) (k k' : Machine) : Type 0 where
  pub waits : Waits ahead ahead' old new k k'
  pub none : ahead' ≡ []
  pub end : IsAtEnd new.source

-- what a turn did, and whether the input goes on
abbrev pub TakesTurn :
    Result Bool RunErr → List ℕ → List ℕ → PortsView → PortsView → Machine → Machine → Type 0
TakesTurn (Ok true) ahead ahead' old new k k' =
    DoesNext ahead ahead' old new k k' (10 ∷ []) × StaysOpen old.source new.source
TakesTurn (Ok false) ahead ahead' old new k k' =
    FindsEnd ahead ahead' old new k k' ⊎ DoesNext ahead ahead' old new k k' []
TakesTurn (Err error) ahead ahead' old new k k' = Halts error ahead ahead' old new k k'

-- after the last line that may be done: whether a byte of one more came
abbrev pub Finishes : Status → List ℕ → PortsView → PortsView → Type 0
Finishes statuses.TooMany ahead' old new = 0 < length ahead'
Finishes statuses.Done ahead' old new = (ahead' ≡ []) × IsAtEnd new.source
Finishes statuses.ReadFault ahead' old new = (ahead' ≡ []) × IsReadFault old.source new.source
Finishes statuses.WriteFault ahead' old new =
    (ahead' ≡ []) × (new.sink.held ≡ None) × HasFailed old.sink new.sink
Finishes status ahead' old new = ⊥
