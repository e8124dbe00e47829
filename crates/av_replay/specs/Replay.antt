-- What a replay leaves, by its status.
use Rattle.std.specs.Prelude.{◌≡◌, ℕ, ◌+◌, ◌^◌, ◌<◌, ◌≤◌, List, [], ◌∷◌, ◌++◌, ◌⊎◌, Bool, false}
use Rattle.std.specs.Prelude.{true, if◌then◌else◌, length, take, Option, Some, None, IfSome}
use Rattle.std.specs.Prelude.{unwrap_or}
use Rattle.std.specs.List.{flat_map, AllByRecursion}
use Rattle.std.specs.Option.{option_to_list}
use Rattle.av_trace.specs.Print.{text_of}
use Rattle.av_plain.specs.Transcript.{Exchange, State, IsRun, at_first, causes_of, text_of_run}
use Rattle.av_kernel.specs.Machine.{Machine}
use Rattle.av_kernel.specs.Kernel.{Stands}
use Rattle.av_kernel.specs.Tally.{none_counted}
use Rattle.av_plain.specs.Device.{Device, IsSameDevice, setting_of, Wrote}
use Rattle.av_io.specs.Count.{RoseBy}
use Rattle.av_io.specs.Source.{Took}
use Rattle.av_io.specs.Sink.{SinkView, Gained, HasFailed, HandsOn, KeepsBack}
use Rattle.av_replay.specs.declared.status.Status.{Status}
use Rattle.av_replay.specs.declared.status.Status.TheVariants as statuses
use Rattle.av_ports.specs.declared.run_err.RunErr.{RunErr}
use Rattle.av_ports.specs.declared.run_err.RunErr.TheVariants as errors
use Rattle.av_ports.specs.Ports.{PortsView, room, AreFlushed, AreUnfailed, IsAtEnd, IsReadFault}
use Rattle.av_ports.specs.Line.{IsLine}
use Rattle.av_replay.specs.KernelPorts.{IsAttached}
use Rattle.av_replay.specs.Turn.{tally_of, Commands, HandsDeviceNext, IsBad, pages_of_run}
use Rattle.av_base.specs.declared.slot.Slot.{Slot}

-- ---- the lines that were done, and their transcript

-- at most so many lines are done
abbrev pub most_lines : ℕ
most_lines = 2 ^ 24

-- the lines with their newlines
abbrev pub all_lines : List (List ℕ) → List ℕ
all_lines lines = flat_map (λ line. line ++ 10 ∷ []) lines

-- the lines command these, in order, and nothing else
abbrev pub Transcribes : List (List ℕ) → List Exchange → Type 0
Transcribes [] es = es ≡ []
Transcribes (line ∷ lines) es =
    (did : Option Exchange) × (others : List Exchange) × (es ≡ option_to_list did ++ others)
    × Commands line did × Transcribes lines others

-- the lines that were done, a last one that had no newline, their transcript, and the state that it
-- leaves
pub record Run : Type 0 where
  pub lines : List (List ℕ)
  pub last : Option (List ℕ)
  pub transcript : List Exchange
  pub state : State

-- all lines that were done
abbrev pub done_lines : Run → List (List ℕ)
done_lines run = run.lines ++ option_to_list run.last

-- The lines are what was read, up to these further bytes, which are no more than one read gives.
-- Their transcript is legal, each frame and slot chosen exactly and the areas by the rules, from
-- the empty state on. What was written is this. A last line without newline stands at the end of
-- the input. What only failures of the device explain is within what it failed. The device was
-- asked to write what the transcript tells, then perhaps pages that nothing tells of.
pub record Replays (frames : ℕ) (old new : PortsView) (run : Run) (rest written : List ℕ)
    : Type 0 where
  pub read : Took old.source.left new.source.left
      (all_lines run.lines ++ (unwrap_or run.last [] ++ rest))
  pub near : length rest ≤ room
  pub lines : AllByRecursion IsLine run.lines
  pub few : length (done_lines run) ≤ most_lines
  pub last : IfSome run.last
      (λ line. IsLine line × (0 < length line) × (rest ≡ []) × IsAtEnd new.source)
  pub commands : Transcribes (done_lines run) run.transcript
  pub legal : let m = setting_of frames old.device in
      IsRun m (at_first m) run.transcript run.state
  pub failures : RoseBy (causes_of run.transcript) old.device.failures new.device.failures
  pub untold : List Slot
  pub asked : Wrote (pages_of_run run.transcript ++ untold) old.device.history new.device.history
  pub wrote : Gained old.sink.held new.sink.held written
  pub device : IsSameDevice old.device new.device

-- ---- the kernel that is handed back

-- it and the device stand for the state that the transcript leaves; it counted the replies, and can
-- go on, with the swap areas of this device
pub record IsHandedBack (kernel : Machine) (device : Device) (n : ℕ) (run : Run) : Type 0 where
  pub stands : Stands kernel device run.state
  pub frames : kernel.frames ≡ n
  pub steps : kernel.steps ≡ length run.transcript
  pub tally : kernel.tally ≡ tally_of run.transcript none_counted
  pub unspent : kernel.spent ≡ false
  pub attached : IsAttached device kernel

-- whether there is a kernel to go on with, by the status
abbrev pub can_go_on : Status → Bool
can_go_on statuses.Usage = false
can_go_on statuses.AttachFault = false
can_go_on statuses.Memory = false
can_go_on (statuses.Illegal n) = false
can_go_on statuses.TooLong = false
can_go_on status = true

-- the kernel, where it can go on
abbrev pub kernel_at : Status → Machine → Option Machine
kernel_at status kernel = if can_go_on status then Some kernel else None

-- no command was done yet over this device, and no process lives
pub record IsAtStart (kernel : Machine) (device : Device) : Type 0 where
  pub stands : Stands kernel device (at_first (setting_of kernel.frames device))
  pub steps : kernel.steps ≡ 0
  pub tally : kernel.tally ≡ none_counted
  pub unspent : kernel.spent ≡ false
  pub attached : IsAttached device kernel

-- ---- where a run ends

-- the status where a line of this number could not be done
abbrev pub status_at : RunErr → ℕ → Status
status_at errors.BadLine number = statuses.BadLine number
status_at errors.Read number = statuses.ReadFault
status_at errors.Write number = statuses.WriteFault
status_at errors.Memory number = statuses.Memory

-- where a byte of one more line came, that line may still be done
abbrev pub MayGoOn : Run → List ℕ → Type 0
MayGoOn run rest = 0 < length rest → length run.lines < most_lines

-- The place at which a run of this status stops: at the end of the input, before line n, within a
-- line, or after the last line that is done, with a byte of one more.
abbrev pub StopsAt : Status → PortsView → Run → List ℕ → Type 0
StopsAt statuses.Done new run rest = (rest ≡ []) × IsAtEnd new.source
StopsAt (statuses.BadLine n) new run rest =
    (run.last ≡ None) × (n ≡ length run.lines + 1) × (n ≤ most_lines) × IsBad rest new.source
StopsAt statuses.ReadFault new run rest = (run.last ≡ None) × MayGoOn run rest × IsLine rest
StopsAt statuses.TooMany new run rest =
    (run.last ≡ None) × (length run.lines ≡ most_lines) × (0 < length rest)
StopsAt statuses.Usage new run rest = ⊥
StopsAt statuses.AttachFault new run rest = ⊥
StopsAt statuses.WriteFault new run rest = ⊥
StopsAt statuses.Memory new run rest = ⊥
StopsAt (statuses.Illegal n) new run rest = ⊥
StopsAt statuses.TooLong new run rest = ⊥

-- the text of the last line's reply was cut short, and those before it are whole
pub record IsCutOff (run : Run) (written : List ℕ) : Type 0 where
  pub before : List (List ℕ)
  pub line : List ℕ
  pub lines : done_lines run ≡ before ++ line ∷ []
  pub others : List Exchange
  pub last : Exchange
  pub transcript : run.transcript ≡ others ++ last ∷ []
  pub commands : Commands line (Some last)
  pub size : ℕ
  pub short : size < length (text_of last.reply)
  pub is : written ≡ text_of_run others ++ take size (text_of last.reply)

-- The sink took every text, but it doesn't tell what it holds, and could not hand on what it kept
-- back. That was found where another status would have ended the run, or where the run would have
-- read on within a line.
pub record IsKeptBack (new : PortsView) (run : Run) (rest written : List ℕ) : Type 0 where
  pub untold : new.sink.held ≡ None
  pub whole : written ≡ text_of_run run.transcript
  pub status : Status
  pub stops : StopsAt status new run rest

-- how each status ends: what was read beyond the lines done, what was written, and which fault was
-- counted. A read that fails isn't one after the end was told, and no call of the sink is served
-- after one that failed; which call fails no one knows before, so none is made then.
abbrev pub Ends : Status → PortsView → PortsView → Run → List ℕ → List ℕ → Type 0
Ends statuses.ReadFault old new run rest written =
    StopsAt statuses.ReadFault new run rest × (written ≡ text_of_run run.transcript)
    × IsReadFault old.source new.source
Ends statuses.WriteFault old new run rest written =
    (IsCutOff run written ⊎ IsKeptBack new run rest written) × HasFailed old.sink new.sink
Ends statuses.Memory old new run rest written =
    (written ≡ text_of_run run.transcript) ⊎ IsCutOff run written
Ends status old new run rest written =
    StopsAt status new run rest × (written ≡ text_of_run run.transcript)

-- The headline, for a status at which the trace was begun. Pages that nothing tells of may have
-- been written only where memory was wanting for a line that hands the device to its command: it
-- stands next, behind those that were done.
pub record Headline (frames : ℕ) (status : Status) (old new : PortsView) (kernel : Option Machine)
    : Type 0 where
  pub run : Run
  pub rest : List ℕ
  pub written : List ℕ
  pub replays : Replays frames old new run rest written
  pub ends : Ends status old new run rest written
  pub told : (replays.untold ≡ []) ⊎ ((status ≡ statuses.Memory) × HandsDeviceNext rest new.source)
  pub handed_back : IfSome kernel (λ k. IsHandedBack k new.device frames run)

-- ---- calls of the source and the sink

-- a sink that doesn't tell what it holds failed, once
abbrev pub FailsUntold : SinkView → SinkView → Type 0
FailsUntold old new = (new.held ≡ None) × HasFailed old new

-- Nothing failed but what the status tells of. Where memory is wanting, the last flush may have
-- failed, too, if the sink doesn't tell what it holds.
abbrev pub FailsOnlyAt : Status → PortsView → PortsView → Type 0
FailsOnlyAt statuses.ReadFault old new = new.sink.failures ≡ old.sink.failures
FailsOnlyAt statuses.WriteFault old new = new.source.failures ≡ old.source.failures
FailsOnlyAt statuses.Memory old new =
    (new.source.failures ≡ old.source.failures)
    × ((new.sink.failures ≡ old.sink.failures) ⊎ FailsUntold old.sink new.sink)
FailsOnlyAt status old new = AreUnfailed old new

-- nothing is kept back, after a flush for each read, and so many more
pub record IsHandedOn (more : ℕ) (old new : PortsView) : Type 0 where
  pub none_kept : new.sink.kept_back ≡ []
  pub flushed : AreFlushed more old new

-- How the sink was flushed. Where a read failed nothing is kept back, and no flush came since: so
-- nothing was kept back when that read was waited for. Which read fails no one knows before, so it
-- was so at each. Where memory is wanting, what the sink took is handed on, unless that fails.
abbrev pub IsFlushed : Status → PortsView → PortsView → Type 0
IsFlushed statuses.ReadFault old new = IsHandedOn 0 old new
IsFlushed statuses.WriteFault old new = AreFlushed 0 old new
IsFlushed statuses.Memory old new =
    ((new.sink ≡ old.sink) × AreFlushed 0 old new) ⊎ IsHandedOn 1 old new
    ⊎ (FailsUntold old.sink new.sink × AreFlushed 0 old new)
IsFlushed status old new = IsHandedOn 1 old new

-- What a run says of a trace that was begun. (That no call of the sink came after one that failed
-- is said in the headline, where the status is that of a failed write.)
pub record DoesTrace (frames : ℕ) (status : Status) (old new : PortsView) (kernel : Option Machine)
    : Type 0 where
  pub headline : Headline frames status old new kernel
  pub unfailed : FailsOnlyAt status old new
  pub flushed : IsFlushed status old new

-- the last flush, and the status that it makes of another. There is none after a call that failed.
abbrev pub FlushesLast : Status → Status → SinkView → SinkView → Type 0
FlushesLast statuses.ReadFault last old new = (last ≡ statuses.ReadFault) × (new ≡ old)
FlushesLast statuses.WriteFault last old new = (last ≡ statuses.WriteFault) × (new ≡ old)
FlushesLast statuses.Memory last old new =
    (last ≡ statuses.Memory) × (HandsOn old new ⊎ KeepsBack old new)
FlushesLast status last old new =
    ((last ≡ status) × HandsOn old new) ⊎ ((last ≡ statuses.WriteFault) × KeepsBack old new)
