-- A whole trace, line by line.
use Rattle.std.specs.Prelude.{◌≡◌, ℕ, ◌+◌, ◌<◌, ◌≤◌, List, [], ◌∷◌, ◌++◌, ◌⊎◌, length, take}
use Rattle.std.specs.Prelude.{Option, Some, All, ◌==◌, if◌then◌else◌}
use Rattle.av_trace.specs.declared.command.Command.{Command}
use Rattle.av_trace.specs.Line.{Says}
use Rattle.av_trace.specs.Print.{text_of}
use Rattle.av_plain.specs.Transcript.{Exchange, State, IsRun, at_first, text_of_run}
use Rattle.av_plain.specs.Device.{Device, setting_of}
use Rattle.av_replay.specs.declared.status.Status.{Status}
use Rattle.av_replay.specs.declared.status.Status.TheVariants as statuses
use Rattle.av_io.specs.Count.{one_more}
use Rattle.av_io.specs.Sink.{HasFailed}
use Rattle.av_ports.specs.Ports.{PortsView}
use Rattle.av_ports.specs.Line.{IsLine}
use Rattle.av_replay.specs.Replay.{most_lines, all_lines, Transcribes}
use Rattle.av_replay.specs.Turn.{Commands}

-- a byte goes onto the first line
abbrev pub onto_first : ℕ → List (List ℕ) → List (List ℕ)
onto_first b [] = (b ∷ []) ∷ []
onto_first b (line ∷ lines) = (b ∷ line) ∷ lines

-- the lines of a text, without their newlines; the last one may have none
abbrev pub lines_of : List ℕ → List (List ℕ)
lines_of [] = []
lines_of (b ∷ bytes) =
    if b == 10 then [] ∷ lines_of bytes else onto_first b (lines_of bytes)

-- a line that is short enough, and in the grammar
pub record IsGood (line : List ℕ) : Type 0 where
  pub is_line : IsLine line
  pub said : Option Command
  pub says : Says line said

-- each line is good, and there are not too many
pub record IsTrace (content : List ℕ) : Type 0 where
  pub good : All IsGood (lines_of content)
  pub few : length (lines_of content) ≤ most_lines

-- the status is Done, or memory ran out
abbrev pub IsDoneOrMemory : Status → Type 0
IsDoneOrMemory status = (status ≡ statuses.Done) ⊎ (status ≡ statuses.Memory)

-- a trace of good lines is done, or memory ran out, where neither source nor sink failed
abbrev pub IsComplete : Status → PortsView → PortsView → Type 0
IsComplete status old new = (content : List ℕ) → old.source.left ≡ Some content → IsTrace content
    → (new.source.failures ≡ one_more old.source.failures → ⊥) → (HasFailed old.sink new.sink → ⊥)
    → IsDoneOrMemory status

-- These lines were done, from the first state on and legally: so this is their transcript.
pub record IsDoneBy (frames : ℕ) (device : Device) (lines : List (List ℕ))
    (transcript : List Exchange) : Type 0 where
  pub state : State
  pub commands : Transcribes lines transcript
  pub legal : let m = setting_of frames device in IsRun m (at_first m) transcript state

-- They were done, and their transcript was written behind what a sink held before.
pub record WritesTranscript (frames : ℕ) (device : Device) (lines : List (List ℕ))
    (before : List ℕ) (held : Option (List ℕ)) : Type 0 where
  pub transcript : List Exchange
  pub does : IsDoneBy frames device lines transcript
  pub wrote : held ≡ Some (before ++ text_of_run transcript)

-- ---- a run that ends early, by the lines of the text that the source told

-- The line of this number is the first that isn't good. Those before it were done, and the
-- transcript of these was written.
pub record EndsAtBadLine (frames number : ℕ) (device : Device) (lines : List (List ℕ))
    (before : List ℕ) (held : Option (List ℕ)) : Type 0 where
  pub done : List (List ℕ)
  pub line : List ℕ
  pub others : List (List ℕ)
  pub are : lines ≡ done ++ line ∷ others
  pub number_is : number ≡ length done + 1
  pub good : All IsGood done
  pub bad : IsGood line → ⊥
  pub writes : WritesTranscript frames device done before held

-- As many lines were done as may be, there is one more, and the transcript of those was written.
pub record EndsAtMostLines (frames : ℕ) (device : Device) (lines : List (List ℕ))
    (before : List ℕ) (held : Option (List ℕ)) : Type 0 where
  pub done : List (List ℕ)
  pub line : List ℕ
  pub others : List (List ℕ)
  pub are : lines ≡ done ++ line ∷ others
  pub most : length done ≡ most_lines
  pub writes : WritesTranscript frames device done before held

-- Each line of which the newline was read was done; what was read behind the last newline is a part
-- of a line. The transcript of those lines was written, and none of it is kept back.
pub record EndsAtRead (frames : ℕ) (device : Device) (content : List ℕ) (left : Option (List ℕ))
    (before : List ℕ) (held : Option (List ℕ)) (kept_back : List ℕ) : Type 0 where
  pub done : List (List ℕ)
  pub part : List ℕ
  pub more : List ℕ
  pub read : content ≡ (all_lines done ++ part) ++ more
  pub left_is : left ≡ Some more
  pub good : All IsGood done
  pub part_is : IsLine part
  pub writes : WritesTranscript frames device done before held
  pub handed_on : kept_back ≡ []

-- Some lines were done, and this one behind them, whose reply was cut short. All that was written
-- is the transcript of those and this part of the reply.
pub record EndsWithinReply (frames : ℕ) (device : Device) (lines : List (List ℕ))
    (before : List ℕ) (held : Option (List ℕ)) : Type 0 where
  pub done : List (List ℕ)
  pub line : List ℕ
  pub others : List (List ℕ)
  pub are : lines ≡ (done ++ line ∷ []) ++ others
  pub transcript : List Exchange
  pub last : Exchange
  pub said : Commands line (Some last)
  pub does : IsDoneBy frames device (done ++ line ∷ []) (transcript ++ last ∷ [])
  pub size : ℕ
  pub short : size < length (text_of last.reply)
  pub wrote : held
      ≡ Some (before ++ (text_of_run transcript ++ take size (text_of last.reply)))
