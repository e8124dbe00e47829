-- The trace of an audit, up to its mark.
use Rattle.std.specs.Prelude.{◌≡◌, ◌≢◌, ◌⊎◌, ℕ, ◌+◌, ◌^◌, ◌<◌, ◌≤◌, List, [], ◌∷◌, ◌++◌, codes}
use Rattle.std.specs.Prelude.{length, Option, option_to_list, Bool, true, false}
use Rattle.std.specs.List.{flat_map, AllByRecursion}
use Rattle.av_io.specs.Source.{Took}
use Rattle.av_trace.specs.declared.command.Command.{Command}
use Rattle.av_trace.specs.Line.{Says}
use Rattle.av_ports.specs.Line.{IsLine, IsTooLong}
use Rattle.av_ports.specs.Ports.{IsAtEnd, PortsView, StaysOpen, room, undone}
use Rattle.av_ports.specs.declared.run_err.RunErr.{RunErr}
use Rattle.av_ports.specs.declared.run_err.RunErr.TheVariants as errors
use Rattle.av_audit_input.specs.Input.{IsEnded}
use Rattle.av_audit_input.specs.declared.input_err.InputErr.{InputErr}
use Rattle.av_audit_input.specs.declared.input_err.InputErr.TheVariants as input
use Rattle.av_audit_input.specs.declared.trace.Next.{Next}
use Rattle.av_audit_input.specs.declared.trace.Next.TheVariants as nexts

-- the line behind which the transcript stands
abbrev pub mark : List ℕ
mark = codes "%%"

-- a trace has at most so many lines
abbrev pub most_lines : ℕ
most_lines = 2 ^ 24

-- the lines command these, in order, and nothing else
abbrev pub AreSaid : List (List ℕ) → List Command → Type 0
AreSaid [] commands = commands ≡ []
AreSaid (line ∷ lines) commands =
    (command : Option Command) × (others : List Command)
    × (commands ≡ option_to_list command ++ others) × Says line command × AreSaid lines others

-- a line of the trace: it is short enough, and not the mark
pub record IsTraceLine (line : List ℕ) : Type 0 where
  pub is_line : IsLine line
  pub unmarked : line ≢ mark

-- the lines of a trace, and what they command
pub record IsTrace (lines : List (List ℕ)) (commands : List Command) : Type 0 where
  pub good : AllByRecursion IsTraceLine lines
  pub few : length lines ≤ most_lines
  pub says : AreSaid lines commands

-- the lines with their newlines
abbrev pub all_lines : List (List ℕ) → List ℕ
all_lines lines = flat_map (λ line. line ++ 10 ∷ []) lines

-- the bytes are these lines with their newlines, which the last one may lack
abbrev pub AreLines : List (List ℕ) → List ℕ → Type 0
AreLines lines bytes = (bytes ≡ all_lines lines) ⊎ (bytes ++ 10 ∷ [] ≡ all_lines lines)

-- The trace ends with its mark, behind which a transcript may come; or with the input, and there
-- the mark may stand without a newline.
abbrev pub EndsTrace : Bool → List (List ℕ) → List ℕ → List ℕ → PortsView → PortsView → Type 0
EndsTrace false lines bytes ahead old new =
    (bytes ≡ all_lines (lines ++ mark ∷ [])) × StaysOpen old.source new.source
EndsTrace true lines bytes ahead old new =
    (AreLines lines bytes ⊎ (bytes ≡ all_lines lines ++ mark)) × IsEnded ahead new

-- these bytes were taken, which are a trace of these commands, to its end; whether the input has
-- ended with it; and no more was read behind them than one read gives
pub record TakesTrace (ended : Bool) (commands : List Command) (ahead ahead' : List ℕ)
    (old new : PortsView) : Type 0 where
  pub lines : List (List ℕ)
  pub bytes : List ℕ
  pub trace : IsTrace lines commands
  pub took : Took (undone ahead old) (undone ahead' new) bytes
  pub near : length ahead' ≤ room
  pub ends : EndsTrace ended lines bytes ahead' old new

-- ---- where no trace is read

-- a line stands in front, to its newline or to the end of the input
abbrev pub StandsNext : List ℕ → List ℕ → PortsView → Type 0
StandsNext line ahead now =
    ((more : List ℕ) × (ahead ≡ line ++ 10 ∷ more))
    ⊎ ((ahead ≡ line) × (0 < length line) × IsAtEnd now.source)

-- the line is outside the grammar
abbrev pub SaysNothing : List ℕ → Type 0
SaysNothing line = (command : Option Command) → Says line command → ⊥

-- the next line is none of a trace: it is too long, or says nothing and isn't the mark
abbrev pub IsBad : List ℕ → PortsView → Type 0
IsBad ahead now =
    IsTooLong ahead
    ⊎ ((line : List ℕ) × IsTraceLine line × SaysNothing line × StandsNext line ahead now)

-- the next line isn't the mark
abbrev pub IsNoMark : List ℕ → PortsView → Type 0
IsNoMark ahead now =
    IsTooLong ahead ⊎ ((line : List ℕ) × IsTraceLine line × StandsNext line ahead now)

-- why the line of this number isn't taken
abbrev pub StopsLine : InputErr → ℕ → List ℕ → PortsView → Type 0
StopsLine (input.BadLine n) number ahead now = (n ≡ number) × IsBad ahead now
StopsLine input.TooMany number ahead now = ⊥
StopsLine input.TooLong number ahead now = ⊥
StopsLine input.Memory number ahead now = Unit {0}
StopsLine error number ahead now = IsLine ahead

-- why no line is taken behind as many as may be
abbrev pub StopsMark : InputErr → List ℕ → PortsView → Type 0
StopsMark input.TooMany ahead now = IsNoMark ahead now
StopsMark (input.BadLine n) ahead now = ⊥
StopsMark input.TooLong ahead now = ⊥
StopsMark input.Memory ahead now = ⊥
StopsMark error ahead now = IsLine ahead

-- why behind so many lines no more of a trace is taken
abbrev pub StopsTrace : InputErr → ℕ → List ℕ → PortsView → Type 0
StopsTrace input.TooMany count ahead now = (count ≡ most_lines) × IsNoMark ahead now
StopsTrace (input.BadLine n) count ahead now =
    (n ≤ most_lines) × StopsLine (input.BadLine n) (count + 1) ahead now
StopsTrace error count ahead now = StopsLine error (count + 1) ahead now

-- some lines of a trace were taken, and the next one not; and no more was read behind them than one
-- read gives
pub record StopsWithin (error : InputErr) (ahead ahead' : List ℕ) (old new : PortsView) : Type 0
  where
    pub lines : List (List ℕ)
    pub commands : List Command
    pub trace : IsTrace lines commands
    pub took : Took (undone ahead old) (undone ahead' new) (all_lines lines)
    pub near : length ahead' ≤ room
    pub stops : StopsTrace error (length lines) ahead' new

-- ---- one line

-- a line was taken, with what ended it
pub record TakesLine (line ending : List ℕ) (ahead ahead' : List ℕ) (old new : PortsView)
    : Type 0 where
  pub is_line : IsLine line
  pub took : Took (undone ahead old) (undone ahead' new) (line ++ ending)

-- what a line of the trace says goes behind the commands so far
pub record Keeps (line : List ℕ) (commands commands' : List Command) : Type 0 where
  pub unmarked : line ≢ mark
  pub command : Option Command
  pub says : Says line command
  pub commands_are : commands' ≡ commands ++ option_to_list command

-- a line is the mark, or what it says is kept
abbrev pub IsKept : Bool → List ℕ → List Command → List Command → Type 0
IsKept true line commands commands' = (line ≡ mark) × (commands' ≡ commands)
IsKept false line commands commands' = Keeps line commands commands'

-- a line that isn't the mark is not kept: it says nothing, or memory was wanting
abbrev pub IsNotKept : InputErr → ℕ → List ℕ → Type 0
IsNotKept (input.BadLine n) number line = (n ≡ number) × (line ≢ mark) × SaysNothing line
IsNotKept input.Memory number line = Unit {0}
IsNotKept error number line = ⊥

-- the mark was taken; or the input has ended, perhaps with the mark
abbrev pub TakesMark : Bool → List ℕ → List ℕ → PortsView → PortsView → Type 0
TakesMark false ahead ahead' old new =
    TakesLine mark (10 ∷ []) ahead ahead' old new × StaysOpen old.source new.source
TakesMark true ahead ahead' old new =
    ((undone ahead' new ≡ undone ahead old) ⊎ TakesLine mark [] ahead ahead' old new)
    × IsEnded ahead' new

-- what was taken, by what comes behind it
abbrev pub TakesNext : Next → List ℕ → List ℕ → PortsView → PortsView → List Command
    → List Command → Type 0
TakesNext nexts.Line ahead ahead' old new commands commands' =
    (line : List ℕ) × TakesLine line (10 ∷ []) ahead ahead' old new × Keeps line commands commands'
    × StaysOpen old.source new.source
TakesNext nexts.Transcript ahead ahead' old new commands commands' =
    TakesMark false ahead ahead' old new × (commands' ≡ commands)
TakesNext nexts.End ahead ahead' old new commands commands' =
    (TakesMark true ahead ahead' old new × (commands' ≡ commands))
    ⊎ ((line : List ℕ) × TakesLine line [] ahead ahead' old new × Keeps line commands commands'
    × IsEnded ahead' new)

-- what may come behind a line, by whether it is the mark, and whether the input ended with it
abbrev pub next_of : Bool → Bool → Next
next_of marked true = nexts.End
next_of true false = nexts.Transcript
next_of false false = nexts.Line

-- why the mark could not be had, behind as many lines as may be
abbrev pub last_error : RunErr → InputErr
last_error errors.BadLine = input.TooMany
last_error errors.Read = input.Read
last_error errors.Write = input.Write
last_error errors.Memory = input.Memory
