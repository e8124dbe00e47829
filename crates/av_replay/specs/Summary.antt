-- The summary of `work`, and what a load leaves.
use Rattle.std.specs.Prelude.{◌≡◌, ℕ, ◌<◌, List, [], ◌∷◌, ◌++◌, ◌⊎◌, codes, length, take, Option}
use Rattle.std.specs.Prelude.{IfSome}
use Rattle.std.specs.Fmt.{decimal}
use Rattle.av_text.specs.Word.{line}
use Rattle.av_trace.specs.Print.{text_of, whole_line}
use Rattle.av_trace.specs.Reply.{answer_only}
use Rattle.av_trace.specs.declared.reply.Answer.TheVariants.{Counted}
use Rattle.av_trace.specs.declared.reply.Totals.{Totals}
use Rattle.av_plain.specs.Device.{Device, IsSameDevice, setting_of, Wrote}
use Rattle.av_plain.specs.Report.{totals}
use Rattle.av_plain.specs.Transcript.{IsRun, at_first, causes_of}
use Rattle.av_kernel.specs.Machine.{Machine}
use Rattle.av_kernel.specs.Tally.{none_counted}
use Rattle.av_kernel.specs.declared.tally.Tally.{Tally}
use Rattle.av_io.specs.Count.{RoseBy, one_more}
use Rattle.av_io.specs.Sink.{SinkView, Gained, HasFailed}
use Rattle.av_replay.specs.declared.status.Status.{Status}
use Rattle.av_replay.specs.declared.status.Status.TheVariants as statuses
use Rattle.av_replay.specs.Turn.{tally_of, HandsDevice, pages_of_run}
use Rattle.av_replay.specs.Replay.{Transcribes, Run, done_lines, IsHandedBack, FailsUntold}
use Rattle.av_base.specs.declared.slot.Slot.{Slot}

-- ---- the text

-- a word and a number, as a line
abbrev pub count_line : List ℕ → ℕ → List ℕ
count_line word n = whole_line (line word (decimal n ∷ []))

-- how often each first word of a reply came
abbrev pub tally_text : Tally → List ℕ
tally_text tally =
    count_line (codes "ok") tally.done
    ++ count_line (codes "map") tally.mapped
    ++ count_line (codes "data") tally.shown
    ++ count_line (codes "on") tally.on
    ++ count_line (codes "err") tally.refused
    ++ count_line (codes "segv") tally.segv
    ++ count_line (codes "bus") tally.bus
    ++ count_line (codes "oom") tally.oom

-- how many lines there were, that, and what `stat` answers
abbrev pub summary_text : ℕ → Tally → Totals → List ℕ
summary_text lines tally totals =
    count_line (codes "lines") lines ++ tally_text tally ++ text_of (answer_only (Counted totals))

-- the summary of these lines, by their transcript and the state that it leaves
abbrev pub summary_of : ℕ → Device → List (List ℕ) → Run → List ℕ
summary_of frames device lines run =
    summary_text (length lines) (tally_of run.transcript none_counted)
    (totals (setting_of frames device) run.state.world run.state.ledger)

-- ---- what a load leaves

-- Of these lines some were done, and the others not. The transcript of those that were is legal,
-- each frame and slot chosen exactly and the areas by the rules, from the empty state on. What only
-- failures of the device explain is within what it failed, and what it was asked to write is told
-- but for what is untold.
pub record Works (frames : ℕ) (lines : List (List ℕ)) (old new : Device) (run : Run)
    (others : List (List ℕ)) : Type 0 where
  pub done : lines ≡ done_lines run ++ others
  pub commands : Transcribes (done_lines run) run.transcript
  pub legal : let m = setting_of frames old in IsRun m (at_first m) run.transcript run.state
  pub failures : RoseBy (causes_of run.transcript) old.failures new.failures
  pub untold : List Slot
  pub asked : Wrote (pages_of_run run.transcript ++ untold) old.history new.history
  pub device : IsSameDevice old new

-- a text was cut short
abbrev pub WritesFront : SinkView → SinkView → List ℕ → Type 0
WritesFront old new text =
    (n : ℕ) × (n < length text) × Gained old.held new.held (take n text)

-- one flush handed on all that was written, and nothing failed
pub record HandsOnAll (old new : SinkView) : Type 0 where
  pub none_kept : new.kept_back ≡ []
  pub flushes : new.flushes ≡ one_more old.flushes
  pub unfailed : new.failures ≡ old.failures

-- How a text was written, by the status: whole; cut short by the sink; or cut short for want of
-- memory, where the flush may have failed, too. (Of a sink that doesn't tell what it holds this
-- doesn't say how much it took: it may have kept back the whole text.)
abbrev pub EndsText : Status → SinkView → SinkView → List ℕ → Type 0
EndsText statuses.Done old new text = Gained old.held new.held text × HandsOnAll old new
EndsText statuses.WriteFault old new text =
    WritesFront old new text × (new.flushes ≡ old.flushes) × HasFailed old new
EndsText statuses.Memory old new text =
    WritesFront old new text
    × (HandsOnAll old new ⊎ (FailsUntold old new × (new.flushes ≡ old.flushes)))
EndsText status old new text = ⊥

-- a text was written so, or memory was wanting for it before anything was written
abbrev pub SumsUp : Status → SinkView → SinkView → List ℕ → Type 0
SumsUp status old new text =
    ((status ≡ statuses.Memory) × (new ≡ old)) ⊎ EndsText status old new text

-- memory was wanting before anything was written, or every line was done and their summary written
abbrev pub EndsWork : Status → SinkView → SinkView → List (List ℕ) → List ℕ → Type 0
EndsWork status old new others text =
    ((status ≡ statuses.Memory) × (new ≡ old)) ⊎ ((others ≡ []) × EndsText status old new text)

-- the first of some lines hands the device to its command
abbrev pub HandsDeviceFirst : List (List ℕ) → Type 0
HandsDeviceFirst [] = ⊥
HandsDeviceFirst (line ∷ lines) = HandsDevice line

-- What a run says of a load of these lines that was begun: which were done, what was written, and
-- what the kernel handed back stands for, whose counts those of the summary are. Pages that nothing
-- tells of may have been written only where memory was wanting for a line that hands the device to
-- its command.
pub record DoesLoad (frames : ℕ) (lines : List (List ℕ)) (status : Status) (old new : SinkView)
    (device device' : Device) (kernel : Option Machine) : Type 0 where
  pub run : Run
  pub others : List (List ℕ)
  pub works : Works frames lines device device' run others
  pub told : (works.untold ≡ []) ⊎ ((status ≡ statuses.Memory) × HandsDeviceFirst others)
  pub ends : EndsWork status old new others (summary_of frames device' lines run)
  pub handed_back : IfSome kernel (λ k. IsHandedBack k device' frames run)
