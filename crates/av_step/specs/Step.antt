-- What one command does to the memory system.
use Rattle.std.specs.Prelude.{◌≡◌, ℕ, true, List, Option, Some, None, Result, Ok, Err}
use Rattle.std.specs.Prelude.{IfSome, is_some, slice_get}
use Rattle.av_trace.specs.declared.command.Command.{Command}
use Rattle.av_trace.specs.declared.reply.Answer.TheVariants as answers
use Rattle.av_trace.specs.declared.reply.Reply.{Reply}
use Rattle.av_trace.specs.Reply.{answer_only}
use Rattle.av_io.specs.Count.{RoseBy}
use Rattle.av_plain.specs.Device.{Device, IsSameDevice, Wrote}
use Rattle.av_plain.specs.Step.{causes}
use Rattle.av_plain.specs.Transcript.{State, IsStep}
use Rattle.av_spaces.specs.Spaces.{areas_of}
use Rattle.av_mem.specs.declared.mem.Mem.{Mem}
use Rattle.av_mem.specs.Mem.{setting_by, frame_count, IsSteadyAt, Keeps}
use Rattle.av_step.specs.declared.refusal.Refusal.{Refusal}
use Rattle.av_step.specs.declared.refusal.Refusal.TheVariants.{Refused, Memory}
use Rattle.av_plain.specs.Pass.{pages_written}

-- what a command answers that filled this reply, or was not done
abbrev pub reply_in : Reply → Result (Unit {0}) Refusal → Result Reply Refusal
reply_in reply (Ok _) = Ok reply
reply_in reply (Err refusal) = Err refusal

-- the reply of a command that was done or refused, or none where memory was wanting
abbrev pub reply_of : Result Reply Refusal → Option Reply
reply_of (Ok reply) = Some reply
reply_of (Err (Refused error)) = Some (answer_only (answers.Refused error))
reply_of (Err Memory) = None

-- ---- the device

-- the sizes of swap areas by their numbers: an area past them is not attached
abbrev pub sizes_of : List ℕ → ℕ → Option ℕ
sizes_of sizes k = slice_get sizes k

-- over some device with these sizes the memory system stands for something, in which the process
-- lives
abbrev pub IsSteadyFor : (ℕ → Option ℕ) → ℕ → Mem → Type 0
IsSteadyFor sizes p k = IsSteadyAt sizes k × (is_some (areas_of k.spaces.processes p) ≡ true)

-- ---- commands

-- a command's reply is a step over the device as it was; it is the same device then, and with it
-- the memory system stands for what the step leaves; it was asked to write what the notes tell, and
-- what only failures of the device explain is within what it failed
pub record MemSteps (d d' : Device) (old new : Mem) (s : State) (command : Command) (reply : Reply)
    : Type 0 where
  pub next : State
  pub step : IsStep (setting_by d old) s command reply next
  pub keeps : Keeps d' new next
  pub same : IsSameDevice d d'
  pub wrote : Wrote (pages_written reply.notes) d.history d'.history
  pub failures : RoseBy (causes reply) d.failures d'.failures

-- What every command promises, over the device as it was and as it is: whatever the memory system
-- stood for, the reply is a step, and it stands for what that leaves; and where it stood for
-- something over other pages of these sizes, so it does then. It is the same device, and there are
-- as many frames as before, also where memory was wanting
pub record Does (d d' : Device) (old new : Mem) (command : Command) (result : Result Reply Refusal)
    : Type 0 where
  pub step : (s : State) → Keeps d old s
      → IfSome (reply_of result) (MemSteps d d' old new s command)
  pub steady : IsSteadyAt d.sizes old → IfSome (reply_of result) (λ reply. IsSteadyAt d.sizes new)
  pub same : IsSameDevice d d'
  pub count : frame_count new ≡ frame_count old

-- ---- commands that aren't handed the device

-- beside this device, which stays as it is, a command's reply is a step, and the memory system
-- stands for what it leaves
pub record StepsBeside (d : Device) (old new : Mem) (s : State) (command : Command) (reply : Reply)
    : Type 0 where
  pub next : State
  pub step : IsStep (setting_by d old) s command reply next
  pub keeps : Keeps d new next

-- what a command promises that isn't handed the device: it does so beside any
pub record DoesBeside (old new : Mem) (command : Command) (result : Result Reply Refusal)
    : Type 0 where
  pub step : (d : Device) (s : State) → Keeps d old s
      → IfSome (reply_of result) (StepsBeside d old new s command)
  pub count : frame_count new ≡ frame_count old
