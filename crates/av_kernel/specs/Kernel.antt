-- What the kernel stands for, and what one command does to it.
use Rattle.std.specs.Prelude.{◌≡◌, ℕ, ◌+◌, List, true, false}
use Rattle.av_trace.specs.declared.command.Command.{Command}
use Rattle.av_trace.specs.declared.reply.Reply.{Reply}
use Rattle.av_io.specs.Count.{RoseBy}
use Rattle.av_plain.specs.Device.{Device, IsSameDevice, setting_of, Wrote}
use Rattle.av_plain.specs.Step.{causes, uses_device}
use Rattle.av_plain.specs.Transcript.{State, IsStep}
use Rattle.av_mem.specs.Mem.{Keeps}
use Rattle.av_kernel.specs.Machine.{Machine}
use Rattle.av_kernel.specs.Tally.{tally_with, none_counted}
use Rattle.av_plain.specs.Pass.{pages_written}

-- the kernel and the device, as it is now, stand for the memories, the ledger, what is free, the
-- areas and the anon_vmas, among which there is chain order, and the homes and items
abbrev pub Stands : Machine → Device → State → Type 0
Stands k device s = Keeps device k.mem s

-- a command's reply is a step over the device as it was; it is the same device then, and kernel and
-- device stand for what the step leaves; the device was asked to write exactly what the notes tell,
-- so nothing where the command doesn't use it; what only failures of the device explain is within
-- what it failed
pub record Steps (old new : Machine) (device device' : Device) (s : State) (command : Command)
    (reply : Reply) : Type 0 where
  pub next : State
  pub step : IsStep (setting_of old.frames device) s command reply next
  pub same : IsSameDevice device device'
  pub stands : Stands new device' next
  pub wrote : Wrote (pages_written reply.notes) device.history device'.history
  pub unused : uses_device command ≡ false → device'.history ≡ device.history
  pub failures : RoseBy (causes reply) device.failures device'.failures

-- so many frames, swap areas with so many pages each, and no command yet
pub record IsNew (n : ℕ) (pages : List ℕ) (k : Machine) : Type 0 where
  pub frames : k.frames ≡ n
  pub sizes : k.sizes ≡ pages
  pub steps : k.steps ≡ 0
  pub tally : k.tally ≡ none_counted
  pub spent : k.spent ≡ false

-- a command was answered, and counted, by its first word unless that is a report's: memory was not
-- wanting, neither before nor in it
pub record Counts (old new : Machine) (reply : Reply) : Type 0 where
  pub frames : new.frames ≡ old.frames
  pub sizes : new.sizes ≡ old.sizes
  pub steps : new.steps ≡ old.steps + 1
  pub tally : new.tally ≡ tally_with reply.answer old.tally
  pub was_spent : old.spent ≡ false
  pub spent : new.spent ≡ false

-- memory was wanting: the kernel is spent, nothing is counted, and one that was spent is as it was
pub record IsSpent (old new : Machine) : Type 0 where
  pub frames : new.frames ≡ old.frames
  pub sizes : new.sizes ≡ old.sizes
  pub steps : new.steps ≡ old.steps
  pub tally : new.tally ≡ old.tally
  pub spent : new.spent ≡ true
  pub same : old.spent ≡ true → new ≡ old
