-- What a line is answered.
use Rattle.std.specs.Prelude.{◌≡◌, ℕ, List, Some}
use Rattle.av_trace.specs.declared.command.Command.{Command}
use Rattle.av_trace.specs.declared.reply.Reply.{Reply}
use Rattle.av_trace.specs.Line.{Says}
use Rattle.av_trace.specs.Print.{text_of}
use Rattle.av_plain.specs.Transcript.{State}
use Rattle.av_kernel.specs.Machine.{Machine}
use Rattle.av_plain.specs.Device.{Device}
use Rattle.av_kernel.specs.Kernel.{Steps}

-- The line says a command; its reply is a legal step from the state over the device as it was; the
-- kernel, with the device as it is, stands for the next one; the text is that of the reply.
pub record Answers (line : List ℕ) (d d' : Device) (s : State) (old new : Machine)
    (text : List ℕ) : Type 0 where
  pub command : Command
  pub reply : Reply
  pub says : Says line (Some command)
  pub steps : Steps old new d d' s command reply
  pub shows : text ≡ text_of reply
