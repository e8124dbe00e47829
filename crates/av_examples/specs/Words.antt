-- Worked examples for the words of laws: one command of each kind.
use Rattle.std.specs.Prelude.{List, ◌++◌}
use Rattle.av_trace.specs.declared.command.Command.{Command}
use Rattle.av_laws.specs.Examples.{with_device, without_device}

abbrev pub all_commands : List Command
all_commands = without_device ++ with_device
