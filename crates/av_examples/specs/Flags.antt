-- Worked examples for flags, beside those of `av_laws`.
use Rattle.std.specs.Prelude.{true}
use Rattle.av_base.specs.declared.flags.Flags.{Flags}
use Rattle.av_laws.specs.Flags.{left_out}

-- left out of a fork, and wiped by it
abbrev pub left_out_and_wiped : Flags
left_out_and_wiped = record left_out { wipe_on_fork = true }
