-- The lines of `work`: a load of any size, made from a number.
use Rattle.std.specs.Prelude.{ℕ, suc, zero, ◌+◌, ◌*◌, ◌/◌, ◌%◌, ◌^◌, ◌==◌, nat_le, nat_lt}
use Rattle.std.specs.Prelude.{if◌then◌else◌, Bool, true, false, List, [], ◌∷◌, ◌++◌, map, None}
use Rattle.std.specs.List.{range_with_len}
use Rattle.av_base.specs.declared.prot.Prot.{Prot}
use Rattle.av_trace.specs.Command.{line_of}
use Rattle.av_trace.specs.declared.command.Command.{Command}
use Rattle.av_trace.specs.declared.command.Command.TheVariants as commands
use Rattle.av_trace.specs.declared.place.Place.TheVariants.{Fixed}
use Rattle.av_replay.specs.declared.draws.Draws.{Draws}

-- ---- draws

-- a draw makes another number of a number
abbrev pub after_draw : ℕ → ℕ
after_draw x = (x * 6364136223846793005 + 1442695040888963407) % 2 ^ 64

-- and gives this of the number that it made
abbrev pub upper_bits : ℕ → ℕ
upper_bits x = x / 2 ^ 33

-- the number after the four draws of a line
abbrev pub after_line : ℕ → ℕ
after_line x = after_draw (after_draw (after_draw (after_draw x)))

-- what the four draws of a line give: its kind, a process, a page and a value
abbrev pub draws_of : ℕ → Draws
draws_of x = record {
  kind = upper_bits (after_draw x) % 16;
  process = 1 + upper_bits (after_draw (after_draw x)) % 8;
  page = upper_bits (after_draw (after_draw (after_draw x))) % 16;
  value = upper_bits (after_line x) % 256;
}

-- ---- lines

-- the first of the pages that the load maps, and the others behind it
abbrev pub address_of : ℕ → ℕ
address_of page = 268435456 + 4096 * page

abbrev pub reads_and_writes : Prot
reads_and_writes = record { read = true; write = true; execute = false }

abbrev pub reads_only : Prot
reads_only = record { read = true; write = false; execute = false }

-- a process ends, but the first one, which reads
abbrev pub ends_or_reads : ℕ → ℕ → Command
ends_or_reads p a = if p == 1 then commands.Read 1 a 1 else commands.Exit p

-- the kinds from 10 on
abbrev pub later_command : ℕ → ℕ → ℕ → ℕ → Command
later_command kind p a v =
    if kind == 10 then ends_or_reads p a
    else (if kind == 11 then commands.Reclaim (1 + v % 4)
    else (if kind == 12 then commands.Age (1 + v % 4)
    else (if kind == 13 then commands.Complete (1 + v % 4)
    else (if kind == 14
    then commands.Mprotect p a 4096 (if v % 2 == 0 then reads_only else reads_and_writes)
    else (if nat_lt v 64 then commands.Munmap p a 4096
    else commands.Mmap p 4096 reads_and_writes (Fixed a))))))

-- a command by its kind, of a process, at an address, with a value
abbrev pub command_by : ℕ → ℕ → ℕ → ℕ → Command
command_by kind p a v =
    if nat_le kind 4 then commands.Write p a (v ∷ [])
    else (if nat_le kind 8 then commands.Read p a 1
    else (if kind == 9 then commands.Fork p (1 + v % 8)
    else later_command kind p a v))

-- what a line commands, by its draws
abbrev pub command_of : Draws → Command
command_of d = command_by d.kind d.process (address_of d.page) d.value

-- so many commands from a number on
unfoldable pub commands_from : ℕ → ℕ → List Command
commands_from zero x = []
commands_from (suc n) x = command_of (draws_of x) ∷ commands_from n (after_line x)

-- a swap area is turned on, without a priority
abbrev pub turn_on : ℕ → Command
turn_on area = commands.Swapon area None

-- so many are, the first ones
abbrev pub turn_on_commands : ℕ → List Command
turn_on_commands areas = map turn_on (range_with_len 0 areas)

-- the first process begins, and gets 16 pages
abbrev pub first_process : List Command
first_process =
    commands.Spawn 1
    ∷ commands.Mmap 1 65536 reads_and_writes (Fixed (address_of 0))
    ∷ []

-- the first commands
abbrev pub first_commands : ℕ → List Command
first_commands areas = turn_on_commands areas ++ first_process

-- what is still to be commanded: the first process, unless it was begun, and so many lines from a
-- number on
abbrev pub commands_left : Bool → ℕ → ℕ → List Command
commands_left false lines x = first_process ++ commands_from lines x
commands_left true lines x = commands_from lines x

-- a load over so many swap areas, of so many lines from a number on
abbrev pub load : ℕ → ℕ → ℕ → List Command
load areas seed lines = first_commands areas ++ commands_from lines seed

-- its lines
abbrev pub load_lines : ℕ → ℕ → ℕ → List (List ℕ)
load_lines areas seed lines = map line_of (load areas seed lines)
