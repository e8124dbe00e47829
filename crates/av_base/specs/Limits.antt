-- Limits of the machine, in pages and processes.
use Rattle.std.specs.Prelude.{ℕ, ◌^◌}

-- the lowest page that can be mapped
abbrev pub low_page : ℕ
low_page = 16

-- the first page that no process can have
abbrev pub top_page : ℕ
top_page = 0x7ffffffff

-- at most so many processes live at a time
abbrev pub most_processes : ℕ
most_processes = 4096

-- a machine has at most so many frames
abbrev pub most_frames : ℕ
most_frames = 16384

-- one command locks at most so many pages
abbrev pub most_locked : ℕ
most_locked = 16384

-- the linear indices of an area end at most here
abbrev pub most_indices : ℕ
most_indices = 2 ^ 60

-- a kernel does at most so many commands
abbrev pub most_commands : ℕ
most_commands = 2 ^ 24
