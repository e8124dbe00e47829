-- Where a command goes.
use Rattle.std.specs.Prelude.{Bool, false, true}
use Rattle.av_trace.specs.declared.command.Command.{Command}
use Rattle.av_trace.specs.declared.command.Command.TheVariants.{Age, Madvise, Mmap, Mprotect}
use Rattle.av_trace.specs.declared.command.Command.TheVariants.{Mremap, Munlock, Munmap, Reclaim}
use Rattle.av_plain.specs.Step.{uses_device}

-- whether a command maps, unmaps or changes pages
abbrev pub is_of_pages : Command → Bool
is_of_pages (Mmap p len prot place) = true
is_of_pages (Munmap p a len) = true
is_of_pages (Mprotect p a len prot) = true
is_of_pages (Mremap p a old_len new_len mode) = true
is_of_pages (Madvise p a len advice) = true
is_of_pages (Munlock p a len) = true
is_of_pages command = false

-- whether a command is handed the device: `read`, `write`, `mlock`, `complete`, `swapon` and
-- `swapoff` may use it, `reclaim` and `age` move frames towards their slots; each other one leaves
-- it as it is
abbrev pub has_device : Command → Bool
has_device (Reclaim n) = true
has_device (Age n) = true
has_device command = uses_device command
