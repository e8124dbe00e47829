-- What a child gets of the pages of a process.
use Rattle.std.specs.Prelude.{Bool, false, not, ◌&&◌, Option, Some, None, if◌then◌else◌}
use Rattle.av_base.specs.Flags.{unlocked}
use Rattle.av_audit_ranges.specs.declared.marks.Marks.{Marks}

-- what is said of a page in a child, if that gets the page
abbrev pub marks_of_child : Marks → Option Marks
marks_of_child k =
    if k.flags.dont_fork then None else Some (record k { flags = unlocked k.flags })

-- whether what is in a page of which this is said goes over: it isn't left out, and isn't wiped
abbrev pub bytes_go : Option Marks → Bool
bytes_go None = false
bytes_go (Some k) = not k.flags.dont_fork && not k.flags.wipe_on_fork
