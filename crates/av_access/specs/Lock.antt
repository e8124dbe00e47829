-- How a page comes in, by the area that it is in.
use Rattle.std.specs.Prelude.{Bool, true, false, if◌then◌else◌, Option, Some, None}
use Rattle.av_vma.specs.declared.area.Area.{Area}
use Rattle.av_plain.specs.World.{allows}

-- as a write where that is allowed, else as a read, else not at all
abbrev pub access_in : Area → Option Bool
access_in area =
    if allows true area.prot then Some true
    else (if allows false area.prot then Some false else None)
