-- Worked examples for areas, beside those of `av_laws`.
use Rattle.std.specs.Prelude.{◌≡◌, true, List, [], ◌∷◌, map, None, Some}
use Rattle.std.specs.List.{range_with_len}
use Rattle.av_base.specs.Flags.{no_flags}
use Rattle.av_base.specs.declared.flags.Flags.{Flags}
use Rattle.av_vma.specs.declared.area.Area.{Area}
use Rattle.av_vma.specs.Pages.{pages_in}
use Rattle.av_plain.specs.Areas.{Rmap, no_anons}
use Rattle.av_plain.specs.Fork.{with_child_area}
use Rattle.av_laws.specs.Areas.{area, area_of, rmap_with, unlike}
use Rattle.av_laws.specs.Examples.{execute_only, no_access, read_only}
use Rattle.av_laws.specs.Flags.{locked, wiped_off}

-- a bare page between those of two roots
abbrev pub bare_between : List Area
bare_between = area_of 0 0x10 0x11 ∷ area 0x11 0x12 read_only ∷ area_of 1 0x12 0x13 ∷ []

-- once all have one protection the first one has taken it
abbrev pub first_took_it : List Area
first_took_it = record (area_of 0 0x10 0x12) { prot = execute_only }
    ∷ record (area_of 1 0x12 0x13) { prot = execute_only } ∷ []

-- pages that may be merged, or that a fork wipes
abbrev pub mergeable : Flags
mergeable = record no_flags { mergeable = true }

abbrev pub unlike_mergeable : Area
unlike_mergeable = record unlike { flags = mergeable }

abbrev pub unlike_wiped : Area
unlike_wiped = record unlike { flags = wiped_off }

-- two bare areas, the first of them locked
abbrev pub one_locked : List Area
one_locked = record (area 0x10 0x12 no_access) { flags = locked } ∷ area 0x12 0x14 no_access ∷ []

-- and once they moved and left zeros
abbrev pub left_as_one : List Area
left_as_one = area 0x10 0x14 no_access
    ∷ record (area 0x18 0x1a no_access) { flags = locked } ∷ area 0x1a 0x1c no_access ∷ []

-- areas without anon_vma go to a child in turn
abbrev pub going_bare : List Area → Rmap → Rmap
going_bare [] r = r
going_bare (area ∷ areas) r = going_bare areas (with_child_area 2 None area r)

-- once these went, process 2 has those, as 8 pages show
abbrev pub GoTo : List Area → List Area → Type 0
GoTo areas new =
    map ((going_bare areas (rmap_with areas no_anons)).areas 2) (range_with_len 0xf 8)
    ≡ map (pages_in (Some new)) (range_with_len 0xf 8)

-- the two areas in a child
abbrev pub both_in_child : List Area
both_in_child = record (area 0x10 0x12 no_access) { pid = 2 }
    ∷ record (area 0x12 0x14 no_access) { pid = 2 } ∷ []
