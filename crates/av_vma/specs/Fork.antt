-- What a fork makes of the areas of a process, but for their anon_vmas.
use Rattle.std.specs.Prelude.{ℕ, not, if◌then◌else◌, List, Option, None, filter}
use Rattle.av_base.specs.Flags.{unlocked}
use Rattle.av_vma.specs.declared.area.Area.{Area}

-- the areas that go to a child
abbrev pub areas_to_fork : List Area → List Area
areas_to_fork = filter (λ (area : Area). not area.flags.dont_fork)

-- the own anon_vma that an area goes by: its own, or none where its pages are wiped
abbrev pub own_to_fork : Area → Option ℕ
own_to_fork area = if area.flags.wipe_on_fork then None else area.anon

-- the child's area, but for its anon_vma: it isn't locked
abbrev pub forked_area : ℕ → Area → Area
forked_area child area = record area { pid = child; flags = unlocked area.flags }
