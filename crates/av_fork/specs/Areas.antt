-- The areas of a process go to a child, as the definitions say.
use Rattle.std.specs.Prelude.{ℕ, List}
use Rattle.av_vma.specs.declared.area.Area.{Area}
use Rattle.av_plain.specs.Areas.{Rmap}
use Rattle.av_plain.specs.Fork.{AreForked}
use Rattle.av_plain.specs.Stands.{AnonsStand, AreasAre, HomesAre, ItemsAre}
use Rattle.av_plain.specs.Transcript.{State, rmap_of}
use Rattle.av_mem.specs.declared.mem.Mem.{Mem}
use Rattle.av_mem.specs.Mem.{view}
use Rattle.av_spaces.specs.Kin.{AnonsFit}
use Rattle.av_spaces.specs.Spaces.{IsSpawned}

-- what there is after a fork of the parent, by the areas, anon_vmas, homes and items that there
-- were: the kernel has just that, its anon_vmas fit, and the child lives
pub record HasFork (old new : Mem) (parent child : ℕ) (s : State) : Type 0 where
  pub next : Rmap
  pub forked : AreForked parent child (rmap_of s) next
  pub areas : AreasAre (view new) next.areas
  pub anons : AnonsStand (view new) next.areas next.anons
  pub homes : HomesAre (view new) next.homes
  pub items : ItemsAre (view new) s.ledger next.items
  pub fit : AnonsFit new.spaces new.anons
  pub these : List Area
  pub spawned : IsSpawned old.spaces.processes new.spaces.processes child these
