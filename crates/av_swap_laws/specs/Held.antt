-- What stands between the events of a command, of all parts, and what it is to go from one event to
-- the next.
use Rattle.std.specs.Prelude.{◌≡◌, ℕ, Option}
use Rattle.av_plain.specs.Areas.{Rmap}
use Rattle.av_plain.specs.Choice.{Chooses}
use Rattle.av_plain.specs.Covered.{AreMergedCovered, AreSlotsCovered, IsRmapSound}
use Rattle.av_plain.specs.Device.{Device}
use Rattle.av_plain.specs.Event.{Event, after}
use Rattle.av_plain.specs.Ledger.{Ledger, Setting}
use Rattle.av_plain.specs.Stands.{AreasStand, BytesStand, HeadersStand, HomesAre, ItemsAre}
use Rattle.av_plain.specs.Stands.{LedgerStands}
use Rattle.av_plain.specs.Stands.{View, free_of}
use Rattle.av_plain.specs.World.{World}

-- a memory system, by its view, with its devices, memories, ledger, areas, anon_vmas and homes
pub record Held : Type 0 where
  pub view : View
  pub device : Device
  pub world : World
  pub ledger : Ledger
  pub rmap : Rmap

-- each entry of a frame, merged or not, or of a slot, is covered
pub record AllCovered (l : Ledger) (r : Rmap) : Type 0 where
  pub frames : IsRmapSound l r
  pub slots : AreSlotsCovered l r
  pub merged : AreMergedCovered l r

-- what is said of the ledger stands, and what of bytes and headers; each entry of a frame or slot
-- is covered. (That the areas stand for the memories is apart: it is not so amid a command that
-- takes pages away.)
pub record IsHeld (m : Setting) (h : Held) : Type 0 where
  pub ledger : LedgerStands m h.view h.ledger
  pub bytes : BytesStand h.view h.device h.world h.ledger
  pub headers : HeadersStand m h.ledger
  pub covered : AllCovered h.ledger h.rmap
  pub homes : HomesAre h.view h.rmap.homes
  pub items : ItemsAre h.view h.ledger h.rmap.items

-- all that stands after the event too, which takes and frees what the definitions choose; and the
-- areas stand for the memories if they did
pub record Steps (m : Setting) (closing : Option ℕ) (e : Event) (old new : Held) : Type 0 where
  pub ledger : new.ledger ≡ after old.ledger e
  pub held : IsHeld m new
  pub areas : AreasStand old.view old.world → AreasStand new.view new.world
  pub chosen : Chooses m closing old.ledger e (free_of old.view) (free_of new.view)
