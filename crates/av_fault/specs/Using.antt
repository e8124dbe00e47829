-- How a frame is used that a page has.
use Rattle.std.specs.Prelude.{◌≡◌, ℕ, Bool, true, false, nat_lt, ◌||◌, List, ◌++◌, Option, Some}
use Rattle.std.specs.Prelude.{None, is_some}
use Rattle.av_base.specs.Keys.{Key}
use Rattle.av_base.specs.declared.slot.Slot.{Slot}
use Rattle.av_pagetable.specs.Entries.{entry_at}
use Rattle.av_pagetable.specs.declared.pte.Pte.TheVariants.{Here}
use Rattle.av_rmap.specs.Items.{is_merged}
use Rattle.av_trace.specs.declared.note.Note.{Note}
use Rattle.av_plain.specs.Areas.{Rmap}
use Rattle.av_plain.specs.Device.{Device}
use Rattle.av_plain.specs.Event.{after_notes, note_events}
use Rattle.av_plain.specs.Fault.{drop_of_slot}
use Rattle.av_plain.specs.Ledger.{Ledger, slot_of}
use Rattle.av_plain.specs.Stands.{View}
use Rattle.av_plain.specs.World.{World}
use Rattle.av_mem.specs.declared.mem.Mem.{Mem}
use Rattle.av_mem.specs.Mem.{setting_by}
use Rattle.av_mem.specs.Between.{HasDone}

-- the entry of the page is the frame; if that is settled, it is marked as written already
pub record IsHere (old : Mem) (k : Key) (f : ℕ) (settled : Bool) : Type 0 where
  pub write : Bool
  pub seen : Bool
  pub there : entry_at old.tables k.0 k.1 ≡ Here f write seen
  pub marked : settled ≡ true → (write ≡ true) × (seen ≡ true)

-- an entry names the slot, if there is one
abbrev pub is_named_in : View → Option Slot → Bool
is_named_in v None = false
is_named_in v (Some s) = nat_lt 0 (v.entries s)

-- a write to the frame has to copy it: another entry names it, or an entry names its slot, or it is
-- merged
abbrev pub asks_copy_in : View → ℕ → Bool
asks_copy_in v f =
    nat_lt 1 (v.maps f) || is_named_in v (v.slot f) || is_merged (v.items f)

-- the slot of the frame was dropped, if it has one that a write needs no more; whether it has one
-- still
pub record HasDropped (d : Device) (old new : Mem) (w : World) (r : Rmap) (l : Ledger) (f : ℕ)
    (before now : List Note) (still : Bool) : Type 0 where
  pub added : List Note
  pub notes : now ≡ before ++ added
  pub drops : added ≡ drop_of_slot (setting_by d old) true false l (slot_of l f)
  pub done : HasDone d d old new w r l (note_events added)
  pub cached : still ≡ is_some (slot_of (after_notes l added) f)

-- the same of a slot that a page that came in needs no more
pub record HasDroppedFull (d : Device) (old new : Mem) (w : World) (r : Rmap) (l : Ledger) (f : ℕ)
    (before now : List Note) : Type 0 where
  pub added : List Note
  pub notes : now ≡ before ++ added
  pub drops : added ≡ drop_of_slot (setting_by d old) false true l (slot_of l f)
  pub done : HasDone d d old new w r l (note_events added)
