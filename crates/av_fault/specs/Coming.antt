-- How a page comes in whose entry names a slot.
use Rattle.std.specs.Prelude.{◌≡◌, ℕ, false, List, None, Some, Result, Ok, Err}
use Rattle.av_base.specs.Keys.{Key}
use Rattle.av_base.specs.declared.slot.Slot.{Slot}
use Rattle.av_trace.specs.declared.note.Note.{Note}
use Rattle.av_plain.specs.Areas.{Rmap}
use Rattle.av_plain.specs.Device.{Device}
use Rattle.av_plain.specs.Event.{after_notes, note_events}
use Rattle.av_plain.specs.Fault.{ComesIn, need_of_slot, sparing}
use Rattle.av_plain.specs.Ledger.{InFrame, Ledger, Setting, entry, frame_at}
use Rattle.av_plain.specs.Pass.{Seeks}
use Rattle.av_plain.specs.Swapoff.{IsFetched}
use Rattle.av_plain.specs.World.{World}
use Rattle.av_mem.specs.declared.mem.Mem.{Mem}
use Rattle.av_mem.specs.Mem.{setting_by}
use Rattle.av_mem.specs.Between.{HasDone}
use Rattle.av_reclaim.specs.Commands.{HasNoted}
use Rattle.av_fault.specs.Fault.{failed_by, lost_by}
use Rattle.av_fault.specs.Seek.{Finds}
use Rattle.av_fault.specs.declared.fault.Stop.{Stop}
use Rattle.av_fault.specs.declared.fault.Stop.TheVariants.{Denied, Lost, Starved}
use Rattle.av_fault.specs.declared.fault.Touched.TheVariants.{Stopped}
use Rattle.av_fault.specs.declared.seek.Got.TheVariants.{Frame, Out}

-- ---- what is added

-- the slot's page can't be had: no frame is free for it, or one is, and the device did not give it
abbrev pub Misses : Setting → World → Ledger → Slot → List Note → Stop → Type 0
Misses m w l s added Lost =
    (frame_at l s ≡ None) × Seeks m (sparing w l None) l added
    × Finds m (sparing w l None) (after_notes l added) Frame
Misses m w l s added (Starved out) =
    (frame_at l s ≡ None) × Seeks m (sparing w l None) l added
    × Finds m (sparing w l None) (after_notes l added) (Out out)
Misses m w l s added Denied = ⊥

-- the slot's page is in a frame with these notes
abbrev pub Fetches : Setting → World → Ledger → Slot → List Note → Result ℕ Stop → Type 0
Fetches m w l s added (Ok f) = IsFetched m (sparing w l None) l s f added
Fetches m w l s added (Err stop) = Misses m w l s added stop

-- and the page's entry names that frame
abbrev pub Comes : Setting → World → Ledger → Key → Slot → List Note → Result ℕ Stop → Type 0
Comes m w l k s added (Ok f) =
    ComesIn m (sparing w) l k (need_of_slot s (frame_at l s)) added
    × (entry (after_notes l added) k ≡ Some (InFrame f false))
Comes m w l k s added (Err stop) = Misses m w l s added stop

-- how often the device failed beside the `fail` notes
abbrev pub lost_at : Result ℕ Stop → ℕ
lost_at (Ok f) = 0
lost_at (Err stop) = lost_by (Stopped stop)

-- how many frames an out-of-memory calls cached
abbrev pub failed_at : Result ℕ Stop → ℕ
failed_at (Ok f) = 0
failed_at (Err stop) = failed_by (Stopped stop)

-- these notes were added, with this outcome
pub record HasCome (IsSo : Setting → World → Ledger → List Note → Result ℕ Stop → Type 0)
    (d d' : Device) (old new : Mem) (w : World) (r : Rmap) (l : Ledger) (before now : List Note)
    (came : Result ℕ Stop) : Type 0 where
  pub added : List Note
  pub noted : HasNoted d d' before now added (lost_at came) (failed_at came)
  pub comes : IsSo (setting_by d old) w l added came
  pub done : HasDone d d' old new w r l (note_events added)
