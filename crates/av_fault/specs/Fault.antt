-- The page fault: a page is made ready for a read or a write, or not.
use Rattle.std.specs.Prelude.{◌≡◌, ℕ, Bool, true, false, List, Option, Some, None}
use Rattle.std.specs.Prelude.{Result, IfOk}
use Rattle.std.specs.declared.alloc.AllocError.{AllocError}
use Rattle.av_trace.specs.declared.note.Note.{Note}
use Rattle.av_plain.specs.Ledger.{Ledger, Zero, InFrame, entry}
use Rattle.av_plain.specs.Device.{Device, IsSameDevice, Wrote}
use Rattle.av_plain.specs.Event.{Event, after_all, notes_of}
use Rattle.av_plain.specs.Fault as served
use Rattle.av_plain.specs.Fault.{Touches, asks_copy}
use Rattle.av_plain.specs.Access.{page_events}
use Rattle.av_plain.specs.Choice.{ChoosesAll}
use Rattle.av_plain.specs.Areas.{Rmap, rmap_after_all}
use Rattle.av_plain.specs.World.{World, allows}
use Rattle.av_base.specs.Keys.{Key}
use Rattle.av_base.specs.declared.prot.Prot.{Prot}
use Rattle.av_mem.specs.Between.{HasDone}
use Rattle.av_plain.specs.Load.{with_loads}
use Rattle.av_plain.specs.Pass.{pages_written}
use Rattle.av_plain.specs.Sound.{IsSound}
use Rattle.av_plain.specs.Stands.{free_of}
use Rattle.av_plain.specs.Transcript.{State, rmap_of}
use Rattle.av_mem.specs.declared.mem.Mem.{Mem}
use Rattle.av_mem.specs.Mem.{frame_count, setting_by, view, Keeps, Serves}
use Rattle.av_reclaim.specs.Commands.{HasNoted}
use Rattle.av_fault.specs.declared.fault.Stop.{Stop}
use Rattle.av_fault.specs.declared.fault.Stop.TheVariants.{Denied, Lost, Starved}
use Rattle.av_fault.specs.declared.fault.Touched.{Touched}
use Rattle.av_fault.specs.declared.fault.Touched.TheVariants.{Ready, Zeros, Stopped}

-- ---- the page is made ready

-- why a page is not served, in the definitions' words
abbrev pub stop_of : Stop → served.Stop
stop_of Denied = served.Denied
stop_of Lost = served.Lost
stop_of (Starved out) = served.Starved out

abbrev pub end_of : Touched → Option served.Stop
end_of (Ready f) = None
end_of Zeros = None
end_of (Stopped stop) = Some (stop_of stop)

-- how often the device failed beside the `fail` notes
abbrev pub lost_by : Touched → ℕ
lost_by (Ready f) = 0
lost_by Zeros = 0
lost_by (Stopped Denied) = 0
lost_by (Stopped Lost) = 1
lost_by (Stopped (Starved out)) = 0

-- how many frames an out-of-memory calls cached
abbrev pub failed_by : Touched → ℕ
failed_by (Ready f) = 0
failed_by Zeros = 0
failed_by (Stopped Denied) = 0
failed_by (Stopped Lost) = 0
failed_by (Stopped (Starved out)) = out.fault

-- the events of these notes, and of the page's use where it is served
abbrev pub touch_events : Bool → Key → List Note → Touched → List Event
touch_events write k added touched = page_events write k added (end_of touched)

-- the page's entry is this frame, or zeros; a write to a frame that is to be written asks for no
-- copy
abbrev pub IsReady : Bool → Ledger → Key → Touched → Type 0
IsReady write l k (Ready f) =
    (entry l k ≡ Some (InFrame f true)) × (write ≡ true → asks_copy l f ≡ false)
IsReady write l k Zeros = (entry l k ≡ Some Zero) × (write ≡ false)
IsReady write l k (Stopped stop) = Unit {0}

-- what a page's events leave: the ledger is sound, kernel and device stand for it, for the memories
-- after the loads, and for the areas, anon_vmas and homes; but a write has stored no byte yet. The
-- device was asked to write what the notes tell
pub record IsServed (d d' : Device) (s : State) (new : Mem) (events : List Event) : Type 0 where
  pub sound : IsSound (setting_by d new) (after_all s.ledger events)
  pub serves : Serves d' None new (with_loads (setting_by d new) s.world s.ledger events)
      (rmap_after_all s.ledger events (rmap_of s)) (after_all s.ledger events)
  pub free : ChoosesAll (setting_by d new) None s.ledger events s.free (free_of (view new))
  pub wrote : Wrote (pages_written (notes_of events)) d.history d'.history

-- these notes were added, and they make the page ready or say why not; the device failed as often
-- as the notes and the end tell, at the least, and the writes of all frames that an out-of-memory
-- calls cached
pub record IsTouched (d d' : Device) (s : State) (new : Mem) (write : Bool) (k : Key)
    (before now : List Note) (touched : Touched) : Type 0 where
  pub added : List Note
  pub noted : HasNoted d d' before now added (lost_by touched) (failed_by touched)
  pub touches : Touches (setting_by d new) s.world s.ledger write k added (end_of touched)
  pub ready : IsReady write (after_all s.ledger (touch_events write k added touched)) k touched
  pub served : IsServed d d' s new (touch_events write k added touched)

-- whatever stood before: the page is made ready or not. It is the same device then, and there are
-- as many frames, also where memory was wanting
pub record MakesReady (d d' : Device) (old new : Mem) (write : Bool) (k : Key)
    (before now : List Note) (result : Result Touched AllocError) : Type 0 where
  pub step : (s : State) → Keeps d old s
      → IfOk result (IsTouched d d' s new write k before now)
  pub same : IsSameDevice d d'
  pub count : frame_count new ≡ frame_count old

-- ---- the parts of a fault

-- whether a protection, if the page has one, allows the access
abbrev pub is_permitted : Bool → Option Prot → Bool
is_permitted write None = false
is_permitted write (Some prot) = allows write prot

-- these notes were added, and they make the page ready or say why not, from what stood before
pub record HasTouched (d d' : Device) (old new : Mem) (w : World) (r : Rmap) (l : Ledger)
    (write : Bool) (k : Key) (before now : List Note) (touched : Touched) : Type 0 where
  pub added : List Note
  pub noted : HasNoted d d' before now added (lost_by touched) (failed_by touched)
  pub touches : Touches (setting_by d old) w l write k added (end_of touched)
  pub ready : IsReady write (after_all l (touch_events write k added touched)) k touched
  pub done : HasDone d d' old new w r l (touch_events write k added touched)
