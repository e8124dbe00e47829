-- How a page gets the page of zeros, a frame, or a copy of its frame.
use Rattle.std.specs.Prelude.{◌≡◌, ◌<◌, Bool, true, List, ◌++◌, IsSome}
use Rattle.av_base.specs.Keys.{Key}
use Rattle.av_base.specs.Limits.{top_page}
use Rattle.av_pagetable.specs.Entries.{has}
use Rattle.av_pagetable.specs.declared.pte.Pte.{Pte}
use Rattle.av_pagetable.specs.declared.pte.Pte.TheVariants.{Empty, Zero, Here, Away}
use Rattle.av_trace.specs.declared.note.Note.{Note}
use Rattle.av_plain.specs.Areas.{Rmap}
use Rattle.av_plain.specs.Device.{Device}
use Rattle.av_plain.specs.Event.{after_all, after_notes}
use Rattle.av_plain.specs.Fault.{FindsNone, IsMade, drop_at, need, sparing}
use Rattle.av_plain.specs.Ledger.{Ledger, Setting, entry}
use Rattle.av_plain.specs.World.{World}
use Rattle.av_spaces.specs.Spaces.{pages_of}
use Rattle.av_mem.specs.declared.mem.Mem.{Mem}
use Rattle.av_mem.specs.Mem.{setting_by}
use Rattle.av_mem.specs.Between.{HasDone}
use Rattle.av_reclaim.specs.Commands.{HasNoted}
use Rattle.av_fault.specs.Fault.{IsReady, failed_by, lost_by, touch_events}
use Rattle.av_fault.specs.declared.fault.Stop.TheVariants.{Denied, Lost, Starved}
use Rattle.av_fault.specs.declared.fault.Touched.{Touched}
use Rattle.av_fault.specs.declared.fault.Touched.TheVariants.{Ready, Zeros, Stopped}

-- ---- when a page may be made ready

-- the page is mapped, and its process has a table
pub record IsMapped (old : Mem) (k : Key) : Type 0 where
  pub table : has old.tables k.0 ≡ true
  pub area : IsSome (pages_of old.spaces.processes k.0 k.1)
  pub below : k.1 < top_page

-- ---- what is added

-- these notes make the page what it has to be, and drop its slot where it is needed no more
pub record IsMadeBy (m : Setting) (w : World) (l : Ledger) (write came : Bool) (k : Key)
    (added : List Note) : Type 0 where
  pub making : List Note
  pub made : IsMade m (sparing w) l k (need write l (entry l k)) making
  pub whole : added ≡ making ++ drop_at m write came (after_notes l making) k

-- so it is where the page is ready; else no frame was free for it
abbrev pub Makes : Setting → World → Ledger → Bool → Bool → Key → List Note → Touched → Type 0
Makes m w l write came k added (Ready f) = IsMadeBy m w l write came k added
Makes m w l write came k added Zeros = IsMadeBy m w l write came k added
Makes m w l write came k added (Stopped Denied) = ⊥
Makes m w l write came k added (Stopped Lost) = ⊥
Makes m w l write came k added (Stopped (Starved out)) =
    FindsNone m (sparing w) l (need write l (entry l k)) added out

-- these notes were added at a page whose entry is no slot, or no more if it came in, and this is
-- what it has for the access
pub record HasMade (d d' : Device) (old new : Mem) (w : World) (r : Rmap) (l : Ledger)
    (write came : Bool) (k : Key) (before now : List Note) (touched : Touched) : Type 0 where
  pub added : List Note
  pub noted : HasNoted d d' before now added (lost_by touched) (failed_by touched)
  pub makes : Makes (setting_by d old) w l write came k added touched
  pub ready : IsReady write (after_all l (touch_events write k added touched)) k touched
  pub done : HasDone d d' old new w r l (touch_events write k added touched)

-- ---- the parts

-- a page has neither a frame nor a slot
abbrev pub IsBare : Pte → Type 0
IsBare Empty = Unit {0}
IsBare Zero = Unit {0}
IsBare (Here f write seen) = ⊥
IsBare (Away s) = ⊥
