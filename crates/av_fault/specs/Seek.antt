-- A frame is sought: what comes before one is taken, and whether one is free then.
use Rattle.std.specs.Prelude.{◌≡◌, ℕ, false, IsTrue, List, Option}
use Rattle.av_trace.specs.declared.note.Note.{Note}
use Rattle.av_plain.specs.Areas.{Rmap}
use Rattle.av_plain.specs.Device.{Device}
use Rattle.av_plain.specs.Event.{after_notes, note_events}
use Rattle.av_plain.specs.Fault.{sparing}
use Rattle.av_plain.specs.Ledger.{Ledger, Setting, has_free}
use Rattle.av_plain.specs.Pass.{Seeks, Spared, out_of}
use Rattle.av_plain.specs.World.{World}
use Rattle.av_mem.specs.declared.mem.Mem.{Mem}
use Rattle.av_mem.specs.Mem.{setting_by}
use Rattle.av_mem.specs.Between.{HasDone}
use Rattle.av_reclaim.specs.Commands.{HasNoted}
use Rattle.av_fault.specs.declared.seek.Got.{Got}
use Rattle.av_fault.specs.declared.seek.Got.TheVariants.{Frame, Out}

-- a frame is free, or none is, and these are the numbers of an out-of-memory
abbrev pub Finds : Setting → Spared → Ledger → Got → Type 0
Finds m spared l Frame = IsTrue (has_free m l)
Finds m spared l (Out out) = (has_free m l ≡ false) × (out ≡ out_of m spared l)

-- how many frames these numbers call cached
abbrev pub failed_of : Got → ℕ
failed_of Frame = 0
failed_of (Out out) = out.fault

-- these notes were added, which come before a frame is taken, and this was found
pub record HasSought (d d' : Device) (old new : Mem) (w : World) (r : Rmap) (l : Ledger)
    (pinned : Option ℕ) (before now : List Note) (got : Got) : Type 0 where
  pub added : List Note
  pub noted : HasNoted d d' before now added 0 (failed_of got)
  pub seeks : Seeks (setting_by d old) (sparing w l pinned) l added
  pub done : HasDone d d' old new w r l (note_events added)
  pub finds : Finds (setting_by d old) (sparing w l pinned) (after_notes l added) got
