-- What a compaction does to the memory system, and what its walks cost.
use Rattle.std.specs.Prelude.{◌≡◌, ◌+◌, ◌++◌, ℕ, List, [], ◌∷◌}
use Rattle.av_trace.specs.declared.note.Note.{Note}
use Rattle.av_trace.specs.declared.note.Note.TheVariants.{Moved}
use Rattle.av_plain.specs.Areas.{Rmap}
use Rattle.av_plain.specs.Compact.{IsCompacted, MovesDown}
use Rattle.av_plain.specs.Device.{Device}
use Rattle.av_plain.specs.Event.{FreeSorted, after_all, note_events}
use Rattle.av_plain.specs.Ledger.{Ledger}
use Rattle.av_plain.specs.World.{World}
use Rattle.av_mem.specs.Between.{HasDone, KeepsBetween}
use Rattle.av_mem.specs.Mem.{setting_by}
use Rattle.av_mem.specs.Walk.{areas_of_frame}
use Rattle.av_mem.specs.declared.mem.Mem.{Mem}

-- how many steps the walk takes of the frame that a note moves
abbrev pub steps_of : Mem → Note → ℕ
steps_of k (Moved from to) = areas_of_frame k from
steps_of k note = 0

-- and the walks of all that are moved
abbrev pub steps_of_all : Mem → List Note → ℕ
steps_of_all k [] = 0
steps_of_all k (note ∷ notes) = steps_of k note + steps_of_all k notes

-- one frame has gone down after the other until none could, as the notes tell, and the list of free
-- ones is put in order. The frames in use are the lowest then, each with all that it had
pub record HasCompacted (d : Device) (old new : Mem) (w : World) (r : Rmap) (l : Ledger)
    (added : List Note) : Type 0 where
  pub moves : MovesDown (setting_by d old) l added
  pub done : HasDone d d old new w r l (note_events added ++ FreeSorted ∷ [])
  pub leaves : IsCompacted (setting_by d old) l
      (after_all l (note_events added ++ FreeSorted ∷ []))

-- so it is with the notes that were added, whatever stood before
pub record AddsMoves (old new : Mem) (before now : List Note) : Type 0 where
  pub added : List Note
  pub notes : now ≡ before ++ added
  pub leaves : (d : Device) (w : World) (r : Rmap) (l : Ledger) → KeepsBetween d old w r l
      → HasCompacted d old new w r l added

-- and these steps were taken: those of the walks of the frames that moved, as they stood before
pub record CompactsInSteps (old new : Mem) (before now : List Note) (taken taken' : ℕ)
    : Type 0 where
  pub adds : AddsMoves old new before now
  pub steps : taken' ≡ taken + steps_of_all old adds.added
