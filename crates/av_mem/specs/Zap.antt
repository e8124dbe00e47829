-- How the entries of a process's pages go, one by one.
use Rattle.std.specs.Prelude.{◌≡◌, ◌++◌, List, None}
use Rattle.av_trace.specs.declared.note.Note.{Note}
use Rattle.av_plain.specs.Ledger.{Ledger}
use Rattle.av_plain.specs.Device.{Device}
use Rattle.av_plain.specs.Event.{Event, after_all, notes_of}
use Rattle.av_plain.specs.Choice.{ChoosesAll}
use Rattle.av_plain.specs.Areas.{Items}
use Rattle.av_plain.specs.Stands.{ItemsAre, free_of}
use Rattle.av_mem.specs.declared.mem.Mem.{Mem}
use Rattle.av_mem.specs.Mem.{setting_by, view, HasLedger}

-- these entries have gone, with the notes of the slots that were dropped; what became free is in
-- its place, and has no items
pub record HasZapped (d : Device) (old new : Mem) (l : Ledger) (events : List Event)
    (before now : List Note) : Type 0 where
  pub stands : HasLedger d new (after_all l events)
  pub notes : now ≡ before ++ notes_of events
  pub free : ChoosesAll (setting_by d old) None l events
      (free_of (view old)) (free_of (view new))
  pub items : (items : Items) → ItemsAre (view old) l items
      → ItemsAre (view new) (after_all l events) items
