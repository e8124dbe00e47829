-- What becomes of the entries of a range of pages.
use Rattle.std.specs.Prelude.{◌≡◌, ℕ, ◌+◌, ◌-◌, ◌&&◌, ◌++◌, ◌==◌, if◌then◌else◌, List, None}
use Rattle.std.specs.Prelude.{slice_index_or}
use Rattle.av_base.specs.Words.{within}
use Rattle.av_pagetable.specs.declared.pte.Pte.{Pte}
use Rattle.av_pagetable.specs.declared.pte.Pte.TheVariants.{Empty}
use Rattle.av_trace.specs.declared.note.Note.{Note}
use Rattle.av_plain.specs.Choice.{Chooses, ChoosesAll}
use Rattle.av_plain.specs.Device.{Device}
use Rattle.av_plain.specs.Event.{Event, EntriesMoved, after, after_all, notes_of}
use Rattle.av_plain.specs.Ledger.{Ledger}
use Rattle.av_plain.specs.Areas.{Items}
use Rattle.av_plain.specs.Stands.{ItemsAre, free_of}
use Rattle.av_mem.specs.declared.mem.Mem.{Mem}
use Rattle.av_mem.specs.Mem.{setting_by, view, HasLedger}

-- what n pages of a process have, from one page on, is on as many others then, and nothing is left
-- where it was
abbrev pub moved_entries : {X : Type 0} → X → ℕ → ℕ → ℕ → ℕ → (ℕ → ℕ → X) → ℕ → ℕ → X
moved_entries nothing p n from to f q page =
    if q == p && within to n page then f p (from + (page - to))
    else if q == p && within from n page then nothing
    else f q page

-- the same, but all is left where it was
abbrev pub copied_entries : {X : Type 0} → ℕ → ℕ → ℕ → ℕ → (ℕ → ℕ → X) → ℕ → ℕ → X
copied_entries p n from to f q page =
    if q == p && within to n page then f p (from + (page - to)) else f q page

-- the first n entries of a run are on as many pages in a row, from one on
abbrev pub with_run : ℕ → ℕ → ℕ → List Pte → (ℕ → ℕ → Pte) → ℕ → ℕ → Pte
with_run p from n run f q page =
    if q == p && within from n page then slice_index_or run (page - from) Empty else f q page

-- the entries have moved: nothing is taken, nothing becomes free, and the items stay
pub record HasMovedEntries (d : Device) (old new : Mem) (l : Ledger) (p n from to : ℕ)
    : Type 0 where
  pub stands : HasLedger d new (after l (EntriesMoved p n from to))
  pub free : Chooses (setting_by d old) None l (EntriesMoved p n from to)
      (free_of (view old)) (free_of (view new))
  pub items : (items : Items) → ItemsAre (view old) l items
      → ItemsAre (view new) (after l (EntriesMoved p n from to)) items

-- these events of an mremap have happened, with their notes; what is free follows them, and what
-- became free has no items
pub record HasRemapped (d : Device) (old new : Mem) (l : Ledger) (events : List Event)
    (before now : List Note) : Type 0 where
  pub stands : HasLedger d new (after_all l events)
  pub notes : now ≡ before ++ notes_of events
  pub free : ChoosesAll (setting_by d old) None l events
      (free_of (view old)) (free_of (view new))
  pub items : (items : Items) → ItemsAre (view old) l items
      → ItemsAre (view new) (after_all l events) items
