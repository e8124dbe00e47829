-- What stands between two events of a command that changes no areas, and what some events leave.
use Rattle.std.specs.Prelude.{◌≡◌, ℕ, Bool, List, Option, None}
use Rattle.av_plain.specs.Ledger.{Ledger}
use Rattle.av_plain.specs.Device.{Calls, Device, IsSameDevice, as_told, device_by, Wrote}
use Rattle.av_plain.specs.Event.{Event, after_all, notes_of}
use Rattle.av_plain.specs.Choice.{ChoosesAll}
use Rattle.av_plain.specs.Areas.{Rmap, rmap_after_all}
use Rattle.av_plain.specs.Load.{with_loads}
use Rattle.av_plain.specs.Sound.{IsSound}
use Rattle.av_plain.specs.Stands.{free_of}
use Rattle.av_plain.specs.World.{World}
use Rattle.av_mem.specs.declared.mem.Mem.{Mem}
use Rattle.av_mem.specs.Mem.{frame_count, setting_by, view, Serves}
use Rattle.av_plain.specs.Pass.{pages_written}

-- the memory system over this device stands for these, and the ledger is sound
pub record KeepsBetween (d : Device) (k : Mem) (w : World) (r : Rmap) (l : Ledger) : Type 0 where
  pub sound : IsSound (setting_by d k) l
  pub serves : Serves d None k w r l

-- it stands for some, over some device with these sizes that doesn't tell its pages
abbrev pub IsBetween : (ℕ → Option ℕ) → Mem → Type 0
IsBetween sizes k =
    (calls : Calls) × (w : World) × (r : Rmap) × (l : Ledger)
    × KeepsBetween (device_by sizes None calls) k w r l

-- or over some device, whatever it is
abbrev pub HasBetween : Mem → Type 0
HasBetween k =
    (d : Device) × (w : World) × (r : Rmap) × (l : Ledger) × KeepsBetween d k w r l

-- so it is whatever stood before, over this device, and over one just like it that doesn't tell its
-- pages
abbrev pub WhateverStood : Device → Device → Mem
    → (Device → Device → World → Rmap → Ledger → Type 0) → Type 0
WhateverStood d d' old IsSo = (told : Bool) (w : World) (r : Rmap) (l : Ledger)
    → KeepsBetween (as_told told d) old w r l → IsSo (as_told told d) (as_told told d') w r l

-- these events are done while this swap area, if any, was closing: what stands is what they leave,
-- what became free or was taken is as chosen, it is the same device and machine, and the device was
-- asked to write what their notes tell
pub record HasDoneWhile (closing : Option ℕ) (d d' : Device) (old new : Mem) (w : World) (r : Rmap)
    (l : Ledger) (events : List Event) : Type 0 where
  pub between : KeepsBetween d' new (with_loads (setting_by d old) w l events)
      (rmap_after_all l events r) (after_all l events)
  pub free : ChoosesAll (setting_by d old) closing l events
      (free_of (view old)) (free_of (view new))
  pub same : IsSameDevice d d'
  pub wrote : Wrote (pages_written (notes_of events)) d.history d'.history
  pub count : frame_count new ≡ frame_count old

-- so it is in every other command: none was closing
abbrev pub HasDone : Device → Device → Mem → Mem → World → Rmap → Ledger → List Event → Type 0
HasDone d d' old new w r l events = HasDoneWhile None d d' old new w r l events
