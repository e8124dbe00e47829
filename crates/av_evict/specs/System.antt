-- A memory system that can be driven in single steps, seen through the ledgers that it stands for.
use Rattle.std.specs.Prelude.{◌≡◌, ◌≤◌, ℕ, Bool, List, ◌++◌, Option}
use Rattle.av_base.specs.declared.slot.Slot.{Slot}
use Rattle.av_io.specs.Count.{RoseBy}
use Rattle.av_trace.specs.declared.note.Note.{Note}
use Rattle.av_plain.specs.Areas.{Rmap, rmap_after_all}
use Rattle.av_swapdev.specs.Device.{History}
use Rattle.av_plain.specs.Choice.{ChoosesAll, Free}
use Rattle.av_plain.specs.Device.{Wrote, WroteSome}
use Rattle.av_plain.specs.Event.{after_notes, note_events}
use Rattle.av_plain.specs.Ledger.{Ledger, Setting}
use Rattle.av_plain.specs.Load.{with_loads}
use Rattle.av_plain.specs.Pass.{Spared, fails, pages_written}
use Rattle.av_plain.specs.World.{World}
use Rattle.av_plain.specs.Sound.{IsSound, IsSoundBut}

-- what is seen of a system
pub record SystemView : Type 1 where
  pub setting : Setting
  -- the swap area that a swapoff is closing
  pub closing : Option ℕ
  pub free : Free
  -- page 0 of each swap area, where its device tells its pages
  pub first : Option (ℕ → List ℕ)
  -- how often its device failed, and what that was asked
  pub failures : ℕ
  pub history : History
  -- the ghost names of the references that it holds
  pub names : List ℕ
  -- the frames of locked pages
  pub locked : ℕ → Bool
  -- the ledgers that it stands for, which agree in all that it can tell
  pub stands : Ledger → Type 0
  -- the memories, areas, anon_vmas and homes that it stands for with a ledger
  pub claims : World → Rmap → Ledger → Type 0

-- what a pass over it leaves alone: the pinned frame, if there is one, the frames of locked pages,
-- and the swap area that is closing
abbrev pub spares : SystemView → Option ℕ → Spared
spares k pinned = record { pinned = pinned; locked = k.locked; closing = k.closing }

-- any slot may be without a use: so it is within a step
abbrev pub any_slot : Slot → ℕ
any_slot s = 1

-- this holds of some ledger that it stands for
abbrev pub Knows : SystemView → (Ledger → Type 0) → Type 0
Knows k P = (l : Ledger) × IsSoundBut k.setting any_slot l × k.stands l × P l

-- and this of each
abbrev pub Tells : SystemView → (Ledger → Type 0) → Type 0
Tells k P = (l : Ledger) → IsSoundBut k.setting any_slot l → k.stands l → P l

-- what no step changes; a count of failures that never falls; and a device that was only asked to
-- write, and no header
pub record Stays (old new : SystemView) : Type 0 where
  pub setting : new.setting ≡ old.setting
  pub closing : new.closing ≡ old.closing
  pub names : new.names ≡ old.names
  pub first : new.first ≡ old.first
  pub never_falls : old.failures ≤ new.failures
  pub history : WroteSome old.history new.history

-- and the same frames are locked: so it is where no page is mapped, locked or unlocked
pub record Leaves (old new : SystemView) : Type 0 where
  pub stays : Stays old new
  pub locked : new.locked ≡ old.locked

-- what the notes tell has happened to a ledger that it stood for. The memories are as they were,
-- but for what a load makes unclaimed; areas, anon_vmas and homes are what the notes make of them
pub record HasHappened (old new : SystemView) (l : Ledger) (notes : List Note) : Type 0 where
  pub stands : new.stands (after_notes l notes)
  pub stays : Stays old new
  pub chooses : ChoosesAll old.setting old.closing l (note_events notes) old.free new.free
  pub failures : RoseBy (fails notes) old.failures new.failures
  pub wrote : Wrote (pages_written notes) old.history new.history
  pub claims : (w : World) (r : Rmap) → old.claims w r l
      → new.claims (with_loads old.setting w l (note_events notes))
      (rmap_after_all l (note_events notes) r) (after_notes l notes)

-- and to each of which that held
abbrev pub Makes : SystemView → SystemView → (Ledger → Type 0) → List Note → Type 0
Makes old new Ready notes = Tells old (λ l. Ready l → HasHappened old new l notes)

-- nothing has to hold
abbrev pub Always : Ledger → Type 0
Always l = Unit {0}

-- ---- several steps

-- this holds of some sound ledger that it stands for
abbrev pub IsAt : SystemView → (Ledger → Type 0) → Type 0
IsAt k P = (l : Ledger) × IsSound k.setting l × k.stands l × P l

-- the same, from a sound ledger to a sound one
pub record Goes (old new : SystemView) (l : Ledger) (notes : List Note) : Type 0 where
  pub sound : IsSound old.setting (after_notes l notes)
  pub happened : HasHappened old new l notes

-- from each sound ledger that it stood for, if it was ready, notes were added of which this holds,
-- and what they tell has happened
abbrev pub Gives : SystemView → SystemView → List Note → List Note → (Ledger → Type 0)
    → (Ledger → List Note → Type 0) → Type 0
Gives old new before now Ready Q =
    (l : Ledger) → IsSound old.setting l → old.stands l → Ready l →
    (gained : List Note) × (now ≡ before ++ gained) × Q l gained × Goes old new l gained

-- just these notes were added
abbrev pub Adds : List Note → Ledger → List Note → Type 0
Adds these l notes = notes ≡ these
