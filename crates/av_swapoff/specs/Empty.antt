-- How a swap area that is closing is emptied, and why it isn't.
use Rattle.std.specs.Prelude.{◌≡◌, ◌⊎◌, ℕ, ◌+◌, ◌<◌, ◌≤◌, List, [], ◌++◌, slice_get, Option, None}
use Rattle.std.specs.Prelude.{Some, IsSomeAnd}
use Rattle.av_base.specs.Keys.{Key}
use Rattle.av_base.specs.declared.slot.Slot.{Slot}
use Rattle.av_io.specs.Count.{RoseBy}
use Rattle.av_trace.specs.declared.note.Note.{Note}
use Rattle.av_plain.specs.Areas.{Rmap}
use Rattle.av_plain.specs.Event.{after_notes}
use Rattle.av_plain.specs.Ledger.{Ledger, Setting, size_of, slot_count}
use Rattle.av_plain.specs.Pass.{Completes, Spared, fails}
use Rattle.av_plain.specs.Swapoff as plain
use Rattle.av_plain.specs.Swapoff.{Close, Closed, NoRoom, Empties, IsEmptied}
use Rattle.av_plain.specs.World.{World}
use Rattle.av_evict.specs.System.{SystemView, spares}
use Rattle.av_swapoff.specs.Slot.{Fetches}
use Rattle.av_swapoff.specs.System.{IsUser, slot_at}
use Rattle.av_swapoff.specs.declared.empty.EmptyEnd.{EmptyEnd}
use Rattle.av_swapoff.specs.declared.empty.EmptyEnd.TheVariants.{Empty, NoFrame, NoPage}
use Rattle.av_swapoff.specs.declared.slot.FetchEnd.TheVariants as fetched

-- ---- the end

-- the end in the definitions' words
abbrev pub close_of : EmptyEnd → Close
close_of Empty = Closed
close_of (NoFrame out) = NoRoom out
close_of NoPage = plain.Unread

-- how often the device failed beside the `fail` notes
abbrev pub lost_by : EmptyEnd → ℕ
lost_by Empty = 0
lost_by (NoFrame out) = 0
lost_by NoPage = 1

-- how many frames the numbers call cached
abbrev pub failed_by : EmptyEnd → ℕ
failed_by Empty = 0
failed_by (NoFrame out) = out.fault
failed_by NoPage = 0

-- ---- one slot

-- that the slot can't be emptied, to this end
abbrev pub IsStuck : Setting → Spared → Slot → EmptyEnd → Ledger → List Note → Type 0
IsStuck m spared s Empty l notes = ⊥
IsStuck m spared s (NoFrame out) l notes = Fetches m spared s (fetched.NoFrame out) l notes
IsStuck m spared s NoPage l notes = Fetches m spared s fetched.Unread l notes

-- a slot in use was emptied, or why it can't be
abbrev pub EmptiesSlot : Setting → Spared → Slot → Option EmptyEnd → Ledger → List Note → Type 0
EmptiesSlot m spared s None l notes = IsEmptied m spared l s notes
EmptiesSlot m spared s (Some end) l notes = IsStuck m spared s end l notes

-- how often the device failed beside the `fail` notes
abbrev pub lost_of : Option EmptyEnd → ℕ
lost_of None = 0
lost_of (Some end) = lost_by end

-- the same, by what a pass over the system leaves alone at first; and the device failed at least so
-- often
abbrev pub EmptiesSlotBy : SystemView → SystemView → Slot → Option EmptyEnd → Ledger → List Note
    → Type 0
EmptiesSlotBy old new s end l notes =
    EmptiesSlot old.setting (spares old None) s end l notes
    × RoseBy (fails notes + lost_of end) old.failures new.failures

-- ---- one page

-- nothing is in flight; and where the slot is in use, this is a user of it
pub record MayEmpty (s : Slot) (key : Option Key) (l : Ledger) : Type 0 where
  pub landed : l.flight ≡ []
  pub user : 0 < slot_count l s → IsSomeAnd key (IsUser l s)

-- the slot is not in use, or it was emptied; or why it can't be
abbrev pub EmptiesPage : Setting → Spared → Slot → Option EmptyEnd → Ledger → List Note → Type 0
EmptiesPage m spared s None l notes =
    ((slot_count l s ≡ 0) × (notes ≡ []))
    ⊎ ((0 < slot_count l s) × IsEmptied m spared l s notes)
EmptiesPage m spared s (Some end) l notes =
    (0 < slot_count l s) × IsStuck m spared s end l notes

-- the same, by what a pass over the system leaves alone at first; and the device failed at least so
-- often
abbrev pub EmptiesPageBy : SystemView → SystemView → Slot → Option EmptyEnd → Ledger → List Note
    → Type 0
EmptiesPageBy old new s end l notes =
    EmptiesPage old.setting (spares old None) s end l notes
    × RoseBy (fails notes + lost_of end) old.failures new.failures

-- ---- all pages

-- nothing is in flight; and of each slot of the area that is in use, these have a user by page,
-- and it is one of the area's pages, and not the first
pub record MayEmptyEach (m : Setting) (area : ℕ) (users : List (Option Key)) (l : Ledger)
    : Type 0 where
  pub landed : l.flight ≡ []
  pub there : (page : ℕ) → 0 < slot_count l (slot_at area page)
      → IsSomeAnd (slice_get users page) (λ user. IsSomeAnd user (IsUser l (slot_at area page)))
  pub within : (page : ℕ) → 0 < slot_count l (slot_at area page)
      → (0 < page) × (page < size_of m area)

-- over these memories the slots are emptied, each the least in use, to this end
pub record EmptiesEach (m : Setting) (w : World) (area : ℕ) (end : EmptyEnd) (l : Ledger)
    (notes : List Note) : Type 0 where
  pub pages : List ℕ
  pub empties : Empties m w area l pages notes (close_of end)

-- no more frames are called cached than there are `fail` notes, and the device failed at least as
-- often as the notes and the end tell
pub record FailsBy (old new : SystemView) (end : EmptyEnd) (notes : List Note) : Type 0 where
  pub failed : failed_by end ≤ fails notes
  pub rose : RoseBy (fails notes + lost_by end) old.failures new.failures

-- so it is over all memories that a system stood for
abbrev pub EmptiesEachBy : SystemView → SystemView → ℕ → EmptyEnd → Ledger → List Note → Type 0
EmptiesEachBy old new area end l notes =
    ((w : World) (r : Rmap) → old.claims w r l → EmptiesEach old.setting w area end l notes)
    × FailsBy old new end notes

-- over these memories all of flight is completed, and then the slots are emptied, each the least in
-- use, to this end
pub record EmptiesAll (m : Setting) (w : World) (area : ℕ) (end : EmptyEnd) (l : Ledger)
    (notes : List Note) : Type 0 where
  pub done : List Note
  pub pages : List ℕ
  pub rest : List Note
  pub whole : notes ≡ done ++ rest
  pub completes : Completes l l.flight done
  pub empties : Empties m w area (after_notes l done) pages rest (close_of end)

-- so it is over all memories that a system stood for
abbrev pub EmptiesAllBy : SystemView → SystemView → ℕ → EmptyEnd → Ledger → List Note → Type 0
EmptiesAllBy old new area end l notes =
    ((w : World) (r : Rmap) → old.claims w r l → EmptiesAll old.setting w area end l notes)
    × FailsBy old new end notes
