-- What brings the page of a slot back, beside the single steps of a memory system.
use Rattle.std.specs.Prelude.{◌≡◌, ℕ, ◌<◌, true, List, [], ◌∷◌, slice_get, Option, Some, None}
use Rattle.std.specs.Prelude.{IsSomeAnd}
use Rattle.av_base.specs.Keys.{Key}
use Rattle.av_base.specs.declared.slot.Slot.{Slot}
use Rattle.av_trace.specs.declared.note.Note.{Note}
use Rattle.av_trace.specs.declared.note.Note.TheVariants.{Loaded}
use Rattle.av_plain.specs.Event.{slot_behind}
use Rattle.av_plain.specs.Ledger.{InSlot, Ledger, Setting, entry, frame_at, has_free, size_of}
use Rattle.av_plain.specs.Ledger.{slot_count}

-- the slot of an area with this page
abbrev pub slot_at : ℕ → ℕ → Slot
slot_at area page = record { area = area; page = page }

-- ---- whose a slot is

-- the key is a user of the slot: its entry names the slot, or the frame that caches it
abbrev pub IsUser : Ledger → Slot → Key → Type 0
IsUser l s k = IsSomeAnd (entry l k) (λ e. slot_behind l e ≡ Some s)

-- by page, a user of each slot of the area that has any; and each slot of it in use is one of its
-- pages, and not the first
pub record AreUsers (m : Setting) (area : ℕ) (users : List (Option Key)) (l : Ledger) : Type 0 where
  pub there : (page : ℕ) (k : Key) → IsUser l (slot_at area page) k
      → IsSomeAnd (slice_get users page) (λ user. IsSomeAnd user (IsUser l (slot_at area page)))
  pub within : (page : ℕ) → 0 < slot_count l (slot_at area page)
      → (0 < page) × (page < size_of m area)

-- ---- when a step may be taken

-- the entry of the key names the slot, which the frame caches
pub record MayMap (s : Slot) (f : ℕ) (k : Key) (l : Ledger) : Type 0 where
  pub named : entry l k ≡ Some (InSlot s)
  pub cached : frame_at l s ≡ Some f

-- the entry of the key names the slot, which is not cached, and a frame is free
pub record MayLoad (m : Setting) (s : Slot) (k : Key) (l : Ledger) : Type 0 where
  pub named : entry l k ≡ Some (InSlot s)
  pub absent : frame_at l s ≡ None
  pub free : has_free m l ≡ true

-- ---- the note of a step, if there is one

-- the `load` that put the slot's page into this frame, if the device gave it
abbrev pub load_notes : Slot → Option ℕ → List Note
load_notes s None = []
load_notes s (Some f) = Loaded s f ∷ []
