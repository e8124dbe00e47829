-- What a frame's turn may be, part by part.
use Rattle.std.specs.Prelude.{◌≡◌, ℕ, ◌<◌, Bool, true, false, not, ◌&&◌, List, [], ◌∷◌, ◌++◌}
use Rattle.std.specs.Prelude.{IsTrue}
use Rattle.std.specs.Prelude.{is_none, if◌then◌else◌, take}
use Rattle.av_base.specs.declared.slot.Slot.{Slot}
use Rattle.av_trace.specs.declared.note.Note.{Note}
use Rattle.av_trace.specs.declared.note.Note.TheVariants.{Dropped, Kept, Put, Started}
use Rattle.av_trace.specs.declared.note.Cause.TheVariants.{WriteStarted}
use Rattle.av_plain.specs.Event.{when}
use Rattle.av_plain.specs.Ledger.{Ledger, Setting, is_free, may_give, slot_of}
use Rattle.av_plain.specs.Pass.{IsSlotFor, Spared as PlainSpared, end_note, has_turn, is_dirty}
use Rattle.av_plain.specs.Pass.{is_stuck, unmap_notes}
use Rattle.av_plain.specs.Reclaim.{leave_notes}
use Rattle.av_audit_judge.specs.declared.notes.Taking.{Taking}
use Rattle.av_audit_judge.specs.Notes.{note_by}

-- the frame is put at a slot that may be given
abbrev pub IsPut : Setting → PlainSpared → Ledger → ℕ → Slot → List Note → Type 0
IsPut m spared l f s notes =
    IsTrue (may_give m spared.closing l s) × (notes ≡ Put f s ∷ [])

-- the frame goes to this slot, with a put where it isn't cached; and whether it is dirty
abbrev pub GoesTo : Setting → PlainSpared → Ledger → ℕ → Slot × Bool → List Note → Type 0
GoesTo m spared l f x notes = IsSlotFor m spared l f x.0 × (x.1 ≡ is_dirty l f x.0)
    × (notes ≡ when (is_none (slot_of l f)) (Put f x.0))

-- and it is unmapped
abbrev pub Unmaps : Setting → PlainSpared → Ledger → ℕ → Slot × Bool → List Note → Type 0
Unmaps m spared l f x notes = IsSlotFor m spared l f x.0 × (x.1 ≡ is_dirty l f x.0)
    × (notes ≡ unmap_notes l f x.0)

-- a write at once, and whether it failed
abbrev pub AreWriteNotes : Slot → Bool → List Note → Type 0
AreWriteNotes s failed notes = notes ≡ Started s ∷ end_note failed s ∷ []

-- a write at once where the frame is dirty, and whether it failed
abbrev pub AreCleaned : Slot → Bool → Bool → List Note → Type 0
AreCleaned s true stays notes = AreWriteNotes s stays notes
AreCleaned s false stays notes = (stays ≡ false) × (notes ≡ [])

-- and a drop, unless it failed
abbrev pub IsTurnEnd : Slot → Bool → Bool → List Note → Type 0
IsTurnEnd s dirty stays notes = (cleaned : List Note) × AreCleaned s dirty stays cleaned
    × (notes ≡ cleaned ++ when (not stays) (Dropped s))

-- a frame's turn, and whether it stays cached
abbrev pub IsTurn : Setting → PlainSpared → Ledger → ℕ → Bool → List Note → Type 0
IsTurn m spared l f stays notes = (s : Slot) × (ended : List Note) × IsSlotFor m spared l f s
    × IsTurnEnd s (is_dirty l f s) stays ended × (notes ≡ unmap_notes l f s ++ ended)

-- whether a frame has a turn in which it can go
abbrev pub can_go : Setting → PlainSpared → Ledger → ℕ → Bool
can_go m spared l f = not (is_stuck m spared l f) && has_turn spared l f

-- these are the first frames of all
abbrev pub AreFirst : List ℕ → List ℕ → Type 0
AreFirst frames all = (n : ℕ) × (frames ≡ take n all)

-- ---- reclaim

-- what ends a frame's way to its slot: a write begins where it is dirty, else the slot is dropped
abbrev pub behind_of : ℕ → Slot → Bool → List Note
behind_of f s dirty =
    if dirty then Started s ∷ Kept f WriteStarted ∷ [] else Dropped s ∷ []

-- the frame goes to its slot
abbrev pub Leaves : Setting → PlainSpared → Ledger → ℕ → List Note → Type 0
Leaves m spared l f notes =
    (s : Slot) × IsSlotFor m spared l f s × (notes ≡ leave_notes l f s)

-- ---- a frame is taken

-- the frame is free, and this note takes it
abbrev pub IsTakenFree : Setting → Ledger → Taking → ℕ → List Note → Type 0
IsTakenFree m l taking f notes =
    (f < m.frames) × IsTrue (is_free l f) × (notes ≡ note_by taking f ∷ [])
