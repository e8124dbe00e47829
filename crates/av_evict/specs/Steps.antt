-- Single steps: when one may be taken, the note that tells it, and what each does with its note.
use Rattle.std.specs.Prelude.{◌≡◌, ℕ, ◌<◌, true, false, ◌==◌, not, List, [], ◌∷◌, slice_get, Option}
use Rattle.std.specs.Prelude.{Some, None, is_none, Bool}
use Rattle.av_base.specs.declared.slot.Slot.{Slot}
use Rattle.av_trace.specs.declared.note.Cause.TheVariants.{Referenced}
use Rattle.av_trace.specs.declared.note.Note.{Note}
use Rattle.av_trace.specs.declared.note.Note.TheVariants.{Kept, Put, Unmapped}
use Rattle.av_plain.specs.Event.{when}
use Rattle.av_plain.specs.Ledger.{Ledger, Setting, in_flight, is_merged}
use Rattle.av_plain.specs.Ledger.{is_stale, map_count, slot_entries, slot_of}
use Rattle.av_plain.specs.Pass.{IsSlotFor, Spared, end_note, end_notes, is_stuck, unmap_notes}
use Rattle.av_plain.specs.Reclaim.{is_referenced}
use Rattle.av_plain.specs.Sound.{uses}
use Rattle.av_evict.specs.declared.system.WriteEnd.{WriteEnd}

-- ---- when a step may be taken

-- the frame is cached at the slot
abbrev pub IsCachedAt : ℕ → Slot → Ledger → Type 0
IsCachedAt f s l = slot_of l f ≡ Some s

-- an entry names the frame, and it is neither cached nor merged
pub record MayPut (f : ℕ) (l : Ledger) : Type 0 where
  pub uncached : slot_of l f ≡ None
  pub mapped : 0 < map_count l f
  pub unmerged : is_merged l f ≡ false

-- an entry names the frame, which is cached at the slot
pub record MayUnmap (f : ℕ) (s : Slot) (l : Ledger) : Type 0 where
  pub cached : IsCachedAt f s l
  pub mapped : 0 < map_count l f

-- the frame is cached at the slot, which is not in flight
pub record MayStart (f : ℕ) (s : Slot) (l : Ledger) : Type 0 where
  pub cached : IsCachedAt f s l
  pub landed : in_flight l s ≡ false

-- the same; and no entry names the slot, or no entry names the frame, and its page is written
pub record MayDrop (f : ℕ) (s : Slot) (l : Ledger) : Type 0 where
  pub cached : IsCachedAt f s l
  pub landed : in_flight l s ≡ false
  pub kept : (slot_entries l s == 0) ≡ false → (map_count l f ≡ 0) × (is_stale l s ≡ false)

-- an entry or a slot names the frame
abbrev pub IsUsed : ℕ → Ledger → Type 0
IsUsed f l = 0 < uses l f

-- it is in use, and not merged
pub record MaySend (f : ℕ) (l : Ledger) : Type 0 where
  pub used : IsUsed f l
  pub unmerged : is_merged l f ≡ false

-- ---- the note of a step, if there is one

-- the `put` of a frame that was given this slot, or none
abbrev pub put_notes : ℕ → Option Slot → List Note
put_notes f None = []
put_notes f (Some s) = Put f s ∷ []

-- the `keep` of a frame that was seen, or none
abbrev pub referenced_notes : ℕ → Bool → List Note
referenced_notes f true = Kept f Referenced ∷ []
referenced_notes f false = []

-- how a write ended, or none
abbrev pub notes_of_end : Option WriteEnd → List Note
notes_of_end None = []
notes_of_end (Some end) = end_note end.failed end.slot ∷ []

-- ---- steps with their notes

-- no frame is left alone, but the swap area that is closing is
abbrev pub closes : Option ℕ → Spared
closes closing = record { pinned = None; locked = λ f. false; closing = closing }

-- this is the first write in flight, or there is none
abbrev pub IsFirst : Option WriteEnd → Ledger → Type 0
IsFirst None l = l.flight ≡ []
IsFirst (Some end) l =
    (Some end.slot ≡ slice_get l.flight 0) × IsCachedAt end.frame end.slot l

-- it has ended so, and its slot was dropped where it was an orphan then
abbrev pub EndsFirst : Option WriteEnd → Ledger → List Note → Type 0
EndsFirst None l notes = IsFirst None l × (notes ≡ [])
EndsFirst (Some end) l notes =
    IsFirst (Some end) l × (notes ≡ end_notes l end.slot end.failed)

-- the frame has this slot, and no entry any more; or there is none for it
abbrev pub IsSent : Setting → Option ℕ → ℕ → Option Slot → Ledger → List Note → Type 0
IsSent m closing f None l notes = (is_stuck m (closes closing) l f ≡ true) × (notes ≡ [])
IsSent m closing f (Some s) l notes =
    (is_stuck m (closes closing) l f ≡ false) × IsSlotFor m (closes closing) l f s
    × (notes ≡ unmap_notes l f s)

-- the first half: it has this slot
abbrev pub GetsSlot : Setting → Option ℕ → ℕ → Option Slot → Ledger → List Note → Type 0
GetsSlot m closing f None l notes =
    (is_stuck m (closes closing) l f ≡ true) × (notes ≡ [])
GetsSlot m closing f (Some s) l notes =
    (is_stuck m (closes closing) l f ≡ false) × IsSlotFor m (closes closing) l f s
    × (notes ≡ when (is_none (slot_of l f)) (Put f s))

-- the frame was kept as referenced, or none of its entries is seen
abbrev pub KeepsReferenced : ℕ → Bool → Ledger → List Note → Type 0
KeepsReferenced f seen l notes = (seen ≡ is_referenced l f) × (notes ≡ referenced_notes f seen)

-- the second half: no entry any more
abbrev pub IsUnmapped : ℕ → Ledger → List Note → Type 0
IsUnmapped f l notes = notes ≡ when (not (map_count l f == 0)) (Unmapped f)
