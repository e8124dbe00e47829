-- How a page may come in, or be kept out.
use Rattle.std.proofs.Common.{inl, inr}
use Rattle.std.specs.Prelude.{◌≡◌, ◌⊎◌, Bool, true, false, List, Option, Some, None}
use Rattle.av_base.specs.Keys.{Key}
use Rattle.av_base.specs.declared.slot.Slot.{Slot}
use Rattle.av_trace.specs.declared.note.Note.{Note}
use Rattle.av_plain.specs.Event.{after_notes}
use Rattle.av_plain.specs.Fault.{Need, Sparing, SwapIn, Stop as PlainStop, Denied as PlainDenied}
use Rattle.av_plain.specs.Fault.{Starved as PlainStarved, Lost as PlainLost, need, was_slot}
use Rattle.av_plain.specs.Ledger.{Ledger, Setting, entry, has_free}
use Rattle.av_plain.specs.Pass.{Seeks, out_of}
use Rattle.av_audit_access.specs.declared.coming.Coming.{Coming}
use Rattle.av_audit_access.specs.declared.coming.Coming.TheVariants.{Here, Kept}
use Rattle.av_audit_access.specs.declared.coming.Stop.{Stop}
use Rattle.av_audit_access.specs.declared.coming.Stop.TheVariants.{Denied, Starved, Lost}

abbrev pub stop_of : Stop → PlainStop
stop_of Denied = PlainDenied
stop_of (Starved out) = PlainStarved out
stop_of Lost = PlainLost

-- it is here, or this keeps it out
abbrev pub coming_of : Option Coming → Option (Unit {0} ⊎ PlainStop)
coming_of None = None
coming_of (Some Here) = Some (inl tt)
coming_of (Some (Kept stop)) = Some (inr (stop_of stop))

-- a page on the device alone can't be had: no frame is free, or one is and it didn't come
abbrev pub IsKeptBy : Setting → Sparing → Ledger → PlainStop → List Note → Type 0
IsKeptBy m spares l PlainDenied notes = ⊥
IsKeptBy m spares l (PlainStarved out) notes = Seeks m (spares l None) l notes
    × (has_free m (after_notes l notes) ≡ false)
    × (out ≡ out_of m (spares l None) (after_notes l notes))
IsKeptBy m spares l PlainLost notes =
    Seeks m (spares l None) l notes × (has_free m (after_notes l notes) ≡ true)

abbrev pub IsKept : Setting → Sparing → Ledger → Need → PlainStop → List Note → Type 0
IsKept m spares l need stop notes =
    (slot : Slot) × (need ≡ SwapIn slot) × IsKeptBy m spares l stop notes

-- once a page is here its entry is no slot
abbrev pub HasNoSlot : Bool → Ledger → Key → Option Coming → Type 0
HasNoSlot write l k None = Unit {0}
HasNoSlot write l k (Some Here) = was_slot (need write l (entry l k)) ≡ false
HasNoSlot write l k (Some (Kept stop)) = Unit {0}
