-- What is spared at any time of a pass or a reclaim is what was spared at its start.
use Rattle.std.proofs.Common.{◌≡◌, ℕ, true, List, refl, ap, ◌∙◌}
use Rattle.av_base.specs.declared.slot.Slot.{Slot}
use Rattle.av_trace.specs.declared.note.Note.{Note}
use Rattle.av_plain.specs.Event.{after_notes}
use Rattle.av_plain.specs.Ledger.{Ledger, Setting}
use Rattle.av_plain.specs.Pass.{Completes, Seeks, Spared as PlainSpared, out_of}
use Rattle.av_plain.specs.Reclaim.{Outcome}
use Rattle.av_audit_world.specs.Locks.{locks_page}
use Rattle.av_lock_laws.specs.Locks.{has_page}
use Rattle.av_lock_laws.proofs.PassLaws.{has_page-completes, has_page-seeks}
use Rattle.av_lock_laws.proofs.ReclaimLaws.{has_page-outcome}
use Rattle.av_audit_book.specs.Spared.{is_locked_by, spared_of}
use Rattle.av_audit_book.specs.declared.spared.Spared.{Spared}
use Rattle.av_audit_judge.specs.Finds.{Reads}

-- after notes that leave the frames of locked pages
spared-after : (s : Spared) (l l' : Ledger) (notes : List Note) → l' ≡ after_notes l notes
    → has_page (locks_page s.memories.now) (after_notes l notes) ≡ has_page (locks_page s.memories.now) l → spared_of s l' ≡ spared_of s l
spared-after s l l' notes after same =
    λ i. record { pinned = s.pinned; locked = (ap (is_locked_by s.memories.now) after ∙ same) i; closing = s.closing }

spared-seeks : (m : Setting) (s : Spared) (l l' : Ledger) (notes : List Note) → Seeks m (spared_of s l) l notes → l' ≡ after_notes l notes
    → spared_of s l' ≡ spared_of s l
spared-seeks m s l l' notes sought after = spared-after s l l' notes after (has_page-seeks (locks_page s.memories.now) m (spared_of s l) l notes refl sought)

-- so where a pass freed none, the numbers are those by what was spared at its start
pub out-behind : (m : Setting) (s : Spared) (sp : PlainSpared) (l l' : Ledger) (notes : List Note) → spared_of s l ≡ sp
    → Seeks m (spared_of s l) l notes → l' ≡ after_notes l notes → out_of m (spared_of s l') l' ≡ out_of m sp l'
out-behind m s sp l l' notes same sought after = ap (λ sp. out_of m sp l') (spared-seeks m s l l' notes sought after ∙ same)

pub spared-completes : (s : Spared) (l l' : Ledger) (slots : List Slot) (bytes rest : List ℕ) → Reads (Completes l slots) l bytes true l' rest
    → spared_of s l' ≡ spared_of s l
spared-completes s l l' slots bytes rest h =
    spared-after s l l' h.notes h.after (has_page-completes (locks_page s.memories.now) l slots h.notes h.lawful)

pub spared-outcome : (m : Setting) (s : Spared) (l l' : Ledger) (f : ℕ) (bytes rest : List ℕ)
    → Reads (Outcome m (spared_of s l) l f) l bytes true l' rest → spared_of s l' ≡ spared_of s l
spared-outcome m s l l' f bytes rest h =
    spared-after s l l' h.notes h.after (has_page-outcome (locks_page s.memories.now) m (spared_of s l) l f h.notes refl h.lawful)
