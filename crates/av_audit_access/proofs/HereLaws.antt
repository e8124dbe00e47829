-- The entry of a page that is here is no slot.
use Rattle.std.proofs.Common.{◌≡◌, inl, ℕ, Bool, true, false, cond, Some, List, [], ◌∷◌, ◌++◌, refl, sym, ap, subst, ◌∙◌, arith}
use Rattle.av_base.proofs.Keys.{same_key-itself}
use Rattle.av_base.specs.Keys.{Key, same_key}
use Rattle.av_base.specs.Page.{address_of, page_of}
use Rattle.av_base.specs.declared.slot.Slot.{Slot}
use Rattle.av_trace.specs.declared.note.Note.{Note}
use Rattle.av_trace.specs.declared.note.Note.TheVariants.{Mapped}
use Rattle.av_plain.specs.Event.{after_notes, key_at}
use Rattle.av_plain.specs.Fault.{CopyOnWrite, Ready, asks_copy, need, was_slot}
use Rattle.av_plain.specs.Ledger.{InFrame, Ledger, Setting, entry}
use Rattle.av_plain.specs.Pass.{Spared}
use Rattle.av_plain.proofs.Access.{after_notes-append}
use Rattle.av_plain.proofs.Ledger.{entry-set}
use Rattle.av_audit_judge.specs.Come.{ComesFrom, IsKeptOut}
use Rattle.av_audit_judge.specs.Finds.{Reads}
use Rattle.av_audit_judge.specs.Stage.{Meets}

page-itself : (page : ℕ) → page_of (address_of page) ≡ page
page-itself page = omega arith

same-there : (k : Key) → same_key k (key_at k.0 (address_of k.1)) ≡ true
same-there k = subst (λ (page : ℕ). same_key k (k.0, page) ≡ true) (sym (page-itself k.1)) (same_key-itself k)

-- a page that was mapped last has the frame
mapped-at : (l : Ledger) (k : Key) (f : ℕ) (loaded notes : List Note) → notes ≡ loaded ++ Mapped k.0 (address_of k.1) f ∷ []
    → entry (after_notes l notes) k ≡ Some (InFrame f false)
mapped-at l k f loaded notes whole =
    ap (λ ns. entry (after_notes l ns) k) whole
    ∙ ap (λ n. entry n k) (after_notes-append l loaded (Mapped k.0 (address_of k.1) f ∷ []))
    ∙ entry-set (key_at k.0 (address_of k.1)) (InFrame f false) (after_notes l loaded) k
    ∙ ap (λ b. cond b (Some (InFrame f false)) (entry (after_notes l loaded) k)) (same-there k)

frame-no-slot : (write : Bool) (l : Ledger) (f : ℕ) → was_slot (need write l (Some (InFrame f false))) ≡ false
frame-no-slot false l f = refl
frame-no-slot true l f = by (asks_copy l f)
  where
    by : (b : Bool) → was_slot (cond b (CopyOnWrite f) Ready) ≡ false
    by true = refl
    by false = refl

no-slot : (write : Bool) (l : Ledger) (k : Key) (f : ℕ) → entry l k ≡ Some (InFrame f false) → was_slot (need write l (entry l k)) ≡ false
no-slot write l k f at = ap (λ e. was_slot (need write l e)) at ∙ frame-no-slot write l f

pub from-no-slot : (m : Setting) (sp : Spared) (l l' : Ledger) (write : Bool) (k : Key) (s : Slot) (bytes rest : List ℕ)
    → Meets (ComesFrom m sp l k s) (IsKeptOut m sp l) l bytes (Some (inl tt)) l' rest → was_slot (need write l' (entry l' k)) ≡ false
from-no-slot m sp l l' write k s bytes rest h =
    no-slot write l' k h.lawful.1 (ap (λ n. entry n k) h.after ∙ mapped-at l k h.lawful.1 h.lawful.0 h.notes h.lawful.4)

pub cached-no-slot : (l l' : Ledger) (write : Bool) (k : Key) (f a : ℕ) (bytes rest : List ℕ) → a ≡ address_of k.1
    → Reads (λ ns. ns ≡ Mapped k.0 a f ∷ []) l bytes true l' rest → was_slot (need write l' (entry l' k)) ≡ false
cached-no-slot l l' write k f a bytes rest is h =
    no-slot write l' k f (ap (λ n. entry n k) h.after
    ∙ mapped-at l k f [] h.notes (h.lawful ∙ ap (λ a. Mapped k.0 a f ∷ []) is))
