-- No reclaim changes which frames some pages have, where it spares these frames.
use Rattle.std.proofs.Common.{◌≡◌, ℕ, Bool, true, false, Option, Some, None, List, [], ◌∷◌, refl, sym, ap, ◌∙◌}
use Rattle.std.specs.Prelude.{MatchOption, if◌then◌else◌}
use Rattle.av_base.specs.Keys.{Key}
use Rattle.av_base.specs.declared.slot.Slot.{Slot}
use Rattle.av_trace.specs.declared.note.Cause.{Cause}
use Rattle.av_trace.specs.declared.note.Cause.TheVariants.{Ksm, Locked, NoSlot, Referenced, WriteStarted, Writeback}
use Rattle.av_trace.specs.declared.note.Note.{Note}
use Rattle.av_trace.specs.declared.note.Note.TheVariants.{Dropped, Kept, Started}
use Rattle.av_plain.specs.Event.{after_note, after_notes}
use Rattle.av_plain.specs.Ledger.{Ledger, Setting, is_merged, slot_of}
use Rattle.av_plain.specs.Pass.{IsSlotFor, Spared, is_dirty, is_stuck, unmap_notes}
use Rattle.av_plain.specs.Reclaim.{Outcome, Outcomes, cause_of, is_in_writeback, is_referenced, leave_notes}
use Rattle.av_plain.specs.Tests.{first_test}
use Rattle.av_lock_laws.specs.Locks.{has_page}
use Rattle.av_lock_laws.proofs.NoteLaws.{has_page-drop, has_page-keep, has_page-start}
use Rattle.av_lock_laws.proofs.PassLaws.{has_page-both, has_page-unmap_notes}

-- a frame that nothing keeps isn't spared
pub leaves-unlocked : (m : Setting) (sp : Spared) (l : Ledger) (f : ℕ) → cause_of m sp l f ≡ None → sp.locked f ≡ false
leaves-unlocked m sp l f none = by (sp.locked f) none
  where
    by : (locked : Bool) → first_test (
        (locked, Locked) ∷ (is_merged l f, Ksm)
        ∷ (is_in_writeback l (slot_of l f), Writeback) ∷ (is_referenced l f, Referenced)
        ∷ (is_stuck m sp l f, NoSlot) ∷ []) ≡ None → locked ≡ false
    by true h = cc
    by false h = refl

has_page-leaves : (test : Key → Bool) (l : Ledger) (f : ℕ) (s : Slot) → has_page test l f ≡ false
    → has_page test (after_notes l (leave_notes l f s)) ≡ has_page test l
has_page-leaves test l f s other =
    let un = unmap_notes l f s in
    has_page-both test l un (if is_dirty l f s then Started s ∷ Kept f WriteStarted ∷ [] else Dropped s ∷ []) (has_page-unmap_notes test l f s other)
    (by (after_notes l un) (is_dirty l f s))
  where
    by : (l1 : Ledger) (dirty : Bool)
        → has_page test (after_notes l1 (if dirty then Started s ∷ Kept f WriteStarted ∷ [] else Dropped s ∷ [])) ≡ has_page test l1
    by l1 true = has_page-keep test (after_note (Started s) l1) f WriteStarted ∙ has_page-start test l1 s
    by l1 false = has_page-drop test l1 s

pub has_page-outcome : (test : Key → Bool) (m : Setting) (sp : Spared) (l : Ledger) (f : ℕ) (notes : List Note) → sp.locked ≡ has_page test l
    → Outcome m sp l f notes → has_page test (after_notes l notes) ≡ has_page test l
has_page-outcome test m sp l f notes same h = by (cause_of m sp l f) refl h
  where
    by : (o : Option Cause) → cause_of m sp l f ≡ o
        → MatchOption o ((s : Slot) × IsSlotFor m sp l f s × (notes ≡ leave_notes l f s)) (λ cause. notes ≡ Kept f cause ∷ [])
        → has_page test (after_notes l notes) ≡ has_page test l
    by None none t =
        ap (λ ns. has_page test (after_notes l ns)) t.2
        ∙ has_page-leaves test l f t.0 ((λ i. sym same i f) ∙ leaves-unlocked m sp l f none)
    by (Some cause) some t = ap (λ ns. has_page test (after_notes l ns)) t ∙ has_page-keep test l f cause

pub has_page-outcomes : (test : Key → Bool) (m : Setting) (sp : Spared) (l : Ledger) (fs : List ℕ) (notes : List Note) → sp.locked ≡ has_page test l
    → Outcomes m sp l fs notes → has_page test (after_notes l notes) ≡ has_page test l
has_page-outcomes test m sp l [] notes same h = ap (λ ns. has_page test (after_notes l ns)) h
has_page-outcomes test m sp l (f ∷ fs) notes same h =
    let one = has_page-outcome test m sp l f h.0 same h.3 in
    ap (λ ns. has_page test (after_notes l ns)) h.2
    ∙ has_page-both test l h.0 h.1 one (has_page-outcomes test m sp (after_notes l h.0) fs h.1 (same ∙ sym one) h.4)
