-- Soundness after the commands that move pages to swap areas and back.
pub mod Area
pub mod Empty
use Rattle.std.proofs.Common.{◌≡◌, ℕ, Bool, true, false, cond, not, List, [], ◌∷◌, ◌++◌, map, take, Option, Some, None, is_none, sym, subst, ◌==◌}
use Rattle.std.specs.Prelude.{MatchOption}
use Rattle.av_base.specs.Keys.{Key}
use Rattle.av_base.specs.declared.slot.Slot.{Slot}
use Rattle.av_trace.specs.declared.note.Cause.{Cause}
use Rattle.av_trace.specs.declared.note.Note.{Note}
use Rattle.av_trace.specs.declared.note.Note.TheVariants.{Aged, Dropped, Kept, Put, Started, Unmapped}
use Rattle.av_trace.specs.declared.note.Cause.TheVariants.{WriteStarted}
use Rattle.av_trace.specs.declared.reply.Answer.{Answer}
use Rattle.av_trace.specs.declared.row.Row.{Row}
use Rattle.av_plain.specs.Event.{Event, after_all, after_note, after_notes, note_events, when}
use Rattle.av_plain.specs.Fault.{sparing}
use Rattle.av_plain.specs.Ledger.{Ledger, Setting, map_count, slot_of}
use Rattle.av_plain.specs.Pass.{Completes, IsSlotFor, Spared, is_dirty, unmap_notes}
use Rattle.av_plain.specs.Reclaim.{Ages, CompletesFirst, Outcome, Outcomes, Reclaims, cause_of, from_tail, leave_notes}
use Rattle.av_plain.specs.Sound.{AllSound, AreThere, AreasFit, IsSound}
use Rattle.av_plain.specs.World.{World}
use Rattle.av_plain.proofs.Access.{note_events-all}
use Rattle.av_plain.proofs.Sound.Pages.{AllAt, AllBring, at_page, bring-append, bring-completes, bring-is, bring-when, notes-at}
use Rattle.av_plain.proofs.Sound.Reclaim.{active-ready, ages-kept, inactive-ready, outcomes-kept}
use Rattle.av_plain.proofs.Sound.Steps.{completes-kept}
use Rattle.av_plain.proofs.Sound.There.{AreLawful, fits-notes, lawful-append, lawful-completes, lawful-is, lawful-unmap, there-notes}

-- what holds of the ledger, where the memories stay
pub record Holds (m : Setting) (w : World) (l : Ledger) : Type 0 where
  pub sound : IsSound m l
  pub at : AllAt (at_page w) l
  pub there : AreThere m l
  pub fits : AreasFit m l

pub of-sound : (m : Setting) (w : World) (l : Ledger) → AllSound m w l → Holds m w l
of-sound m w l s = record { sound = s.ledger; at = λ k h. s.at_pages k.0 k.1 h; there = s.in_areas; fits = s.areas_fit }

pub to-sound : (m : Setting) (w : World) (l l' : Ledger) → AllSound m w l → Holds m w l' → AllSound m w l'
to-sound m w l l' s h = record {
  world = s.world;
  ledger = h.sound;
  at_pages = λ p page i. h.at (p, page) i;
  in_areas = h.there;
  areas_fit = h.fits;
}

-- after lawful notes that bring entries to mapped pages alone
pub notes-hold : (m : Setting) (w : World) (closing : Option ℕ) (l : Ledger) (notes : List Note) → Holds m w l → IsSound m (after_notes l notes) →
    AllBring (at_page w) notes → AreLawful m closing l notes → Holds m w (after_notes l notes)
notes-hold m w closing l notes h sound brings lawful = record {
  sound = sound;
  at = notes-at (at_page w) l notes brings h.at;
  there = there-notes m closing l notes h.sound lawful h.there;
  fits = fits-notes m closing l notes h.sound lawful h.fits;
}

-- and so for a command whose events are notes
pub noted-sound : (m : Setting) (w : World) (l : Ledger) (notes : List Note) (events : List Event) → AllSound m w l
    → Holds m w (after_notes l notes) →
    events ≡ note_events notes → AllSound m w (after_all l events)
noted-sound m w l notes events s h e = subst (λ es. AllSound m w (after_all l es)) (sym e)
    (subst (AllSound m w) (sym (note_events-all l notes)) (to-sound m w l (after_notes l notes) s h))

-- ---- reclaim

bring-unmap : (test : Key → Bool) (l : Ledger) (f : ℕ) (t : Slot) → AllBring test (unmap_notes l f t)
bring-unmap test l f t = bring-append test (when (is_none (slot_of l f)) (Put f t)) (when (not (map_count l f == 0)) (Unmapped f))
    (bring-when test (is_none (slot_of l f)) (Put f t) tt) (bring-when test (not (map_count l f == 0)) (Unmapped f) tt)

bring-leave : (test : Key → Bool) (l : Ledger) (f : ℕ) (t : Slot) → AllBring test (leave_notes l f t)
bring-leave test l f t = bring-append test (unmap_notes l f t) (cond (is_dirty l f t) (Started t ∷ Kept f WriteStarted ∷ []) (Dropped t ∷ []))
    (bring-unmap test l f t) (by (is_dirty l f t))
  where
    by : (b : Bool) → AllBring test (cond b (Started t ∷ Kept f WriteStarted ∷ []) (Dropped t ∷ []))
    by true = (tt, (tt, tt))
    by false = (tt, tt)

pub bring-outcome : (test : Key → Bool) (m : Setting) (sp : Spared) (l : Ledger) (f : ℕ) (notes : List Note) → Outcome m sp l f notes
    → AllBring test notes
bring-outcome test m sp l f notes h = by (cause_of m sp l f) h
  where
    by : (o : Option Cause) → MatchOption o ((t : Slot) × IsSlotFor m sp l f t × (notes ≡ leave_notes l f t)) (λ cause. notes ≡ Kept f cause ∷ []) →
        AllBring test notes
    by None q = bring-is test notes (leave_notes l f q.0) q.2 (bring-leave test l f q.0)
    by (Some cause) q = bring-is test notes (Kept f cause ∷ []) q (tt, tt)

pub bring-outcomes : (test : Key → Bool) (m : Setting) (sp : Spared) (l : Ledger) (fs : List ℕ) (notes : List Note) → Outcomes m sp l fs notes →
    AllBring test notes
bring-outcomes test m sp l [] notes h = bring-is test notes [] h tt
bring-outcomes test m sp l (f ∷ fs) notes h = bring-is test notes (h.0 ++ h.1) h.2
    (bring-append test h.0 h.1 (bring-outcome test m sp l f h.0 h.3) (bring-outcomes test m sp (after_notes l h.0) fs h.1 h.4))

lawful-leave : (m : Setting) (sp : Spared) (l : Ledger) (f : ℕ) (t : Slot) → IsSlotFor m sp l f t → AreLawful m sp.closing l (leave_notes l f t)
lawful-leave m sp l f t for =
    lawful-append m sp.closing l (unmap_notes l f t) (cond (is_dirty l f t) (Started t ∷ Kept f WriteStarted ∷ []) (Dropped t ∷ []))
    (lawful-unmap m sp l f t for) (by (after_notes l (unmap_notes l f t)) (is_dirty l f t))
  where
    by : (l' : Ledger) (b : Bool) → AreLawful m sp.closing l' (cond b (Started t ∷ Kept f WriteStarted ∷ []) (Dropped t ∷ []))
    by l' true = (tt, (tt, tt))
    by l' false = (tt, tt)

lawful-outcome : (m : Setting) (sp : Spared) (l : Ledger) (f : ℕ) (notes : List Note) → Outcome m sp l f notes → AreLawful m sp.closing l notes
lawful-outcome m sp l f notes h = by (cause_of m sp l f) h
  where
    by : (o : Option Cause) → MatchOption o ((t : Slot) × IsSlotFor m sp l f t × (notes ≡ leave_notes l f t)) (λ cause. notes ≡ Kept f cause ∷ []) →
        AreLawful m sp.closing l notes
    by None q = lawful-is m sp.closing l notes (leave_notes l f q.0) q.2 (lawful-leave m sp l f q.0 q.1)
    by (Some cause) q = lawful-is m sp.closing l notes (Kept f cause ∷ []) q (tt, tt)

pub lawful-outcomes : (m : Setting) (sp : Spared) (l : Ledger) (fs : List ℕ) (notes : List Note) → Outcomes m sp l fs notes
    → AreLawful m sp.closing l notes
lawful-outcomes m sp l [] notes h = lawful-is m sp.closing l notes [] h tt
lawful-outcomes m sp l (f ∷ fs) notes h = lawful-is m sp.closing l notes (h.0 ++ h.1) h.2
    (lawful-append m sp.closing l h.0 h.1 (lawful-outcome m sp l f h.0 h.3) (lawful-outcomes m sp (after_notes l h.0) fs h.1 h.4))

pub reclaim-sound : (m : Setting) (w : World) (l : Ledger) (n : ℕ) (events : List Event) (answer : Answer) (rows : List Row) → AllSound m w l →
    Reclaims m w l n events answer rows → AllSound m w (after_all l events)
reclaim-sound m w l n events answer rows s h =
    let sp = sparing w l None in
    let fs = from_tail n l.inactive in
    noted-sound m w l h.0 events s
    (notes-hold m w sp.closing l h.0 (of-sound m w l s) (outcomes-kept m sp l fs h.0 s.ledger (inactive-ready m l n s.ledger) h.1)
    (bring-outcomes (at_page w) m sp l fs h.0 h.1) (lawful-outcomes m sp l fs h.0 h.1)) h.3

-- ---- age and complete

pub bring-ages : (test : Key → Bool) (fs : List ℕ) → AllBring test (map Aged fs)
bring-ages test [] = tt
bring-ages test (f ∷ fs) = (tt, bring-ages test fs)

pub lawful-ages : (m : Setting) (l : Ledger) (fs : List ℕ) → AreLawful m None l (map Aged fs)
lawful-ages m l [] = tt
lawful-ages m l (f ∷ fs) = (tt, lawful-ages m (after_note (Aged f) l) fs)

pub age-sound : (m : Setting) (w : World) (l : Ledger) (n : ℕ) (events : List Event) (answer : Answer) (rows : List Row) → AllSound m w l →
    Ages l n events answer rows → AllSound m w (after_all l events)
age-sound m w l n events answer rows s h =
    let fs = from_tail n l.active in
    noted-sound m w l (map Aged fs) events s
    (notes-hold m w None l (map Aged fs) (of-sound m w l s) (ages-kept m l fs s.ledger (active-ready m l n s.ledger)) (bring-ages (at_page w) fs)
    (lawful-ages m l fs)) h.1

-- writes that end
pub completes-hold : (m : Setting) (w : World) (l : Ledger) (ts : List Slot) (notes : List Note) → Holds m w l → Completes l ts notes →
    Holds m w (after_notes l notes)
completes-hold m w l ts notes h c =
    let sp = sparing w l None in
    notes-hold m w sp.closing l notes h (completes-kept m l ts notes h.sound c).sound (bring-completes (at_page w) l ts notes c)
    (lawful-completes m sp l ts notes c)

pub complete-sound : (m : Setting) (w : World) (l : Ledger) (n : ℕ) (events : List Event) (answer : Answer) (rows : List Row) → AllSound m w l →
    CompletesFirst l n events answer rows → AllSound m w (after_all l events)
complete-sound m w l n events answer rows s h = noted-sound m w l h.0 events s (completes-hold m w l (take n l.flight) h.0 (of-sound m w l s) h.1) h.3
