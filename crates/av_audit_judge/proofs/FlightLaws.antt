-- Writes in flight that end.
use Rattle.std.proofs.Common.{◌≡◌, ℕ, ◌<◌, length, arith, Bool, true, false, None, List, [], ◌∷◌, ◌++◌, refl, sym, ap, subst, ◌∙◌}
use Rattle.av_base.specs.declared.slot.Slot.{Slot}
use Rattle.av_trace.specs.declared.note.Note.{Note}
use Rattle.av_trace.specs.declared.note.Note.TheVariants.{Written, Failed, Dropped}
use Rattle.av_plain.specs.Event.{after_note, after_notes, when}
use Rattle.av_plain.specs.Ledger.{Ledger, is_orphan}
use Rattle.av_plain.specs.Pass.{Completes, end_note, end_notes}
use Rattle.av_audit_judge.specs.Finds.{Gets, Reads, Stand}
use Rattle.av_audit_judge.specs.Flight.{AreEndNotes, IsEnd}
use Rattle.av_audit_judge.proofs.Finds.{InParts, InPartsFrom, TellsValue, Told, reads-no-first, reads-nothing, reads-then}
use Rattle.av_audit_laws.proofs.ToldPass.{head-of}

-- ---- one end

pub end-neither : (l : Ledger) (bytes : List ℕ) (s : Slot) (l1 l2 l' : Ledger) (mid more rest : List ℕ)
    → Reads (λ ns. ns ≡ Written s ∷ []) l bytes false l1 mid
    → Reads (λ ns. ns ≡ Failed s ∷ []) l bytes false l2 more → Gets (IsEnd s) l bytes None l' rest
end-neither l bytes s l1 l2 l' mid more rest none none' = by
  where
    by : (failed : Bool) (notes : List Note) (more : List ℕ) → notes ≡ end_note failed s ∷ [] → Stand bytes notes more → ⊥
    by true notes more e st = none' notes more e st
    by false notes more e st = none notes more e st

end-told : (s : Slot) (failed other : Bool) → end_note failed s ≡ end_note other s → failed ≡ other
end-told s true true e = refl
end-told s true false e = cc
end-told s false true e = cc
end-told s false false e = refl

pub end-tells : (s : Slot) → TellsValue (IsEnd s)
end-tells s failed other a b x y h g e =
    let same = end-told s failed other (head-of (sym (λ i. h i ++ x) ∙ e ∙ (λ i. g i ++ y))) in
    (same, h ∙ ap (λ f. end_note f s ∷ []) same ∙ sym g)

-- ---- and a drop

pub end-drop : (l : Ledger) (s : Slot)
    → InPartsFrom (AreEndNotes l s) (IsEnd s) (λ failed a ns. ns ≡ when (is_orphan (after_notes l a) s) (Dropped s))
end-drop l s = record {
  split = λ ns h. (h.0, end_note h.0 s ∷ [], when (is_orphan (after_note (end_note h.0 s) l) s) (Dropped s), refl, refl, h.1);
  join = λ failed a b h g. (failed, (λ i. h i ++ b) ∙ ap (λ r. end_note failed s ∷ r) (g ∙ ap (λ a. when (is_orphan (after_notes l a) s) (Dropped s)) h));
  told = end-tells s;
}

-- ---- all

ends-told : (l : Ledger) (s : Slot) → Told (AreEndNotes l s)
ends-told l s a b x y h g e =
    h.1 ∙ ap (end_notes l s) (end-told s h.0 g.0 (head-of (sym (λ i. h.1 i ++ x) ∙ e ∙ (λ i. g.1 i ++ y)))) ∙ sym g.1

pub completes-parts : (l : Ledger) (s : Slot) (ss : List Slot)
    → InParts (Completes l (s ∷ ss)) (AreEndNotes l s) (λ a. Completes (after_notes l a) ss)
completes-parts l s ss = record {
  split = λ ns h. (end_notes l s h.0, h.1, (h.0, refl), h.3, h.2);
  join = λ a b h g. (h.0, b, (λ i. h.1 i ++ b), subst (λ a. Completes (after_notes l a) ss b) h.1 g);
  told = ends-told l s;
}

pub completes-then : (l l1 l' : Ledger) (bytes mid rest : List ℕ) (read : Bool) (s : Slot) (ss : List Slot)
    → Reads (AreEndNotes l s) l bytes true l1 mid → Reads (Completes l1 ss) l1 mid read l' rest
    → Reads (Completes l (s ∷ ss)) l bytes read l' rest
completes-then l l1 l' bytes mid rest read s ss first later =
    reads-then (Completes l (s ∷ ss)) (AreEndNotes l s) (λ a. Completes (after_notes l a) ss) l l1 l' bytes mid rest read
    (completes-parts l s ss) first (λ a f e. subst (λ n. Reads (Completes n ss) l1 mid read l' rest) e later)

pub completes-not : (l l1 l' : Ledger) (bytes mid rest : List ℕ) (s : Slot) (ss : List Slot)
    → Reads (AreEndNotes l s) l bytes false l1 mid → Reads (Completes l (s ∷ ss)) l bytes false l' rest
completes-not l l1 l' bytes mid rest s ss none =
    reads-no-first (Completes l (s ∷ ss)) (AreEndNotes l s) (λ a. Completes (after_notes l a) ss) l l1 l' bytes mid rest
    (completes-parts l s ss) none

pub completes-over : (l : Ledger) (bytes : List ℕ) (ss : List Slot) → length ss < 1 → Reads (Completes l ss) l bytes true l bytes
completes-over l bytes [] h = reads-nothing (Completes l []) l bytes refl
completes-over l bytes (s ∷ ss) h = absurd (omega (arith, h))
