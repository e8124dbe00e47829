-- Frames that are reclaimed or aged, part by part.
use Rattle.std.proofs.Common.{◌≡◌, ℕ, ◌<◌, length, arith, Bool, true, false, Some, None, List, [], ◌∷◌, ◌++◌, map, refl, sym, ap, subst, ◌∙◌}
use Rattle.std.specs.Prelude.{MatchOption}
use Rattle.av_trace.specs.declared.note.Cause.{Cause}
use Rattle.av_trace.specs.declared.note.Note.{Note}
use Rattle.av_trace.specs.declared.note.Note.TheVariants.{Aged, Kept}
use Rattle.av_plain.specs.Event.{after_notes}
use Rattle.av_plain.specs.Ledger.{Ledger, Setting}
use Rattle.av_plain.specs.Pass.{Spared, is_dirty, unmap_notes}
use Rattle.av_plain.specs.Reclaim.{Outcome, Outcomes, cause_of}
use Rattle.av_audit_judge.specs.Finds.{Reads}
use Rattle.av_audit_judge.specs.Pass.{Leaves, Unmaps, behind_of}
use Rattle.av_audit_judge.proofs.Finds.{InParts, InPartsFrom, reads-as, reads-no-first, reads-nothing, reads-then}
use Rattle.av_audit_judge.proofs.PassLaws.{unmaps-tells}
use Rattle.av_audit_laws.proofs.ToldSwap.{outcome-told}

-- notes that are known, and then others
pub both-notes : (a b : List Note) → InParts (λ ns. ns ≡ a ++ b) (λ ns. ns ≡ a) (λ _ ns. ns ≡ b)
both-notes a b = record {
  split = λ ns h. (a, b, refl, refl, h);
  join = λ x y h g i. h i ++ g i;
  told = λ x y u v h g e. h ∙ sym g;
}

pub leaves-parts : (m : Setting) (sp : Spared) (l : Ledger) (f : ℕ)
    → InPartsFrom (Leaves m sp l f) (Unmaps m sp l f) (λ x a ns. ns ≡ behind_of f x.0 x.1)
leaves-parts m sp l f = record {
  split = λ ns h. ((h.0, is_dirty l f h.0), unmap_notes l f h.0, behind_of f h.0 (is_dirty l f h.0), (h.1, refl, refl), refl, h.2);
  join = λ x a b h g. (
    x.0,
    h.0,
    (λ i. h.2 i ++ b) ∙ ap (λ r. unmap_notes l f x.0 ++ r) (g ∙ ap (behind_of f x.0) h.1),
  );
  told = unmaps-tells m sp l f;
}

-- what becomes of a frame, by why it is kept
pub outcome-leaves : (m : Setting) (sp : Spared) (l l' : Ledger) (f : ℕ) (bytes rest : List ℕ) (read : Bool) → None ≡ cause_of m sp l f
    → Reads (Leaves m sp l f) l bytes read l' rest → Reads (Outcome m sp l f) l bytes read l' rest
outcome-leaves m sp l l' f bytes rest read none = reads-as (Leaves m sp l f) (Outcome m sp l f) l l' bytes rest read
    (λ ns h. subst (λ o. MatchOption o (Leaves m sp l f ns) (λ cause. ns ≡ Kept f cause ∷ [])) none h)
    (λ ns h. subst (λ o. MatchOption o (Leaves m sp l f ns) (λ cause. ns ≡ Kept f cause ∷ [])) (sym none) h)

pub outcome-kept : (m : Setting) (sp : Spared) (l l' : Ledger) (f : ℕ) (cause : Cause) (bytes rest : List ℕ) (read : Bool)
    → Some cause ≡ cause_of m sp l f
    → Reads (λ ns. ns ≡ Kept f cause ∷ []) l bytes read l' rest → Reads (Outcome m sp l f) l bytes read l' rest
outcome-kept m sp l l' f cause bytes rest read some = reads-as (λ ns. ns ≡ Kept f cause ∷ []) (Outcome m sp l f) l l' bytes rest read
    (λ ns h. subst (λ o. MatchOption o (Leaves m sp l f ns) (λ cause. ns ≡ Kept f cause ∷ [])) some h)
    (λ ns h. subst (λ o. MatchOption o (Leaves m sp l f ns) (λ cause. ns ≡ Kept f cause ∷ [])) (sym some) h)

pub outcomes-parts : (m : Setting) (sp : Spared) (l : Ledger) (f : ℕ) (fs : List ℕ)
    → InParts (Outcomes m sp l (f ∷ fs)) (Outcome m sp l f) (λ a. Outcomes m sp (after_notes l a) fs)
outcomes-parts m sp l f fs = record {
  split = λ ns h. (h.0, h.1, h.3, h.4, h.2);
  join = λ a b h g. (a, b, refl, h, g);
  told = outcome-told m sp l f;
}

-- what is asked of a frame when it is come to is what was asked at the start
pub outcomes-then : (m : Setting) (now sp : Spared) (l l1 l' : Ledger) (bytes mid rest : List ℕ) (read : Bool) (f : ℕ) (fs : List ℕ) → now ≡ sp
    → Reads (Outcome m now l f) l bytes true l1 mid → Reads (Outcomes m sp l1 fs) l1 mid read l' rest
    → Reads (Outcomes m sp l (f ∷ fs)) l bytes read l' rest
outcomes-then m now sp l l1 l' bytes mid rest read f fs same first later =
    reads-then (Outcomes m sp l (f ∷ fs)) (Outcome m sp l f) (λ a. Outcomes m sp (after_notes l a) fs) l l1 l' bytes mid rest read
    (outcomes-parts m sp l f fs) (subst (λ sp. Reads (Outcome m sp l f) l bytes true l1 mid) same first)
    (λ a g e. subst (λ n. Reads (Outcomes m sp n fs) l1 mid read l' rest) e later)

pub outcomes-not : (m : Setting) (now sp : Spared) (l l1 l' : Ledger) (bytes mid rest : List ℕ) (f : ℕ) (fs : List ℕ) → now ≡ sp
    → Reads (Outcome m now l f) l bytes false l1 mid → Reads (Outcomes m sp l (f ∷ fs)) l bytes false l' rest
outcomes-not m now sp l l1 l' bytes mid rest f fs same none =
    reads-no-first (Outcomes m sp l (f ∷ fs)) (Outcome m sp l f) (λ a. Outcomes m sp (after_notes l a) fs) l l1 l' bytes mid rest
    (outcomes-parts m sp l f fs) (subst (λ sp. Reads (Outcome m sp l f) l bytes false l1 mid) same none)

pub ages-then : (l l1 l' : Ledger) (bytes mid rest : List ℕ) (read : Bool) (f : ℕ) (fs : List ℕ)
    → Reads (λ ns. ns ≡ Aged f ∷ []) l bytes true l1 mid → Reads (λ ns. ns ≡ map Aged fs) l1 mid read l' rest
    → Reads (λ ns. ns ≡ map Aged (f ∷ fs)) l bytes read l' rest
ages-then l l1 l' bytes mid rest read f fs first later =
    reads-then (λ ns. ns ≡ map Aged (f ∷ fs)) (λ ns. ns ≡ Aged f ∷ []) (λ _ ns. ns ≡ map Aged fs) l l1 l' bytes mid rest read
    (both-notes (Aged f ∷ []) (map Aged fs)) first (λ a g e. later)

pub ages-not : (l l1 l' : Ledger) (bytes mid rest : List ℕ) (f : ℕ) (fs : List ℕ)
    → Reads (λ ns. ns ≡ Aged f ∷ []) l bytes false l1 mid → Reads (λ ns. ns ≡ map Aged (f ∷ fs)) l bytes false l' rest
ages-not l l1 l' bytes mid rest f fs none =
    reads-no-first (λ ns. ns ≡ map Aged (f ∷ fs)) (λ ns. ns ≡ Aged f ∷ []) (λ _ ns. ns ≡ map Aged fs) l l1 l' bytes mid rest
    (both-notes (Aged f ∷ []) (map Aged fs)) none

pub outcomes-over : (m : Setting) (sp : Spared) (l : Ledger) (bytes : List ℕ) (fs : List ℕ) → length fs < 1
    → Reads (Outcomes m sp l fs) l bytes true l bytes
outcomes-over m sp l bytes [] h = reads-nothing (Outcomes m sp l []) l bytes refl
outcomes-over m sp l bytes (f ∷ fs) h = absurd (omega (arith, h))

pub ages-over : (l : Ledger) (bytes : List ℕ) (fs : List ℕ) → length fs < 1 → Reads (λ ns. ns ≡ map Aged fs) l bytes true l bytes
ages-over l bytes [] h = reads-nothing (λ ns. ns ≡ map Aged []) l bytes refl
ages-over l bytes (f ∷ fs) h = absurd (omega (arith, h))
