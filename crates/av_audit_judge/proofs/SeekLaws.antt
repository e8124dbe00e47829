-- A pass, and what comes before a frame is taken.
use Rattle.std.proofs.Common.{◌≡◌, ℕ, Bool, true, false, List, [], ◌∷◌, ◌++◌, refl, sym, ap, subst, ◌∙◌}
use Rattle.std.specs.Prelude.{MatchBool}
use Rattle.av_trace.specs.declared.note.Note.{Note}
use Rattle.av_plain.specs.Event.{after_notes}
use Rattle.av_plain.specs.Ledger.{Ledger, Setting, has_free}
use Rattle.av_plain.specs.Pass.{Completes, IsPass, Seeks, Spared, Turns, frames_in_turn}
use Rattle.std.specs.List.{AllByRecursion}
use Rattle.av_trace.specs.Note.{IsNote}
use Rattle.av_trace.specs.Print.{notes_text}
use Rattle.av_plain.specs.Ledger.{is_free}
use Rattle.av_audit_judge.specs.Finds.{Reads, Stand}
use Rattle.av_audit_judge.specs.Notes.{note_by}
use Rattle.av_audit_judge.specs.Pass.{IsTakenFree}
use Rattle.av_audit_judge.specs.declared.notes.Taking.{Taking}
use Rattle.av_audit_judge.specs.declared.notes.Taking.TheVariants.{New, Copied, Loaded}
use Rattle.av_audit_judge.proofs.Finds.{InParts, first-one, reads-as, reads-nothing, text-cons}
use Rattle.av_audit_laws.proofs.ToldPass.{completes-told}

-- where a frame is free already, nothing more
abbrev pub AreTurnsAt : Setting → Spared → Ledger → List Note → Type 0
AreTurnsAt m sp now ns = MatchBool (has_free m now) (ns ≡ []) (Turns m sp now (frames_in_turn sp now) ns)

pub pass-parts : (m : Setting) (sp : Spared) (l : Ledger)
    → InParts (IsPass m sp l) (Completes l l.flight) (λ a. AreTurnsAt m sp (after_notes l a))
pass-parts m sp l = record {
  split = λ ns h. (h.0, h.1, h.3, h.4, h.2);
  join = λ a b h g. (a, b, refl, h, g);
  told = completes-told l l.flight;
}

pub no-turns : (m : Setting) (sp : Spared) (l : Ledger) (bytes : List ℕ) → has_free m l ≡ true
    → Reads (AreTurnsAt m sp l) l bytes true l bytes
no-turns m sp l bytes free = reads-nothing (AreTurnsAt m sp l) l bytes
    (subst (λ b. MatchBool b (◌≡◌ {A = List Note} [] []) (Turns m sp l (frames_in_turn sp l) [])) (sym free) refl)

pub some-turns : (m : Setting) (sp : Spared) (l l' : Ledger) (bytes rest : List ℕ) (read : Bool) → has_free m l ≡ false
    → Reads (Turns m sp l (frames_in_turn sp l)) l bytes read l' rest → Reads (AreTurnsAt m sp l) l bytes read l' rest
some-turns m sp l l' bytes rest read none = reads-as (Turns m sp l (frames_in_turn sp l)) (AreTurnsAt m sp l) l l' bytes rest read
    (λ ns h. subst (λ b. MatchBool b (ns ≡ []) (Turns m sp l (frames_in_turn sp l) ns)) (sym none) h)
    (λ ns h. subst (λ b. MatchBool b (ns ≡ []) (Turns m sp l (frames_in_turn sp l) ns)) none h)

pub seeks-nothing : (m : Setting) (sp : Spared) (l : Ledger) (bytes : List ℕ) → has_free m l ≡ true
    → Reads (Seeks m sp l) l bytes true l bytes
seeks-nothing m sp l bytes free = reads-nothing (Seeks m sp l) l bytes
    (subst (λ b. MatchBool b (◌≡◌ {A = List Note} [] []) (IsPass m sp l [])) (sym free) refl)

pub seeks-pass : (m : Setting) (sp : Spared) (l l' : Ledger) (bytes rest : List ℕ) (read : Bool) → has_free m l ≡ false
    → Reads (IsPass m sp l) l bytes read l' rest → Reads (Seeks m sp l) l bytes read l' rest
seeks-pass m sp l l' bytes rest read none = reads-as (IsPass m sp l) (Seeks m sp l) l l' bytes rest read
    (λ ns h. subst (λ b. MatchBool b (ns ≡ []) (IsPass m sp l ns)) (sym none) h)
    (λ ns h. subst (λ b. MatchBool b (ns ≡ []) (IsPass m sp l ns)) none h)

-- ---- a frame that is taken

-- another frame than a free one
pub take-other : (m : Setting) (l : Ledger) (t : Taking) (bytes more : List ℕ) (f : ℕ) → IsNote (note_by t f)
    → bytes ≡ notes_text (note_by t f ∷ []) ++ more → is_free l f ≡ false
    → (g : ℕ) (ns : List Note) (rest : List ℕ) → IsTakenFree m l t g ns → Stand bytes ns rest → ⊥
take-other m l t bytes more f fits is in_use g ns rest h st =
    let form = subst (AllByRecursion IsNote) h.2 st.form in
    let one = first-one (note_by t f) (note_by t g) more rest fits form.0
    (sym (text-cons (note_by t f) [] more) ∙ sym is ∙ st.text ∙ ap (λ n. notes_text n ++ rest) h.2 ∙ text-cons (note_by t g) [] rest) in
    differ (is_free l g) h.1 (ap (is_free l) (sym (same t one.0)) ∙ in_use)
  where
    same : (t : Taking) → note_by t f ≡ note_by t g → f ≡ g
    same (New p a) e = cc
    same (Copied p a) e = cc
    same (Loaded s) e = cc

    differ : (b : Bool) → b ≡ true → b ≡ false → ⊥
    differ b h g = cc
