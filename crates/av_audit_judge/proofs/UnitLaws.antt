-- One note that is known, as it is read.
use Rattle.std.proofs.Common.{◌≡◌, ℕ, true, false, List, [], ◌∷◌, ◌++◌, refl, ap, ◌∙◌}
use Rattle.av_trace.specs.declared.note.Note.{Note}
use Rattle.av_trace.specs.Note.{IsNote}
use Rattle.av_trace.specs.Print.{notes_text}
use Rattle.av_plain.specs.Event.{after_note}
use Rattle.av_plain.specs.Ledger.{Ledger}
use Rattle.av_audit_judge.specs.Finds.{Reads}
use Rattle.av_audit_judge.specs.Notes.{IsOff}

pub read-off : (n : Note) (l l' : Ledger) (bytes rest : List ℕ) → IsNote n → IsOff bytes n true rest → l' ≡ after_note n l
    → Reads (λ ns. ns ≡ n ∷ []) l bytes true l' rest
read-off n l l' bytes rest fits off e = record {
  notes = n ∷ [];
  lawful = refl;
  stand = record { form = (fits, tt); text = off };
  after = e;
}

pub read-none : (n : Note) (l l' : Ledger) (bytes rest more : List ℕ) → IsOff bytes n false rest
    → Reads (λ ns. ns ≡ n ∷ []) l bytes false l' more
read-none n l l' bytes rest more off notes other e s = off.1 other (s.text ∙ ap (λ ns. notes_text ns ++ other) e)
