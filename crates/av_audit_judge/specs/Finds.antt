-- Notes in front of the bytes of a unit, and what is read where some notes are lawful there.
use Rattle.std.specs.Prelude.{◌≡◌, ℕ, Bool, List, ◌++◌, MatchBool, MatchOption, Option}
use Rattle.std.specs.List.{AllByRecursion}
use Rattle.av_trace.specs.declared.note.Note.{Note}
use Rattle.av_trace.specs.Note.{IsNote}
use Rattle.av_trace.specs.Print.{notes_text}
use Rattle.av_plain.specs.Event.{after_notes}
use Rattle.av_plain.specs.Ledger.{Ledger}

-- these notes stand in front of the bytes, and this follows them
pub record Stand (bytes : List ℕ) (notes : List Note) (rest : List ℕ) : Type 0 where
  pub form : AllByRecursion IsNote notes
  pub text : bytes ≡ notes_text notes ++ rest

-- notes stand there that are lawful, and the ledger is the one after them
pub record IsFound (Lawful : List Note → Type 0) (l : Ledger) (bytes : List ℕ) (l' : Ledger)
    (rest : List ℕ) : Type 0 where
  pub notes : List Note
  pub lawful : Lawful notes
  pub stand : Stand bytes notes rest
  pub after : l' ≡ after_notes l notes

-- lawful notes are read in front of the bytes; or not, and none stand there
abbrev pub Reads : (List Note → Type 0) → Ledger → List ℕ → Bool → Ledger → List ℕ → Type 0
Reads Lawful l bytes read l' rest = MatchBool read (IsFound Lawful l bytes l' rest)
    ((notes : List Note) (rest : List ℕ) → Lawful notes → Stand bytes notes rest → ⊥)

-- the same, of notes that say a value
abbrev pub Gets : {X : Type 0} → (X → List Note → Type 0) → Ledger → List ℕ → Option X → Ledger
    → List ℕ → Type 0
Gets {X} Lawful l bytes value l' rest = MatchOption value
    ((x : X) (notes : List Note) (rest : List ℕ) → Lawful x notes → Stand bytes notes rest → ⊥)
    (λ x. IsFound (Lawful x) l bytes l' rest)
