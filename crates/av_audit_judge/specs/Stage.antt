-- What is read of a page that may stop: its notes, and then the unit goes on; or it ends there.
use Rattle.std.proofs.Common.{inl, inr}
use Rattle.std.specs.Prelude.{◌⊎◌, ℕ, List, [], Option, Some, None}
use Rattle.av_trace.specs.declared.note.Note.{Note}
use Rattle.av_plain.specs.Ledger.{Ledger}
use Rattle.av_audit_judge.specs.Finds.{IsFound, Stand}

-- neither do notes stand in front that go on, nor is all that is left the notes of a stop
pub record IsNeither {X S : Type 0} (Goes : X → List Note → Type 0) (Stops : S → List Note → Type 0)
    (bytes : List ℕ) : Type 0 where
  pub goes : (x : X) (notes : List Note) (rest : List ℕ) → Goes x notes → Stand bytes notes rest → ⊥
  pub stops : (s : S) (notes : List Note) → Stops s notes → Stand bytes notes [] → ⊥

-- notes that go on, or those of a stop with nothing behind them; or neither
abbrev pub Meets : {X S : Type 0} → (X → List Note → Type 0) → (S → List Note → Type 0)
    → Ledger → List ℕ → Option (X ⊎ S) → Ledger → List ℕ → Type 0
Meets Goes Stops l bytes None l' rest = IsNeither Goes Stops bytes
Meets Goes Stops l bytes (Some (inl x)) l' rest = IsFound (Goes x) l bytes l' rest
Meets Goes Stops l bytes (Some (inr s)) l' rest = IsFound (Stops s) l bytes l' []
