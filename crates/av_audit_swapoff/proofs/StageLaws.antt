-- Notes that are read to their end, in two stages.
use Rattle.std.proofs.Common.{◌≡◌, ◌⊎◌, inl, inr, ℕ, Option, Some, None, List, option_map}
use Rattle.av_trace.specs.declared.note.Note.{Note}
use Rattle.av_plain.specs.Event.{after_notes}
use Rattle.av_plain.specs.Ledger.{Ledger}
use Rattle.av_audit_judge.specs.Stage.{Meets}
use Rattle.av_audit_judge.proofs.StageLaws.{InStages, meets-halt, meets-neither, meets-then}
use Rattle.av_audit_swapoff.specs.Close.{IsWhole}

abbrev pub Never : Unit {0} → List Note → Type 0
Never u notes = ⊥

-- the end that is met, if one is
abbrev pub ended : {S : Type 0} → Option S → Option (Unit {0} ⊎ S)
ended found = option_map inr found

to-meets : {S : Type 0} (Lawful : S → List Note → Type 0) (l l' : Ledger) (bytes rest : List ℕ) (found : Option S)
    → IsWhole Lawful l bytes found l' → Meets Never Lawful l bytes (ended found) l' rest
to-meets Lawful l l' bytes rest None h = record { goes = λ u ns more g st. g; stops = h }
to-meets Lawful l l' bytes rest (Some s) h = h

of-meets : {S : Type 0} (Lawful : S → List Note → Type 0) (l l' : Ledger) (bytes rest : List ℕ) (found : Option S)
    → Meets Never Lawful l bytes (ended found) l' rest → IsWhole Lawful l bytes found l'
of-meets Lawful l l' bytes rest None h = h.stops
of-meets Lawful l l' bytes rest (Some s) h = h

module _ {X S : Type 0} (Stops : S → List Note → Type 0) (First : X → List Note → Type 0) (Halts : S → List Note → Type 0)
    (Ends : X → List Note → S → List Note → Type 0)
    (p : InStages {Y = Unit {0}} Never Stops First Halts (λ x a. Never) Ends) where
  -- nothing of the first stage stands there
  pub whole-neither : (l l1 l' : Ledger) (bytes mid : List ℕ) → Meets First Halts l bytes None l1 mid → IsWhole Stops l bytes None l'
  whole-neither l l1 l' bytes mid h =
      of-meets Stops l l' bytes mid None (meets-neither Never Stops First Halts (λ x a. Never) Ends p l l1 l' bytes mid mid h)

  -- it ends there
  pub whole-halt : (l l' : Ledger) (bytes mid : List ℕ) (s : S) → Meets First Halts l bytes (Some (inr s)) l' mid
      → IsWhole Stops l bytes (Some s) l'
  whole-halt l l' bytes mid s h =
      of-meets Stops l l' bytes mid (Some s) (meets-halt Never Stops First Halts (λ x a. Never) Ends p l l' bytes mid mid s h)

  -- or it goes on, and ends behind it
  pub whole-then : (l l1 l' : Ledger) (bytes mid : List ℕ) (x : X) (found : Option S) → Meets First Halts l bytes (Some (inl x)) l1 mid
      → ((a : List Note) → First x a → l1 ≡ after_notes l a → IsWhole (Ends x a) l1 mid found l') → IsWhole Stops l bytes found l'
  whole-then l l1 l' bytes mid x found first second =
      of-meets Stops l l' bytes mid found (meets-then Never Stops First Halts (λ x a. Never) Ends p l l1 l' bytes mid mid x (ended found) first
      (λ a h e. to-meets (Ends x a) l1 l' mid mid found (second a h e)))
