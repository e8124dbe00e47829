-- Notes in front of bytes, as they are read.
use Rattle.std.specs.Prelude.{◌≡◌, ℕ, ◌^◌, ◌<◌, Bool, true, not, ◌&&◌, ◌==◌, List, [], ◌∷◌, ◌++◌}
use Rattle.std.specs.Prelude.{Option}
use Rattle.std.specs.Prelude.{MatchBool, MatchOption}
use Rattle.std.specs.Fmt.{decimal}
use Rattle.av_base.specs.declared.slot.Slot.{Slot}
use Rattle.av_trace.specs.declared.note.Note.{Note}
use Rattle.av_trace.specs.declared.note.Note.TheVariants as notes
use Rattle.av_trace.specs.Note.{slot_text}
use Rattle.av_trace.specs.Print.{notes_text}
use Rattle.av_audit_judge.specs.declared.notes.Taking.{Taking}
use Rattle.av_audit_judge.specs.declared.notes.Taking.TheVariants.{New, Copied, Loaded}

-- no byte of the text is c
abbrev pub lacks : ℕ → List ℕ → Bool
lacks c [] = true
lacks c (b ∷ bytes) = not (b == c) && lacks c bytes

-- bytes that lack c, then c, and the rest
pub record IsCut (c : ℕ) (bytes first rest : List ℕ) : Type 0 where
  pub whole : bytes ≡ first ++ c ∷ rest
  pub alone : lacks c first ≡ true

-- what follows the note, where it stands in front of the bytes
abbrev pub IsTaken : List ℕ → Note → Option (List ℕ) → Type 0
IsTaken bytes note value = MatchOption value
    ((rest : List ℕ) → bytes ≡ notes_text (note ∷ []) ++ rest → ⊥)
    (λ rest. bytes ≡ notes_text (note ∷ []) ++ rest)

-- a number below a bound on a line of its own, and what follows it
abbrev pub IsNumbered : ℕ → List ℕ → Option (ℕ × List ℕ) → Type 0
IsNumbered bound bytes value = MatchOption value
    ((n : ℕ) (rest : List ℕ) → n < bound → bytes ≡ decimal n ++ 10 ∷ rest → ⊥)
    (λ x. (x.0 < bound) × (bytes ≡ decimal x.0 ++ 10 ∷ x.1))

-- a note that is known but for its frame
abbrev pub note_by : Taking → ℕ → Note
note_by (New p a) f = notes.New p a f
note_by (Copied p a) f = notes.Copied p a f
note_by (Loaded s) f = notes.Loaded s f

-- a frame below a bound for which it stands in front of the bytes, and what follows it
abbrev pub IsFramed : ℕ → List ℕ → Taking → Option (ℕ × List ℕ) → Type 0
IsFramed frames bytes taking value = MatchOption value
    ((f : ℕ) (rest : List ℕ) → f < frames → bytes ≡ notes_text (note_by taking f ∷ []) ++ rest → ⊥)
    (λ x. (x.0 < frames) × (bytes ≡ notes_text (note_by taking x.0 ∷ []) ++ x.1))

-- the slot at which the note in front of the bytes puts the frame, and what follows it
abbrev pub IsSlotted : List ℕ → ℕ → Option (Slot × List ℕ) → Type 0
IsSlotted bytes f value = MatchOption value
    ((s : Slot) (rest : List ℕ) → s.area < 256 → s.page < 2 ^ 32
    → bytes ≡ notes_text (notes.Put f s ∷ []) ++ rest → ⊥)
    (λ x. bytes ≡ notes_text (notes.Put f x.0 ∷ []) ++ x.1)

-- a slot on a line of its own, and what follows it
abbrev pub IsSlotLine : List ℕ → Option (Slot × List ℕ) → Type 0
IsSlotLine bytes value = MatchOption value
    ((s : Slot) (rest : List ℕ) → s.area < 256 → s.page < 2 ^ 32
    → bytes ≡ slot_text s ++ 10 ∷ rest → ⊥)
    (λ x. bytes ≡ slot_text x.0 ++ 10 ∷ x.1)

-- the note was taken off; or it didn't stand in front, and all is left
abbrev pub IsOff : List ℕ → Note → Bool → List ℕ → Type 0
IsOff bytes note taken rest = MatchBool taken (bytes ≡ notes_text (note ∷ []) ++ rest)
    ((rest ≡ bytes) × ((more : List ℕ) → bytes ≡ notes_text (note ∷ []) ++ more → ⊥))
