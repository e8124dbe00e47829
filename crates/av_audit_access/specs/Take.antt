-- How a frame may be taken for a page.
use Rattle.std.proofs.Common.{inl, inr}
use Rattle.std.specs.Prelude.{◌≡◌, ◌⊎◌, ℕ, false, List, [], ◌++◌, Option, Some, None}
use Rattle.av_trace.specs.declared.note.Note.{Note}
use Rattle.av_trace.specs.declared.reply.OutOf.{OutOf}
use Rattle.av_plain.specs.Event.{after_notes}
use Rattle.av_plain.specs.Ledger.{Ledger, Setting, has_free}
use Rattle.av_plain.specs.Pass.{Seeks, Spared, TakesFor, out_of}
use Rattle.av_audit_judge.specs.Notes.{note_by}
use Rattle.av_audit_judge.specs.Pass.{IsTakenFree}
use Rattle.av_audit_judge.specs.declared.notes.Taking.{Taking}
use Rattle.av_audit_access.specs.declared.making.Making.{Making}
use Rattle.av_audit_access.specs.declared.making.Making.TheVariants.{Made, Starved as MakesNone}
use Rattle.av_audit_access.specs.declared.taking.Take.{Take}
use Rattle.av_audit_access.specs.declared.taking.Take.TheVariants.{Taken, Starved}

-- a frame is taken, or none can be
abbrev pub take_of : Option Take → Option (ℕ ⊎ Unit {0})
take_of None = None
take_of (Some (Taken f)) = Some (inl f)
take_of (Some Starved) = Some (inr tt)

-- no frame is free, and no note follows
abbrev pub IsNoneFree : Setting → Ledger → Unit {0} → List Note → Type 0
IsNoneFree m l u notes = (has_free m l ≡ false) × (notes ≡ [])

-- a frame is taken, behind the pass if there is one
abbrev pub AreTaken : Setting → Spared → Ledger → Taking → ℕ → List Note → Type 0
AreTaken m spared l taking f notes = (sought : List Note) × (taken : List Note)
    × Seeks m spared l sought × IsTakenFree m (after_notes l sought) taking f taken
    × (notes ≡ sought ++ taken)

-- the pass freed none
abbrev pub IsStarved : Setting → Spared → Ledger → Unit {0} → List Note → Type 0
IsStarved m spared l u notes =
    Seeks m spared l notes × (has_free m (after_notes l notes) ≡ false)

-- a page is made, or there is no frame for it, with these numbers
abbrev pub making_of : Option Making → Option (Unit {0} ⊎ OutOf)
making_of None = None
making_of (Some Made) = Some (inl tt)
making_of (Some (MakesNone out)) = Some (inr out)

-- a frame is taken for a page
abbrev pub MakesFrame : Setting → Spared → Ledger → Taking → Unit {0} → List Note → Type 0
MakesFrame m spared l taking u notes = TakesFor m spared l notes (note_by taking)

-- the pass freed none, and these are the numbers
abbrev pub HasNoFrame : Setting → Spared → Ledger → OutOf → List Note → Type 0
HasNoFrame m spared l out notes = Seeks m spared l notes
    × (has_free m (after_notes l notes) ≡ false) × (out ≡ out_of m spared (after_notes l notes))
