-- The notes of an area that is turned off, all of them.
use Rattle.std.specs.Prelude.{◌≡◌, ℕ, List, [], ◌++◌, MatchOption, Option}
use Rattle.av_trace.specs.declared.note.Note.{Note}
use Rattle.av_plain.specs.Event.{after_notes}
use Rattle.av_plain.specs.Ledger.{Ledger, Setting}
use Rattle.av_plain.specs.Pass.{Completes}
use Rattle.av_plain.specs.Swapoff.{Close as PlainClose, Closed as PlainClosed, Empties}
use Rattle.av_plain.specs.Swapoff.{NoRoom as PlainNoRoom, Unread as PlainUnread}
use Rattle.av_plain.specs.World.{World}
use Rattle.av_audit_judge.specs.Finds.{IsFound, Stand}
use Rattle.av_audit_swapoff.specs.declared.closing.Close.{Close}
use Rattle.av_audit_swapoff.specs.declared.closing.Close.TheVariants.{Closed, NoRoom, Unread}

abbrev pub close_of : Close → PlainClose
close_of Closed = PlainClosed
close_of (NoRoom out) = PlainNoRoom out
close_of Unread = PlainUnread

-- all of the bytes are lawful notes that say a value; or they aren't, whatever the value
abbrev pub IsWhole : {X : Type 0} → (X → List Note → Type 0) → Ledger → List ℕ → Option X → Ledger
    → Type 0
IsWhole {X} Lawful l bytes found l' = MatchOption found
    ((x : X) (notes : List Note) → Lawful x notes → Stand bytes notes [] → ⊥)
    (λ x. IsFound (Lawful x) l bytes l' [])

-- slots of the area are emptied, up to this end
abbrev pub AreEmptied : Setting → World → ℕ → Ledger → PlainClose → List Note → Type 0
AreEmptied m w k l end notes = (pages : List ℕ) × Empties m w k l pages notes end

-- and all of flight completes before
abbrev pub Closes : Setting → World → ℕ → Ledger → PlainClose → List Note → Type 0
Closes m w k l end notes = (done : List Note) × (emptied : List Note) × Completes l l.flight done
    × AreEmptied m w k (after_notes l done) end emptied × (notes ≡ done ++ emptied)
