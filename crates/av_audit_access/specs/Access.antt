-- The pages of an access in turn, and where that ends.
use Rattle.std.specs.Prelude.{◌≡◌, ℕ, List, MatchOption, Option}
use Rattle.std.specs.List.{AllByRecursion}
use Rattle.av_trace.specs.Note.{IsNote}
use Rattle.av_trace.specs.Print.{notes_text}
use Rattle.av_plain.specs.Access.{End as PlainEnd, Whole as PlainWhole, Stopped as PlainStopped}
use Rattle.av_plain.specs.Event.{Event, after_all, notes_of}
use Rattle.av_plain.specs.Ledger.{Ledger}
use Rattle.av_audit_access.specs.Come.{stop_of}
use Rattle.av_audit_access.specs.declared.accessing.End.{End}
use Rattle.av_audit_access.specs.declared.accessing.End.TheVariants.{Whole, Stopped}

abbrev pub end_of : End → PlainEnd
end_of Whole = PlainWhole
end_of (Stopped page stop) = PlainStopped page (stop_of stop)

-- the bytes are the notes of lawful events, and the ledger is the one after them
pub record AreTold (Lawful : List Event → Type 0) (l : Ledger) (bytes : List ℕ)
    (l' : Ledger) : Type 0 where
  pub events : List Event
  pub lawful : Lawful events
  pub form : AllByRecursion IsNote (notes_of events)
  pub text : bytes ≡ notes_text (notes_of events)
  pub after : l' ≡ after_all l events

-- so it ends; or the bytes are not the notes of any lawful events
abbrev pub Ends : {X : Type 0} → (X → List Event → Type 0) → Ledger → List ℕ → Option X → Ledger
    → Type 0
Ends {X} Lawful l bytes found l' = MatchOption found
    ((x : X) (events : List Event) → Lawful x events → AllByRecursion IsNote (notes_of events)
    → bytes ≡ notes_text (notes_of events) → ⊥)
    (λ x. AreTold (Lawful x) l bytes l')
