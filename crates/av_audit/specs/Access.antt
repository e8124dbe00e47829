-- The first line of a unit, and the pages of an access that have addresses.
use Rattle.std.specs.Prelude.{◌≡◌, ℕ, ◌^◌, Bool, if◌then◌else◌, List, MatchBool, map, nat_lt}
use Rattle.std.specs.List.{range_with_len}
use Rattle.av_trace.specs.Print.{text_of, whole_line}
use Rattle.av_trace.specs.Reply.{IsReply}
use Rattle.av_trace.specs.declared.reply.Answer.{Answer}
use Rattle.av_plain.specs.Access.{End, Stopped, Whole}
use Rattle.av_plain.specs.Event.{Event, after_all}
use Rattle.av_plain.specs.Fault.{Denied}
use Rattle.av_plain.specs.Ledger.{Ledger}
use Rattle.av_audit_judge.specs.Notes.{IsCut}
use Rattle.av_audit.specs.Known.{reply_of}

-- the first line of a unit, with its newline, and what is behind it
abbrev pub IsFirstLine : List ℕ → List ℕ → List ℕ → Type 0
IsFirstLine unit first rest = (line : List ℕ) × IsCut 10 unit line rest × (first ≡ whole_line line)

-- n pages from one on, each read or each written
abbrev pub turns_of : Bool → ℕ → ℕ → List (Bool × ℕ)
turns_of write from n = map (λ page. (write, page)) (range_with_len from n)

-- where an access ends that goes up to below a page, by where it ends below the first page that has
-- no address of 64 bits
abbrev pub end_below : ℕ → End → End
end_below end Whole = if nat_lt (2 ^ 52) end then Stopped (2 ^ 52) Denied else Whole
end_below end (Stopped page stop) = Stopped page stop

-- the unit is the text of an answer to lawful events that end so, and the ledger is the one after
-- them
pub record IsTold {X : Type 0} (Lawful : X → List Event → Type 0) (Answers : X → Answer → Type 0)
    (l : Ledger) (unit : List ℕ) (l' : Ledger) : Type 0 where
  pub end : X
  pub events : List Event
  pub answer : Answer
  pub lawful : Lawful end events
  pub answers : Answers end answer
  pub form : IsReply (reply_of answer events)
  pub text : unit ≡ text_of (reply_of answer events)
  pub after : l' ≡ after_all l events

-- so it is; or it is no such text
abbrev pub Tells : {X : Type 0} → (X → List Event → Type 0) → (X → Answer → Type 0) → Ledger
    → List ℕ → Bool → Ledger → Type 0
Tells {X} Lawful Answers l unit legal l' = MatchBool legal (IsTold Lawful Answers l unit l')
    ((end : X) (events : List Event) (answer : Answer) → Lawful end events → Answers end answer
    → IsReply (reply_of answer events) → unit ≡ text_of (reply_of answer events) → ⊥)
