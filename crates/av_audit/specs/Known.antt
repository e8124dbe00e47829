-- Units whose reply is known before they are read.
use Rattle.std.specs.Prelude.{◌≡◌, ℕ, Bool, List, [], Option, Some, None}
use Rattle.std.specs.List.{AllByRecursion}
use Rattle.av_base.specs.Page.{address_of}
use Rattle.av_trace.specs.declared.reply.Answer.{Answer}
use Rattle.av_trace.specs.declared.reply.Answer.TheVariants.{MapAt, Refused}
use Rattle.av_trace.specs.declared.reply.Errno.TheVariants.{Enomem}
use Rattle.av_trace.specs.declared.reply.Reply.{Reply}
use Rattle.av_trace.specs.Note.{IsNote}
use Rattle.av_plain.specs.Event.{Event, after_all, notes_of}
use Rattle.av_plain.specs.Ledger.{Ledger}
use Rattle.av_audit_judge.specs.Says.{SaysReply}

-- the reply with this answer that tells these events
abbrev pub reply_of : Answer → List Event → Reply
reply_of answer events = record { answer = answer; notes = notes_of events; rows = [] }

-- whether the unit is the text of that reply, and the ledger after the events
pub record SaysEvents (l : Ledger) (answer : Answer) (events : List Event) (unit : List ℕ)
    (legal : Bool) (l' : Ledger) : Type 0 where
  pub says : SaysReply legal unit (reply_of answer events)
  pub form : AllByRecursion IsNote (notes_of events)
  pub after : l' ≡ after_all l events

-- what is answered where pages stand from a page on then, or that there is no place
abbrev pub map_answer : Option ℕ → Answer
map_answer None = Refused Enomem
map_answer (Some page) = MapAt (address_of page)
