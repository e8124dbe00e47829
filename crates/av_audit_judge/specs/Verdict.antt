-- Whether a unit is legal for a command.
use Rattle.std.specs.Prelude.{◌≡◌, ℕ, Bool, List, MatchBool}
use Rattle.av_trace.specs.declared.command.Command.{Command}
use Rattle.av_trace.specs.declared.reply.Reply.{Reply}
use Rattle.av_trace.specs.Print.{text_of}
use Rattle.av_trace.specs.Reply.{IsReply}
use Rattle.av_plain.specs.Event.{Event, after_all}
use Rattle.av_plain.specs.Ledger.{Ledger, Setting}
use Rattle.av_plain.specs.Step.{IsLegal}
use Rattle.av_plain.specs.World.{World}

-- the unit is the text of a legal reply, and this is the ledger after it
pub record IsLegalUnit (m : Setting) (w : World) (l : Ledger) (command : Command) (unit : List ℕ)
    (l' : Ledger) : Type 0 where
  pub reply : Reply
  pub events : List Event
  pub form : IsReply reply
  pub text : unit ≡ text_of reply
  pub legal : IsLegal m w l command reply events
  pub after : l' ≡ after_all l events

-- yes where the unit is legal, no where it is the text of no legal reply
abbrev pub IsVerdict : Setting → World → Ledger → Command → List ℕ → Bool → Ledger → Type 0
IsVerdict m w l command unit legal l' = MatchBool legal (IsLegalUnit m w l command unit l')
    ((reply : Reply) (events : List Event) → IsReply reply → unit ≡ text_of reply
    → IsLegal m w l command reply events → ⊥)
