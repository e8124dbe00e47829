-- Commands that leave no choice: their reply is known before it is read.
use Rattle.std.proofs.Common.{◌≡◌, ℕ, Bool, true, false, None, List, ap, refl, sym, subst, ◌∙◌}
use Rattle.std.specs.Prelude.{MatchOption}
use Rattle.av_base.specs.Page.{page_of, pages_of}
use Rattle.av_trace.specs.declared.command.Command.{Command}
use Rattle.av_trace.specs.declared.command.Command.TheVariants.{Exit, Munmap}
use Rattle.av_trace.specs.declared.reply.Answer.{Answer}
use Rattle.av_trace.specs.declared.reply.Reply.{Reply}
use Rattle.av_trace.specs.declared.row.Row.{Row}
use Rattle.av_trace.specs.Print.{text_of}
use Rattle.av_trace.specs.Reply.{IsReply}
use Rattle.av_plain.specs.Event.{Event, after_all, notes_of}
use Rattle.av_plain.specs.Ledger.{Ledger, Setting}
use Rattle.av_plain.specs.Refusal.{Refuses, refusal, tests}
use Rattle.av_plain.specs.Step.{Follows, IsLegal}
use Rattle.av_plain.specs.World.{World}
use Rattle.av_plain.specs.Zap.{keys_in, keys_of_process, zaps_of}
use Rattle.av_audit_judge.specs.Says.{SaysReply}
use Rattle.av_audit_judge.specs.Verdict.{IsVerdict}
use Rattle.av_audit_judge.proofs.VerdictLaws.{said}

-- a command that is not refused, and answers this reply by these events alone
pub record AnswersOnly (m : Setting) (w : World) (l : Ledger) (command : Command) (reply : Reply) (events : List Event) : Type 0 where
  pub no_test : refusal (tests m w l command) ≡ None
  pub only : (es : List Event) (answer : Answer) (rows : List Row) → Follows m w l command es answer rows
      → (answer ≡ reply.answer) × (es ≡ events) × (rows ≡ reply.rows)
  pub does : Follows m w l command events reply.answer reply.rows
  pub notes : reply.notes ≡ notes_of events

-- a legal reply is that one
one-legal : (m : Setting) (w : World) (l : Ledger) (command : Command) (reply : Reply) (events : List Event) (other : Reply) (es : List Event)
    → AnswersOnly m w l command reply events → IsLegal m w l command other es → other ≡ reply
one-legal m w l command reply events other es only legal =
    let done = only.only es other.answer other.rows
    (subst (λ o. MatchOption o (Follows m w l command es other.answer other.rows)
    (λ error. Refuses error es other.answer other.rows)) only.no_test legal.answer) in
    let notes : other.notes ≡ reply.notes = legal.notes ∙ ap notes_of done.1 ∙ sym only.notes in
    λ i. record { answer = done.0 i; notes = notes i; rows = done.2 i }

pub known-verdict : (m : Setting) (w : World) (l l' : Ledger) (command : Command) (reply : Reply) (events : List Event) (unit : List ℕ) (legal : Bool)
    → AnswersOnly m w l command reply events → IsReply reply → l' ≡ after_all l events → SaysReply legal unit reply
    → IsVerdict m w l command unit legal l'
known-verdict m w l l' command reply events unit true only form after says = record {
  reply = reply;
  events = events;
  form = form;
  text = says;
  legal = record {
    answer = subst (λ o. MatchOption o (Follows m w l command events reply.answer reply.rows)
        (λ error. Refuses error events reply.answer reply.rows)) (sym only.no_test) only.does;
    notes = only.notes;
  };
  after = after;
}
known-verdict m w l l' command reply events unit false only form after says = λ other es form' text legal.
    says (text ∙ ap text_of (one-legal m w l command reply events other es only legal))

-- ---- commands

pub exit-only : (m : Setting) (w : World) (l : Ledger) (p : ℕ) → refusal (tests m w l (Exit p)) ≡ None
    → AnswersOnly m w l (Exit p) (said (notes_of (zaps_of l (keys_of_process l p)))) (zaps_of l (keys_of_process l p))
exit-only m w l p none = record {
  no_test = none;
  only = λ es answer rows h. h;
  does = (refl, refl, refl);
  notes = refl;
}

pub munmap-only : (m : Setting) (w : World) (l : Ledger) (p a len : ℕ) → refusal (tests m w l (Munmap p a len)) ≡ None
    → AnswersOnly m w l (Munmap p a len) (said (notes_of (zaps_of l (keys_in l p (page_of a) (pages_of len)))))
    (zaps_of l (keys_in l p (page_of a) (pages_of len)))
munmap-only m w l p a len none = record {
  no_test = none;
  only = λ es answer rows h. h;
  does = (refl, refl, refl);
  notes = refl;
}
