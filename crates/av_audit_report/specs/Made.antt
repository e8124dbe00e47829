-- A reply that is known, or has a number that is too great for one.
use Rattle.std.specs.Prelude.{◌≡◌, ℕ, Bool, false, List, Option, MatchOption}
use Rattle.av_trace.specs.declared.reply.Reply.{Reply}
use Rattle.av_trace.specs.Reply.{IsReply}
use Rattle.av_audit_judge.specs.Says.{SaysReply}

-- what is made is this reply; or nothing is, and this is none
abbrev pub IsMade : Reply → Option Reply → Type 0
IsMade reply made = MatchOption made (IsReply reply → ⊥) (λ r. (r ≡ reply) × IsReply reply)

-- whether the unit is the text of what is made
abbrev pub SaysMade : Bool → List ℕ → Option Reply → Type 0
SaysMade legal unit made = MatchOption made (legal ≡ false) (λ r. SaysReply legal unit r)
