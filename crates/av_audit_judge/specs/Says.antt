-- A unit that is known whole.
use Rattle.std.specs.Prelude.{◌≡◌, ℕ, Bool, List, MatchBool}
use Rattle.av_trace.specs.declared.reply.Answer.{Answer}
use Rattle.av_trace.specs.declared.reply.Reply.{Reply}
use Rattle.av_trace.specs.Print.{text_of}
use Rattle.av_trace.specs.Reply.{answer_only}

-- whether the unit is the text of this reply
abbrev pub SaysReply : Bool → List ℕ → Reply → Type 0
SaysReply legal unit reply =
    MatchBool legal (unit ≡ text_of reply) (unit ≡ text_of reply → ⊥)

-- whether the unit is the text of this answer alone
abbrev pub SaysOnly : Bool → List ℕ → Answer → Type 0
SaysOnly legal unit answer = SaysReply legal unit (answer_only answer)
