-- What a reply is determined by.
use Rattle.std.specs.Prelude.{◌≡◌, ℕ, is_some, true, List, [], ◌∷◌}
use Rattle.av_trace.specs.declared.reply.Reply.{Reply}
use Rattle.av_plain.specs.Ledger.{Setting}
use Rattle.av_plain.specs.Pass.{fails}
use Rattle.av_plain.specs.Step.{failure_answers}
use Rattle.av_plain.specs.Transcript.{Exchange}

-- the devices tell what is on their pages
abbrev pub Tells : Setting → Type 0
Tells m = is_some m.headers ≡ true

-- no write of a slot failed, and the answer is none that only a failure explains
pub record ShowsNoFailure (reply : Reply) : Type 0 where
  pub writes : fails reply.notes ≡ 0
  pub answer : failure_answers reply.answer ≡ 0

-- ---- transcripts

-- and so for all replies
abbrev pub ShowNoFailures : List Exchange → Type 0
ShowNoFailures [] = Unit {0}
ShowNoFailures (e ∷ es) = ShowsNoFailure e.reply × ShowNoFailures es

-- two transcripts have the same commands
abbrev pub SameCommands : List Exchange → List Exchange → Type 0
SameCommands [] [] = Unit {0}
SameCommands [] (e ∷ es) = ⊥
SameCommands (d ∷ ds) [] = ⊥
SameCommands (d ∷ ds) (e ∷ es) = (d.command ≡ e.command) × SameCommands ds es
