-- The priority that `swapon` may name.
use Rattle.std.specs.Prelude.{ℕ, List, [], ◌∷◌, codes, Option, Some, None}
use Rattle.std.specs.Fmt.{decimal}
use Rattle.av_text.specs.Word.{◌>>=◌, Reader, after}
use Rattle.av_text.specs.Number.{IsNumberIn, decimal_at}

-- the greatest that can be named
abbrev pub greatest_priority : ℕ
greatest_priority = 32767

-- none, or one in range
abbrev pub IsPriority : Option ℕ → Type 0
IsPriority None = Unit {0}
IsPriority (Some n) = IsNumberIn 0 greatest_priority n

-- its words, or nothing
abbrev pub priority_words : Option ℕ → List (List ℕ)
priority_words None = []
priority_words (Some n) = codes "prio" ∷ decimal n ∷ []

-- ---- reading

-- a priority at the end of a line
unfoldable pub priority_at : Reader (Option ℕ)
priority_at [] = Some (None, [])
priority_at (b ∷ bytes) = do
  rest ← after (codes " prio") (b ∷ bytes)
  priority ← decimal_at 0 greatest_priority rest
  Some (Some priority.0, priority.1)
