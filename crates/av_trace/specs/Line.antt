-- What a line says.
use Rattle.std.specs.Prelude.{◌≡◌, ◌==◌, true, ℕ, Bool, List, [], ◌∷◌, Option, Some, None}
use Rattle.av_trace.specs.declared.command.Command.{Command}
use Rattle.av_trace.specs.Command.{IsInRange, line_of}

-- no command: an empty line, or a comment, which begins with `#`
abbrev pub is_blank : List ℕ → Bool
is_blank [] = true
is_blank (b ∷ bytes) = b == 35

-- a line says a command, or nothing
abbrev pub Says : List ℕ → Option Command → Type 0
Says line None = is_blank line ≡ true
Says line (Some c) = IsInRange c × (line ≡ line_of c)
