-- The commands of a trace, kept as the text of their lines.
use Rattle.std.specs.Prelude.{◌≡◌, ℕ, List, [], ◌∷◌, ◌++◌, Some, length}
use Rattle.av_ports.specs.Line.{HasNoNewline}
use Rattle.av_trace.specs.declared.command.Command.{Command}
use Rattle.av_trace.specs.Line.{Says}
use Rattle.av_audit_input.specs.declared.script.Script.{Script}

-- the text has a line for each command, which says it, and nothing else
abbrev pub AreLinesOf : List ℕ → List Command → Type 0
AreLinesOf text [] = text ≡ []
AreLinesOf text (command ∷ commands) =
    (line : List ℕ) × (rest : List ℕ) × (text ≡ line ++ 10 ∷ rest) × HasNoNewline line
    × Says line (Some command) × AreLinesOf rest commands

-- these commands are kept, in order, and nothing else
pub record IsScript (script : Script) (commands : List Command) : Type 0 where
  pub lines : AreLinesOf script.text.items commands
  pub count : script.count ≡ length commands

-- whatever commands were kept, others are now, of which this is so
abbrev pub Becomes : Script → Script → (List Command → List Command → Type 0) → Type 0
Becomes old new IsSo =
    (commands : List Command) → IsScript old commands
    → (commands' : List Command) × IsScript new commands' × IsSo commands commands'
