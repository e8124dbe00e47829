-- What the lines of a run say, as the lines of a trace that is audited.
use Rattle.std.proofs.Common.{◌≡◌, ◌∙◌, ℕ, ◌≤◌, refl, sym, ap, subst, arith, List, [], ◌∷◌, ◌++◌, length, map, Option, Some, None}
use Rattle.std.specs.Prelude.{option_map}
use Rattle.std.specs.List.{AllByRecursion}
use Rattle.std.specs.Option.{option_to_list}
use Rattle.av_text.specs.Word.{after}
use Rattle.av_trace.specs.declared.command.Command.{Command}
use Rattle.av_trace.specs.Command.{IsInRange, command_of}
use Rattle.av_trace.specs.Line.{Says}
use Rattle.av_trace.proofs.LineLaws.{says_is}
use Rattle.av_plain.specs.Transcript.{Exchange}
use Rattle.av_ports.specs.Line.{IsLine}
use Rattle.av_audit_input.specs.Trace.{AreSaid, IsTraceLine, mark}
use Rattle.av_replay.specs.Replay.{Transcribes}
use Rattle.av_replay.specs.Turn.{Commands}

abbrev command_by : Option Exchange → Option Command
command_by did = option_map (λ (e : Exchange). e.command) did

abbrev pub commands_of : List Exchange → List Command
commands_of es = map (λ (e : Exchange). e.command) es

mark-none : command_of mark ≡ None
unfolding after command_of
mark-none = refl

-- the mark is no line of a trace
mark-is-none : (command : Option Command) → Says mark command → ⊥
mark-is-none command says = says_is mark command says refl mark-none

pub unmarked : (lines : List (List ℕ)) (es : List Exchange) → AllByRecursion IsLine lines → Transcribes lines es
    → AllByRecursion IsTraceLine lines
unmarked [] es all did = tt
unmarked (line ∷ lines) es all did = (
  record { is_line = all.0; unmarked = λ is. mark-is-none (command_by did.0) (subst (λ l. Says l (command_by did.0)) is did.3) },
  unmarked lines did.1 all.1 did.4,
)

-- the lines of a run say its commands
pub says-all : (lines : List (List ℕ)) (es : List Exchange) → Transcribes lines es → AreSaid lines (commands_of es)
says-all [] es did = ap commands_of did
says-all (line ∷ lines) es did =
    (command_by did.0, commands_of did.1, ap commands_of did.2 ∙ by did.0 did.1, did.3, says-all lines did.1 did.4)
  where
    by : (did : Option Exchange) (others : List Exchange)
        → commands_of (option_to_list did ++ others) ≡ option_to_list (command_by did) ++ commands_of others
    by None others = refl
    by (Some e) others = refl

pub in-range : (lines : List (List ℕ)) (es : List Exchange) → Transcribes lines es → AllByRecursion (λ (e : Exchange). IsInRange e.command) es
in-range [] es did = subst (AllByRecursion (λ (e : Exchange). IsInRange e.command)) (sym did) tt
in-range (line ∷ lines) es did =
    subst (AllByRecursion (λ (e : Exchange). IsInRange e.command)) (sym did.2) (by did.0 did.1 did.3 (in-range lines did.1 did.4))
  where
    by : (did : Option Exchange) (others : List Exchange) → Commands line did → AllByRecursion (λ (e : Exchange). IsInRange e.command) others
        → AllByRecursion (λ (e : Exchange). IsInRange e.command) (option_to_list did ++ others)
    by None others says all = all
    by (Some e) others says all = (says.0, all)

-- there are no more commands than lines
pub no-more : (lines : List (List ℕ)) (es : List Exchange) → Transcribes lines es → length es ≤ length lines
no-more [] es did = subst (λ (es : List Exchange). length es ≤ 0) (sym did) (omega arith)
no-more (line ∷ lines) es did =
    subst (λ (es : List Exchange). length es ≤ length (line ∷ lines)) (sym did.2) (by did.0 did.1 (no-more lines did.1 did.4))
  where
    by : (did : Option Exchange) (others : List Exchange) → length others ≤ length lines
        → length (option_to_list did ++ others) ≤ length (line ∷ lines)
    by None others few = omega (arith, few)
    by (Some e) others few = omega (arith, few)
