-- A line says what is read of it, and one thing only.
use Rattle.std.proofs.Common.{true, false, ◌≡◌, ℕ, List, [], ◌∷◌, Option, Some, None, refl, ap, ◌∙◌}
use Rattle.std.proofs.lemmas.Bool.{eqb-true}
use Rattle.av_trace.specs.declared.command.Command.{Command}
use Rattle.av_trace.specs.Command.{command_in, command_of, line_of, readers}
use Rattle.av_trace.specs.Line.{is_blank, Says}
use Rattle.av_text.specs.Word.{after}
use Rattle.av_trace.proofs.CommandLaws.{command_of-again, words-again}

-- a line that says something is read
pub says_is : (line : List ℕ) (said : Option Command) → Says line said → is_blank line ≡ false → command_of line ≡ None → ⊥
says_is line None says blank none = cc
says_is line (Some c) says blank none =
    let read : command_of line ≡ Some c = ap command_of says.1 ∙ command_of-again c says.0 in
    cc

comment : (bytes : List ℕ) → command_in readers (35 ∷ bytes) ≡ None
unfolding after
comment bytes = refl

-- no command is read of a blank line
blank_none : (line : List ℕ) → is_blank line ≡ true → command_in readers line ≡ None
unfolding after
blank_none [] h = refl
blank_none (b ∷ bytes) h = ap (λ (c : ℕ). command_in readers (c ∷ bytes)) (eqb-true b 35 h) ∙ comment bytes

never_both : (line : List ℕ) (c : Command) → is_blank line ≡ true → Says line (Some c) → ⊥
never_both line c blank says =
    let read : command_in readers line ≡ Some c = ap (command_in readers) says.1 ∙ words-again c says.0 in
    let none = blank_none line blank in
    cc

pub says_one : (line : List ℕ) (a b : Option Command) → Says line a → Says line b → a ≡ b
says_one line None None says others = refl
says_one line None (Some d) says others = absurd (never_both line d says others)
says_one line (Some c) None says others = absurd (never_both line c others says)
says_one line (Some c) (Some d) says others =
    let read : command_of line ≡ Some c = ap command_of says.1 ∙ command_of-again c says.0 in
    let read' : command_of line ≡ Some d = ap command_of others.1 ∙ command_of-again d others.0 in
    cc
