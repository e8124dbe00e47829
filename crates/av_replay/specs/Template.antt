-- Texts of lines in which capital letters stand for digits that draws give.
use Rattle.std.specs.Prelude.{ℕ, ◌+◌, ◌/◌, ◌%◌, ◌<◌, ◌≤◌, ◌==◌, if◌then◌else◌, Bool, false, List}
use Rattle.std.specs.Prelude.{◌++◌, map}
use Rattle.std.specs.Fmt.{digit_glyph}
use Rattle.av_trace.specs.Command.{line_of}
use Rattle.av_replay.specs.declared.draws.Draws.{Draws}
use Rattle.av_replay.specs.Replay.{all_lines}
use Rattle.av_replay.specs.Work.{commands_left}

-- each of the draws is within its bounds
pub record IsDrawn (d : Draws) : Type 0 where
  pub kind : d.kind < 16
  pub least : 1 ≤ d.process
  pub most : d.process ≤ 8
  pub page : d.page < 16
  pub value : d.value < 256

-- before any draw
abbrev pub no_draws : Draws
no_draws = record { kind = 0; process = 1; page = 0; value = 0 }

-- what stands for a letter: P the process, Q and N one more and a count, G the page, H and L the
-- digits of the value; every other byte for itself
abbrev pub glyph : Draws → ℕ → ℕ
glyph d letter =
    if letter == 80 then 48 + d.process
    else (if letter == 81 then 48 + (1 + d.value % 8)
    else (if letter == 78 then 48 + (1 + d.value % 4)
    else (if letter == 71 then digit_glyph false d.page
    else (if letter == 72 then digit_glyph false (d.value / 16)
    else (if letter == 76 then digit_glyph false (d.value % 16)
    else letter)))))

-- the text that a template stands for
abbrev pub text_with : Draws → List ℕ → List ℕ
text_with d template = map (glyph d) template

-- what is left of a load: the rest of some lines, and those of what is still to be commanded
abbrev pub left_of : Draws → List ℕ → Bool → ℕ → ℕ → List ℕ
left_of d rest is_begun lines x =
    text_with d rest ++ all_lines (map line_of (commands_left is_begun lines x))
