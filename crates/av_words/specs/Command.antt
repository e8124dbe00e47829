-- The command that the parser reads the words by: a verb, and by the verb some numbers and then the
-- names of swap areas.
use Rattle.std.specs.Prelude.{true, Some, codes}
use Rattle.clap.specs.Walk.{Rule, Text}
use Rattle.clap.specs.Simple.{App, new_app, new_rule, on_top, with_rule, with_subcommand}
use Rattle.av_words.specs.Words.{most_names}

-- a number, which has to be there
abbrev pub number_rule : Text → Rule
number_rule id = record (new_rule id) { required = true }

-- the names of swap areas
abbrev pub names_rule : Rule
names_rule = record (new_rule (codes "SWAP")) {
  range = Some (record { start_inclusive = 0; end_inclusive = most_names });
}

-- a verb, the number of frames, and names
abbrev pub frames_app : Text → App
frames_app verb = with_rule (with_rule (new_app verb) (number_rule (codes "FRAMES"))) names_rule

abbrev pub work_app : App
work_app = with_rule (with_rule (with_rule (with_rule (new_app (codes "work"))
    (number_rule (codes "SEED"))) (number_rule (codes "LINES")))
    (number_rule (codes "FRAMES"))) names_rule

-- no word before them, and no word that asks for help
abbrev pub bare_app : App
bare_app = on_top (λ s. record s {
  no_binary_name = true;
  disable_help_flag = true;
  disable_help_subcommand = true;
  subcommand_required = true;
}) (new_app (codes "avsim"))

abbrev pub program_app : App
program_app = with_subcommand
    (with_subcommand (with_subcommand bare_app (frames_app (codes "run")).top) work_app.top)
    (frames_app (codes "audit")).top
