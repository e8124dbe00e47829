use Rattle.std.proofs.Common.{◌∙◌, ap, map, subst, sym}
use Rattle.std.specs.Prelude.{string_bytes}
use Rattle.std.proofs.lemmas.List.Folds.{list_all-map}
use Rattle.clap.specs.Words.{App, fault_of, is_simple, is_simple_and_free, subcommand_of}
use Rattle.clap.specs.Kinds.{HasKind}
use Rattle.av_words.specs.Words.{is_name}
use Rattle.av_words.specs.Places.{IsParsed}
use Rattle.av_words.proofs.Values.{IsErrAnd_at, usage≢memory}
use Rattle.av_words.proofs.Verdict.{found_in, program_is_free, program_is_simple, refused}
use Rattle.av_words.proofs.words.parse.Goals as goal

pub returns-in_err-matches-clause-usage : goal.returns-in_err-matches-clause-usage
returns-in_err-matches-clause-usage c =
    let words = map string_bytes c.args.words.now in
    let app = c.in_ok-program_command.ensures in
    let error = c.in_err-matches.field-0.0 in
    let kinds = subst (λ (a : App). HasKind (fault_of a words) error) app
    (c.in_err-matches.ensures.kinds (ap is_simple_and_free app ∙ program_is_free)) in
    λ usage. refused words (list_all-map is_name string_bytes c.args.words.now ∙ c.requires.plain) error kinds
    (λ memory. usage≢memory ((IsErrAnd_at _ c.from_residual-in_err-matches.result _ usage c.from_residual-in_err-matches.ensures.1).0 memory))

pub returns-clause-found : goal.returns-clause-found
returns-clause-found c =
    let words = map string_bytes c.args.words.now in
    let app = c.in_ok-program_command.ensures in
    let none = ap (λ (a : App). fault_of a words) (sym app) ∙ c.in_ok-matches.ensures.kinds (ap is_simple_and_free app ∙ program_is_free) in
    let found = (c.in_ok-matches.ensures.matches (ap is_simple app ∙ program_is_simple)).1 ∙ ap (λ (a : App). subcommand_of a words) app in
    subst (IsParsed words) (sym found) (found_in words (list_all-map is_name string_bytes c.args.words.now ∙ c.requires.plain) none)
