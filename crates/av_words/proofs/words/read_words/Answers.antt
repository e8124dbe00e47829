use Rattle.std.proofs.Common.{◌∙◌, Err, ap, map, subst, sym}
use Rattle.std.specs.Prelude.{string_bytes}
use Rattle.std.specs.Result.{result_ok}
use Rattle.std.proofs.lemmas.Bool.{false≢true}
use Rattle.std.proofs.lemmas.List.Folds.{list_all-map}
use Rattle.clap.specs.Words.{found_of, rows_of}
use Rattle.av_words.specs.Words.{is_name}
use Rattle.av_words.specs.Places.{IsAskedBy, IsParsed}
use Rattle.av_words.proofs.Forms.{form_asked, form_is_plain, no_form}
use Rattle.av_words.proofs.Values.{IfSome_at, IsErrAnd_at, entered_is}
use Rattle.av_words.proofs.words.read_words.Goals as goal

pub returns-then-not-are_plain-clause-usage : goal.returns-then-not-are_plain-clause-usage
returns-then-not-are_plain-clause-usage c =
    let words = map string_bytes c.args.words.now in
    λ usage demand names form.
    false≢true (sym c.if-not-are_plain.true ∙ c.are_plain.ensures ∙ sym (list_all-map is_name string_bytes c.args.words.now)
    ∙ form_is_plain words demand names form)

pub returns-in_err-matches-clause-usage : goal.returns-in_err-matches-clause-usage
returns-in_err-matches-clause-usage c =
    let words = map string_bytes c.args.words.now in
    λ usage. no_form words
    (c.parse.ensures.usage (c.in_err-matches.was ∙ ap Err (sym (IsErrAnd_at _ c.from_residual.result _ usage c.from_residual.ensures.1))))

pub returns-clause-found : goal.returns-clause-found
returns-clause-found c =
    let words = map string_bytes c.args.words.now in
    let plain = list_all-map is_name string_bytes c.args.words.now ∙ sym c.are_plain.ensures ∙ c.if-not-are_plain.false in
    let entered = entered_is c.in_ok-matches.matches c.subcommand.result c.in_ok-verb.verb c.in_ok-verb.values
    (c.ok_or.ensures.ok_part ∙ ap result_ok c.in_ok-verb.was)
    c.subcommand.ensures.name c.subcommand.ensures.rows in
    let verb = c.in_ok-verb.verb.now in
    let rows = rows_of (found_of c.in_ok-verb.values.now) in
    let parsed = subst (IsParsed words) entered c.in_ok-matches.ensures.found in
    let asked_by = IfSome_at (IsAskedBy verb rows) c.asked_by.result c.in_ok-asked.asked (c.ok_or-2.ensures.ok_part ∙ ap result_ok c.in_ok-asked.was)
    c.asked_by.ensures.found in
    form_asked words plain verb rows parsed c.in_ok-asked.asked _ asked_by c.in_ok-names_of.ensures
