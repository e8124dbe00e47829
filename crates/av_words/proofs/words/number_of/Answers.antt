use Rattle.std.proofs.Common.{◌∙◌, sym, ap, Some}
use Rattle.std.proofs.lemmas.Option.{IfSome_then}
use Rattle.clap.specs.Words.{found_of}
use Rattle.av_words.proofs.Values.{IfNone_then, no_value, some_same, value_is}
use Rattle.av_words.proofs.words.number_of.Goals as goal

pub returns-in_err-get_str-clause-none : goal.returns-in_err-get_str-clause-none
returns-in_err-get_str-clause-none c =
    rw c.from_residual.ensures
    (λ n within v. no_value (found_of c.args.values.now) c.args.id.now c.get_str.result _ c.get_str.ensures c.in_err-get_str.was v)

pub returns-clause-found : goal.returns-clause-found
returns-clause-found c =
    let is = value_is (found_of c.args.values.now) c.args.id.now c.get_str.result c.in_ok-get_str.field-0 c.get_str.ensures c.in_ok-get_str.was in
    IfSome_then c.number_in.result c.number_in.ensures.found (λ n read. (is ∙ ap Some (sym c.as_bytes.ensures.value ∙ read.0), read.1))

pub returns-clause-none : goal.returns-clause-none
returns-clause-none c =
    let is = value_is (found_of c.args.values.now) c.args.id.now c.get_str.result c.in_ok-get_str.field-0 c.get_str.ensures c.in_ok-get_str.was in
    IfNone_then c.number_in.result c.number_in.ensures.none (λ none n within v. none n within (c.as_bytes.ensures.value ∙ some_same (sym is ∙ v)))
