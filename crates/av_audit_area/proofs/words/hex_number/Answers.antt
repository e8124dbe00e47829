use Rattle.std.proofs.Common.{◌++◌, ap, ◌∙◌}
use Rattle.av_text.specs.Word.{field}
use Rattle.av_audit_area.proofs.WordLaws.{hex-not, hex-same}
use Rattle.av_audit_area.proofs.words.hex_number.Goals as goal

pub returns-in-None : goal.returns-in-None
returns-in-None c = λ n wide is. absurd (hex-not n c.args.word.now c.as_slice.result.now wide is
    (c.as_slice.ensures ∙ c.in_ok-add_word.ensures ∙ ap (λ t. t ++ field c.args.word.now) c.new-text.ensures) c.in-None.ensures)

pub returns : goal.returns
returns c = λ n wide is. hex-same n c.args.word.now c.as_slice.result.now wide is
    (c.as_slice.ensures ∙ c.in_ok-add_word.ensures ∙ ap (λ t. t ++ field c.args.word.now) c.new-text.ensures)
    (c.in-Some.number, _) c.in-Some.ensures
