-- the table is held against the definition at each of the 16 values, by computing
use Rattle.std.proofs.Common.{◌≡◌, false, map, get_or, refl, ap, ◌∙◌, arith}
use Rattle.std.specs.Fmt.{digit_glyph}
use Rattle.std.specs.List.{range_with_len}
use Rattle.std.proofs.lemmas.List.FromFn.{get_or-map-range_with_len}
use Rattle.av_text.specs.declared.hex.TheConstants.{DIGITS}
use Rattle.av_text.proofs.hex.table_digit.Goals as goal

-- the table has the digit of each value
table_is : DIGITS ≡ map (digit_glyph false) (range_with_len 0 16)
table_is = refl

pub returns : goal.returns
returns c =
    ap (λ t. get_or t c.args.value 0) table_is ∙ get_or-map-range_with_len (digit_glyph false) 0 16 c.args.value c.args.value 0
    (omega (arith, c.requires)) (omega arith)
