-- the table is held against the definition at each of the 256 bytes, by computing
use Rattle.std.proofs.Common.{◌≡◌, map, get_or, refl, ap, ◌∙◌, arith}
use Rattle.std.specs.List.{range_with_len}
use Rattle.std.proofs.lemmas.List.FromFn.{get_or-map-range_with_len}
use Rattle.av_text.specs.Number.{worth}
use Rattle.av_text.specs.declared.number.TheConstants.{WORTHS}
use Rattle.av_text.proofs.number.table_worth.Goals as goal

-- the table has what each byte is worth
table_is : WORTHS ≡ map worth (range_with_len 0 256)
unfolding worth
table_is = refl

pub returns : goal.returns
returns c =
    ap (λ t. get_or t c.args.byte 0) table_is ∙ get_or-map-range_with_len worth 0 256 c.args.byte c.args.byte 0 (omega arith) (omega arith)
