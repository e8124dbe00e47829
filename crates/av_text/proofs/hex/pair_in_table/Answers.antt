-- the table is held against the digits of each of the 256 bytes, by computing
use Rattle.std.proofs.Common.{◌≡◌, ◌+◌, ◌*◌, get_or, refl, ap, ◌∙◌, arith}
use Rattle.std.specs.List.{range_with_len}
use Rattle.av_text.specs.Hex.{hex_text}
use Rattle.av_text.specs.declared.hex.TheConstants.{PAIRS}
use Rattle.av_text.proofs.HexLaws.{pair_digits}
use Rattle.av_text.proofs.hex.pair_in_table.Goals as goal

-- the table has the digits of each byte
table_is : PAIRS ≡ hex_text (range_with_len 0 256)
table_is = refl

pub returns-clause-high : goal.returns-clause-high
returns-clause-high c = ap (λ t. get_or t (2 * c.args.byte) 0) table_is ∙ (pair_digits 256 c.args.byte (omega arith)).0

pub returns-clause-low : goal.returns-clause-low
returns-clause-low c = ap (λ t. get_or t (2 * c.args.byte + 1) 0) table_is ∙ (pair_digits 256 c.args.byte (omega arith)).1
