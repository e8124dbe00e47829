use Rattle.std.specs.Prelude.{Bool, false, Option, Some, None}
use Rattle.std.proofs.Common.{arith, ap, sym}
use Rattle.std.proofs.lemmas.Bool.{false≢true}
use Rattle.av_base.specs.declared.flags.Flags.{Flags}
use Rattle.av_laws.proofs.flags.rows_show_flags.Goals as goal

-- whether a page is left out
leaves_out : Option Flags → Bool
leaves_out None = false
leaves_out (Some all) = all.dont_fork

pub returns-clause-shown_without : goal.returns-clause-shown_without
unfolding leaves_out
returns-clause-shown_without c h = false≢true (ap leaves_out (h.1.answer.1.4 0x7fffffffe))

pub returns-clause-shown_with_one : goal.returns-clause-shown_with_one
unfolding leaves_out
returns-clause-shown_with_one c h = false≢true (sym (ap leaves_out (h.1.answer.1.4 0x7fffffffe)))

pub returns-clause-falling : goal.returns-clause-falling
returns-clause-falling c h = let less = h.1.answer.1.5.0.0 in omega (arith, less)

pub returns-clause-repeated : goal.returns-clause-repeated
returns-clause-repeated c h = let less = h.1.answer.1.5.0.0 in omega (arith, less)
