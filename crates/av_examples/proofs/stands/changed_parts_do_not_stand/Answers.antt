use Rattle.std.specs.Prelude.{Bool, false, Option, Some, None}
use Rattle.std.proofs.Common.{◌≤◌, ap, sym, refl, arith}
use Rattle.av_base.specs.declared.prot.Prot.{Prot}
use Rattle.av_plain.proofs.NoDevice.{never}
use Rattle.av_examples.proofs.stands.changed_parts_do_not_stand.Goals as goal

-- whether a page may be written
abbrev is_written : Option Prot → Bool
is_written None = false
is_written (Some prot) = prot.write

pub returns-clause-of_nobody : goal.returns-clause-of_nobody
returns-clause-of_nobody c h = never (sym (h.alive 1))

pub returns-clause-other_protection : goal.returns-clause-other_protection
returns-clause-other_protection c h = never (ap is_written (h.covers 1 0x10))

pub returns-clause-unsound : goal.returns-clause-unsound
returns-clause-unsound c h = let few : 1 ≤ 0 = h.sound.ledger.merged 0 in omega (arith, few)

pub returns-clause-not_found : goal.returns-clause-not_found
returns-clause-not_found c h = never (h.merged.found (1, 0x10) 0 refl refl).1
