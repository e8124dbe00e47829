use Rattle.std.proofs.Common.{◌≡◌, ℕ, refl, arith}
use Rattle.av_plain.proofs.NoDevice.{never}
use Rattle.av_laws.specs.Examples.{slot}
use Rattle.av_examples.proofs.stands.slots_are_listed_as_they_are.Goals as goal

pub returns-clause-not_taken : goal.returns-clause-not_taken
returns-clause-not_taken c h = never (h.taken (slot 1))

pub returns-clause-no_slot : goal.returns-clause-no_slot
returns-clause-no_slot c h = never (h.free (slot 1) refl)

pub returns-clause-left_out : goal.returns-clause-left_out
returns-clause-left_out c h = let e : ◌≡◌ {A = ℕ} 0 1 = h.number 0 in omega (arith, e)
