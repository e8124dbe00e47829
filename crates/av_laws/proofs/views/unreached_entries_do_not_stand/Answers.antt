use Rattle.std.specs.Prelude.{◌≡◌, ℕ, Option, Some, None, refl}
use Rattle.std.proofs.Common.{arith, ap}
use Rattle.av_laws.specs.Examples.{slot}
use Rattle.av_laws.proofs.views.unreached_entries_do_not_stand.Goals as goal

-- the anon_vma of a home
first_home : Option (ℕ × ℕ) → ℕ
first_home None = 0
first_home (Some home) = home.0

pub returns-clause-other_home : goal.returns-clause-other_home
unfolding first_home
returns-clause-other_home c h = let e : ◌≡◌ {A = ℕ} 1 0 = ap first_home (h.homes 0) in omega (arith, e)

pub returns-clause-no_home : goal.returns-clause-no_home
returns-clause-no_home c h = h.reach.covered (1, 0x7fffffffe) 0 refl refl

pub returns-clause-no_home_of_slot : goal.returns-clause-no_home_of_slot
returns-clause-no_home_of_slot c h = h.slots.cached (slot 1) (1, 0x7fffffffe) 0 refl refl
