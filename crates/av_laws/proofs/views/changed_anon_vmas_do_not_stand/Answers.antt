use Rattle.std.specs.Prelude.{◌≡◌, ℕ, Option, Some, None, is_some, length}
use Rattle.std.proofs.Common.{arith, sym, ap}
use Rattle.av_plain.proofs.NoDevice.{never}
use Rattle.av_laws.proofs.views.changed_anon_vmas_do_not_stand.Goals as goal

-- the root that is shown
abbrev root_in : Option (ℕ × ℕ) → ℕ
root_in None = 0
root_in (Some k) = k.0

pub returns-clause-one_too_many : goal.returns-clause-one_too_many
returns-clause-one_too_many c h = never (sym (ap is_some (h.anons.kin 1)))

pub returns-clause-other_root : goal.returns-clause-other_root
returns-clause-other_root c h = let e : ◌≡◌ {A = ℕ} 1 0 = ap root_in (h.anons.kin 0) in omega (arith, e)

pub returns-clause-other_chain : goal.returns-clause-other_chain
returns-clause-other_chain c h = let e : ◌≡◌ {A = ℕ} 2 1 = ap length (h.anons.chains 1 0x7fffffffe) in omega (arith, e)
