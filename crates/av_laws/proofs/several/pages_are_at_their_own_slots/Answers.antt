use Rattle.std.specs.Prelude.{◌≡◌, ℕ, refl}
use Rattle.std.proofs.Common.{arith}
use Rattle.av_laws.specs.Examples.{slot}
use Rattle.av_laws.proofs.several.pages_are_at_their_own_slots.Goals as goal

pub returns-clause-page_at_next_slot : goal.returns-clause-page_at_next_slot
returns-clause-page_at_next_slot c h = let e : ◌≡◌ {A = ℕ} 9 7 = h.kept 1 0x7fffffffe 0 (omega arith) in omega (arith, e)

pub returns-clause-clean_at_next_slot : goal.returns-clause-clean_at_next_slot
returns-clause-clean_at_next_slot c h = let e : ◌≡◌ {A = ℕ} 9 7 = h.clean (slot 1) refl refl 0 (omega arith) in omega (arith, e)

pub returns-clause-cached : goal.returns-clause-cached
returns-clause-cached c h = let b : ◌≡◌ {A = ℕ} 0 7 = h 0 (omega arith) in omega (arith, b)

pub returns-clause-no_entry : goal.returns-clause-no_entry
returns-clause-no_entry c h = let b : ◌≡◌ {A = ℕ} 0 7 = h 0 (omega arith) in omega (arith, b)

pub returns-clause-zero_page : goal.returns-clause-zero_page
returns-clause-zero_page c h = let b : ◌≡◌ {A = ℕ} 0 7 = h 0 (omega arith) in omega (arith, b)
