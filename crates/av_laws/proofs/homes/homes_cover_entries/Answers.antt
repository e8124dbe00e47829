use Rattle.std.specs.Prelude.{◌≡◌, ℕ, refl}
use Rattle.std.proofs.Common.{arith}
use Rattle.std.proofs.lemmas.Bool.{false≢true}
use Rattle.av_laws.proofs.homes.homes_cover_entries.Goals as goal

pub returns-clause-no_home : goal.returns-clause-no_home
returns-clause-no_home c h = h.covered (1, 0x12) 0 refl refl

pub returns-clause-at_child : goal.returns-clause-at_child
returns-clause-at_child c h = false≢true (h.covered (1, 0x12) 0 refl refl).0

pub returns-clause-other_index : goal.returns-clause-other_index
returns-clause-other_index c h = let e : ◌≡◌ {A = ℕ} 0x22 0x12 = (h.covered (1, 0x12) 0 refl refl).1 in omega (arith, e)

pub returns-clause-own_alone : goal.returns-clause-own_alone
returns-clause-own_alone c h = false≢true (h.covered (2, 0x12) 0 refl refl).0

pub returns-clause-bare : goal.returns-clause-bare
returns-clause-bare c h = false≢true (h.covered (2, 0x12) 0 refl refl).0

pub returns-clause-out_of_own_chain : goal.returns-clause-out_of_own_chain
returns-clause-out_of_own_chain c h = false≢true (h.own 2 0x12 1 refl)

pub returns-clause-number_to_come : goal.returns-clause-number_to_come
returns-clause-number_to_come c h = let e = h.made 2 refl in omega (arith, e)

pub returns-clause-chain_falls : goal.returns-clause-chain_falls
returns-clause-chain_falls c h = let e = (h.rising 1).0 in omega (arith, e)

pub returns-clause-member_to_come : goal.returns-clause-member_to_come
returns-clause-member_to_come c h = let e = (h.rising 1).1.1.0 in omega (arith, e)
