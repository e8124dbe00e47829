use Rattle.std.specs.Prelude.{◌≡◌, ℕ, refl}
use Rattle.std.proofs.Common.{arith}
use Rattle.std.proofs.lemmas.Bool.{false≢true}
use Rattle.av_laws.proofs.homes.items_cover_entries.Goals as goal

pub returns-clause-merged_at_home : goal.returns-clause-merged_at_home
returns-clause-merged_at_home c h = let e = h.homeless 0 refl in cc

pub returns-clause-item_left_out : goal.returns-clause-item_left_out
returns-clause-item_left_out c h = false≢true (h.found (1, 0x12) 0 refl refl).1

pub returns-clause-item_twice : goal.returns-clause-item_twice
returns-clause-item_twice c h = let most = h.once 0 (0, 0x22) refl in omega (arith, most)

pub returns-clause-item_of_member : goal.returns-clause-item_of_member
returns-clause-item_of_member c h = let e : ◌≡◌ {A = ℕ} 0 1 = (h.roots 0 (1, 0x22) refl refl).1 in omega (arith, e)
