use Rattle.std.specs.Prelude.{◌≡◌, ℕ, refl}
use Rattle.std.proofs.Common.{arith}
use Rattle.av_swapdev.specs.Header.{number_at}
use Rattle.av_laws.proofs.several.areas_have_pages_of_their_own.Goals as goal

pub returns-clause-page_of_other_area : goal.returns-clause-page_of_other_area
returns-clause-page_of_other_area c h = let e : ◌≡◌ {A = ℕ} 9 7 = h 0 (omega arith) in omega (arith, e)

pub returns-clause-clean_by_other_area : goal.returns-clause-clean_by_other_area
returns-clause-clean_by_other_area c h = let e : ◌≡◌ {A = ℕ} 9 7 = h 0 (omega arith) in omega (arith, e)

pub returns-clause-second_header : goal.returns-clause-second_header
unfolding number_at
returns-clause-second_header c = refl
