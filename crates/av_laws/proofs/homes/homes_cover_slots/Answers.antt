use Rattle.std.specs.Prelude.{◌≡◌, ℕ, refl}
use Rattle.std.proofs.Common.{arith}
use Rattle.std.proofs.lemmas.Bool.{false≢true}
use Rattle.av_plain.specs.Areas.{Rmap}
use Rattle.av_plain.specs.Covered.{IsRooted}
use Rattle.av_laws.specs.Examples.{slot}
use Rattle.av_laws.specs.Homes.{with_other_index, with_two_roots}
use Rattle.av_laws.proofs.homes.homes_cover_slots.Goals as goal

-- a home at which both pages of slot 1 are rooted
abbrev BothRooted : Rmap → Type 0
BothRooted r = (home : ℕ × ℕ) × IsRooted r (1, 0x12) home × IsRooted r (2, 0x12) home

pub returns-clause-slot_unhomed : goal.returns-clause-slot_unhomed
returns-clause-slot_unhomed c h = h.cached (slot 1) (1, 0x12) 0 refl refl

pub returns-clause-slot_at_child : goal.returns-clause-slot_at_child
returns-clause-slot_at_child c h = false≢true (h.cached (slot 1) (1, 0x12) 0 refl refl).0

pub returns-clause-other_roots : goal.returns-clause-other_roots
returns-clause-other_roots c h =
    let both : BothRooted with_two_roots = h.rooted (slot 1) (1, 0x12) (2, 0x12) refl refl in
    let first : ◌≡◌ {A = ℕ} 0 both.0.0 = both.1.0 in
    let second : ◌≡◌ {A = ℕ} 1 both.0.0 = both.2.0 in
    omega (arith, first, second)

pub returns-clause-other_indices : goal.returns-clause-other_indices
returns-clause-other_indices c h =
    let both : BothRooted with_other_index = h.rooted (slot 1) (1, 0x12) (2, 0x12) refl refl in
    let first : ◌≡◌ {A = ℕ} 0x22 both.0.1 = both.1.1 in
    let second : ◌≡◌ {A = ℕ} 0x32 both.0.1 = both.2.1 in
    omega (arith, first, second)

pub returns-clause-root_left_out : goal.returns-clause-root_left_out
returns-clause-root_left_out c h = false≢true (h.kin 2 0x12 1 refl).root

pub returns-clause-member_of_another : goal.returns-clause-member_of_another
returns-clause-member_of_another c h = let e : ◌≡◌ {A = ℕ} 2 0 = (h.kin 2 0x12 1 refl).members 2 refl in omega (arith, e)
