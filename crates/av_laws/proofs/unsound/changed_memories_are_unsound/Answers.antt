use Rattle.std.specs.Prelude.{◌≡◌, Bool, true, false}
use Rattle.std.proofs.Common.{arith, refl, ◌≤◌, ◌<◌}
use Rattle.av_laws.specs.Examples.{slot}
use Rattle.av_laws.proofs.unsound.changed_memories_are_unsound.Goals as goal

never : ◌≡◌ {A = Bool} false true → ⊥
never e = cc

pub returns-clause-unmapped : goal.returns-clause-unmapped
returns-clause-unmapped c h = never (h.at_pages 1 0x10 refl)

pub returns-clause-of_nobody : goal.returns-clause-of_nobody
returns-clause-of_nobody c h = never (h.at_pages 2 0x7fffffffe refl)

pub returns-clause-area_off : goal.returns-clause-area_off
returns-clause-area_off c h = never (h.in_areas (slot 1) (omega arith))

pub returns-clause-header_page : goal.returns-clause-header_page
returns-clause-header_page c h = never (h.in_areas (slot 0) (omega arith))

pub returns-clause-behind_area : goal.returns-clause-behind_area
returns-clause-behind_area c h = never (h.in_areas (slot 8) (omega arith))

pub returns-clause-bad_slot : goal.returns-clause-bad_slot
returns-clause-bad_slot c h = never (h.in_areas (slot 1) (omega arith))

pub returns-clause-too_few_slots : goal.returns-clause-too_few_slots
returns-clause-too_few_slots c h = let few : 1 ≤ 0 = h.areas_fit.fit 0 in omega (arith, few)

pub returns-clause-unattached : goal.returns-clause-unattached
returns-clause-unattached c h = let has : 0 < 0 = h.areas_fit.attached 1 refl in omega (arith, has)

pub returns-clause-too_many_processes : goal.returns-clause-too_many_processes
returns-clause-too_many_processes c h = let few : 4097 ≤ 4096 = h.world.few in omega (arith, few)
