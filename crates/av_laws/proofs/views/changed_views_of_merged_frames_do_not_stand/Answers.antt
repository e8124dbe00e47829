use Rattle.std.specs.Prelude.{◌≡◌, ℕ, true, List, [], ◌∷◌, is_some, refl}
use Rattle.std.proofs.Common.{arith, sym, ap}
use Rattle.av_plain.specs.Ledger.{InFrame}
use Rattle.av_plain.specs.Stands.{has_items}
use Rattle.av_plain.proofs.NoDevice.{never}
use Rattle.av_laws.proofs.views.changed_views_of_merged_frames_do_not_stand.Goals as goal

-- the anon_vma of the first item
first_item : List (ℕ × ℕ) → ℕ
first_item [] = 0
first_item (item ∷ items) = item.0

pub returns-clause-other_items : goal.returns-clause-other_items
unfolding first_item
returns-clause-other_items c h = let e : ◌≡◌ {A = ℕ} 1 0 = ap first_item (h.items 0) in omega (arith, e)

pub returns-clause-home_beside : goal.returns-clause-home_beside
returns-clause-home_beside c h = never (sym (ap is_some (h.homes 0)))

pub returns-clause-written_in_place : goal.returns-clause-written_in_place
returns-clause-written_in_place c h =
    never (sym (h.parts.ledger.tables.write_bits 1 0x7fffffffe (record { entry = InFrame 0 true; write = true }) 0 refl refl refl))

pub returns-clause-items_of_another : goal.returns-clause-items_of_another
returns-clause-items_of_another c h = never (sym (ap has_items (h.items 0)))
