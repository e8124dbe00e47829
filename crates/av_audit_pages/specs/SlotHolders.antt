-- What holds each slot.
use Rattle.std.specs.BTreeMap.{is_at}
use Rattle.std.specs.Map.{lookup}
use Rattle.std.specs.Ordering.{nat_cmp}
use Rattle.std.specs.Prelude.{ℕ, Bool, List, [], Option, if◌then◌else◌, unwrap_or}
use Rattle.av_base.specs.Keys.{Key}
use Rattle.av_base.specs.declared.slot.Slot.{Slot}
use Rattle.av_audit_index.specs.Holders.{keys_at, pairs_at, seen_at}
use Rattle.av_audit_index.specs.Holding.{Holding}
use Rattle.av_audit_pages.specs.declared.slot_holders.SlotHolders.{SlotHolders}

-- one where the test holds
abbrev pub one : Bool → ℕ
one b = if b then 1 else 0

-- what holds the pages of an area
abbrev pub area_at : SlotHolders → ℕ → List (ℕ × Holding)
area_at holders a = unwrap_or (lookup (is_at (nat_cmp a)) holders.areas.entries) []

-- the keys of a slot
abbrev pub slot_keys_at : SlotHolders → Slot → List (Key × Bool)
slot_keys_at holders s = keys_at (area_at holders s.area) s.page

-- whether a key of a slot is seen, if the slot has the key
abbrev pub slot_seen_at : SlotHolders → Slot → Key → Option Bool
slot_seen_at holders s k = seen_at (area_at holders s.area) s.page k

-- how many cached pairs have a slot
abbrev pub slot_pairs_at : SlotHolders → Slot → ℕ
slot_pairs_at holders s = pairs_at (area_at holders s.area) s.page
