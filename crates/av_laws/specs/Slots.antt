-- Worked examples for slots: which one is given next, and which may not be.
-- Which example would fail if a definition were wrong:
--   which area gives (`giving_swap_area`, `can_give`): lower_gives, upper_gives, past_a_closing,
--     from_none
--   by its priority (`has_greatest_priority`): greatest_gives, last_may_give, first_of_equals,
--     greatest_is_closing, greatest_is_full, none_is_least, not_by_digits; (`priority_of`,
--     `turn_on_events`) with_priority, without_priority, least_priority, greatest_priority
--   that a frame is put at a slot of that area (`IsGiven`): put_at_greatest, put_at_lesser,
--     put_while_closing
--   what comes back (`new_free_slots`): put_in_turn, zapped_last, zapped_first, still_named,
--     not_written
--   the order of clusters (`take_slot`, `give_slot`): put_in_turn, put_again, second_cluster
--   an area that is turned on (`AreFresh`, `SwitchesArea`): on_again, fewer_slots, more_bad,
--     no_header, adds_up, too_short, too_long, miscounted
use Rattle.std.specs.Prelude.{◌≡◌, ℕ, suc, ◌+◌, ℤ, pos, true, false, ◌==◌, nat_lt, if◌then◌else◌}
use Rattle.std.specs.Prelude.{List, [], ◌∷◌, map, Option, Some, None}
use Rattle.av_base.specs.Keys.{Key}
use Rattle.av_base.specs.Words.{with_at}
use Rattle.std.specs.List.{range_with_len}
use Rattle.av_base.specs.declared.slot.Slot.{Slot}
use Rattle.av_clusters.specs.Clusters.{fresh}
use Rattle.av_trace.specs.declared.note.Note.TheVariants.{Put, Unmapped, Started, Failed, Dropped}
use Rattle.av_plain.specs.Choice.{AreFresh, ChoosesAll, Free, giving_swap_area, no_slots}
use Rattle.av_plain.specs.Event.{Event, Noted, Zapped, TurnedOn, TurnedOff}
use Rattle.av_plain.specs.Ledger.{Entry, Ledger, Setting, SwapArea, InFrame, InSlot}
use Rattle.av_plain.specs.Ledger.{first_ledger}
use Rattle.av_laws.specs.Examples.{cached_at, one_area, only_frames, slot, swap_area, untold}
use Rattle.av_laws.specs.Examples.{when_given, with_slots}

-- ---- what is claimed

-- while an area is closing these events may come, from what is free on; or they may not, since a
-- frame or a slot is chosen wrongly, or an area is turned on wrongly
abbrev pub MayChoose : Setting → Option ℕ → Ledger → List Event → Free → Type 0
MayChoose m closing l events free = (left : Free) × ChoosesAll m closing l events free left

abbrev pub MayNotChoose : Setting → Option ℕ → Ledger → List Event → Free → Type 0
MayNotChoose m closing l events free = (left : Free) → ChoosesAll m closing l events free left → ⊥

-- where pages aren't told, an area of 8 pages that is turned on with so many slots and bad pages
-- may have clusters of so many pages with these bad ones; or it may not
abbrev pub MayBeFresh : ℕ → ℕ → ℕ → List ℕ → Type 0
MayBeFresh slots bad pages named =
    AreFresh untold 0 (swap_area slots bad) (fresh pages named)

abbrev pub MayNotBeFresh : ℕ → ℕ → ℕ → List ℕ → Type 0
MayNotBeFresh slots bad pages named = MayBeFresh slots bad pages named → ⊥

-- ---- slots that come back when they are dropped

-- three frames are in use, and the area with seven slots is on
abbrev pub three_in_use : Ledger
three_in_use = record first_ledger {
  entries = ((1, 0x10), InFrame 0 true) ∷ ((1, 0x11), InFrame 1 true)
      ∷ ((1, 0x12), InFrame 2 true) ∷ [];
  inactive = 2 ∷ 1 ∷ 0 ∷ [];
  on = one_area 7 0;
}

-- two get slots, and the first slot comes back while the second is still in use; the third frame
-- is put at this one
abbrev pub puts : Slot → List Event
puts s = Noted (Put 0 (slot 1)) ∷ Noted (Put 1 (slot 2)) ∷ Noted (Dropped (slot 1))
    ∷ Noted (Put 2 s) ∷ []

-- the only slot that was given comes back, so that its cluster has none in use
abbrev pub puts_again : Slot → List Event
puts_again s = Noted (Put 0 (slot 1)) ∷ Noted (Dropped (slot 1)) ∷ Noted (Put 0 s) ∷ []

-- the write of the first slot fails: it stays given
abbrev pub puts_after_fail : Slot → List Event
puts_after_fail s = Noted (Put 0 (slot 1)) ∷ Noted (Unmapped 0) ∷ Noted (Started (slot 1))
    ∷ Noted (Failed (slot 1)) ∷ Noted (Put 1 s) ∷ []

-- slot 1 is cached at frame 0, and an entry names it
abbrev pub cached_and_named : Ledger
cached_and_named = record first_ledger {
  entries = ((1, 0x10), InSlot (slot 1)) ∷ ((1, 0x11), InFrame 1 true) ∷ [];
  cache = cached_at 1 0 false ∷ [];
  inactive = 1 ∷ 0 ∷ [];
  on = one_area 7 0;
}

-- it is dropped: the entry still names it, so that it doesn't come back
abbrev pub puts_after_drop : Slot → List Event
puts_after_drop s = Noted (Dropped (slot 1)) ∷ Noted (Put 1 s) ∷ []

-- ---- slots that come back when their last entry goes

-- a page is in frame 0, and so many are at slots, from slot 1 on
abbrev pub some_out : ℕ → Ledger
some_out n = record first_ledger {
  entries = ((1, 0x10), InFrame 0 true)
      ∷ map (λ page. ((1, 0x10 + page), InSlot (slot page))) (range_with_len 1 n);
  inactive = 0 ∷ [];
  on = one_area 7 0;
}

-- so many were given
abbrev pub some_given : ℕ → Free
some_given n = with_slots 8 [] n (1 ∷ 2 ∷ 3 ∷ [])

-- the entry of slot 1 goes, and frame 0 is put at this one
abbrev pub puts_after_zap : Slot → List Event
puts_after_zap s = Zapped (1, 0x11) ∷ Noted (Put 0 s) ∷ []

-- ---- two areas

-- a slot of an area
abbrev pub slot_at : ℕ → ℕ → Slot
slot_at area page = record { area = area; page = page }

-- four frames, an area with two slots and one with seven
abbrev pub two_swaps : Setting
two_swaps = record {
  frames = 4;
  sizes = λ k. if k == 0 then Some 3 else (if k == 1 then Some 8 else None);
  headers = Some (λ k.
      if k == 0 then Some (record { pages = 3; slots = 2; bad = [] })
      else (if k == 1 then Some (record { pages = 8; slots = 7; bad = [] }) else None));
}

-- both are on; a page is in frame 0, and so many are at slots of the first area
abbrev pub lower_in_use : ℕ → Ledger
lower_in_use n = record (some_out n) {
  on = (0, swap_area 2 0) ∷ (1, swap_area 7 0) ∷ [];
}

-- so many were given there, and none of the second
abbrev pub lower_given : ℕ → Free
lower_given n = record {
  frames = 1 ∷ 2 ∷ 3 ∷ [];
  slots = with_at 0 (when_given n (fresh 3 [])) (with_at 1 (fresh 8 []) no_slots);
}

-- no slot is in use, and the second area has a priority, while the first has none
abbrev pub upper_before_lower : Ledger
upper_before_lower = record (some_out 0) {
  on = (0, swap_area 2 0) ∷ (1, record (swap_area 7 0) { priority = pos 5 }) ∷ [];
}

-- frame 0 is put at this slot
abbrev pub one_put : Slot → List Event
one_put s = Noted (Put 0 s) ∷ []

-- ---- eight areas

-- four frames, and eight areas with one slot each
abbrev pub eight_swaps : Setting
eight_swaps = record {
  frames = 4;
  sizes = λ k. if nat_lt k 8 then Some 2 else None;
  headers = Some
      (λ k. if nat_lt k 8 then Some (record { pages = 2; slots = 1; bad = [] }) else None);
}

-- areas from one on, with these priorities
abbrev pub areas_with : ℕ → List ℤ → List (ℕ × SwapArea)
areas_with k [] = []
areas_with k (p ∷ ps) =
    (k, record { slots = 1; bad = 0; priority = p }) ∷ areas_with (suc k) ps

-- with these priorities, and these entries, that area gives a slot, while one may be closing
abbrev pub AreaGives : Option ℕ → List (Key × Entry) → List ℤ → Option ℕ → Type 0
AreaGives closing entries priorities k =
    giving_swap_area eight_swaps closing
    (record first_ledger { entries = entries; on = areas_with 0 priorities })
    ≡ k

-- ---- areas that are turned on

-- a page is in frame 0, and no area is on
abbrev pub none_on : Ledger
none_on = record (some_out 0) { on = [] }

-- the other frames are free, and there are no slots
abbrev pub no_slot_yet : Free
no_slot_yet = only_frames (1 ∷ 2 ∷ 3 ∷ [])

-- an area of two clusters is turned on, and its first slot is given and comes back, so that its
-- cluster is the last one; frame 0 is put at this slot then
abbrev pub puts_then : Slot → List Event
puts_then s = TurnedOn 0 (swap_area 299 0) ∷ Noted (Put 0 (slot 1)) ∷ Noted (Dropped (slot 1))
    ∷ Noted (Put 0 s) ∷ []

-- or the area is turned off and on again before
abbrev pub puts_when_on_again : Slot → List Event
puts_when_on_again s = TurnedOn 0 (swap_area 299 0) ∷ Noted (Put 0 (slot 1))
    ∷ Noted (Dropped (slot 1)) ∷ TurnedOff 0 ∷ TurnedOn 0 (swap_area 299 0) ∷ Noted (Put 0 s) ∷ []

-- an area is turned on with so many slots and bad pages
abbrev pub turn_on : ℕ → ℕ → ℕ → List Event
turn_on k slots bad = TurnedOn k (swap_area slots bad) ∷ []
