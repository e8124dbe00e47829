-- Worked steps of swap: single commands that meet several frames, slots or areas.
-- Which step would fail if a definition were wrong:
--   why a frame is kept (`cause_of`, `is_referenced`): four_reclaimed, seen_kept, clean_when_full;
--     (`is_in_writeback`) clean_beside_a_write
--   what those before a frame left (`Outcomes`): four_reclaimed
--   which frames, and in which order (`from_tail`): two_reclaimed, two_aged
--   which writes end, and in which order (`CompletesFirst`): first_completed, both_completed,
--     second_too, second_left_in_flight
--   what is dropped behind a write that ended (`end_notes`): failed_stays
--   how a cached frame leaves (`leave_notes`): clean_reclaimed, stale_frame_is_written
--   the slots of an area that is turned off, in order (`Empties`, `map_notes`): two_emptied
--   which writes end before (`TurnsOff`): two_emptied, upper_write_ends
--   where a `swapoff` ends (`EndsAt`): left_named, cached_unread, later_unread
--   why it ends there (`end_at`, `close_answer`): unread_behind_pass, starved_behind_pass,
--     counted_behind_pass, unread_without_frame, unread_is_told
--   whether the area is on then (`turn_off_events`): turned_off, unmapped_in_turn, unread_stays_on
--   what a pass does to slots that are still to be emptied (`Empties`, `sparing_area`):
--     unmapped_in_turn, cached_there_fails
--   which area gives a slot while one is turned off (`closing_swap_area`, `sparing_area`):
--     other_area_fills, other_area_gives
--   what `slot` tests (`is_outside`, `is_off`, `is_usable`): bad_page, header_page, past_header,
--     last_slot, off_area
--   the count of a slot that is cached, and its frame (`count_answer`): cached_counted
--   what `slot` tells where headers aren't told (`MayBeNoSlot`): used_counted, unused_bad,
--     unused_outside, used_bad, used_outside; (`pages_used`) past_device
--   what `swapon` tests, and a header (`header_answer`): no_device, no_pages, no_device_unread,
--     no_pages_unread, unread_header, wrong_header, header
--   which area is on then, and whose header it is (`turn_on_events`, `TurnsOn`): second_area,
--     unread_header, wrong_header
--   what `swapon` tells where headers aren't told (`IsByHeader`): untold_header,
--     untold_wrong_header, untold_without_slots
--   whether swap is full (`Serves`, `is_full`): full_at_the_drop, half_full_at_the_drop
--   whether a page came in (`is_unneeded`): found_when_full; (`was_slot`) mapped_when_full
--   what is claimed after a write (`next_world`): written_after_load, around_unclaimed, around_told
use Rattle.std.specs.Prelude.{◌≡◌, ℕ, Bool, true, false, ◌==◌, if◌then◌else◌, List, [], ◌∷◌, ◌++◌}
use Rattle.std.specs.Prelude.{Option, Some, None}
use Rattle.av_trace.specs.declared.command.Command.TheVariants.{Swapoff, Write}
use Rattle.av_trace.specs.declared.note.Cause.TheVariants.{Referenced, NoSlot, WriteStarted}
use Rattle.av_trace.specs.declared.note.Cause.TheVariants.{Writeback}
use Rattle.av_trace.specs.declared.note.Note.{Note}
use Rattle.av_trace.specs.declared.note.Note.TheVariants.{Loaded, Mapped, Put, Unmapped, Started}
use Rattle.av_trace.specs.declared.note.Note.TheVariants.{Written, Failed, Dropped, Kept}
use Rattle.av_trace.specs.declared.reply.Answer.TheVariants.{Done}
use Rattle.av_trace.specs.declared.reply.OutOf.{OutOf}
use Rattle.av_plain.specs.Event.{Event, Noted, TurnedOff, Used, note_events}
use Rattle.av_plain.specs.Ledger.{InFrame, InSlot, Ledger, Setting, first_ledger, slots_in_use}
use Rattle.av_plain.specs.Step.{closing_swap_area, next_world}
use Rattle.av_plain.specs.Swapoff.{Close, EndsAt, sparing_area}
use Rattle.av_plain.specs.World.{byte_at, pages}
use Rattle.av_laws.specs.Examples.{cached_at, one_area, paged_out, slot}
use Rattle.av_laws.specs.PassTurns.{one_frame_two_areas}
use Rattle.av_laws.specs.Slots.{MayChoose, lower_given, lower_in_use, slot_at}

-- ---- reclaim and age

-- frame 0 is cached at slot 1, whose write is in flight, and was read since; frame 1 has two
-- entries, of which the second alone was seen; frames 2 and 3 have no slot, and one slot is free
abbrev pub four_inactive : Ledger
four_inactive = record first_ledger {
  entries = ((1, 0x10), InFrame 0 true) ∷ ((1, 0x11), InFrame 1 false)
      ∷ ((1, 0x12), InFrame 2 false) ∷ ((1, 0x13), InFrame 3 false)
      ∷ ((2, 0x11), InFrame 1 true) ∷ [];
  cache = cached_at 1 0 false ∷ [];
  flight = slot 1 ∷ [];
  inactive = 3 ∷ 2 ∷ 1 ∷ 0 ∷ [];
  on = one_area 2 0;
}

-- the first two, from the tail, are kept; frame 2 takes the slot, so that none is left for frame 3
abbrev pub two_kept : List Note
two_kept = Kept 0 Writeback ∷ Kept 1 Referenced ∷ []

abbrev pub four_reclaimed : List Note
four_reclaimed =
    Kept 0 Writeback ∷ Kept 1 Referenced ∷ Put 2 (slot 2) ∷ Unmapped 2 ∷ Started (slot 2)
    ∷ Kept 2 WriteStarted ∷ Kept 3 NoSlot ∷ []

-- the one frame was seen, and no area is on
abbrev pub seen_without_slot : Ledger
seen_without_slot = record first_ledger {
  entries = ((1, 0x10), InFrame 0 true) ∷ [];
  inactive = 0 ∷ [];
}

-- three frames are active
abbrev pub three_active : Ledger
three_active = record first_ledger { active = 2 ∷ 1 ∷ 0 ∷ [] }

-- ---- complete

-- the writes of slots 2 and 1 are in flight, in this order
abbrev pub two_flying : Ledger
two_flying = record first_ledger {
  entries = ((1, 0x10), InFrame 0 true) ∷ ((1, 0x11), InFrame 1 true) ∷ [];
  cache = cached_at 1 0 false ∷ cached_at 2 1 false ∷ [];
  flight = slot 2 ∷ slot 1 ∷ [];
  inactive = 1 ∷ 0 ∷ [];
  on = one_area 2 0;
}

-- both have ended
abbrev pub both_written : List Note
both_written = Written (slot 2) ∷ Written (slot 1) ∷ []

-- ---- swapoff

-- slot 1 is on the device, and pages of two processes are at it; slot 2 is cached at frame 0, which
-- process 1 has, its write is in flight, and a page of process 2 is at it
abbrev pub two_slots : Ledger
two_slots = record first_ledger {
  entries = ((1, 0x10), InFrame 0 true) ∷ ((1, 0x12), InSlot (slot 1))
      ∷ ((2, 0x11), InSlot (slot 1)) ∷ ((2, 0x13), InSlot (slot 2)) ∷ [];
  cache = cached_at 2 0 true ∷ [];
  flight = slot 2 ∷ [];
  inactive = 0 ∷ [];
  on = one_area 2 0;
}

-- the least slot comes first, and of its pages that of the first process, whatever their addresses
abbrev pub first_emptied : List Note
first_emptied =
    Written (slot 2) ∷ Loaded (slot 1) 1 ∷ Mapped 1 0x12000 1 ∷ Mapped 2 0x11000 1
    ∷ Dropped (slot 1) ∷ []

-- the other slot has its frame
abbrev pub two_emptied : List Note
two_emptied = first_emptied ++ Mapped 2 0x13000 0 ∷ Dropped (slot 2) ∷ []

-- an area is on, and none of its slots is in use
abbrev pub none_in_use : Ledger
none_in_use = record first_ledger { on = one_area 2 0 }

-- frame 0 is cached in the upper of two areas, and its write is in flight
abbrev pub upper_in_flight : Ledger
upper_in_flight = record (lower_in_use 0) {
  cache = record { slot = slot_at 1 1; frame = 0; stale = false } ∷ [];
  flight = slot_at 1 1 ∷ [];
}

-- the one frame goes to the other area, and then has the page of the slot
abbrev pub to_other_area : List Note
to_other_area =
    Put 0 (slot_at 1 1) ∷ Unmapped 0 ∷ Started (slot_at 1 1) ∷ Written (slot_at 1 1)
    ∷ Dropped (slot_at 1 1) ∷ []

abbrev pub other_area_fills : List Note
other_area_fills = to_other_area ++ Loaded (slot 1) 0 ∷ Mapped 1 0x11000 0 ∷ Dropped (slot 1) ∷ []

-- or its write fails, and it stays cached there
abbrev pub counted_behind_pass : List Note
counted_behind_pass =
    Put 0 (slot_at 1 1) ∷ Unmapped 0 ∷ Started (slot_at 1 1) ∷ Failed (slot_at 1 1) ∷ []

-- the other area is chosen, where one slot of the area that is turned off was given and others are
-- free
abbrev pub OtherAreaGives : Type 0
OtherAreaGives = MayChoose one_frame_two_areas (closing_swap_area (Swapoff 0)) (lower_in_use 1)
    (note_events other_area_fills ++ TurnedOff 0 ∷ [])
    (record (lower_given 1) { frames = [] })

-- where slots of area 0 are still in use, it may end with these notes
abbrev pub Ends : Setting → Ledger → List Note → Close → Type 0
Ends m l notes end = EndsAt m (sparing_area [] 0 l) 0 l (slots_in_use m l 0) notes end

-- a page is in frame 0, which caches slot 1; another is at slot 2, on the device
abbrev pub cached_by_first : Ledger
cached_by_first = record first_ledger {
  entries = ((1, 0x10), InFrame 0 false) ∷ ((1, 0x11), InSlot (slot 2)) ∷ [];
  cache = cached_at 1 0 false ∷ [];
  inactive = 0 ∷ [];
  on = one_area 2 0;
}

-- slot 1 is on the device, and a page is at it; another page is in the one frame, which slot 2
-- caches, stale or not
abbrev pub cached_by_second : Bool → Ledger
cached_by_second stale = record first_ledger {
  entries = ((1, 0x10), InSlot (slot 1)) ∷ ((1, 0x11), InFrame 0 false) ∷ [];
  cache = cached_at 2 0 stale ∷ [];
  inactive = 0 ∷ [];
  on = one_area 2 0;
}

-- a clean frame is free without a write, so it has the page of slot 1; but then a page is at slot 2
-- that was not, and no other frame is there
abbrev pub unmapped_in_turn : List Note
unmapped_in_turn =
    Unmapped 0 ∷ Dropped (slot 2) ∷ Loaded (slot 1) 0 ∷ Mapped 1 0x10000 0 ∷ Dropped (slot 1) ∷ []

-- a stale one is written to its slot, though that is of the area that is turned off
abbrev pub cached_there_fails : List Note
cached_there_fails = Unmapped 0 ∷ Started (slot 2) ∷ Failed (slot 2) ∷ []

-- there is no frame: so many are not cached, and so many are
abbrev pub numbers : ℕ → ℕ → OutOf
numbers noslot fault = record { pinned = 0; noslot = noslot; fault = fault; locked = 0; ksm = 0 }

-- ---- slot and swapon

-- devices of ten pages are areas 0 and 2, and one without a page is area 1. The header of the first
-- has 8 pages, the third of them bad; the others have none
abbrev pub third_bad : Setting
third_bad = record {
  frames = 4;
  sizes = λ k. if k == 0 then Some 10 else (if k == 1 then Some 0
      else (if k == 2 then Some 10 else None));
  headers = Some
      (λ k. if k == 0 then Some (record { pages = 8; slots = 6; bad = 3 ∷ [] }) else None);
}

-- it is on
abbrev pub third_bad_on : Ledger
third_bad_on = record first_ledger { on = one_area 6 1 }

-- ---- reads and writes

-- page 0x10 is at slot 1 of so many, and page 0x11 in the one frame
abbrev pub one_out : ℕ → Ledger
one_out slots = record first_ledger {
  entries = ((1, 0x10), InSlot (slot 1)) ∷ ((1, 0x11), InFrame 0 true) ∷ [];
  inactive = 0 ∷ [];
  on = one_area slots 0;
}

-- One slot is in use; with the one that the frame goes to, two are. So of three slots swap is full
-- where the page has come in, and was not before; of four it is not.
abbrev pub frame_freed : List Note
frame_freed =
    Put 0 (slot 2) ∷ Unmapped 0 ∷ Started (slot 2) ∷ Written (slot 2) ∷ Dropped (slot 2) ∷ []

abbrev pub page_in : List Note
page_in = frame_freed ++ Loaded (slot 1) 0 ∷ Mapped 1 0x10000 0 ∷ []

abbrev pub page_in_and_drop : List Note
page_in_and_drop = page_in ++ Dropped (slot 1) ∷ []

-- page 0x10 is in frame 0, which is cached at the one slot that there is: so swap is full
abbrev pub found_when_full : Ledger
found_when_full = record first_ledger {
  entries = ((1, 0x10), InFrame 0 true) ∷ [];
  cache = cached_at 1 0 false ∷ [];
  inactive = 0 ∷ [];
  on = one_area 1 0;
}

-- or the page's entry names that slot still
abbrev pub mapped_when_full : Ledger
mapped_when_full = record found_when_full { entries = ((1, 0x10), InSlot (slot 1)) ∷ [] }

-- the page at slot 1 is written, so that it is loaded and the slot dropped
abbrev pub out_and_written : List Event
out_and_written =
    Noted (Loaded (slot 1) 0) ∷ Noted (Mapped 1 0x7fffffffe000 0) ∷ Used true (1, 0x7fffffffe)
    ∷ Noted (Dropped (slot 1)) ∷ []

-- after that the byte at the address is this, or nobody claims it
abbrev pub ClaimsAfterWrite : Setting → ℕ → Option ℕ → Type 0
ClaimsAfterWrite m address claimed =
    let old = paged_out 7 (0 ∷ []) in
    let new = next_world m old.world old.ledger out_and_written
    (Write 1 0x7fffffffe000 (9 ∷ [])) Done in
    byte_at (pages new 1) address ≡ claimed
