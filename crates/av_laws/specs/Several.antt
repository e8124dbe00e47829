-- Worked examples with several of a kind that differ: frames in lists, swap areas, pages of a
-- device. Which example would fail if a definition were wrong:
--   where a frame goes in its list (`to_active`, `after_note`): to_active_head, started_to_head,
--     new_to_head, stuck_to_active_head
--   what counts over all areas (`is_full`, `totals`): not_full, full, all_slots, all_free_slots
--   which page of the device it is (`HoldsTold`, `IsClean`): page_at_next_slot, clean_at_next_slot
--   where a page is by its entry (`IsKept`, `IsKeptAt`): cached, no_entry, zero_page
--   which area of the device it is (`HoldsTold`, `IsClean`, `headers_of`, `first_pages`):
--     page_of_other_area, clean_by_other_area, second_header
--   what stays of a device (`IsSameDevice`): other_slots, other_page_0 (with same_header),
--     slot_written, header_written, attached_again, other_sizes, fewer_failures
use Rattle.std.specs.Prelude.{ℕ, true, false, ◌==◌, ◌&&◌, if◌then◌else◌, List, [], ◌∷◌, Option}
use Rattle.std.specs.Prelude.{Some, None, drop, option_and_then, replicate}
use Rattle.av_swapdev.specs.Header.{Layout}
use Rattle.av_swapdev.specs.Device.{after_attach, after_write, no_history}
use Rattle.av_plain.specs.Device.{Device, device_by, headers_of}
use Rattle.av_plain.specs.Ledger.{InSlot, Ledger, Setting, first_ledger}
use Rattle.av_plain.specs.Stands.{BytesStand}
use Rattle.av_plain.specs.Transcript.{State}
use Rattle.av_laws.specs.Examples.{swap_area}
use Rattle.av_laws.specs.Slots.{slot_at, two_swaps}
use Rattle.av_laws.specs.Views.{cached_view, header_page, swap_device}

-- these are the lists, and no frame is cached
abbrev pub with_lists : List ℕ → List ℕ → Ledger
with_lists active inactive = record first_ledger { active = active; inactive = inactive }

-- one slot of each of two areas is in use; the lower one has another, the upper one has none
abbrev pub one_free : Ledger
one_free = record first_ledger {
  entries = ((1, 0x10), InSlot (slot_at 0 1)) ∷ ((1, 0x11), InSlot (slot_at 1 1)) ∷ [];
  on = (0, swap_area 2 0) ∷ (1, swap_area 1 6) ∷ [];
}

-- the device doesn't tell which pages are bad
abbrev pub two_untold : Setting
two_untold = record two_swaps { headers = None }

-- the page of this slot begins with 7, that of each other one with 9
abbrev pub seven_at : ℕ → Device
seven_at slot = record (swap_device 9) {
  pages = Some (λ k page. if page == 0 then header_page
      else (if page == slot then 7 else 9) ∷ replicate 4095 0);
}

-- with that device frames and device hold what the pages of the state claim
abbrev pub HoldWith : ℕ → State → Type 0
HoldWith slot s = BytesStand (cached_view false false) (seven_at slot) s.world s.ledger

-- the first byte of page 0, of which the header says nothing, is another one
abbrev pub with_other_page_0 : Device
with_other_page_0 = record (swap_device 9) {
  pages = Some (λ k page. if page == 0 then 1 ∷ drop 1 header_page else 9 ∷ replicate 4095 0);
}

-- a page of area 0 was to be written since, or area 0 was to be attached
abbrev pub after_writing : ℕ → Device
after_writing page = record (swap_device 9) { history = after_write 0 page no_history }

abbrev pub attached_again : Device
attached_again = record (swap_device 9) { history = after_attach 0 [] true no_history }

-- the pages of area 0 begin with 7; area 1 has a header, and its other pages begin with 9
abbrev pub two_told : Device
two_told = device_by two_swaps.sizes
    (Some (λ k page. if k == 1 && page == 0 then header_page
    else (if k == 1 then 9 else 7) ∷ replicate 4095 0))
    (0, no_history)

-- what the header of an area says, if it is told and has no fault
abbrev pub told_header : ℕ → Device → Option Layout
told_header k d = option_and_then (λ headers. headers k) (headers_of d)
