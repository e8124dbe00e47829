-- Worked examples of the direct pass: whose turn it is, what a turn is, and when the pass ends.
-- Which example would fail if a definition were wrong:
--   what a turn is (`is_dirty`, `unmap_notes`): stale_frame_written, cached_frame_unmapped
--   whose turn it is (`frames_in_turn`): inactive_first, active_too, all_but_the_pinned
--   who is passed over (`no_slot`, `Turns`, `stays_cached`): none_while_closing, past_stuck_frame,
--     clean_passed_over
--   which slot a frame gets (`IsSlotFor`, `may_give`): slot_while_closing
--   when the pass ends (`Turns`, `IsPass`): past_failure, given_up_after_failure,
--     freed_by_completion
--   which writes end before it (`IsPass`): all_completed, write_behind_ends
--   `bus` behind a pass (`IsLost`, `causes`): lost_behind_pass, lost_and_failed
-- Frames 0 and 1 are all that there are, and where it isn't said otherwise both are cached, clean,
-- and named by no entry: so the one whose turn comes first is dropped at once.
use Rattle.std.specs.Prelude.{ℕ, Bool, true, false, List, [], ◌∷◌, Option, Some, None}
use Rattle.av_trace.specs.declared.note.Note.{Note}
use Rattle.av_trace.specs.declared.note.Note.TheVariants.{Put, Unmapped, Started, Written, Failed}
use Rattle.av_trace.specs.declared.note.Note.TheVariants.{Dropped}
use Rattle.av_trace.specs.declared.reply.Answer.TheVariants.{Bus}
use Rattle.av_trace.specs.declared.reply.Reply.{Reply}
use Rattle.av_plain.specs.Ledger.{Entry, InFrame, InSlot, Ledger, Setting, Zero, first_ledger}
use Rattle.av_plain.specs.Pass.{IsPass, Spared}
use Rattle.av_plain.specs.World.{World, zeros}
use Rattle.av_laws.specs.Examples.{cached_at, one_area, read_only, reply_with, slot}
use Rattle.av_laws.specs.Slots.{slot_at, two_swaps}

-- no frame is left alone, but that swap area, if any, which is closing
abbrev pub no_frame_spared : Option ℕ → Spared
no_frame_spared closing = record { pinned = None; locked = λ f. false; closing = closing }

-- then a pass may have these notes
abbrev pub Passes : Setting → Option ℕ → Ledger → List Note → Type 0
Passes m closing l notes = IsPass m (no_frame_spared closing) l notes

-- frame 0 is cached at slot 1, stale or not, and the first page has this entry; frame 1 is cached
-- at slot 2. These are the lists
abbrev pub both_cached : Bool → Entry → List ℕ → List ℕ → Ledger
both_cached stale e active inactive = record first_ledger {
  entries = ((1, 0x10), e) ∷ ((1, 0x11), InSlot (slot 2)) ∷ [];
  cache = cached_at 1 0 stale ∷ cached_at 2 1 false ∷ [];
  active = active;
  inactive = inactive;
  on = one_area 7 0;
}

-- frame 0 has an entry and is not cached; frame 1 is cached at slot 1 of an area with so many slots
abbrev pub last_cached : ℕ → Ledger
last_cached slots = record first_ledger {
  entries = ((1, 0x10), InFrame 0 true) ∷ ((1, 0x11), InSlot (slot 1)) ∷ [];
  cache = cached_at 1 1 false ∷ [];
  inactive = 1 ∷ 0 ∷ [];
  on = one_area slots 0;
}

-- the write of frame 0 to its slot fails, and frame 1 has its turn
abbrev pub failure_first : List Note
failure_first =
    Put 0 (slot 2) ∷ Unmapped 0 ∷ Started (slot 2) ∷ Failed (slot 2) ∷ Dropped (slot 1) ∷ []

-- two areas and one frame
abbrev pub one_frame_two_areas : Setting
one_frame_two_areas = record two_swaps { frames = 1 }

-- a frame goes to the first slot of the lower of two areas that is free
abbrev pub to_lower_area : List Note
to_lower_area = let s = slot_at 0 2 in Put 0 s ∷ Unmapped 0 ∷ Started s ∷ Written s ∷ Dropped s ∷ []

-- nothing names frame 0 but its slot, whose write is in flight
abbrev pub orphan_in_flight : Ledger
orphan_in_flight = record (both_cached false Zero [] (1 ∷ 0 ∷ [])) { flight = slot 1 ∷ [] }

-- behind it that of frame 1 is
abbrev pub orphan_before_another : Ledger
orphan_before_another = record orphan_in_flight { flight = slot 1 ∷ slot 2 ∷ [] }

-- both writes are in flight
abbrev pub both_in_flight : Ledger
both_in_flight =
    record (both_cached false (InSlot (slot 1)) [] (1 ∷ 0 ∷ [])) { flight = slot 1 ∷ slot 2 ∷ [] }

-- a process that may read each page
abbrev pub all_readable : World
all_readable = (1, λ page. Some (zeros read_only)) ∷ []

-- its first page is at slot 3 and in no frame, and the write of frame 1 is in flight
abbrev pub third_out : Ledger
third_out = record (both_cached false Zero [] (1 ∷ 0 ∷ [])) {
  entries = ((1, 0x10), InSlot (slot 3)) ∷ ((1, 0x11), InSlot (slot 2))
      ∷ ((1, 0x12), InSlot (slot 1)) ∷ [];
  flight = slot 2 ∷ [];
}

-- that write fails, frame 0 is freed, and yet the page does not come
abbrev pub lost_reply : Reply
lost_reply = reply_with (Bus 0 []) (Failed (slot 2) ∷ Dropped (slot 1) ∷ [])
