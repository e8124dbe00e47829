-- Worked examples with two of a kind: two entries of one frame or slot, two cached slots, two
-- writes in flight, a bad page beside good ones. A definition that looks at the first one alone, or
-- at all of them, fails here. Which example would fail:
--   a fork and a move (`after_fork`, `after_move`): forks_and_moves
--   the ledger after an event (`after`): two_of_each, tail_stays, copied_and_gone, two_areas
--   what a bad page is (`is_usable`, `may_give`): bad; (`is_header_slot`) past_header
--   failures (`causes`): bus_and_fails, eio, no_failure, cached_when_out; (`causes_of`) of_all
--   what a load makes unclaimed (`without_claims`): its_page, page_of_other, its_other_page,
--     other_page_of_other, told; by which entries (`after_loads`): put_before; what a read shows
--     then (`ReadsPages`): shown
use Rattle.std.specs.Prelude.{◌≡◌, ℕ, Bool, true, false, List, [], ◌∷◌, Option}
use Rattle.av_base.specs.Keys.{Key}
use Rattle.av_base.specs.declared.slot.Slot.{Slot}
use Rattle.av_trace.specs.declared.command.Command.TheVariants.{Complete, Read}
use Rattle.av_trace.specs.declared.reply.Answer.TheVariants.{Bus, Done}
use Rattle.av_trace.specs.declared.note.Note.{Note}
use Rattle.av_trace.specs.declared.note.Note.TheVariants.{Zeroed, New, Copied, Loaded, Mapped, Put}
use Rattle.av_trace.specs.declared.note.Note.TheVariants.{Unmapped, Started, Written, Failed}
use Rattle.av_trace.specs.declared.note.Note.TheVariants.{Dropped, Kept, Aged}
use Rattle.av_trace.specs.declared.note.Cause.TheVariants.{Referenced, NoSlot, Writeback}
use Rattle.av_plain.specs.World.{World, byte_at, pages}
use Rattle.av_plain.specs.Ledger.{Ledger, Setting, Cached, Entry, Zero, InFrame, InSlot}
use Rattle.av_plain.specs.Ledger.{SwapArea, first_ledger}
use Rattle.av_plain.specs.Event.{Event, Noted, Used, Forked, EntriesMoved, TurnedOn, TurnedOff}
use Rattle.av_plain.specs.Event.{Zapped, after}
use Rattle.av_plain.specs.Load.{with_loads}
use Rattle.av_plain.specs.Transcript.{Exchange, State}
use Rattle.av_laws.specs.Examples.{cached_at, one_area, reply_with, slot, swap_area, two_bytes}
use Rattle.av_laws.specs.Examples.{with_entries}

-- ---- the ledger, event by event

-- each event leaves the ledger beside it
abbrev pub Leads : Ledger → List (Event × Ledger) → Type 0
Leads l [] = Unit {0}
Leads l (step ∷ steps) = (after l step.0 ≡ step.1) × Leads step.1 steps

-- process 1 has a page in a frame, the zero page, and a page at a slot
abbrev pub one_of_each : List (Key × Entry)
one_of_each =
    ((1, 0x10), InFrame 0 true) ∷ ((1, 0x11), Zero) ∷ ((1, 0x12), InSlot (slot 1)) ∷ []

-- a child gets all three kinds of entries; another one only that of the page that goes over; a move
-- takes each page to its own
abbrev pub forks_and_moves : List (Event × Ledger)
forks_and_moves = (
  Forked 1 4 (0x10 ∷ 0x11 ∷ 0x12 ∷ 0x13 ∷ []),
  with_entries
      (((1, 0x10), InFrame 0 true) ∷ ((1, 0x11), Zero) ∷ ((1, 0x12), InSlot (slot 1))
      ∷ ((4, 0x10), InFrame 0 false) ∷ ((4, 0x11), Zero) ∷ ((4, 0x12), InSlot (slot 1)) ∷ []),
)
    ∷ (
      Forked 1 3 (0x12 ∷ []),
      with_entries
          (((1, 0x10), InFrame 0 true) ∷ ((1, 0x11), Zero) ∷ ((1, 0x12), InSlot (slot 1))
          ∷ ((3, 0x12), InSlot (slot 1))
          ∷ ((4, 0x10), InFrame 0 false) ∷ ((4, 0x11), Zero) ∷ ((4, 0x12), InSlot (slot 1)) ∷ []),
    )
    ∷ (
      EntriesMoved 4 2 0x11 0x21,
      with_entries
          (((1, 0x10), InFrame 0 true) ∷ ((1, 0x11), Zero) ∷ ((1, 0x12), InSlot (slot 1))
          ∷ ((3, 0x12), InSlot (slot 1))
          ∷ ((4, 0x10), InFrame 0 false) ∷ ((4, 0x21), Zero) ∷ ((4, 0x22), InSlot (slot 1)) ∷ []),
    )
    ∷ (
      EntriesMoved 1 3 0x10 0x11,
      with_entries
          (((1, 0x11), InFrame 0 true) ∷ ((1, 0x12), Zero) ∷ ((1, 0x13), InSlot (slot 1))
          ∷ ((3, 0x12), InSlot (slot 1))
          ∷ ((4, 0x10), InFrame 0 false) ∷ ((4, 0x21), Zero) ∷ ((4, 0x22), InSlot (slot 1)) ∷ []),
    )
    ∷ []

-- processes 1 and 2 have these entries at page 0x10, and process 3 has frame 6 there
abbrev pub three_with : Entry → Entry → List Cached → List Slot → List ℕ → List ℕ → Ledger
three_with a b cache flight active inactive = record {
  entries = ((1, 0x10), a) ∷ ((2, 0x10), b) ∷ ((3, 0x10), InFrame 6 true) ∷ [];
  cache = cache;
  flight = flight;
  active = active;
  inactive = inactive;
  merged = [];
  on = [];
}

-- frame 6 alone is cached, at slot 2; both are, stale or not
abbrev pub second_cached : List Cached
second_cached = cached_at 2 6 false ∷ []

abbrev pub both_cached : Bool → Bool → List Cached
both_cached first second = cached_at 1 5 first ∷ cached_at 2 6 second ∷ []

-- both entries name frame 5, each seen or not
abbrev pub in_frame : Bool → Bool → List Cached → List ℕ → List ℕ → Ledger
in_frame a b cache active inactive =
    three_with (InFrame 5 a) (InFrame 5 b) cache [] active inactive

-- or slot 1
abbrev pub at_slot : List Cached → List Slot → List ℕ → List ℕ → Ledger
at_slot cache flight active inactive =
    three_with (InSlot (slot 1)) (InSlot (slot 1)) cache flight active inactive

-- frame 5 has two entries and then slot 1; frame 6 is cached at slot 2. A note changes all entries
-- of its frame, and its own slot alone
abbrev pub two_of_each : List (Event × Ledger)
two_of_each =
    (Noted (Kept 5 Referenced), in_frame false false second_cached (5 ∷ []) (6 ∷ []))
    ∷ (Used true (1, 0x10), in_frame true false second_cached (5 ∷ []) (6 ∷ []))
    ∷ (Used false (2, 0x10), in_frame true true second_cached (5 ∷ []) (6 ∷ []))
    ∷ (Noted (Aged 5), in_frame false false second_cached [] (5 ∷ 6 ∷ []))
    ∷ (Noted (Put 5 (slot 1)), in_frame false false (both_cached true false) [] (5 ∷ 6 ∷ []))
    ∷ (Noted (Unmapped 5), at_slot (both_cached true false) [] [] (5 ∷ 6 ∷ []))
    ∷ (Used true (3, 0x10), at_slot (both_cached true true) [] [] (5 ∷ 6 ∷ []))
    ∷ (Noted (Started (slot 2)), at_slot (both_cached true false) (slot 2 ∷ []) [] (5 ∷ 6 ∷ []))
    ∷ (
      Noted (Started (slot 1)),
      at_slot (both_cached false false) (slot 2 ∷ slot 1 ∷ []) [] (5 ∷ 6 ∷ []),
    )
    ∷ (
      Noted (Kept 6 Writeback),
      at_slot (both_cached false false) (slot 2 ∷ slot 1 ∷ []) [] (6 ∷ 5 ∷ []),
    )
    ∷ (
      Noted (Kept 6 NoSlot),
      at_slot (both_cached false false) (slot 2 ∷ slot 1 ∷ []) (6 ∷ []) (5 ∷ []),
    )
    ∷ (Noted (Written (slot 2)), at_slot (both_cached false false) (slot 1 ∷ []) [] (5 ∷ 6 ∷ []))
    ∷ (
      Noted (Started (slot 2)),
      at_slot (both_cached false false) (slot 1 ∷ slot 2 ∷ []) [] (5 ∷ 6 ∷ []),
    )
    ∷ (Noted (Failed (slot 1)), at_slot (both_cached true false) (slot 2 ∷ []) [] (5 ∷ 6 ∷ []))
    ∷ (
      Noted (Loaded (slot 3) 7),
      at_slot (cached_at 3 7 false ∷ both_cached true false) (slot 2 ∷ []) [] (7 ∷ 5 ∷ 6 ∷ []),
    )
    ∷ (Noted (Dropped (slot 3)), at_slot (both_cached true false) (slot 2 ∷ []) [] (5 ∷ 6 ∷ []))
    ∷ (
      Noted (Mapped 2 0x10000 5),
      three_with (InSlot (slot 1)) (InFrame 5 false) (both_cached true false) (slot 2 ∷ []) []
          (5 ∷ 6 ∷ []),
    ) ∷ []

-- frame 5 is at the tail, and a write of it begins twice. A note of it leaves it where it is, but
-- for the end of its write; and a slot that was written since a write of it began is stale after
-- that as well
abbrev pub tail_stays : List (Event × Ledger)
tail_stays =
    (Noted (Put 5 (slot 1)), in_frame false false (both_cached true false) [] (6 ∷ 5 ∷ []))
    ∷ (Noted (Unmapped 5), at_slot (both_cached true false) [] [] (6 ∷ 5 ∷ []))
    ∷ (Noted (Started (slot 1)), at_slot (both_cached false false) (slot 1 ∷ []) [] (6 ∷ 5 ∷ []))
    ∷ (Noted (Failed (slot 1)), at_slot (both_cached true false) [] [] (6 ∷ 5 ∷ []))
    ∷ (
      Noted (Mapped 2 0x10000 5),
      three_with (InSlot (slot 1)) (InFrame 5 false) (both_cached true false) [] [] (6 ∷ 5 ∷ []),
    )
    ∷ (
      Noted (Started (slot 1)),
      three_with (InSlot (slot 1)) (InFrame 5 false) (both_cached false false) (slot 1 ∷ []) []
          (6 ∷ 5 ∷ []),
    )
    ∷ (
      Used true (2, 0x10),
      three_with (InSlot (slot 1)) (InFrame 5 true) (both_cached true false) (slot 1 ∷ []) []
          (6 ∷ 5 ∷ []),
    )
    ∷ (
      Noted (Written (slot 1)),
      three_with (InSlot (slot 1)) (InFrame 5 true) (both_cached true false) [] [] (6 ∷ 5 ∷ []),
    ) ∷ []

-- no entry, and these areas are on
abbrev pub with_areas : List (ℕ × SwapArea) → Ledger
with_areas on = record first_ledger { on = on }

-- areas rise, whichever is turned on first
abbrev pub two_areas : List (Event × Ledger)
two_areas =
    (TurnedOn 1 (swap_area 5 0), with_areas ((1, swap_area 5 0) ∷ []))
    ∷ (TurnedOn 0 (swap_area 7 2), with_areas ((0, swap_area 7 2) ∷ (1, swap_area 5 0) ∷ []))
    ∷ (TurnedOff 1, with_areas ((0, swap_area 7 2) ∷ [])) ∷ []

-- frames are at the head of inactive, last first, and these are the entries
abbrev pub with_frames : List (Key × Entry) → List ℕ → Ledger
with_frames entries inactive = record first_ledger { entries = entries; inactive = inactive }

-- a page is the page of zeros, gets a frame that is shared then, and another as its copy; a frame
-- that nothing names any more leaves its list
abbrev pub copied_and_gone : List (Event × Ledger)
copied_and_gone =
    (Noted (Zeroed 1 0x10000), with_frames (((1, 0x10), Zero) ∷ []) [])
    ∷ (Used false (1, 0x10), with_frames (((1, 0x10), Zero) ∷ []) [])
    ∷ (Noted (New 1 0x10000 2), with_frames (((1, 0x10), InFrame 2 false) ∷ []) (2 ∷ []))
    ∷ (
      Forked 1 4 (0x10 ∷ []),
      with_frames (((1, 0x10), InFrame 2 false) ∷ ((4, 0x10), InFrame 2 false) ∷ []) (2 ∷ []),
    )
    ∷ (
      Noted (Copied 1 0x10000 3),
      with_frames (((1, 0x10), InFrame 3 false) ∷ ((4, 0x10), InFrame 2 false) ∷ []) (3 ∷ 2 ∷ []),
    )
    ∷ (Zapped (1, 0x10), with_frames (((4, 0x10), InFrame 2 false) ∷ []) (2 ∷ [])) ∷ []

-- ---- a bad page

-- a pass that would put the frame there
abbrev pub to_bad_page : List Note
to_bad_page =
    Put 0 (slot 1) ∷ Unmapped 0 ∷ Started (slot 1) ∷ Written (slot 1) ∷ Dropped (slot 1) ∷ []

-- ---- what is claimed after a load

-- two processes have slot 1 at their upper page, and the first one slot 2 at its lower page
abbrev pub two_out : World × Ledger
two_out = (
  (1, two_bytes 5 7) ∷ (2, two_bytes 6 7) ∷ [],
  record first_ledger {
    entries = ((1, 0x7fffffffd), InSlot (slot 2)) ∷ ((1, 0x7fffffffe), InSlot (slot 1))
        ∷ ((2, 0x7fffffffd), Zero) ∷ ((2, 0x7fffffffe), InSlot (slot 1)) ∷ [];
    on = one_area 7 0;
  },
)

-- after slot 1 is loaded from a device that doesn't tell its pages, the byte at the process's
-- address is this, or nobody claims it
abbrev pub ClaimsAfterLoad : Setting → ℕ → ℕ → Option ℕ → Type 0
ClaimsAfterLoad m p address claimed =
    byte_at (pages (with_loads m two_out.0 two_out.1 (Noted (Loaded (slot 1) 0) ∷ [])) p) address
    ≡ claimed

-- and so after these events, from a state on, at an address of process 1
abbrev pub ClaimsAfter : Setting → State → List Event → ℕ → Option ℕ → Type 0
ClaimsAfter m s events address claimed =
    byte_at (pages (with_loads m s.world s.ledger events) 1) address ≡ claimed

-- the page in frame 0 goes to slot 1, the frame is free, and then has the page of the slot
abbrev pub put_and_loaded : List Event
put_and_loaded =
    Noted (Put 0 (slot 1)) ∷ Noted (Unmapped 0) ∷ Noted (Started (slot 1))
    ∷ Noted (Written (slot 1)) ∷ Noted (Dropped (slot 1)) ∷ Noted (Loaded (slot 1) 0) ∷ []

-- ---- failures of several commands

-- two writes failed in one, and one page could not be had in another
abbrev pub two_failed : Exchange
two_failed = record {
  command = Complete 2;
  reply = reply_with Done (Failed (slot 1) ∷ Failed (slot 2) ∷ []);
}

abbrev pub no_page : Exchange
no_page = record { command = Read 1 0x10000 1; reply = reply_with (Bus 0 []) [] }
