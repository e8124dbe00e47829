-- Worked examples for what stands for a state: views, and slots that are listed as free, that are
-- right but for one thing.
use Rattle.std.specs.Prelude.{false, true, [], ◌∷◌, ◌==◌, if◌then◌else◌, Some, None, option_map}
use Rattle.av_plain.specs.Areas.{no_anons, no_homes, no_items}
use Rattle.av_plain.specs.Choice.{AreaSlots, no_slots}
use Rattle.av_plain.specs.Ledger.{InFrame, InSlot, Ledger, entry, first_ledger, map_count}
use Rattle.av_plain.specs.Stands.{View}
use Rattle.av_plain.specs.Transcript.{State, at_first}
use Rattle.av_plain.specs.World.{World}
use Rattle.av_laws.specs.Areas.{area, areas_of, world_of}
use Rattle.av_laws.specs.Examples.{machine, one_area, only_frames, read_only, read_write, slot}
use Rattle.av_laws.specs.Examples.{with_entries, with_slots}
use Rattle.av_laws.specs.Views.{first_view}
use Rattle.av_examples.specs.Sound.{merged_alone}

-- ---- areas

-- four frames, and nothing was done
abbrev pub first_shown : View
first_shown = first_view 4 []

-- no process lives, and each has an empty list of areas
abbrev pub areas_of_nobody : View
areas_of_nobody = record first_shown { areas = λ p. Some [] }

-- process 1 has a page for reading and writing; and it is shown for reading alone
abbrev pub one_page : World
one_page = world_of (area 0x10 0x11 read_write ∷ [])

abbrev pub read_only_shown : View
read_only_shown = record first_shown {
  processes = 1;
  areas = λ p. if p == 1 then Some (area 0x10 0x11 read_only ∷ []) else None;
}

-- ---- slots

-- an area with one slot is on, in a ledger; no page of any area is free
abbrev pub one_slot_on : Ledger
one_slot_on = record first_ledger { on = one_area 1 0 }

abbrev pub all_bad : AreaSlots
all_bad = no_slots

-- the one page behind the header is free, though the device has none
abbrev pub past_the_device : AreaSlots
past_the_device = (with_slots 2 [] 0 []).slots

-- an entry names a slot of an area that is off
abbrev pub only_named : Ledger
only_named = record first_ledger { entries = ((1, 0x10), InSlot (slot 1)) ∷ [] }

-- ---- soundness

-- nothing was done, but frame 0 is merged
abbrev pub none_mapped_merged : State
none_mapped_merged = record (at_first (machine 4)) { ledger = merged_alone }

-- ---- merged frames

-- process 1 has its one page in the one frame, which is merged and has no item
abbrev pub without_item : State
without_item = record {
  world = one_page;
  ledger = record (with_entries (((1, 0x10), InFrame 0 true) ∷ [])) { merged = 0 ∷ [] };
  free = only_frames [];
  areas = areas_of (area 0x10 0x11 read_write ∷ []);
  anons = no_anons;
  homes = no_homes;
  items = no_items;
}

-- and a view of that
abbrev pub without_item_shown : View
without_item_shown = record (first_view 1 (0 ∷ [])) {
  maps = map_count without_item.ledger;
  free = [];
  table = λ p page.
      option_map (λ e. record { entry = e; write = false }) (entry without_item.ledger (p, page));
  processes = 1;
  areas = λ p. if p == 1 then Some (area 0x10 0x11 read_write ∷ []) else None;
}
