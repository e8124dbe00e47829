-- A page goes out to a swap area and comes back, step by step: that what the laws ask for can be
-- met, one after the other. One frame, one process with one page, and a swap area with 7 slots on
-- devices that don't tell their pages.
use Rattle.std.specs.Prelude.{ℕ, ◌==◌, ◌&&◌, true, false, if◌then◌else◌, [], ◌∷◌, Some, None}
use Rattle.std.specs.Prelude.{option_map}
use Rattle.av_base.specs.Page.{address_of}
use Rattle.av_base.specs.Words.{with_at}
use Rattle.av_base.specs.declared.prot.Prot.{Prot}
use Rattle.av_base.specs.declared.slot.Slot.{Slot}
use Rattle.av_clusters.specs.Clusters.{fresh}
use Rattle.av_trace.specs.declared.note.Note.TheVariants.{Dropped, Loaded, Mapped, Put, Started}
use Rattle.av_trace.specs.declared.note.Note.TheVariants.{Unmapped, Written}
use Rattle.av_base.specs.Flags.{no_flags}
use Rattle.av_vma.specs.Pages.{fresh_area}
use Rattle.av_vma.specs.declared.area.Area.{Area}
use Rattle.av_plain.specs.Areas.{Rmap, root_anon}
use Rattle.av_plain.specs.Choice.{no_slots}
use Rattle.av_swapdev.specs.Device.{no_history}
use Rattle.av_plain.specs.Device.{Device, device_by}
use Rattle.av_plain.specs.Event.{Noted}
use Rattle.av_plain.specs.Ledger.{Entry, InFrame, Ledger, Setting, entry, first_ledger, frame_at}
use Rattle.av_plain.specs.Ledger.{map_count, slot_entries, slot_of}
use Rattle.av_plain.specs.Stands.{Pte, View}
use Rattle.av_plain.specs.Swapon.{priority_of}
use Rattle.av_plain.specs.World.{World, zeros}
use Rattle.av_swap_laws.specs.Held.{Held, IsHeld, Steps}

-- one frame, and a swap area of 8 pages that aren't told
abbrev pub small : Setting
small = record {
  frames = 1;
  sizes = λ k. if k == 0 then Some 8 else None;
  headers = None;
}

abbrev pub untold : Device
untold = device_by small.sizes None (0, no_history)

-- the process and its page
abbrev pub read_write : Prot
read_write = record { read = true; write = true; execute = false }

abbrev pub the_page : ℕ
the_page = 0x10

abbrev pub the_area : Area
the_area = record (fresh_area 1 0x10 0x11 read_write no_flags) { anon = Some 0 }

abbrev pub the_world : World
the_world = (1, λ page. if page == the_page then Some (zeros read_write) else None) ∷ []

-- the page is in the frame, which is inactive; the swap area is on
abbrev pub in_frame : Ledger
in_frame = record first_ledger {
  entries = ((1, the_page), InFrame 0 true) ∷ [];
  inactive = 0 ∷ [];
  on = (0, record { slots = 7; bad = 0; priority = priority_of None }) ∷ [];
}

-- its area has the anon_vma 0, which is a root, and the frame is at home there
abbrev pub the_rmap : Rmap
the_rmap = record {
  areas = λ p page. if p == 1 && page == the_page then Some the_area else None;
  anons = record { next = 1; anon = λ v. if v == 0 then Some (root_anon 0) else None };
  homes = λ f. Some (0, the_page);
  items = λ f. [];
}

-- no write bit stands
abbrev pub read_only : Entry → Pte
read_only e = record { entry = e; write = false }

abbrev pub the_view : View
the_view = record {
  frames = 1;
  bytes = λ f i. 0;
  maps = map_count in_frame;
  homes = the_rmap.homes;
  items = the_rmap.items;
  slot = slot_of in_frame;
  dirty = λ f. false;
  free = [];
  active = [];
  inactive = 0 ∷ [];
  table = λ p page. option_map read_only (entry in_frame (p, page));
  processes = 1;
  areas = λ p. if p == 1 then Some (the_area ∷ []) else None;
  anons = the_rmap.anons;
  find = frame_at in_frame;
  entries = slot_entries in_frame;
  flight = [];
  on = in_frame.on;
  slots = with_at 0 (fresh 8 []) no_slots;
}

abbrev pub at_start : Held
at_start = record {
  view = the_view;
  device = untold;
  world = the_world;
  ledger = in_frame;
  rmap = the_rmap;
}

-- the slot that is given first
abbrev pub first_slot : Slot
first_slot = record { area = 0; page = 1 }

-- out it goes, and in again
abbrev pub GoesOutAndComesBack : Type 0
GoesOutAndComesBack =
    IsHeld small at_start
    × (put : Held) × Steps small None (Noted (Put 0 first_slot)) at_start put
    × (unmapped : Held) × Steps small None (Noted (Unmapped 0)) put unmapped
    × (started : Held) × Steps small None (Noted (Started first_slot)) unmapped started
    × (written : Held) × Steps small None (Noted (Written first_slot)) started written
    × (dropped : Held) × Steps small None (Noted (Dropped first_slot)) written dropped
    × (loaded : Held) × Steps small None (Noted (Loaded first_slot 0)) dropped loaded
    × (mapped : Held) × Steps small None (Noted (Mapped 1 (address_of the_page) 0)) loaded mapped
    × (again : Held) × Steps small None (Noted (Dropped first_slot)) mapped again
    × IsHeld small again
