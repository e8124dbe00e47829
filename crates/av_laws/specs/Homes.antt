-- Worked examples for the homes of frames: which home a frame has after an event; and which homes,
-- chains and areas don't cover the entries of frames and slots. (That those of runs do is a law.)
-- Which example would fail if a definition were wrong:
--   the home from a page (`home_of`): own_and_index, no_own, no_area
--   a new frame (`rmap_after_note`): by_events, prepared_first
--   a copy (`rmap_after_note`): by_events
--   a write in place (`rmap_after_use`): in_place
--   a frame that takes a slot's page (`home_for`, `at_root`): of_one_page, of_two_pages
--   what leaves each home (`rmap_after`, `rmap_after_use`): by_events, in_place
--   what is covered (`IsReached`, `AreCovered`): no_home, at_child, other_index, own_alone, bare
--   what holds with it (`IsRmapSound`): out_of_own_chain, number_to_come, chain_falls,
--     member_to_come
--   entries of slots (`AreSlotsCovered`): slot_unhomed, slot_at_child, other_roots, other_indices,
--     root_left_out, member_of_another
--   entries of merged frames (`AreMergedCovered`): merged_at_home, item_left_out, item_twice,
--     item_of_member
use Rattle.std.specs.Prelude.{◌≡◌, ℕ, true, false, List, [], ◌∷◌, map, Option, Some, None}
use Rattle.av_base.specs.Keys.{Key}
use Rattle.av_base.specs.Words.{with_at}
use Rattle.std.specs.List.{range_with_len}
use Rattle.av_trace.specs.declared.note.Note.TheVariants.{Aged, Copied, Loaded, Mapped, New}
use Rattle.av_vma.specs.Pages.{pages_in}
use Rattle.av_vma.specs.declared.area.Area.{Area}
use Rattle.av_plain.specs.Areas.{Homes, Rmap, no_homes, no_items, rmap_after, root_anon}
use Rattle.av_plain.specs.Covered.{IsRmapSound}
use Rattle.av_plain.specs.Event.{Event, Noted, Used, Zapped, after}
use Rattle.av_plain.specs.Ledger.{Entry, InFrame, InSlot, Ledger, first_ledger}
use Rattle.av_laws.specs.Areas.{and_at, anons_of, areas_of, child, family, moved_of, root}
use Rattle.av_laws.specs.Areas.{two_roots}
use Rattle.av_laws.specs.Examples.{cached_at, slot, with_entries}

-- ---- what a row claims

-- an anon_vma and a linear index, for each of the frames 0 to 3
abbrev pub FourHomes : Type 0
FourHomes = List (Option (ℕ × ℕ))

abbrev pub homes_in : Homes → FourHomes
homes_in homes = map homes (range_with_len 0 4)

-- after each event the homes are these
abbrev pub LeadsHomes : Ledger → Rmap → List (Event × FourHomes) → Type 0
LeadsHomes l r [] = Unit {0}
LeadsHomes l r (e ∷ es) =
    (homes_in (rmap_after l e.0 r).homes ≡ e.1) × LeadsHomes (after l e.0) (rmap_after l e.0 r) es

-- ---- what there is

-- four pages whose linear indices run on from 0x20, as where their mapping was moved: of a parent
-- whose anon_vma is 0, and of its child, whose own is 1
abbrev pub of_parent : Area
of_parent = moved_of 0 0x10 0x14 0x20

abbrev pub of_child : Area
of_child = record (moved_of 1 0x10 0x14 0x20) { pid = 2 }

-- the same without an anon_vma
abbrev pub moved_four : Area
moved_four = record of_parent { anon = None }

-- frame 0 is at home at page 0x12 of the parent, and frame 1 was at its page 0x11
abbrev pub first_homes : Homes
first_homes = with_at 0 (Some (0, 0x22)) (with_at 1 (Some (0, 0x21)) no_homes)

-- the child has this area
abbrev pub with_child_area : Area → Rmap
with_child_area area = record {
  areas = with_at 2 (pages_in (Some (area ∷ []))) (areas_of (of_parent ∷ []));
  anons = family;
  homes = first_homes;
  items = no_items;
}

-- its own
abbrev pub with_child : Rmap
with_child = with_child_area of_child

-- parent and child have page 0x12 together, in frame 0, as after a fork
abbrev pub both_in_frame : Ledger
both_in_frame = with_entries (((1, 0x12), InFrame 0 true) ∷ ((2, 0x12), InFrame 0 false) ∷ [])

-- ---- event by event

-- a new frame and a copy are at home at their pages, and so is a frame that is written. One that is
-- read, looked at or taken away from a page keeps its home. One that is loaded gets none here: no
-- entry names its slot
abbrev pub by_events : List (Event × FourHomes)
by_events =
    (Noted (New 2 0x13000 1), Some (0, 0x22) ∷ Some (1, 0x23) ∷ None ∷ None ∷ [])
    ∷ (Used true (2, 0x13), Some (0, 0x22) ∷ Some (1, 0x23) ∷ None ∷ None ∷ [])
    ∷ (Noted (Copied 2 0x12000 2), Some (0, 0x22) ∷ Some (1, 0x23) ∷ Some (1, 0x22) ∷ None ∷ [])
    ∷ (Used true (2, 0x12), Some (0, 0x22) ∷ Some (1, 0x23) ∷ Some (1, 0x22) ∷ None ∷ [])
    ∷ (Used false (1, 0x12), Some (0, 0x22) ∷ Some (1, 0x23) ∷ Some (1, 0x22) ∷ None ∷ [])
    ∷ (Noted (Aged 0), Some (0, 0x22) ∷ Some (1, 0x23) ∷ Some (1, 0x22) ∷ None ∷ [])
    ∷ (Noted (Loaded (slot 1) 3), Some (0, 0x22) ∷ Some (1, 0x23) ∷ Some (1, 0x22) ∷ None ∷ [])
    ∷ (Noted (Mapped 2 0x11000 3), Some (0, 0x22) ∷ Some (1, 0x23) ∷ Some (1, 0x22) ∷ None ∷ [])
    ∷ (Zapped (1, 0x12), Some (0, 0x22) ∷ Some (1, 0x23) ∷ Some (1, 0x22) ∷ None ∷ []) ∷ []

-- a page that the child alone has, in the frame, is looked at, read and written in place
abbrev pub in_place : List (Event × FourHomes)
in_place =
    (Used false (2, 0x12), Some (0, 0x22) ∷ Some (0, 0x21) ∷ None ∷ None ∷ [])
    ∷ (Used true (2, 0x12), Some (1, 0x22) ∷ Some (0, 0x21) ∷ None ∷ None ∷ [])
    ∷ (Zapped (2, 0x12), Some (1, 0x22) ∷ Some (0, 0x21) ∷ None ∷ None ∷ []) ∷ []

-- where no area has an anon_vma the page is prepared before its frame is at home there
abbrev pub prepared_first : List (Event × FourHomes)
prepared_first = (Noted (New 1 0x12000 0), Some (0, 0x22) ∷ None ∷ None ∷ None ∷ []) ∷ []

-- frame 3 takes the page of slot 1, and has this home then
abbrev pub loaded_at : Option (ℕ × ℕ) → List (Event × FourHomes)
loaded_at home =
    (Noted (Loaded (slot 1) 3), Some (0, 0x22) ∷ Some (0, 0x21) ∷ None ∷ home ∷ []) ∷ []

-- the slot's page is the child's; or the child's and one of a process that was forked from it
abbrev pub of_one_page : List (Key × Entry)
of_one_page = ((2, 0x12), InSlot (slot 1)) ∷ []

abbrev pub of_two_pages : List (Key × Entry)
of_two_pages = ((2, 0x12), InSlot (slot 1)) ∷ ((3, 0x12), InSlot (slot 1)) ∷ []

-- ---- what is covered

-- what is true of areas, anon_vmas and homes at all times, so that the entries are covered
abbrev pub IsReachable : Rmap → Type 0
IsReachable r = IsRmapSound both_in_frame r

-- the shared frame has this home
abbrev pub with_home : Option (ℕ × ℕ) → Rmap
with_home home = record with_child { homes = with_at 0 home no_homes }

-- the child's area has this chain
abbrev pub with_chain : List ℕ → Rmap
with_chain chain = record with_child {
  anons = anons_of (Some root) (Some (record child { chain = chain })) 2;
}

-- or no anon_vma
abbrev pub bare_child : Rmap
bare_child = with_child_area moved_four

-- one more anon_vma has a number that is yet to be given
abbrev pub with_number_to_come : Rmap
with_number_to_come =
    record with_child { anons = record family { anon = with_at 2 (Some root) family.anon } }

-- ---- entries of slots

-- page 0x12 of parent and child is at slot 1, once it was unmapped and its frame dropped
abbrev pub both_at_slot : Ledger
both_at_slot = record first_ledger {
  entries = ((1, 0x12), InSlot (slot 1)) ∷ ((2, 0x12), InSlot (slot 1)) ∷ [];
}

-- or its frame is there still
abbrev pub both_cached : Ledger
both_cached = record both_at_slot { cache = cached_at 1 0 false ∷ []; inactive = 0 ∷ [] }

-- the child's own anon_vma is a root, too
abbrev pub with_two_roots : Rmap
with_two_roots = record with_child { anons = two_roots }

-- the linear indices of the child's area run on from 0x30
abbrev pub with_other_index : Rmap
with_other_index = with_child_area (record of_child { pgoff = 0x30 })

-- the child's chain has a root that isn't its own
abbrev pub with_another_root : Rmap
with_another_root = record with_child {
  anons = and_at 2 (root_anon 2) 3 (with_chain (0 ∷ 2 ∷ 1 ∷ [])).anons;
}

-- ---- entries of merged frames

-- frame 0, which parent and child have together, is merged
abbrev pub both_merged : Ledger
both_merged = record both_in_frame { merged = 0 ∷ [] }

-- it has these items, and no home
abbrev pub with_items : List (ℕ × ℕ) → Rmap
with_items items = record with_child { homes = no_homes; items = with_at 0 items no_items }

-- it has the right item, and a home beside it
abbrev pub with_home_beside : Rmap
with_home_beside = record (with_items ((0, 0x22) ∷ [])) { homes = first_homes }
