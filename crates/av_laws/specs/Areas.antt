-- Worked examples for areas and anon_vmas: what a command or an event makes of them.
-- Which example would fail if a definition were wrong:
--   a split (`split_at`, `part_of`): protected_inside, hole, unmapped_inside, changed_inside
--   a join (`joined_at`, `are_joinable`): joined_again, joined_above, joined_below, between,
--     kept_apart
--   what goes (`without_range`, `with_room`): hole, fixed_over
--   a change (`pages_changed`, `areas_to_hole`): protected_inside, up_to_hole, wrapped
--   the end of a process (`next_areas`): after_exit
--   how long a chain is (`chain_length`, `share_anon`): joined_to_root, apart_from_child,
--     joined_with_one, apart_with_two
--   what is left of anon_vmas (`AreLeft`): child_goes, both_stay
--   when an area is prepared (`rmap_after_note`, `with_anon`): first_write, second_write,
--     by_a_read, not_joined
--   the anon_vma that it gets (`loan_beside`, `can_lend`): taken_behind, after_first,
--     not_from_child, other_offset, other_flags, other_lock,
--     in_one_process
--   a new one (`with_root`): first_write, next_number
--   the rows of `areas` (`AreRowsOf`, `area_row`): that of `areas_are_shown`
use Rattle.std.specs.Prelude.{◌≡◌, ℕ, List, [], ◌∷◌, map, Option, Some, None, option_map}
use Rattle.std.specs.List.{range_with_len}
use Rattle.av_base.specs.Words.{with_at}
use Rattle.av_base.specs.declared.prot.Prot.{Prot}
use Rattle.av_trace.specs.declared.command.Command.{Command}
use Rattle.av_trace.specs.declared.note.Note.{Note}
use Rattle.av_trace.specs.declared.note.Note.TheVariants.{New}
use Rattle.av_trace.specs.declared.reply.Answer.{Answer}
use Rattle.av_trace.specs.declared.row.Row.{Row}
use Rattle.av_trace.specs.declared.row.Row.TheVariants.{Area as AreaRow}
use Rattle.av_base.specs.Page.{address_of}
use Rattle.av_vma.specs.Pages.{fresh_area, pages_in}
use Rattle.av_vma.specs.declared.area.Area.{Area}
use Rattle.av_plain.specs.Areas.{AnonVma, Anons, Areas, Rmap, chain_length, next_areas, no_anons}
use Rattle.av_plain.specs.Areas.{no_areas, no_homes, no_items, rmap_after, root_anon}
use Rattle.av_plain.specs.Event.{Noted}
use Rattle.av_plain.specs.Ledger.{first_ledger}
use Rattle.av_plain.specs.World.{Process, World, zeros}
use Rattle.av_laws.specs.Examples.{read_only, read_write, write_only}
use Rattle.av_base.specs.Flags.{no_flags}

-- ---- areas

-- an area of process 1, with the offset that it has where it is mapped
abbrev pub area : ℕ → ℕ → Prot → Area
area from past prot = fresh_area 1 from past prot no_flags

-- process 1 has these areas
abbrev pub areas_of : List Area → Areas
areas_of areas = with_at 1 (pages_in (Some areas)) no_areas

-- their pages are mapped, with their protection
abbrev pub process_with : List Area → Process
process_with areas page = option_map (λ (a : Area). zeros a.prot) (pages_in (Some areas) page)

abbrev pub world_of : List Area → World
world_of areas = (1, process_with areas) ∷ []

-- of these areas and anon_vmas a command that is answered so makes those areas, as 16 pages from
-- one on show
abbrev pub Becomes : List Area → Anons → Command → Answer → ℕ → List Area → Type 0
Becomes areas anons command answer first new =
    map (next_areas (chain_length anons) (areas_of areas) (world_of areas) command answer 1)
    (range_with_len first 16)
    ≡ map (pages_in (Some new)) (range_with_len first 16)

-- four pages; with the second and third for reading only; without the second
abbrev pub four : List Area
four = area 0x10 0x14 read_write ∷ []

abbrev pub middle_protected : List Area
middle_protected =
    area 0x10 0x11 read_write ∷ area 0x11 0x13 read_only ∷ area 0x13 0x14 read_write ∷ []

abbrev pub around_hole : List Area
around_hole = area 0x10 0x11 read_write ∷ area 0x12 0x14 read_write ∷ []

-- ---- with anon_vmas

-- anon_vma 0 is a root, and 1 is its child: the chain of an area of 1 has both
abbrev pub root : AnonVma
root = record { root = 0; parent = 0; chain = 0 ∷ [] }

abbrev pub child : AnonVma
child = record { root = 0; parent = 0; chain = 0 ∷ 1 ∷ [] }

-- these are anon_vmas 0 and 1, and the next one gets this number
abbrev pub anons_of : Option AnonVma → Option AnonVma → ℕ → Anons
anons_of first second next = record {
  next = next;
  anon = with_at 0 first (with_at 1 second (λ _. None));
}

-- a root and its child
abbrev pub family : Anons
family = anons_of (Some root) (Some child) 2

-- an area with this anon_vma as its own
abbrev pub with_own : ℕ → Area → Area
with_own own area = record area { anon = Some own }

abbrev pub area_of : ℕ → ℕ → ℕ → Area
area_of own from past = with_own own (area from past read_write)

-- whose pages were moved, or whose mapping was: its offset is another
abbrev pub moved_of : ℕ → ℕ → ℕ → ℕ → Area
moved_of own from past offset = record (area_of own from past) { pgoff = offset }

-- two pages are of anon_vma 0, and two behind a hole of 1
abbrev pub of_both : List Area
of_both = area_of 0 0x10 0x12 ∷ area_of 1 0x14 0x16 ∷ []

-- ---- an area is prepared

-- with one more, and this number for the next one
abbrev pub and_at : ℕ → AnonVma → ℕ → Anons → Anons
and_at v anon next anons = record { next = next; anon = with_at v (Some anon) anons.anon }

abbrev pub one_root : Anons
one_root = and_at 0 (root_anon 0) 1 no_anons

abbrev pub two_roots : Anons
two_roots = and_at 1 (root_anon 1) 2 one_root

-- the first one is gone
abbrev pub first_gone : Anons
first_gone = record no_anons { next = 1 }

-- the anon_vmas of all numbers that were given
abbrev pub by_number : Anons → List (Option AnonVma)
by_number anons = map anons.anon (range_with_len 0 anons.next)

-- these areas and anon_vmas, and no frame has a home
abbrev pub rmap_with : List Area → Anons → Rmap
rmap_with areas anons =
    record { areas = areas_of areas; anons = anons; homes = no_homes; items = no_items }

-- a note makes these areas and anon_vmas of those
abbrev pub NotePrepares : Note → List Area → Anons → List Area → Anons → Type 0
NotePrepares note areas anons new left =
    let now = rmap_after first_ledger (Noted note) (rmap_with areas anons) in
    (map (now.areas 1) (range_with_len 0xf 8) ≡ map (pages_in (Some new)) (range_with_len 0xf 8))
    × (by_number now.anons ≡ by_number left)

-- and so does that of page 0x12, which is written first
abbrev pub Prepares : List Area → Anons → List Area → Anons → Type 0
Prepares areas anons new left = NotePrepares (New 1 0x12000 0) areas anons new left

-- an area that can't join its neighbours: it may be written alone
abbrev pub unlike : Area
unlike = area 0x12 0x14 write_only

-- one that could join them
abbrev pub alike : Area
alike = area 0x12 0x14 read_write

-- two pages with anon_vma 0, and an area behind them
abbrev pub behind_root : Area → List Area
behind_root next = area_of 0 0x10 0x12 ∷ next ∷ []

-- an area between two that have anon_vmas
abbrev pub between_roots : Area → List Area
between_roots middle = area_of 0 0x10 0x12 ∷ middle ∷ area_of 1 0x14 0x16 ∷ []

-- an area behind the child's, and the root's behind a hole
abbrev pub behind_child : Area → List Area
behind_child next = area_of 1 0x10 0x12 ∷ next ∷ area_of 0 0x15 0x16 ∷ []

-- process 2 has an area where the first process's second one is
abbrev pub of_second : Area
of_second = record unlike { pid = 2 }

-- where it is written first, these are the areas of the two processes, and these the anon_vmas
abbrev pub PreparesSecond : Area → Area → Anons → Type 0
PreparesSecond first second left =
    let old = rmap_with (behind_root unlike) one_root in
    let now = rmap_after first_ledger (Noted (New 2 0x12000 0))
    (record old { areas = with_at 2 (pages_in (Some (of_second ∷ []))) old.areas }) in
    (now.areas 1 0x12 ≡ Some first) × (now.areas 2 0x12 ≡ Some second)
    × (by_number now.anons ≡ by_number left)

-- ---- areas are shown

-- four areas side by side: of the root, of none, of the child, and of the root again
abbrev pub four_areas : List Area
four_areas =
    area_of 0 0x10 0x12 ∷ area 0x12 0x14 read_only ∷ moved_of 1 0x14 0x16 0x24
    ∷ area_of 0 0x16 0x17 ∷ []

-- the row of an area from one page to below another
abbrev pub row : ℕ → ℕ → Prot → ℕ → Option ℕ → List ℕ → Row
row from past prot offset own chain =
    AreaRow (address_of from) (address_of past) prot offset own chain no_flags

-- the row of each of the four
abbrev pub four_rows : List Row
four_rows =
    row 0x10 0x12 read_write 0x10 (Some 0) (0 ∷ []) ∷ row 0x12 0x14 read_only 0x12 None []
    ∷ row 0x14 0x16 read_write 0x24 (Some 1) (0 ∷ 1 ∷ [])
    ∷ row 0x16 0x17 read_write 0x16 (Some 0) (0 ∷ []) ∷ []
