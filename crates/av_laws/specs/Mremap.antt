-- Worked examples for mremap: which areas, entries and memory it leaves, where the pages go, and
-- when it is refused.
-- Which example would fail if a definition were wrong:
--   the offset of areas that move (`moved_area`): to_another_place, bare_moves
--   the parts that move (`after_move`, `moved_range`): part_moves, two_areas, tail_goes
--   what is at the target (`after_move`): over_another
--   which boundaries are tried, and in which order (`joined_over`): behind_itself, joins_inside,
--     joins_behind
--   when a change in place joins (`after_grow`, `after_resize`): grows_and_joins, joins_before,
--     shrinks_apart, stays_apart, long_chain
--   the old range that stays (`with_old_range`, `left_behind`): old_range_stays, joined_after,
--     two_leave_one, zeros_stay, denied_still
--   which entries go, and in which order (`remap_events`): target_before_tail, tail_goes_here
--   the memory (`process_after_mremap`): bytes_move, none_stays, zeros_stay, grown_by_zeros
--   where the pages go (`MovesTo`, `may_stay`): grows_here, up_to_top, no_room, past_the_top,
--     stays_here, next_to_top, below_itself, no_gap
--   refusals and their order (`mremap_tests`): that of `mremaps_are_refused`
use Rattle.std.specs.Prelude.{ℕ, true, false, List, [], ◌∷◌, Option, Some, None}
use Rattle.av_trace.specs.declared.command.Command.{Command}
use Rattle.av_trace.specs.declared.command.Command.TheVariants.{Mremap}
use Rattle.av_trace.specs.declared.mode.Mode.{Mode}
use Rattle.av_trace.specs.declared.mode.Mode.TheVariants.{DontUnmap, Fixed as FixedAt, MayMove}
use Rattle.av_trace.specs.declared.mode.Mode.TheVariants.{Plain}
use Rattle.av_trace.specs.declared.reply.Errno.{Errno}
use Rattle.av_trace.specs.declared.reply.Errno.TheVariants.{Efault, Einval, Eperm, Esrch}
use Rattle.av_vma.specs.declared.area.Area.{Area}
use Rattle.av_plain.specs.Ledger.{InFrame, first_ledger}
use Rattle.av_plain.specs.Transcript.{State}
use Rattle.av_plain.specs.World.{Page, World, with_pages}
use Rattle.av_laws.specs.Areas.{area, area_of, moved_of, process_with, world_of}
use Rattle.av_laws.specs.Examples.{only_frames, read_only, read_write, state_of}
use Rattle.av_base.specs.Flags.{no_flags}
use Rattle.av_laws.specs.Flags.{left_out, locked}

-- ---- areas, beside those of `Areas`

-- four pages with a root
abbrev pub root_four : List Area
root_four = area_of 0 0x10 0x14 ∷ []

-- two pages of each of two roots
abbrev pub two_of_each : List Area
two_of_each = area_of 0 0x10 0x12 ∷ area_of 1 0x12 0x14 ∷ []

-- two pages, and two behind a hole of two
abbrev pub with_hole : Area → List Area
with_hole first = first ∷ area 0x14 0x16 read_write ∷ []

-- a page of root 0, one of root 1 with the offset of its place at 0x13, and a bare one
abbrev pub three_kinds : List Area
three_kinds = area_of 0 0x10 0x11 ∷ moved_of 1 0x11 0x12 0x13 ∷ area 0x12 0x13 read_write ∷ []

-- a page of root 0 with the offset of its place at 0x18, a bare one behind it, and at 0x1a one of
-- root 1
abbrev pub out_of_place : List Area
out_of_place = moved_of 0 0x10 0x11 0x18 ∷ area 0x11 0x12 read_write ∷ area_of 1 0x1a 0x1b ∷ []

-- two areas of root 0, one that a fork leaves out and one that is locked
abbrev pub two_flags : List Area
two_flags = record (area_of 0 0x10 0x12) { flags = left_out }
    ∷ record (area_of 0 0x12 0x14) { flags = locked } ∷ []

-- two areas of root 0 side by side that are not joined yet
abbrev pub side_by_side : List Area
side_by_side = area_of 0 0x10 0x11 ∷ area_of 0 0x11 0x13 ∷ []

-- a page, one behind a hole of one, and right behind it one that may be read alone
abbrev pub three_pages : List Area
three_pages = area 0x10 0x11 read_write ∷ area 0x12 0x13 read_write ∷ area 0x13 0x14 read_only ∷ []

-- the last page, and the last but one
abbrev pub last : List Area
last = area_of 0 0x7fffffffe 0x7ffffffff ∷ []

abbrev pub last_but_one : List Area
last_but_one = area 0x7fffffffd 0x7fffffffe read_write ∷ []

-- every page that a process may have
abbrev pub all_pages : List Area
all_pages = area 0x10 0x7ffffffff read_write ∷ []

-- ---- states

-- these areas are mapped, and nothing was read or written yet
abbrev pub fresh_state : List Area → State
fresh_state areas = state_of (world_of areas) first_ledger (only_frames (0 ∷ 1 ∷ 2 ∷ 3 ∷ []))

-- the first and the last of four pages have a frame, and so has one of two where they may go
abbrev pub with_frames : State
with_frames = state_of (world_of (area_of 0 0x10 0x14 ∷ area 0x18 0x1a read_only ∷ []))
    (record first_ledger {
      entries = ((1, 0x10), InFrame 0 true) ∷ ((1, 0x13), InFrame 1 false)
          ∷ ((1, 0x18), InFrame 2 true) ∷ [];
      inactive = 0 ∷ 1 ∷ 2 ∷ [];
    })
    (only_frames (3 ∷ []))

-- a page with the byte 7 all over; the four have it
abbrev pub sevens : Page
sevens = record { prot = read_write; flags = no_flags; bytes = λ _. Some 7 }

abbrev pub all_sevens : World
all_sevens = (1, with_pages (process_with root_four) 0x10 4 (λ _. Some sevens)) ∷ []

-- ---- commands

-- the four pages go to 0x18000, as they are, or as two; or they go there and leave zeros
abbrev pub all_move : Command
all_move = Mremap 1 0x10000 16384 16384 (FixedAt 0x18000)

abbrev pub two_move : Command
two_move = Mremap 1 0x10000 16384 8192 (FixedAt 0x18000)

abbrev pub zeros_stay : Command
zeros_stay = Mremap 1 0x10000 16384 16384 (DontUnmap (Some 0x18000))

-- two become four
abbrev pub grows_by_two : Command
grows_by_two = Mremap 1 0x10000 8192 16384 Plain

-- ---- refusals

-- the process, the address, the old and the new length, the mode, and the error
abbrev pub remap : ℕ × ℕ × ℕ × ℕ × Mode × Option Errno → Command × Option Errno
remap row = (Mremap row.0 row.1 row.2 row.3 row.4, row.5)

-- of the three pages. Where two tests hold the first one counts; where one just doesn't hold, a
-- later one does
abbrev pub remap_refusals : List (ℕ × ℕ × ℕ × ℕ × Mode × Option Errno)
remap_refusals =
    -- the process
    (2, 0x10001, 0, 4096, Plain, Some Esrch)
    -- the address and the lengths
    ∷ (1, 0x10001, 4096, 4096, Plain, Some Einval)
    ∷ (1, 0x10000, 4096, 0, Plain, Some Einval)
    ∷ (1, 0x10000, 0, 4096, Plain, Some Einval)
    ∷ (1, 0x20000, 0xfffffffffffff001, 4096, Plain, Some Einval)
    ∷ (1, 0x20000, 0xfffffffffffff000, 4096, Plain, Some Efault)
    ∷ (1, 0x20000, 4096, 0xfffffffffffff001, MayMove, Some Einval)
    ∷ (1, 0x20000, 4096, 0xfffffffffffff000, MayMove, Some Efault)
    ∷ (1, 0x20000, 4095, 4096, DontUnmap None, Some Einval)
    ∷ (1, 0x20000, 8192, 4096, DontUnmap (Some 0x30000), Some Einval)
    -- the address that is named
    ∷ (1, 0x20000, 4096, 4096, FixedAt 0x30001, Some Einval)
    ∷ (1, 0x20000, 4096, 4096, DontUnmap (Some 0x30001), Some Einval)
    ∷ (1, 0x20000, 4096, 4097, FixedAt 0x7fffffffe000, Some Einval)
    ∷ (1, 0x20000, 4096, 4096, FixedAt 0x7fffffffe000, Some Efault)
    ∷ (1, 0x20000, 4096, 4096, FixedAt 0xfffffffffffff000, Some Einval)
    ∷ (1, 0x20000, 4096, 4097, FixedAt 0x1f000, Some Einval)
    ∷ (1, 0x20000, 4096, 4096, FixedAt 0x1f000, Some Efault)
    ∷ (1, 0x20000, 4097, 4096, FixedAt 0x21000, Some Einval)
    ∷ (1, 0x20000, 4096, 4096, FixedAt 0x21000, Some Efault)
    ∷ (1, 0x12000, 4096, 4096, FixedAt 0x12000, Some Einval)
    -- the pages that have to be mapped
    ∷ (1, 0x20000, 0x7fffffff0000, 4096, Plain, Some Efault)
    ∷ (1, 0x10000, 8192, 12288, MayMove, Some Efault)
    ∷ (1, 0x12000, 8192, 12288, Plain, Some Efault)
    ∷ (1, 0x12000, 8192, 4096, FixedAt 0x18000, Some Efault)
    ∷ (1, 0x12000, 8192, 8192, DontUnmap None, Some Efault)
    ∷ (1, 0x20000, 4096, 4096, FixedAt 0xf000, Some Efault)
    -- a tail past the top
    ∷ (1, 0x10000, 0x7fffffff0000, 4096, Plain, Some Einval)
    -- an address that is too low
    ∷ (1, 0x10000, 4096, 8192, FixedAt 0xf000, Some Einval)
    ∷ (1, 0x10000, 4096, 4096, FixedAt 0xf000, Some Eperm)
    ∷ (1, 0x10000, 4096, 4096, DontUnmap (Some 0xf000), Some Eperm)
    -- no test holds, but just so: in place holes and protections don't matter, nor a range past
    -- the top that doesn't shrink; elsewhere a range may end at the top, begin at the lowest page,
    -- and adjoin the old one on either side
    ∷ (1, 0x10000, 8191, 8192, Plain, None)
    ∷ (1, 0x10000, 8191, 8192, MayMove, None)
    ∷ (1, 0x12000, 8192, 4096, Plain, None)
    ∷ (1, 0x10000, 0x7fffffff0000, 0x7fffffff0000, Plain, None)
    ∷ (1, 0x10000, 0x7ffffffef000, 4096, Plain, None)
    ∷ (1, 0x12000, 4096, 4096, FixedAt 0x7fffffffe000, None)
    ∷ (1, 0x12000, 4096, 4096, FixedAt 0x10000, None)
    ∷ (1, 0x12000, 4096, 4096, FixedAt 0x11000, None)
    ∷ (1, 0x12000, 4096, 4096, FixedAt 0x13000, None) ∷ []
