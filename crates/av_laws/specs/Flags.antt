-- Worked examples for flags of pages: what advice, locks and forks make of pages and areas, and
-- which frames stay. Which example would fail if a definition were wrong:
--   refusals and their order (`tests`): refusals_of_advice, refusals_of_locks; which pages a lock
--     meets (`ends_too_high`, `locks_too_many`): nothing_at_the_end, past_the_end, more_than_may
--   the flag that an advice is about (`flag_of_advice`): forks_again, kept_again, not_merged,
--     may_be_merged
--   the pages over which an advice goes (`pages_to_locked`, `with_advice`): over_a_hole,
--     zeros_over_a_hole, zeros_to_locked, none_behind_locked, none_where_bad; its events
--     (`advice_events`): entry_goes, entries_to_locked, flag_is_set, flag_over_a_hole,
--     flag_is_cleared
--   a lock (`with_lock`): locked_to_hole, too_many, of_bytes; its event (`lock_event`): brought_in,
--     not_all_mapped, unlocked, unlocked_to_hole; which pages it brings in, and how (`access_of`):
--     brought_in, not_all_mapped, by_protection; and how much is told (`BringsIn`): from_the_page
--   what a child gets (`page_of_child`, `inheritance`): with_flags, zeros_in_child,
--     whole_in_child, merged_in_child, inherited; its areas (`areas_to_fork`, `own_to_fork`,
--     `forked_area`): `by_flags` of `Forks`
--   flags that are moved (`process_after_mremap`, `left_behind`): added, left; areas
--     (`pages_left`): `two_leave_two` of `Mremap`
--   areas that are cut and joined (`rmap_after_flag`): flagged_inside, set_already, joined_again
--   the rows of `areas` (`AreAreas`, `ShowFlags`): shown_without, shown_with_one, falling, repeated
--   frames that stay (`is_locked`, `is_spared`, `cause_of`, `out_of`): spared_in_pass, reclaimed,
--     all_locked
use Rattle.std.specs.Prelude.{◌≡◌, ℕ, Bool, true, ◌==◌, if◌then◌else◌, List, [], ◌∷◌, map}
use Rattle.std.specs.Prelude.{length, Option, Some, None, option_map}
use Rattle.std.specs.List.{range_with_len}
use Rattle.av_base.specs.Flags.{no_flags, with_flag}
use Rattle.av_base.specs.declared.flags.Flag.{Flag}
use Rattle.av_base.specs.declared.flags.Flag.TheVariants as flags
use Rattle.av_base.specs.declared.flags.Flags.{Flags}
use Rattle.av_trace.specs.declared.advice.Advice.TheVariants.{DontFork, DontNeed, DoFork}
use Rattle.av_trace.specs.declared.command.Command.{Command}
use Rattle.av_trace.specs.declared.command.Command.TheVariants.{Areas as AsksAreas, Madvise}
use Rattle.av_trace.specs.declared.command.Command.TheVariants.{Mlock, Munlock}
use Rattle.av_trace.specs.declared.reply.Answer.{Answer}
use Rattle.av_trace.specs.declared.reply.Answer.TheVariants.{AreaList}
use Rattle.av_trace.specs.declared.row.Row.TheVariants.{Area as AreaRow}
use Rattle.av_trace.specs.declared.reply.Errno.{Errno}
use Rattle.av_trace.specs.declared.reply.Errno.TheVariants.{Einval, Enomem, Esrch}
use Rattle.av_vma.specs.Pages.{pages_in}
use Rattle.av_vma.specs.declared.area.Area.{Area}
use Rattle.av_plain.specs.Areas.{Anons, rmap_after}
use Rattle.av_plain.specs.Event.{FlagSet}
use Rattle.av_plain.specs.Ledger.{InFrame, InSlot, first_ledger}
use Rattle.av_plain.specs.Step.{next}
use Rattle.av_plain.specs.Transcript.{State}
use Rattle.av_plain.specs.World.{Page, Process, World, pages, zeros}
use Rattle.av_laws.specs.Areas.{area, rmap_with}
use Rattle.av_laws.specs.Examples.{MayNotCome, execute_only, machine, no_access, one_area}
use Rattle.av_laws.specs.Examples.{only_frames, page_with, with_rows_of}
use Rattle.av_laws.specs.Examples.{read_only, read_write, slot, state_of, with_slots, write_only}

-- ---- flags

abbrev pub left_out : Flags
left_out = with_flag flags.DontFork true no_flags

abbrev pub wiped_off : Flags
wiped_off = with_flag flags.WipeOnFork true no_flags

abbrev pub locked : Flags
locked = with_flag flags.Locked true no_flags

abbrev pub all_set : Flags
all_set = record { dont_fork = true; wipe_on_fork = true; locked = true; mergeable = true }

-- these are the flags of a process's pages from one on, after a command that was answered so
abbrev pub LeavesFlags : World → Command → Answer → ℕ → ℕ → List (Option Flags) → Type 0
LeavesFlags w command answer p page all =
    map (λ n. option_map (λ (q : Page). q.flags) (pages (next w command answer) p n))
    (range_with_len page (length all)) ≡ all

-- ---- states

-- a page whose first byte is this one, with these flags
abbrev pub page_like : ℕ → Flags → Page
page_like b all = record (page_with b) { flags = all }

-- a process with the three topmost pages, whose first bytes are 1, 2 and 3, with these flags
abbrev pub three_pages : Flags → Flags → Flags → Process
three_pages low middle high page =
    if page == 0x7fffffffc then Some (page_like 1 low)
    else (if page == 0x7fffffffd then Some (page_like 2 middle)
    else (if page == 0x7fffffffe then Some (page_like 3 high) else None))

-- each of them has a frame
abbrev pub three_written : Flags → Flags → Flags → State
three_written low middle high = state_of ((1, three_pages low middle high) ∷ [])
    (record first_ledger {
      entries = ((1, 0x7fffffffc), InFrame 0 true) ∷ ((1, 0x7fffffffd), InFrame 1 true)
          ∷ ((1, 0x7fffffffe), InFrame 2 true) ∷ [];
      inactive = 2 ∷ 1 ∷ 0 ∷ [];
    })
    (only_frames (3 ∷ []))

-- none has one, and a swap area is on
abbrev pub none_written : State
none_written = state_of ((1, three_pages no_flags no_flags no_flags) ∷ [])
    (record first_ledger { on = one_area 3 0 })
    (with_slots 4 [] 0 (0 ∷ 1 ∷ []))

-- there are two frames: that of the lowest page, which is locked, and that of the middle one
abbrev pub one_locked : State
one_locked = state_of ((1, three_pages locked no_flags no_flags) ∷ [])
    (record first_ledger {
      entries = ((1, 0x7fffffffc), InFrame 0 true) ∷ ((1, 0x7fffffffd), InFrame 1 true) ∷ [];
      inactive = 1 ∷ 0 ∷ [];
      on = one_area 3 0;
    })
    (with_slots 4 [] 0 [])

-- their pages are both locked, and the topmost one is in a slot
abbrev pub both_locked : State
both_locked = state_of ((1, three_pages locked locked no_flags) ∷ [])
    (record first_ledger {
      entries = ((1, 0x7fffffffc), InFrame 0 true) ∷ ((1, 0x7fffffffd), InFrame 1 true)
          ∷ ((1, 0x7fffffffe), InSlot (slot 1)) ∷ [];
      active = 0 ∷ [];
      inactive = 1 ∷ [];
      on = one_area 3 0;
    })
    (with_slots 4 [] 1 [])

-- ---- areas

-- once a flag of some pages of process 1 is set, or cleared, its areas are these, as 8 pages show
abbrev pub CutsAreas : List Area → Anons → ℕ → ℕ → Flag → Bool → List Area → Type 0
CutsAreas areas anons from n flag set new =
    map ((rmap_after first_ledger (FlagSet 1 from n flag set) (rmap_with areas anons)).areas 1)
    (range_with_len 0xf 8) ≡ map (pages_in (Some new)) (range_with_len 0xf 8)

-- an area with these flags
abbrev pub flagged : ℕ → ℕ → Flags → Area
flagged from past all = record (area from past read_write) { flags = all }

-- ---- refusals

-- of the three pages
abbrev pub refusals_of_advice : List (Command × Option Errno)
refusals_of_advice =
    (Madvise 2 0x10001 1 DontNeed, Some Esrch)
    ∷ (Madvise 1 0x7fffffffc001 0 DontNeed, Some Einval)
    ∷ (Madvise 1 0x10000 18446744073709551615 DontNeed, Some Einval)
    ∷ (Madvise 1 0x10000 18446744073709486080 DontFork, Some Einval)
    ∷ (Madvise 1 0x10000 18446744073709481984 DontFork, None)
    ∷ (Madvise 1 0 0 DoFork, None) ∷ []

abbrev pub refusals_of_locks : List (Command × Option Errno)
refusals_of_locks =
    (Mlock 2 0x10000 18446744073709551615, Some Esrch)
    ∷ (Mlock 1 0x10000 18446744073709551615, Some Einval)
    ∷ (Mlock 1 0x10000 67108865, Some Enomem) ∷ (Mlock 1 0x10000 67108864, None)
    ∷ (Mlock 1 0x10001 0, None)
    ∷ (Munlock 2 0x10000 18446744073709551615, Some Esrch)
    ∷ (Munlock 1 0x10000 18446744073709551615, Some Einval) ∷ (Munlock 1 0x10000 67108865, None)
    ∷ []

-- ---- protections

-- pages 0x10 to 0x13 allow nothing, reads, writes, or to be executed
abbrev pub four_kinds : Process
four_kinds page =
    if page == 0x10 then Some (zeros no_access)
    else (if page == 0x11 then Some (zeros read_only)
    else (if page == 0x12 then Some (zeros write_only)
    else (if page == 0x13 then Some (zeros execute_only) else None)))

-- ---- rows

-- process 1 has the topmost page, with these flags
abbrev pub topmost_like : Flags → World
topmost_like all = (1, λ page. if page == 0x7fffffffe then Some (page_like 0 all) else None) ∷ []

-- `areas` doesn't show it with those flags, and this chain
abbrev pub NotShown : Flags → Flags → List ℕ → Type 0
NotShown all shown chain =
    MayNotCome (machine 4) (topmost_like all) first_ledger (AsksAreas 1)
    (with_rows_of (AreaList 1)
    (AreaRow 0x7fffffffe000 0x7ffffffff000 read_write 5 None chain shown ∷ []))
