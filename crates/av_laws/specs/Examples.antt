-- Worked examples of single commands: what they are refused for, what they answer, which events
-- they have, and what is left. What follows from these and from the laws of this crate (that a
-- command has one reply and leaves one state where pages are told, bytes are claimed and no failure
-- of a device shows, that `maps` and `areas` have one answer) isn't stated: so there no reply that
-- differs from these may come. Of what may come behind a failure examples refuse some.
-- Which example would fail if a definition were wrong:
--   refusals and their order (`tests`): refusals, refusals_in_a_crowd, room_for_one,
--     refusals_of_areas
--   a place that is named (`is_room`, `Goes`): rooms, named, hint_taken, hint_over; the gap
--     rule: automatic, hint_over, and `next_to_top`, `below_itself` and `no_gap` of `Mremap`
--   protections (`allows`): readable, writable
--   what a page needs (`need`, `IsMade`): zero_page, new_page, zero_again, new_over_zero,
--     read_together
--   when a frame is shared (`asks_copy`): copied, copied_from_slot
--   what comes in (`ComesIn`): loaded, copied_from_slot, mapped_again
--   when a slot is dropped (`is_unneeded`): loaded, kept_in_swap, dropped, mapped_again,
--     named_by_other
--   where an access stops (`Accesses`, `stop_answer`, `bytes_before`): denied, read_past, lost,
--     starved_behind; that this page isn't used (`page_events`): denied, lost, starved_at_second
--   which page may be lost (`IsLost`): lost_without_frame, cached_lost, mapped_lost
--   how an access ends that is served whole (`read_answer`, `page_events`): read_whole,
--     written_whole
--   why it stops (`RunsOut`, `out_of`): starved, no_copy, starved_behind_pass
--   the memories after a command (`next`, `after_write`, `first_bytes`): stored, apart,
--     stored_in_part, stored_to_lost, stored_to_starved, mapped_over, unmapped, forked; (`lives`)
--     spawned, ended, made_by_none
--   a protection changed (`with_prot_to_hole`, `pages_of`): up_to_hole, wrapped, both_protected,
--     one_protected
--   entries that go (`keys_in`, `zaps_of`, `orphan_drop`): both_go, first_goes, own_goes,
--     orphan_goes, orphan_of_two
--   what goes over at a fork (`inheritance`): inherited
--   the runs of `maps` (`AreMaps`): two_runs
--   the answer to `areas` (`AreAreas`): one_area, chain_falls, chain_stands
--   the walk of `rmap` (`walk_answer`, `walk_rows`): walk_of_two, no_walk
--   the entry of `entry` (`entry_answer`): none_shown, zero_shown, old_shown, cached_shown,
--     slot_shown, slot_alone
--   the numbers of `stat` (`totals`): counted
--   the choice of frames (`ChoosesFrame`): taken_and_freed, dropped_and_freed
--   which commands use the device (`uses_device`): used, not_used
use Rattle.std.specs.Prelude.{◌≡◌, ℕ, zero, suc, ◌+◌, negsuc, Bool, true, false, ◌==◌, ◌||◌}
use Rattle.std.specs.Prelude.{if◌then◌else◌, List, [], ◌∷◌, map, length, Option, Some, None}
use Rattle.std.specs.Prelude.{option_map, unwrap_or}
use Rattle.av_base.specs.declared.prot.Prot.{Prot}
use Rattle.av_base.specs.declared.slot.Slot.{Slot}
use Rattle.av_base.specs.Keys.{Key}
use Rattle.av_base.specs.Words.{with_at}
use Rattle.std.specs.List.{range_with_len}
use Rattle.av_clusters.specs.Clusters.{Slots, fresh, take_slot}
use Rattle.av_trace.specs.declared.command.Command.{Command}
use Rattle.av_trace.specs.declared.command.Command.TheVariants.{Spawn, Fork, Exit, Mmap, Munmap}
use Rattle.av_trace.specs.declared.advice.Advice.TheVariants.{DontNeed}
use Rattle.av_trace.specs.declared.command.Command.TheVariants.{Mprotect, Read, Write, Maps}
use Rattle.av_trace.specs.declared.command.Command.TheVariants.{Age, Compact, Complete, Madvise}
use Rattle.av_trace.specs.declared.command.Command.TheVariants.{Merge, Mlock, Mremap, Munlock}
use Rattle.av_trace.specs.declared.command.Command.TheVariants.{Reclaim, Stat}
use Rattle.av_trace.specs.declared.command.Command.TheVariants.{Areas as AsksAreas}
use Rattle.av_trace.specs.declared.command.Command.TheVariants.{Rmap as AsksRmap}
use Rattle.av_trace.specs.declared.command.Command.TheVariants.{Entry as AsksEntry}
use Rattle.av_trace.specs.declared.command.Command.TheVariants.{Slot as AsksSlot, Swapon, Swapoff}
use Rattle.av_trace.specs.declared.mode.Mode.TheVariants.{MayMove}
use Rattle.av_trace.specs.declared.note.Note.{Note}
use Rattle.av_trace.specs.declared.note.Note.TheVariants.{New}
use Rattle.av_trace.specs.declared.place.Place.TheVariants.{Auto, Fixed, NoReplace}
use Rattle.av_trace.specs.declared.reply.Answer.{Answer}
use Rattle.av_trace.specs.declared.reply.Errno.{Errno}
use Rattle.av_trace.specs.declared.reply.Errno.TheVariants.{Eagain, Ebusy, Eexist, Efault, Einval}
use Rattle.av_trace.specs.declared.reply.Errno.TheVariants.{Enomem, Eperm, Esrch}
use Rattle.av_trace.specs.declared.reply.Reply.{Reply}
use Rattle.av_trace.specs.declared.row.Row.{Row}
use Rattle.av_plain.specs.Areas.{no_anons, no_areas, no_homes, no_items}
use Rattle.av_plain.specs.Choice.{Free, no_slots}
use Rattle.av_plain.specs.World.{Page, Process, World, byte_at, no_pages, pages, zeros}
use Rattle.av_plain.specs.Ledger.{Ledger, Setting, Cached, Entry, InFrame, InSlot, SwapArea, Zero}
use Rattle.av_plain.specs.Ledger.{first_ledger}
use Rattle.av_plain.specs.Device.{no_device, setting_of}
use Rattle.av_plain.specs.Event.{Event, Noted, Used, Zapped}
use Rattle.av_plain.specs.Fault.{Stop, Touches}
use Rattle.av_plain.specs.Mremap.{prot_at}
use Rattle.av_plain.specs.Refusal.{refusal, tests}
use Rattle.av_plain.specs.Step.{IsLegal, next}
use Rattle.av_plain.specs.Transcript.{State}
use Rattle.av_base.specs.Flags.{no_flags}

-- ---- what a row claims

-- the reply may come to the command; or it may not
abbrev pub MayCome : Setting → World → Ledger → Command → Reply → Type 0
MayCome m w l command reply = (events : List Event) × IsLegal m w l command reply events

abbrev pub MayNotCome : Setting → World → Ledger → Command → Reply → Type 0
MayNotCome m w l command reply = MayCome m w l command reply → ⊥

-- it may come in a state
abbrev pub Comes : Setting → State → Command → Reply → Type 0
Comes m s command reply = MayCome m s.world s.ledger command reply

-- it may come by these events
abbrev pub ComesBy : Setting → State → Command → Reply → List Event → Type 0
ComesBy m s command reply events = IsLegal m s.world s.ledger command reply events

-- the topmost page of a process is made ready to be read or written with these notes; or it isn't
-- served, for this reason
abbrev pub IsServed : Setting → State → Bool → ℕ → List Note → Option Stop → Type 0
IsServed m s write p notes stop = Touches m s.world s.ledger write (p, 0x7fffffffe) notes stop

-- each command is refused with the error beside it, or by no test
abbrev pub AreRefused : Setting → World → Ledger → List (Command × Option Errno) → Type 0
AreRefused m w l rows =
    map (λ (row : Command × Option Errno). refusal (tests m w l row.0)) rows
    ≡ map (λ (row : Command × Option Errno). row.1) rows

-- after a command that was answered so, these are the bytes of a process from an address on; a byte
-- that isn't mapped, or that nobody claims, is none
abbrev pub LeavesBytes : World → Command → Answer → ℕ → ℕ → List (Option ℕ) → Type 0
LeavesBytes w command answer p a bytes =
    map (byte_at (pages (next w command answer) p)) (range_with_len a (length bytes)) ≡ bytes

-- these are the protections of its pages from one on
abbrev pub LeavesProts : World → Command → Answer → ℕ → ℕ → List (Option Prot) → Type 0
LeavesProts w command answer p page prots =
    map (prot_at (pages (next w command answer) p)) (range_with_len page (length prots)) ≡ prots

-- these processes live
abbrev pub LeavesAlive : World → Command → Answer → List ℕ → Type 0
LeavesAlive w command answer alive = map (λ (q : ℕ × Process). q.0) (next w command answer) ≡ alive

-- ---- how a row is written

-- a reply without rows
abbrev pub reply_with : Answer → List Note → Reply
reply_with answer notes = record { answer = answer; notes = notes; rows = [] }

-- a reply with these rows
abbrev pub with_rows_of : Answer → List Row → Reply
with_rows_of answer rows = record { answer = answer; notes = []; rows = rows }

-- the protections `rw-`, `r--`, `---`, `-w-` and `--x`
abbrev pub read_write : Prot
read_write = record { read = true; write = true; execute = false }

abbrev pub read_only : Prot
read_only = record { read = true; write = false; execute = false }

abbrev pub no_access : Prot
no_access = record { read = false; write = false; execute = false }

abbrev pub write_only : Prot
write_only = record { read = false; write = true; execute = false }

abbrev pub execute_only : Prot
execute_only = record { read = false; write = false; execute = true }

-- ---- machines

-- so many frames and no device
abbrev pub machine : ℕ → Setting
machine frames = setting_of frames no_device

-- so many frames, and a device whose header tells its pages and slots
abbrev pub with_swap : ℕ → ℕ → ℕ → Setting
with_swap frames pages slots = record {
  frames = frames;
  sizes = λ k. if k == 0 then Some pages else None;
  headers = Some
      (λ k. if k == 0 then Some (record { pages = pages; slots = slots; bad = [] }) else None);
}

-- four frames, and a device that doesn't tell its pages
abbrev pub untold : Setting
untold = record { frames = 4; sizes = λ k. if k == 0 then Some 8 else None; headers = None }

-- one frame and a device whose page 1 is bad
abbrev pub bad_first : Setting
bad_first = record {
  frames = 1;
  sizes = λ k. if k == 0 then Some 8 else None;
  headers = Some (λ k.
      if k == 0 then Some (record { pages = 8; slots = 6; bad = 1 ∷ [] }) else None);
}

-- ---- what ledgers have

-- a slot of the one area
abbrev pub slot : ℕ → Slot
slot page = record { area = 0; page = page }

-- it is cached at a frame, stale or not
abbrev pub cached_at : ℕ → ℕ → Bool → Cached
cached_at page frame stale = record { slot = slot page; frame = frame; stale = stale }

-- an area that was turned on without a priority, with so many slots and bad pages
abbrev pub swap_area : ℕ → ℕ → SwapArea
swap_area slots bad = record { slots = slots; bad = bad; priority = negsuc 0 }

-- that is the one area that is on
abbrev pub one_area : ℕ → ℕ → List (ℕ × SwapArea)
one_area slots bad = (0, swap_area slots bad) ∷ []

-- these frames are free, in this order, and no area has slots
abbrev pub only_frames : List ℕ → Free
only_frames frames = record { frames = frames; slots = no_slots }

-- slots of which so many were given
abbrev pub when_given : ℕ → Slots → Slots
when_given zero slots = slots
when_given (suc n) slots = when_given n (unwrap_or (option_map (λ t. t.1) (take_slot slots)) slots)

-- these frames are free, and all slots but the first so many of an area of pages, with bad ones
abbrev pub with_slots : ℕ → List ℕ → ℕ → List ℕ → Free
with_slots pages bad n frames =
    record { frames = frames; slots = with_at 0 (when_given n (fresh pages bad)) no_slots }

-- ---- states

-- these entries, with frame 0 in the inactive list
abbrev pub with_entries : List (Key × Entry) → Ledger
with_entries entries = record first_ledger { entries = entries; inactive = 0 ∷ [] }

-- memories, a ledger and what is free; areas, homes and items don't matter
abbrev pub state_of : World → Ledger → Free → State
state_of w l free = record {
  world = w;
  ledger = l;
  free = free;
  areas = no_areas;
  anons = no_anons;
  homes = no_homes;
  items = no_items;
}

-- a page whose first byte is this one, with zeros behind it
abbrev pub page_with : ℕ → Page
page_with b =
    record { prot = read_write; flags = no_flags; bytes = λ i. Some (if i == 0 then b else 0) }

-- a process with that page alone, the topmost
abbrev pub with_byte : ℕ → Process
with_byte b page = if page == 0x7fffffffe then Some (page_with b) else None

-- a process with two pages, the topmost; their first bytes are these
abbrev pub two_bytes : ℕ → ℕ → Process
two_bytes low high page =
    if page == 0x7fffffffd then Some (page_with low)
    else (if page == 0x7fffffffe then Some (page_with high) else None)

-- the topmost page is for reading only, the two below for reading and writing
abbrev pub two_kinds : Process
two_kinds page = if page == 0x7fffffffe then Some (zeros read_only)
    else (if page == 0x7fffffffd || page == 0x7fffffffc then Some (zeros read_write) else None)

-- the same, without the middle one
abbrev pub with_hole : Process
with_hole page = if page == 0x7fffffffd then None else two_kinds page

-- process 1 has the topmost page mapped and not yet touched
abbrev pub at_rest : State
at_rest = state_of
    ((1, λ page. if page == 0x7fffffffe then Some (zeros read_write) else None) ∷ []) first_ledger
    (only_frames (0 ∷ 1 ∷ 2 ∷ 3 ∷ []))

-- it was read, and is the page of zeros
abbrev pub zero_read : State
zero_read =
    record at_rest { ledger = record first_ledger { entries = ((1, 0x7fffffffe), Zero) ∷ [] } }

-- the processes 1 to n, without a page
abbrev pub crowd : ℕ → World
crowd n = map (λ p. (p, no_pages)) (range_with_len 1 n)

-- two processes have one frame, as after a fork; these are free
abbrev pub after_fork : List ℕ → State
after_fork free = state_of ((1, with_byte 7) ∷ (2, with_byte 7) ∷ [])
    (record first_ledger {
      entries = ((1, 0x7fffffffe), InFrame 0 true) ∷ ((2, 0x7fffffffe), InFrame 0 false) ∷ [];
      inactive = 0 ∷ [];
    })
    (only_frames free)

-- process 1 has written two pages, in frames 0 and 1
abbrev pub two_written : State
two_written = state_of ((1, two_bytes 5 7) ∷ [])
    (record first_ledger {
      entries = ((1, 0x7fffffffd), InFrame 0 true) ∷ ((1, 0x7fffffffe), InFrame 1 true) ∷ [];
      inactive = 1 ∷ 0 ∷ [];
    })
    (only_frames (2 ∷ 3 ∷ []))

-- only the lower one was, in frame 0, and a swap area is on
abbrev pub one_written : State
one_written = record two_written {
  ledger = record first_ledger {
    entries = ((1, 0x7fffffffd), InFrame 0 true) ∷ [];
    inactive = 0 ∷ [];
    on = one_area 7 0;
  };
}

-- the page of process 1 is at slot 1 of a swap area with so many slots, and in no frame
abbrev pub paged_out : ℕ → List ℕ → State
paged_out slots free = state_of ((1, with_byte 7) ∷ [])
    (record first_ledger {
      entries = ((1, 0x7fffffffe), InSlot (slot 1)) ∷ [];
      on = one_area slots 0;
    })
    (with_slots (slots + 1) [] 1 free)

-- the upper one of two pages is there, and the lower one was not touched
abbrev pub second_out : List ℕ → State
second_out free = record (paged_out 7 free) { world = (1, two_bytes 0 7) ∷ [] }

-- two processes have it there, as after a fork
abbrev pub slot_shared : State
slot_shared = state_of ((1, with_byte 7) ∷ (2, with_byte 7) ∷ [])
    (record first_ledger {
      entries = ((1, 0x7fffffffe), InSlot (slot 1)) ∷ ((2, 0x7fffffffe), InSlot (slot 1)) ∷ [];
      on = one_area 7 0;
    })
    (with_slots 8 [] 1 [])

-- the page's frame is cached at slot 1, and this is its entry; a write of it may be in flight, and
-- it may have changed since one began
abbrev pub cached_by : Entry → Bool → Bool → State
cached_by e flying stale = state_of ((1, with_byte 7) ∷ [])
    (record first_ledger {
      entries = ((1, 0x7fffffffe), e) ∷ [];
      cache = cached_at 1 0 stale ∷ [];
      flight = if flying then slot 1 ∷ [] else [];
      inactive = 0 ∷ [];
      on = one_area 7 0;
    })
    (with_slots 8 [] 1 (1 ∷ 2 ∷ 3 ∷ []))

-- it is unmapped
abbrev pub cached_out : Bool → Bool → State
cached_out flying stale = cached_by (InSlot (slot 1)) flying stale

-- its write is in flight
abbrev pub in_writeback : State
in_writeback = cached_out true false

-- it is mapped, and no entry names slot 1
abbrev pub in_swap_cache : State
in_swap_cache = cached_by (InFrame 0 true) false false

-- two processes have one slot of an area with so many, and frame 0 caches it; the entry of the
-- first one is this
abbrev pub cached_for_two : ℕ → Entry → State
cached_for_two slots e = state_of ((1, two_bytes 0 7) ∷ (2, two_bytes 0 7) ∷ [])
    (record first_ledger {
      entries = ((1, 0x7fffffffe), e) ∷ ((2, 0x7fffffffe), InSlot (slot 1)) ∷ [];
      cache = cached_at 1 0 false ∷ [];
      inactive = 0 ∷ [];
      on = one_area slots 0;
    })
    (with_slots (slots + 1) [] 1 (1 ∷ 2 ∷ 3 ∷ []))

-- the upper one of two pages has the one frame, and the lower one was not touched
abbrev pub full : State
full = state_of ((1, two_bytes 0 7) ∷ [])
    (record first_ledger {
      entries = ((1, 0x7fffffffe), InFrame 0 true) ∷ [];
      inactive = 0 ∷ [];
      on = one_area 6 1;
    })
    (with_slots 8 (1 ∷ []) 0 [])

-- of nine frames two are active and three are inactive, of which one is cached and its write in
-- flight; two of seven slots are in use
abbrev pub all_kinds : Ledger
all_kinds = record first_ledger {
  entries = ((1, 0x10), InFrame 0 true) ∷ ((1, 0x11), InFrame 1 true) ∷ ((1, 0x12), InFrame 2 true)
      ∷ ((1, 0x13), InFrame 3 true) ∷ ((1, 0x14), InFrame 4 true) ∷ ((1, 0x15), InSlot (slot 3))
      ∷ ((1, 0x16), Zero) ∷ [];
  cache = cached_at 1 2 false ∷ [];
  flight = slot 1 ∷ [];
  active = 1 ∷ 0 ∷ [];
  inactive = 4 ∷ 3 ∷ 2 ∷ [];
  on = one_area 7 0;
}

-- ---- refusals, each by the first test that holds, and what is next to them

-- where process 1 has the topmost page
abbrev pub refusals : List (Command × Option Errno)
refusals =
    (Spawn 1, Some Eexist) ∷ (Spawn 2, None)
    ∷ (Fork 2 3, Some Esrch) ∷ (Fork 2 1, Some Esrch) ∷ (Fork 1 1, Some Eexist) ∷ (Fork 1 2, None)
    ∷ (Exit 2, Some Esrch) ∷ (Exit 1, None)
    -- the process, the length, and an address
    ∷ (Mmap 2 0 read_write Auto, Some Esrch)
    ∷ (Mmap 1 0 read_write Auto, Some Einval)
    ∷ (Mmap 1 18446744073709551615 read_write Auto, Some Enomem)
    ∷ (Mmap 1 140737488351233 read_write Auto, Some Enomem)
    ∷ (Mmap 1 140737488351232 read_write Auto, None)
    ∷ (Mmap 1 4096 read_write (Fixed 0x7ffffffff001), Some Enomem)
    ∷ (Mmap 1 4096 read_write (NoReplace 0x7ffffffff000), Some Enomem)
    ∷ (Mmap 1 4096 read_write (Fixed 0xf001), Some Einval)
    ∷ (Mmap 1 4096 read_write (Fixed 0xf000), Some Eperm)
    ∷ (Mmap 1 8192 read_write (NoReplace 0x7fffffffd000), Some Eexist)
    ∷ (Mmap 1 4096 read_write (NoReplace 0x7fffffffd000), None)
    ∷ (Mmap 1 4096 read_write (Fixed 0x7fffffffe000), None)
    ∷ (Munmap 2 0x10001 0, Some Esrch)
    ∷ (Munmap 1 0x10001 4096, Some Einval)
    ∷ (Munmap 1 0x10000 0, Some Einval)
    ∷ (Munmap 1 0x1000 140737488351232, Some Einval)
    ∷ (Munmap 1 0 140737488351232, None)
    ∷ (Mprotect 2 0x10001 0 read_write, Some Esrch)
    ∷ (Mprotect 1 0x10001 18446744073709551615 read_write, Some Einval)
    ∷ (Mprotect 1 0x7fffffffc000 18446603336221208577 read_write, Some Enomem)
    ∷ (Mprotect 1 0x7fffffffc000 18446603336221208576 read_write, None)
    ∷ (Read 2 0x10000 1, Some Esrch) ∷ (Read 1 0x10000 1, None)
    ∷ (Write 2 0x10000 (1 ∷ []), Some Esrch) ∷ (Write 1 0x10000 (1 ∷ []), None)
    ∷ (Maps 2, Some Esrch) ∷ (AsksAreas 2, Some Esrch)
    ∷ (AsksRmap 2 0x7fffffffd000, Some Esrch) ∷ (AsksRmap 1 0x7fffffffd000, Some Efault)
    ∷ (AsksEntry 2 0x7fffffffd000, Some Esrch) ∷ (AsksEntry 1 0x7ffffffff000, Some Efault)
    ∷ (AsksEntry 1 0x7fffffffe123, None) ∷ []

-- where as many processes live as may
abbrev pub refusals_in_a_crowd : List (Command × Option Errno)
refusals_in_a_crowd =
    (Spawn 1, Some Eexist) ∷ (Spawn 4097, Some Eagain) ∷ (Fork 4097 1, Some Esrch)
    ∷ (Fork 1 2, Some Eexist) ∷ (Fork 1 4097, Some Eagain) ∷ []

-- where area 0 is on
abbrev pub refusals_of_areas : List (Command × Option Errno)
refusals_of_areas =
    (Swapon 0 None, Some Ebusy) ∷ (Swapon 2 (Some 5), None) ∷ (Swapoff 0, None)
    ∷ (Swapoff 2, Some Einval) ∷ (AsksSlot 2 1, Some Einval) ∷ []

-- ---- commands that use the device, and the others

abbrev pub with_device : List Command
with_device =
    Read 1 0x10000 1 ∷ Write 1 0x10000 (1 ∷ []) ∷ Mlock 1 0x10000 1 ∷ Complete 1
    ∷ Swapon 0 None ∷ Swapoff 0 ∷ []

abbrev pub without_device : List Command
without_device =
    Spawn 1 ∷ Fork 1 2 ∷ Exit 1 ∷ Mmap 1 4096 read_write Auto ∷ Munmap 1 0x10000 4096
    ∷ Mprotect 1 0x10000 4096 read_only ∷ Mremap 1 0x10000 4096 8192 MayMove
    ∷ Madvise 1 0x10000 4096 DontNeed ∷ Munlock 1 0x10000 1 ∷ Reclaim 1 ∷ Age 1 ∷ Merge ∷ Compact
    ∷ Maps 1 ∷ AsksAreas 1 ∷ AsksRmap 1 0x10000 ∷ AsksEntry 1 0x10000 ∷ AsksSlot 0 1 ∷ Stat ∷ []

-- ---- frames that are chosen

-- two frames are taken and become free, one by one, each going in front
abbrev pub taken_and_freed : List Event
taken_and_freed = Noted (New 1 0x10000 0) ∷ Noted (New 1 0x11000 1) ∷ Used true (1, 0x11)
    ∷ Zapped (1, 0x10) ∷ Zapped (1, 0x11) ∷ []

-- a cached frame that nothing else names becomes free when its slot is dropped
abbrev pub orphan : Ledger
orphan = record first_ledger { cache = cached_at 1 5 false ∷ []; inactive = 5 ∷ [] }
