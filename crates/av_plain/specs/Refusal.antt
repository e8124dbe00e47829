-- Which commands are refused, and with which error: the first test that holds, in one order for
-- each command.
use Rattle.std.specs.Prelude.{ℕ, ◌+◌, Bool, true, false, not, ◌==◌, if◌then◌else◌, ◌&&◌, List, []}
use Rattle.std.specs.Prelude.{◌∷◌, ◌++◌, Option, Some, None, ◌≡◌, ◌||◌, is_none, length, nat_lt}
use Rattle.std.specs.Prelude.{nat_le, ◌^◌}
use Rattle.av_base.specs.Limits.{most_locked, most_processes, low_page, top_page}
use Rattle.av_base.specs.Page.{page_of, address_of, pages_met, pages_of, is_on_page}
use Rattle.av_base.specs.declared.slot.Slot.{Slot}
use Rattle.av_trace.specs.declared.command.Command.{Command}
use Rattle.av_trace.specs.declared.command.Command.TheVariants.{Mprotect, Mremap, Spawn, Fork, Exit}
use Rattle.av_trace.specs.declared.command.Command.TheVariants.{Mmap, Munmap, Read, Write, Maps}
use Rattle.av_trace.specs.declared.command.Command.TheVariants.{Reclaim, Age, Complete, Swapon}
use Rattle.av_trace.specs.declared.command.Command.TheVariants.{Swapoff, Areas as AsksAreas}
use Rattle.av_trace.specs.declared.command.Command.TheVariants.{Rmap as AsksRmap}
use Rattle.av_trace.specs.declared.command.Command.TheVariants.{Entry as AsksEntry}
use Rattle.av_trace.specs.declared.command.Command.TheVariants.{Slot as AsksSlot, Stat, Merge}
use Rattle.av_trace.specs.declared.command.Command.TheVariants.{Compact, Madvise, Mlock, Munlock}
use Rattle.av_trace.specs.declared.mode.Mode.{Mode}
use Rattle.av_trace.specs.declared.place.Place.{Place}
use Rattle.av_trace.specs.declared.place.Place.TheVariants.{Auto, At, Fixed, NoReplace}
use Rattle.av_trace.specs.declared.reply.Answer.{Answer}
use Rattle.av_trace.specs.declared.reply.Answer.TheVariants.{Refused}
use Rattle.av_trace.specs.declared.reply.Errno.{Errno}
use Rattle.av_trace.specs.declared.reply.Errno.TheVariants.{Ebusy, Efault, Enomem, Eperm, Esrch}
use Rattle.av_trace.specs.declared.reply.Errno.TheVariants.{Eagain, Eexist, Einval}
use Rattle.av_trace.specs.declared.row.Row.{Row}
use Rattle.av_plain.specs.Event.{Event}
use Rattle.av_plain.specs.Ledger.{Setting, Ledger, is_on, pages_used, size_of}
use Rattle.av_plain.specs.Tests.{first_test}
use Rattle.av_plain.specs.Mremap.{have_one_prot, is_in_place, leaves_old, target_of}
use Rattle.av_plain.specs.World.{Process, World, is_mapped, pages, lives, meets}

-- tests in order, each with the error that it leads to
abbrev pub Tests : Type 0
Tests = List (Bool × Errno)

-- the process does not live
abbrev pub no_process : World → ℕ → Bool × Errno
no_process w p = (not (lives w p), Esrch)

-- the page of the address isn't mapped
abbrev pub no_page : World → ℕ → ℕ → Bool × Errno
no_page w p a = (not (is_mapped (pages w p) (page_of a)), Efault)

-- as many processes live as may
abbrev pub too_many : World → Bool × Errno
too_many w = (nat_le most_processes (length w), Eagain)

-- rounding the length up passes 2^64 - 1
abbrev pub overflows : ℕ → Bool
overflows len = nat_le (2 ^ 64) (address_of (pages_of len))

-- the pages of the length are more than there are below the top
abbrev pub is_too_long : ℕ → Bool
is_too_long len = overflows len || nat_lt top_page (pages_of len)

-- the pages of the length, from an address on, do not end below 2^64
abbrev pub wraps : ℕ → ℕ → Bool
wraps a len = nat_le (2 ^ 64) (a + address_of (pages_of len))

-- the address isn't on a page, or the pages of the length do not end below 2^64
abbrev pub is_bad_range : ℕ → ℕ → Bool
is_bad_range a len = not (is_on_page a) || wraps a len

-- the pages that the bytes from an address on meet do not end below 2^64
abbrev pub ends_too_high : ℕ → ℕ → Bool
ends_too_high a len = nat_le (2 ^ 64) (address_of (page_of a + pages_met a len))

-- these are more than one command may lock
abbrev pub locks_too_many : ℕ → ℕ → Bool
locks_too_many a len = nat_lt most_locked (pages_met a len)

-- the first address that no process can have, and the lowest that can be mapped
abbrev pub top : ℕ
top = address_of top_page

abbrev pub low : ℕ
low = address_of low_page

-- the tests of an address that a mapping of n pages has to have
abbrev pub fixed_tests : ℕ → ℕ → Tests
fixed_tests n a =
    (nat_lt top (a + address_of n), Enomem) ∷ (not (is_on_page a), Einval) ∷ (nat_lt a low, Eperm)
    ∷ []

-- the tests of the place of n pages
abbrev pub place_tests : Process → ℕ → Place → Tests
place_tests q n Auto = []
place_tests q n (At a) = []
place_tests q n (Fixed a) = fixed_tests n a
place_tests q n (NoReplace a) = fixed_tests n a ++ (meets q (page_of a) n, Eexist) ∷ []

-- whether n pages from an address on, and m from another, have a page in common
abbrev pub overlap : ℕ → ℕ → ℕ → ℕ → Bool
overlap a n b m = nat_lt a (b + address_of m) && nat_lt b (a + address_of n)

-- n pages from an address on may not become m at another: that is not on a page, they would end
-- past the top, or the two ranges overlap
abbrev pub is_no_target : ℕ → ℕ → ℕ → Option ℕ → Bool
is_no_target a n m None = false
is_no_target a n m (Some b) =
    not (is_on_page b) || nat_lt top (b + address_of m) || overlap a n b m

abbrev pub is_below_low : Option ℕ → Bool
is_below_low None = false
is_below_low (Some b) = nat_lt b low

-- the two lengths cannot be what the mode asks for
abbrev pub are_bad_lengths : ℕ → ℕ → Mode → Bool
are_bad_lengths old new mode =
    old == 0 || new == 0 || overflows old || overflows new || (leaves_old mode && not (old == new))

-- the pages that have to be mapped are not: the first one where the range stays in place, else all
-- of them, with one protection
abbrev pub lacks_pages : Process → ℕ → ℕ → ℕ → Mode → Bool
lacks_pages q from n m mode =
    not (if is_in_place mode n m then is_mapped q from else have_one_prot q from n)

-- in place, and a tail goes that ends past the top
abbrev pub is_tail_too_high : ℕ → ℕ → ℕ → Mode → Bool
is_tail_too_high a n m mode = is_in_place mode n m && nat_lt m n && nat_lt top (a + address_of n)

-- the tests of an mremap
abbrev pub mremap_tests : Process → ℕ → ℕ → ℕ → Mode → Tests
mremap_tests q a old new mode =
    (not (is_on_page a) || are_bad_lengths old new mode, Einval)
    ∷ (is_no_target a (pages_of old) (pages_of new) (target_of mode), Einval)
    ∷ (lacks_pages q (page_of a) (pages_of old) (pages_of new) mode, Efault)
    ∷ (is_tail_too_high a (pages_of old) (pages_of new) mode, Einval)
    ∷ (is_below_low (target_of mode), Eperm) ∷ []

-- no device is attached as the swap area
abbrev pub no_device_at : Setting → ℕ → Bool
no_device_at m k = is_none (m.sizes k)

-- the swap area is off; so is one that isn't attached, since one that is on has pages
abbrev pub is_off : Ledger → ℕ → Bool
is_off l k = not (is_on l k)

-- the area has no slot at the page: it is the header's, or past the pages that the area uses
abbrev pub is_outside : Setting → Slot → Bool
is_outside m s = s.page == 0 || nat_le (pages_used m s.area) s.page

-- the tests of each command
abbrev pub tests : Setting → World → Ledger → Command → Tests
tests m w l (Spawn p) = (lives w p, Eexist) ∷ too_many w ∷ []
tests m w l (Fork p q) = no_process w p ∷ (lives w q, Eexist) ∷ too_many w ∷ []
tests m w l (Exit p) = no_process w p ∷ []
tests m w l (Mmap p len prot place) =
    no_process w p ∷ (len == 0, Einval) ∷ (is_too_long len, Enomem)
    ∷ place_tests (pages w p) (pages_of len) place
tests m w l (Munmap p a len) =
    no_process w p ∷ (not (is_on_page a) || len == 0 || nat_lt top (a + len), Einval) ∷ []
tests m w l (Mprotect p a len prot) =
    no_process w p ∷ (not (is_on_page a), Einval) ∷ (wraps a len, Enomem) ∷ []
tests m w l (Mremap p a old new mode) =
    no_process w p ∷ mremap_tests (pages w p) a old new mode
tests m w l (Madvise p a len advice) = no_process w p ∷ (is_bad_range a len, Einval) ∷ []
tests m w l (Mlock p a len) =
    no_process w p ∷ (ends_too_high a len, Einval) ∷ (locks_too_many a len, Enomem) ∷ []
tests m w l (Munlock p a len) = no_process w p ∷ (ends_too_high a len, Einval) ∷ []
tests m w l (Read p a n) = no_process w p ∷ []
tests m w l (Write p a bytes) = no_process w p ∷ []
tests m w l (Reclaim n) = []
tests m w l (Age n) = []
tests m w l (Complete n) = []
tests m w l (Swapon k priority) =
    (no_device_at m k, Einval) ∷ (is_on l k, Ebusy) ∷ (size_of m k == 0, Einval) ∷ []
tests m w l (Swapoff k) = (is_off l k, Einval) ∷ []
tests m w l Merge = []
tests m w l Compact = []
tests m w l (Maps p) = no_process w p ∷ []
tests m w l (AsksAreas p) = no_process w p ∷ []
tests m w l (AsksRmap p a) = no_process w p ∷ no_page w p a ∷ []
tests m w l (AsksEntry p a) = no_process w p ∷ no_page w p a ∷ []
tests m w l (AsksSlot k page) =
    (is_off l k, Einval) ∷ (is_outside m (record { area = k; page = page }), Einval) ∷ []
tests m w l Stat = []

-- the error of the first test that holds
abbrev pub refusal : Tests → Option Errno
refusal ts = first_test ts

-- a refusal changes nothing, and has neither notes nor rows
abbrev pub Refuses : Errno → List Event → Answer → List Row → Type 0
Refuses error events answer rows = (answer ≡ Refused error) × (events ≡ []) × (rows ≡ [])

-- the commands that may change something and be refused: those that meet a hole, or a locked page,
-- and a swapoff that ends at a slot
abbrev pub may_end_midway : Command → Bool
may_end_midway (Mprotect p a len prot) = true
may_end_midway (Madvise p a len advice) = true
may_end_midway (Mlock p a len) = true
may_end_midway (Munlock p a len) = true
may_end_midway (Swapoff k) = true
may_end_midway command = false
