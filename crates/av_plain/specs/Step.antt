-- What one command may answer, and the memories and the ledger after it.
use Rattle.std.specs.Prelude.{ℕ, ◌+◌, Bool, false, true, if◌then◌else◌, List, Option, None, Some}
use Rattle.std.specs.Prelude.{◌≡◌, length, max, MatchOption}
use Rattle.av_base.specs.Page.{page_of, pages_met, pages_of}
use Rattle.av_trace.specs.declared.command.Command.{Command}
use Rattle.av_trace.specs.declared.command.Command.TheVariants.{Mprotect, Mremap, Spawn, Fork, Exit}
use Rattle.av_trace.specs.declared.command.Command.TheVariants.{Mmap, Munmap, Read, Write, Maps}
use Rattle.av_trace.specs.declared.command.Command.TheVariants.{Reclaim, Age, Complete, Swapon}
use Rattle.av_trace.specs.declared.command.Command.TheVariants.{Swapoff, Areas as AsksAreas}
use Rattle.av_trace.specs.declared.command.Command.TheVariants.{Rmap as AsksRmap}
use Rattle.av_trace.specs.declared.command.Command.TheVariants.{Entry as AsksEntry}
use Rattle.av_trace.specs.declared.command.Command.TheVariants.{Slot as AsksSlot, Stat, Merge}
use Rattle.av_trace.specs.declared.command.Command.TheVariants.{Compact, Madvise, Mlock, Munlock}
use Rattle.av_trace.specs.declared.reply.Answer.{Answer}
use Rattle.av_trace.specs.declared.reply.Answer.TheVariants.{Bus, Done, MapAt, NoFrame, Oom}
use Rattle.av_trace.specs.declared.reply.Answer.TheVariants.{Refused}
use Rattle.av_trace.specs.declared.reply.Errno.TheVariants.{Einval, Enomem, Eio}
use Rattle.av_trace.specs.declared.reply.Reply.{Reply}
use Rattle.av_trace.specs.declared.row.Row.{Row}
use Rattle.av_plain.specs.Advice.{Advises, flag_of_advice, with_advice}
use Rattle.av_plain.specs.Access.{WritesPages, ReadsPages, after_write, first_bytes}
use Rattle.av_plain.specs.Compact.{Compacts}
use Rattle.av_plain.specs.Event.{notes_of, Event}
use Rattle.av_plain.specs.Fork.{Forks}
use Rattle.av_plain.specs.Ledger.{Setting, Ledger}
use Rattle.av_plain.specs.Load.{with_loads}
use Rattle.av_plain.specs.Lock.{Locks, Unlocks, with_lock}
use Rattle.av_plain.specs.Map.{Unmaps, MapsAt, Protects, with_prot_to_hole}
use Rattle.av_plain.specs.Merge.{Merges}
use Rattle.av_plain.specs.Mremap.{Remaps, leaves_old, process_after_mremap}
use Rattle.av_plain.specs.Pass.{fails}
use Rattle.av_plain.specs.Process.{Spawns, Exits}
use Rattle.av_plain.specs.Reclaim.{Ages, CompletesFirst, Reclaims}
use Rattle.av_plain.specs.Refusal.{tests, refusal, Refuses, is_bad_range, locks_too_many, wraps}
use Rattle.av_plain.specs.Report.{ReportsAreas, ReportsEntry, ReportsRuns, ReportsSlot}
use Rattle.av_plain.specs.Report.{ReportsTotals, ReportsWalk}
use Rattle.av_plain.specs.Swapoff.{TurnsOff}
use Rattle.av_plain.specs.Swapon.{TurnsOn}
use Rattle.av_plain.specs.World.{World, child_of, no_pages, pages, with_prot_on, set_process, zeros}
use Rattle.av_plain.specs.World.{end_process, with_pages}

-- ---- the memories after a command

-- what a command changes; one that is refused changes nothing, but for the pages before a hole or a
-- locked page, and the pages that an mlock could not bring in
abbrev pub next : World → Command → Answer → World
next w (Spawn p) Done = set_process w p no_pages
next w (Fork p q) Done = set_process w q (child_of (pages w p))
next w (Exit p) Done = end_process w p
next w (Mmap p len prot place) (MapAt a) =
    set_process w p (with_pages (pages w p) (page_of a) (pages_of len) (λ _. Some (zeros prot)))
next w (Munmap p a len) Done =
    set_process w p (with_pages (pages w p) (page_of a) (pages_of len) no_pages)
next w (Mprotect p a len prot) Done =
    set_process w p (with_prot_on (pages w p) (page_of a) (pages_of len) prot)
next w (Mprotect p a len prot) (Refused Enomem) =
    if wraps a len then w else with_prot_to_hole w p (page_of a) (pages_of len) prot
next w (Mremap p a old new mode) (MapAt b) =
    set_process w p (process_after_mremap (page_of a) (pages_of old) (page_of b) (pages_of new)
    (leaves_old mode) (pages w p))
next w (Madvise p a len advice) Done =
    with_advice w p (page_of a) (pages_of len) (flag_of_advice advice)
next w (Madvise p a len advice) (Refused Enomem) =
    with_advice w p (page_of a) (pages_of len) (flag_of_advice advice)
next w (Madvise p a len advice) (Refused Einval) =
    if is_bad_range a len then w
    else with_advice w p (page_of a) (pages_of len) (flag_of_advice advice)
next w (Mlock p a len) (Refused Enomem) =
    if locks_too_many a len then w else with_lock true w p (page_of a) (pages_met a len)
next w (Mlock p a len) (Refused error) = w
next w (Mlock p a len) answer = with_lock true w p (page_of a) (pages_met a len)
next w (Munlock p a len) Done = with_lock false w p (page_of a) (pages_met a len)
next w (Munlock p a len) (Refused Enomem) = with_lock false w p (page_of a) (pages_met a len)
next w (Write p a bytes) answer = after_write w p a (first_bytes answer bytes)
next w command answer = w

-- the memories after a command: loads from a device that doesn't tell come first
abbrev pub next_world : Setting → World → Ledger → List Event → Command → Answer → World
next_world m w l events command answer = next (with_loads m w l events) command answer

-- ---- what each command does

-- the swap area that a command closes while it runs
abbrev pub closing_swap_area : Command → Option ℕ
closing_swap_area (Swapoff k) = Some k
closing_swap_area command = None

-- whether a command may read the device or write to it: a page that is accessed may come from its
-- slot, and others may go to theirs for it
abbrev pub uses_device : Command → Bool
uses_device (Read p a n) = true
uses_device (Write p a bytes) = true
uses_device (Mlock p a len) = true
uses_device (Complete n) = true
uses_device (Swapon k priority) = true
uses_device (Swapoff k) = true
uses_device command = false

-- what each command does where it isn't refused: its events, its answer and its rows
abbrev pub Follows : Setting → World → Ledger → Command → List Event → Answer → List Row → Type 0
Follows m w l (Spawn p) events answer rows = Spawns events answer rows
Follows m w l (Fork p q) events answer rows = Forks w l p q events answer rows
Follows m w l (Exit p) events answer rows = Exits l p events answer rows
Follows m w l (Mmap p len prot place) events answer rows =
    MapsAt w l p (pages_of len) place events answer rows
Follows m w l (Munmap p a len) events answer rows =
    Unmaps l p (page_of a) (pages_of len) events answer rows
Follows m w l (Mprotect p a len prot) events answer rows =
    Protects w p (page_of a) (pages_of len) events answer rows
Follows m w l (Mremap p a old new mode) events answer rows =
    Remaps (pages w p) l p (page_of a) (pages_of old) (pages_of new) mode events answer rows
Follows m w l (Madvise p a len advice) events answer rows =
    Advises (pages w p) l p (page_of a) (pages_of len) (flag_of_advice advice) events answer rows
Follows m w l (Mlock p a len) events answer rows =
    Locks m w l p (page_of a) (pages_met a len) events answer rows
Follows m w l (Munlock p a len) events answer rows =
    Unlocks w p (page_of a) (pages_met a len) events answer rows
Follows m w l (Read p a n) events answer rows = ReadsPages m w l p a n events answer rows
Follows m w l (Write p a bytes) events answer rows =
    WritesPages m w l p a (length bytes) events answer rows
Follows m w l (Reclaim n) events answer rows = Reclaims m w l n events answer rows
Follows m w l (Age n) events answer rows = Ages l n events answer rows
Follows m w l (Complete n) events answer rows = CompletesFirst l n events answer rows
Follows m w l (Swapon k priority) events answer rows = TurnsOn m k priority events answer rows
Follows m w l (Swapoff k) events answer rows = TurnsOff m w l k events answer rows
Follows m w l Merge events answer rows = Merges m w l events answer rows
Follows m w l Compact events answer rows = Compacts m l events answer rows
Follows m w l (Maps p) events answer rows = ReportsRuns (pages w p) events answer rows
Follows m w l (AsksAreas p) events answer rows = ReportsAreas (pages w p) events answer rows
Follows m w l (AsksRmap p a) events answer rows = ReportsWalk l (p, page_of a) events answer rows
Follows m w l (AsksEntry p a) events answer rows =
    ReportsEntry l (p, page_of a) events answer rows
Follows m w l (AsksSlot k page) events answer rows =
    ReportsSlot m l (record { area = k; page = page }) events answer rows
Follows m w l Stat events answer rows = ReportsTotals m w l events answer rows

-- ---- a legal reply

-- a reply is legal by some events: it is refused by the first test that holds, else the command
-- does what it does; the notes are those of the events
pub record IsLegal (m : Setting) (w : World) (l : Ledger) (command : Command) (reply : Reply)
    (events : List Event) : Type 0 where
  pub answer : MatchOption (refusal (tests m w l command))
      (Follows m w l command events reply.answer reply.rows)
      (λ error. Refuses error events reply.answer reply.rows)
  pub notes : reply.notes ≡ notes_of events

-- ---- what only a failure of the device explains

-- the frames that an out-of-memory calls cached: each of them is one whose write failed
abbrev pub failed_frames : Answer → ℕ
failed_frames (Oom k out shown) = out.fault
failed_frames (NoFrame out) = out.fault
failed_frames answer = 0

-- an answer that only a failure explains
abbrev pub failure_answers : Answer → ℕ
failure_answers (Bus k shown) = 1
failure_answers (Refused Eio) = 1
failure_answers answer = 0

-- by how much the device's count of failures has risen, at the least
abbrev pub causes : Reply → ℕ
causes reply = max (fails reply.notes) (failed_frames reply.answer) + failure_answers reply.answer
