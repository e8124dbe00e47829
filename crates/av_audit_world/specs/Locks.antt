-- Which pages are locked, and where pages pass a test, side by side.
use Rattle.std.specs.Prelude.{◌≡◌, ℕ, ◌<◌, ◌≤◌, ◌&&◌, Bool, true, false, MatchOption, Option}
use Rattle.std.specs.Prelude.{option_and_then}
use Rattle.std.specs.BTreeMap.{get}
use Rattle.std.specs.BTreeSet.{contains}
use Rattle.std.specs.Ordering.{nat_cmp}
use Rattle.av_base.specs.Keys.{Key}
use Rattle.av_audit_ranges.specs.Marks.{is_locked}
use Rattle.av_audit_ranges.specs.Ranges.{marks_at}
use Rattle.av_audit_ranges.specs.declared.marks.Marks.{Marks}
use Rattle.av_audit_world.specs.declared.memories.Memories.{Memories}
use Rattle.av_audit_world.specs.declared.space.Space.{Space}

-- none from this one on passes; or the first that does, and an end up to which each does
abbrev pub IsFirstRun : (ℕ → Bool) → ℕ → Option (ℕ × ℕ) → Type 0
IsFirstRun test from run = MatchOption run ((page : ℕ) → from ≤ page → test page ≡ false)
    (λ run. ((page : ℕ) → from ≤ page → page < run.0 → test page ≡ false)
    × ((page : ℕ) → run.0 ≤ page → page < run.1 → test page ≡ true))

-- what is kept of a page of a process, if it is mapped
abbrev pub marks_kept : Memories → Key → Option Marks
marks_kept memories k =
    option_and_then (λ (s : Space). marks_at s.ranges k.1) (get nat_cmp memories.spaces k.0)

-- whether a page is locked, as is kept: its process is noted, and what is kept of the page says so
unfoldable pub locks_page : Memories → Key → Bool
locks_page memories k =
    contains nat_cmp memories.locking k.0 && is_locked (marks_kept memories k)
