-- The protections and flags of a process's pages, and how the pages of a range go.
use Rattle.std.specs.Prelude.{◌≡◌, ◌≢◌, ℕ, ◌+◌, true, is_some, if◌then◌else◌, List, length}
use Rattle.std.specs.Prelude.{Option, None}
use Rattle.std.specs.Prelude.{Some, false, IfSome, option_map}
use Rattle.av_base.specs.declared.flags.Flags.{Flags}
use Rattle.av_base.specs.declared.prot.Prot.{Prot}
use Rattle.av_base.specs.Words.{with_at, within}
use Rattle.av_pagetable.specs.Entries.{has}
use Rattle.av_spaces.specs.Kin.{AnonsStay}
use Rattle.av_spaces.specs.Spaces.{Spaces, areas_of, pages_of}
use Rattle.av_vma.specs.Pages.{Effect, Pages, home_of}
use Rattle.av_vma.specs.declared.area.Area.{Area}
use Rattle.av_plain.specs.Device.{Device}
use Rattle.av_plain.specs.Ledger.{Ledger}
use Rattle.av_plain.specs.Event.{Event}
use Rattle.av_plain.specs.Report.{AreApart}
use Rattle.av_mem.specs.declared.mem.Mem.{Mem}
use Rattle.av_mem.specs.Locked.{locks_in}
use Rattle.av_mem.specs.Mem.{locks_of, ranges_of, view}
use Rattle.av_mem.specs.Steps.{KeepsSwap}
use Rattle.av_mem.specs.Zap.{HasZapped}
use Rattle.av_trace.specs.declared.note.Note.{Note}

-- protection and flags of pages, where they are mapped
abbrev pub Marks : Type 0
Marks = ℕ → Option (Prot × Flags)

-- those that areas give the pages on which they are
abbrev pub marks_on : Pages → ℕ → Option (Prot × Flags)
marks_on on page = option_map (λ (area : Area). (area.prot, area.flags)) (on page)

-- the n pages from `from` on have these, or are not mapped
abbrev pub set_on : ℕ → ℕ → Option (Prot × Flags) → Marks → ℕ → Option (Prot × Flags)
set_on from n now marks page = if within from n page then now else marks page

-- what a change makes of them
abbrev pub marks_with : Effect → Prot × Flags → Prot × Flags
marks_with effect m = (effect.prot m.0, effect.flags m.1)

-- those of the n pages from `from` on that are mapped have it
abbrev pub changed_on : ℕ → ℕ → Effect → Marks → ℕ → Option (Prot × Flags)
changed_on from n effect marks page =
    if within from n page then option_map (marks_with effect) (marks page) else marks page

-- p gets these protections and flags: its pages have them now, and the areas of the others are as
-- they were. (So they are after a change, `IsChanged`, whose areas rise; but also where nothing was
-- done, and then it isn't told that areas rise.)
pub record GetsMarks (old new : Spaces) (p : ℕ) (marks : Marks) : Type 0 where
  pub others : (q : ℕ) → q ≢ p → areas_of new q ≡ areas_of old q
  pub alive : is_some (areas_of new p) ≡ true
  pub pages : (page : ℕ) → marks_on (pages_of new p) page ≡ marks page
  pub number : length new ≡ length old
  pub apart : (q : ℕ) → IfSome (ranges_of new q) AreApart

-- p gets these areas: its pages are of them now, and those of the others are as they were
abbrev pub GetsAreas : Spaces → Spaces → ℕ → Pages → Type 0
GetsAreas old new p on = (q page : ℕ) → pages_of new q page ≡ with_at p on (pages_of old) q page

-- a page of p that is not among the n from one on keeps the home that frames have from it
abbrev pub HomesStay : Spaces → Spaces → ℕ → ℕ → ℕ → Type 0
HomesStay old new p from n = (page : ℕ) (home : ℕ × ℕ) → within from n page ≡ false
    → home_of page (pages_of old p page) ≡ Some home
    → home_of page (pages_of new p page) ≡ Some home

-- the n pages of p from one on have gone, with their entries, by these events, whose notes were
-- added; its areas are these, and so many fewer entries of locked pages are counted. What areas and
-- anon_vmas have no part in stays
pub record AreUnmapped (d : Device) (old new : Mem) (p page n : ℕ) (on : Pages) (l : Ledger)
    (events : List Event) (before now : List Note) : Type 0 where
  pub taken : HasZapped d old new l events before now
  pub spaces : GetsMarks old.spaces.processes new.spaces.processes p
      (set_on page n None (marks_on (pages_of old.spaces.processes p)))
  pub areas : GetsAreas old.spaces.processes new.spaces.processes p on
  pub anons : AnonsStay old.spaces old.anons new.spaces new.anons
  pub stay : HomesStay old.spaces.processes new.spaces.processes p page n
  pub locks : (f : ℕ) → locks_of old f ≡ locks_of new f + locks_in old p page n f
  pub processes : has new.tables ≡ has old.tables
  pub bytes : (view new).bytes ≡ (view old).bytes
  pub homes : (view new).homes ≡ (view old).homes
  pub swap : KeepsSwap old new
