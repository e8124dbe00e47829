-- Which pages are locked, and how the entries of locked pages are counted.
use Rattle.std.specs.Prelude.{◌≡◌, ℕ, ◌+◌, ◌-◌, ◌^◌, ◌<◌, ◌≤◌, Bool, ◌&&◌, if◌then◌else◌}
use Rattle.std.specs.List.{range_with_len}
use Rattle.av_base.specs.Keys.{Key}
use Rattle.av_base.specs.Words.{how_many, with_at}
use Rattle.av_pagetable.specs.Entries.{entry_at}
use Rattle.av_pagetable.specs.declared.pte.Pte.{Pte}
use Rattle.av_pagetable.specs.declared.pte.Pte.TheVariants.{Away, Empty, Here, Zero}
use Rattle.av_rmap.specs.Walk.{names_frame}
use Rattle.av_spaces.specs.Spaces.{pages_of}
use Rattle.av_vma.specs.Areas.{is_locked}
use Rattle.av_mem.specs.Mem.{locks_of, view}
use Rattle.av_mem.specs.declared.locked.Way.{Way}
use Rattle.av_mem.specs.declared.locked.Way.TheVariants.{Down, Up}
use Rattle.av_mem.specs.declared.mem.Mem.{Mem}

-- whether a page is locked
abbrev pub has_lock : Mem → Key → Bool
has_lock k key = is_locked (pages_of k.spaces.processes key.0 key.1)

-- the counts once the entry of a page names the frame, and once it does so no longer
abbrev pub locks_more : Mem → Key → ℕ → (ℕ → ℕ) → ℕ → ℕ
locks_more k key f locks = if has_lock k key then with_at f (locks f + 1) locks else locks

abbrev pub locks_less : Mem → Key → ℕ → (ℕ → ℕ) → ℕ → ℕ
locks_less k key f locks = if has_lock k key then with_at f (locks f - 1) locks else locks

-- no more entries of locked pages name a frame than entries in all
abbrev pub AreFew : Mem → Type 0
AreFew k = (f : ℕ) → locks_of k f ≤ (view k).maps f

-- whether a page of a process is locked, and its entry names the frame
abbrev pub is_lock_at : Mem → ℕ → ℕ → ℕ → Bool
is_lock_at k f p page = has_lock k (p, page) && names_frame f (entry_at k.tables p page)

-- how many of a process's n pages from one on are so
abbrev pub locks_in : Mem → ℕ → ℕ → ℕ → ℕ → ℕ
locks_in k p from n f = how_many (is_lock_at k f p) (range_with_len from n)

-- how many of them have an entry that names the frame
abbrev pub names_in : Mem → ℕ → ℕ → ℕ → ℕ → ℕ
names_in k p from n f =
    how_many (λ page. names_frame f (entry_at k.tables p page)) (range_with_len from n)

-- ---- counting many

-- so many may be counted up from the old count, or down
abbrev pub MayCount : Way → ℕ → ℕ → Type 0
MayCount Up old n = old + n < 2 ^ 64
MayCount Down old n = n ≤ old

-- so many are counted
abbrev pub IsCounted : Way → ℕ → ℕ → ℕ → Type 0
IsCounted Up old new n = new ≡ old + n
IsCounted Down old new n = old ≡ new + n

-- the frame of an entry is one of so many
abbrev pub IsBelow : ℕ → Pte → Type 0
IsBelow count Empty = Unit {0}
IsBelow count Zero = Unit {0}
IsBelow count (Here f write seen) = f < count
IsBelow count (Away s) = Unit {0}
