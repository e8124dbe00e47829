-- Entries of frames that name another one instead.
use Rattle.std.specs.List.{list_any}
use Rattle.std.specs.Prelude.{ℕ, if◌then◌else◌, List}
use Rattle.av_base.specs.Keys.{Key, same_key}
use Rattle.av_pagetable.specs.declared.pte.Pte.{Pte}
use Rattle.av_pagetable.specs.declared.pte.Pte.TheVariants.{Away, Empty, Here, Zero}

-- an entry of a frame names this one, seen and written as it was
abbrev pub with_frame : ℕ → Pte → Pte
with_frame f Empty = Empty
with_frame f Zero = Zero
with_frame f (Here g write seen) = Here f write seen
with_frame f (Away s) = Away s

-- those at these keys do
abbrev pub with_frame_at : List Key → ℕ → (ℕ → ℕ → Pte) → ℕ → ℕ → Pte
with_frame_at keys f table p page =
    if list_any (same_key (p, page)) keys then with_frame f (table p page) else table p page
