-- Entries that name a slot in place of a frame.
use Rattle.std.specs.Prelude.{ℕ, ◌==◌, if◌then◌else◌}
use Rattle.av_base.specs.declared.slot.Slot.{Slot}
use Rattle.av_pagetable.specs.declared.pte.Pte.{Pte}
use Rattle.av_pagetable.specs.declared.pte.Pte.TheVariants.{Empty, Zero, Here, Away}
use Rattle.av_rmap.specs.Changed.{with_changed}
use Rattle.av_rmap.specs.View.{View}

-- an entry, which names the slot where it named the frame
abbrev pub away : ℕ → Slot → Pte → Pte
away frame slot Empty = Empty
away frame slot Zero = Zero
away frame slot (Here other write seen) =
    if frame == other then Away slot else Here other write seen
away frame slot (Away other) = Away other

-- all entries so
abbrev pub with_away : ℕ → Slot → View → View
with_away frame slot view = with_changed (away frame slot) view
