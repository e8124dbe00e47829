-- Entries that don't say any more that their page was accessed.
use Rattle.std.specs.Prelude.{ℕ, not, ◌&&◌, ◌==◌}
use Rattle.av_pagetable.specs.declared.pte.Pte.{Pte}
use Rattle.av_pagetable.specs.declared.pte.Pte.TheVariants.{Empty, Zero, Here, Away}
use Rattle.av_rmap.specs.Changed.{with_changed}
use Rattle.av_rmap.specs.View.{View}

-- an entry, without the seen bit where it names the frame
abbrev pub unseen : ℕ → Pte → Pte
unseen frame Empty = Empty
unseen frame Zero = Zero
unseen frame (Here other write seen) = Here other write (seen && not (frame == other))
unseen frame (Away slot) = Away slot

-- all entries so
abbrev pub with_unseen : ℕ → View → View
with_unseen frame view = with_changed (unseen frame) view
