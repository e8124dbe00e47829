use Rattle.std.proofs.Common.{ℕ, List, length}
use Rattle.av_plain.specs.World.{World}
use Rattle.av_audit_book.specs.Book.{ledger_of}
use Rattle.av_audit_book.specs.Machine.{setting_of}
use Rattle.av_audit_world.specs.Memories.{IsWorld}
use Rattle.av_audit_neighbour.specs.Held.{held_by}
use Rattle.av_audit_neighbour.specs.Known.{AreInRange}
use Rattle.av_audit_neighbour.specs.Merging.{IsAware}
use Rattle.av_audit_neighbour.proofs.MergeLaws.{Merging}
use Rattle.av_audit_neighbour.proofs.merging.merges.Given as goal

abbrev pub invariant-loop-rest : goal.invariant-loop-rest
invariant-loop-rest l = (w : World) → IsWorld l.memories w → AreInRange (setting_of l.machine) (ledger_of l.fn.book)
    → (earlier : List ℕ)
    × Merging (setting_of l.machine) (held_by l.memories l.pages) w (ledger_of l.fn.book) l.keys l.fn.notes (ledger_of l.book) l.notes earlier l.rest
    × IsAware (setting_of l.machine) (held_by l.memories l.pages) (ledger_of l.book) earlier l.contents

abbrev pub decreases-loop-rest : goal.decreases-loop-rest
decreases-loop-rest l = length l.rest
