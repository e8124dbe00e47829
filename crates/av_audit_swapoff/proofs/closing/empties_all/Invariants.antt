use Rattle.std.proofs.Common.{Option, length}
use Rattle.av_plain.specs.Ledger.{Ledger}
use Rattle.av_plain.specs.Swapoff.{Close}
use Rattle.av_plain.specs.World.{World}
use Rattle.av_audit_book.specs.Book.{ledger_of}
use Rattle.av_audit_book.specs.Machine.{setting_of}
use Rattle.av_audit_world.specs.Memories.{IsWorld}
use Rattle.av_audit_swapoff.specs.Close.{AreEmptied, IsWhole}
use Rattle.av_audit_swapoff.proofs.closing.empties_all.Given as goal

-- what is read from here on is what is read
abbrev pub invariant-loop-slot : goal.invariant-loop-slot
invariant-loop-slot l = (w : World) → IsWorld l.memories w → (found : Option Close) (l' : Ledger)
    → IsWhole (AreEmptied (setting_of l.machine) w l.area (ledger_of l.book)) (ledger_of l.book) l.unit.rest.now found l'
    → IsWhole (AreEmptied (setting_of l.machine) w l.area (ledger_of l.fn.book)) (ledger_of l.fn.book) l.fn.unit.rest.now found l'

abbrev pub decreases-loop-slot : goal.decreases-loop-slot
decreases-loop-slot l = length l.unit.rest.now
