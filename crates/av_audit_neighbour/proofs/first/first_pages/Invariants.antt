use Rattle.std.proofs.Common.{length}
use Rattle.av_plain.specs.World.{World}
use Rattle.av_audit_book.specs.Book.{ledger_of}
use Rattle.av_audit_world.specs.Memories.{IsWorld}
use Rattle.av_audit_neighbour.proofs.FirstLaws.{ToldSoFar}
use Rattle.av_audit_neighbour.proofs.first.first_pages.Given as goal

abbrev pub invariant-loop-rest : goal.invariant-loop-rest
invariant-loop-rest l = (w : World) → IsWorld l.memories w → ToldSoFar w (ledger_of l.book) l.memories l.pages l.rest l.keys

abbrev pub decreases-loop-rest : goal.decreases-loop-rest
decreases-loop-rest l = length l.rest
