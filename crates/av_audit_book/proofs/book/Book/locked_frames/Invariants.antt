use Rattle.std.specs.BTreeSet.{contains}
use Rattle.std.specs.Ordering.{nat_cmp}
use Rattle.av_audit_world.specs.Locks.{locks_page}
use Rattle.av_audit_book.proofs.LockedLaws.{AreDone}
use Rattle.av_audit_book.proofs.book.Book.locked_frames.Given as goal

abbrev pub invariant-loop-process : goal.invariant-loop-process
invariant-loop-process l = record {
  can_next : (goal.iterator-loop-process).can_next l.process-iterator;
  is_finite : (goal.iterator-loop-process).is_finite l.process-iterator;
  done : AreDone (locks_page l.memories) l.self.pages.entries (contains nat_cmp l.made) l.process-iterator;
}
