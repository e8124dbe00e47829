use Rattle.std.proofs.Common.{◌≡◌, ◌||◌, ◌-◌, ◌^◌, ℕ}
use Rattle.std.specs.BTreeSet.{contains}
use Rattle.std.specs.Ordering.{nat_cmp}
use Rattle.av_audit_world.specs.Locks.{locks_page}
use Rattle.av_audit_book.specs.Locked.{has_frame}
use Rattle.av_audit_book.proofs.LockedLaws.{below}
use Rattle.av_audit_book.proofs.book.Book.add_locked.Given as goal

abbrev pub invariant-loop-start : goal.invariant-loop-start
invariant-loop-start l = (f : ℕ) → contains nat_cmp l.made f
    ≡ (contains nat_cmp l.fn.made f || has_frame (below (locks_page l.memories) l.process l.at) f l.self.pages.entries)

abbrev pub decreases-loop-start : goal.decreases-loop-start
decreases-loop-start l = 2 ^ 64 - l.at
