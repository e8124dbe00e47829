use Rattle.std.proofs.Common.{◌≡◌, ◌||◌, ℕ}
use Rattle.std.specs.BTreeSet.{contains}
use Rattle.std.specs.Ordering.{nat_cmp}
use Rattle.av_base.specs.Words.{is_in}
use Rattle.av_audit_book.specs.Locked.{frames_of}
use Rattle.av_audit_book.proofs.locked.add_frames.Given as goal

abbrev pub invariant-loop-entry : goal.invariant-loop-entry
invariant-loop-entry l = record {
  can_next : (goal.iterator-loop-entry).can_next l.entry-iterator;
  is_finite : (goal.iterator-loop-entry).is_finite l.entry-iterator;
  left : (f : ℕ) → (contains nat_cmp l.made f || is_in f (frames_of l.entry-iterator))
      ≡ (contains nat_cmp l.fn.made f || is_in f (frames_of l.fn.entries));
}
