use Rattle.std.proofs.Common.{subst, ◌∙◌}
use Rattle.std.specs.BTreeSet.{contains}
use Rattle.std.specs.Ordering.{nat_cmp}
use Rattle.std.proofs.lemmas.Map.Iter.{rest_all, rest_more}
use Rattle.std.specs.Map.Iter.{deref}
use Rattle.av_audit_world.specs.Locks.{locks_page}
use Rattle.av_audit_book.proofs.LockedLaws.{AreDone, all-done, none-done, one-done}
use Rattle.av_audit_book.proofs.book.Book.locked_frames.Goals as goal

pub loop-process-init : goal.loop-process-init
loop-process-init c = record {
  can_next = tt;
  is_finite = tt;
  done = none-done (locks_page c.args.memories.now) c.args.self.now.pages.entries c.new-made.result c.into_iter-process-iterator.result c.locking.result.now
      c.new-made.ensures.empty (c.into_iter-process-iterator.ensures.into_iter_gives ∙ c.iter-process-items.ensures.rest) c.locking.ensures.kept;
}

pub loop-process-preserved : goal.loop-process-preserved
loop-process-preserved c = record {
  can_next = tt;
  is_finite = tt;
  done = one-done (locks_page c.args.memories.now) c.args.self.now.pages.entries (contains nat_cmp c.loop-process.made) (contains nat_cmp c.add_locked.new.made)
      c.loop-process.process-iterator c.next.new.self c.in-Some.process.now c.loop-process.invariant.done
      (rest_more deref c.loop-process.process-iterator c.next.new.self c.next.result c.in-Some.process c.in-Some.is c.next.ensures.steps)
      c.in_ok-add_locked.ensures;
}

pub returns : goal.returns
returns c = all-done c.args.memories.now c.args.self.now (contains nat_cmp c.loop-process.made)
    (subst (AreDone (locks_page c.args.memories.now) c.args.self.now.pages.entries (contains nat_cmp c.loop-process.made))
    (rest_all deref c.loop-process.process-iterator _ c.next.result c.in-None.is c.next.ensures.steps) c.loop-process.invariant.done)
