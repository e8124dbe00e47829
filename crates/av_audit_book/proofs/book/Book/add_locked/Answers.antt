use Rattle.std.proofs.Common.{filter, ap, ◌∙◌}
use Rattle.std.specs.BTreeSet.{contains}
use Rattle.std.specs.Ordering.{nat_cmp}
use Rattle.std.specs.BTreeMap.Range.{range_contains}
use Rattle.std.specs.declared.ops.Bound.TheVariants.{Excluded, Included}
use Rattle.av_base.specs.Keys.{Key, key_cmp}
use Rattle.av_audit_pages.specs.declared.entries.Entry.{Entry}
use Rattle.av_audit_world.specs.Locks.{locks_page}
use Rattle.av_audit_book.proofs.LockedLaws.{all-runs, none-below, run-added}
use Rattle.av_audit_book.proofs.book.Book.add_locked.Goals as goal

pub loop-start-init : goal.loop-start-init
loop-start-init c = λ f. none-below (locks_page c.args.memories.now) c.args.process f c.args.self.now.pages.entries (contains nat_cmp c.args.made.now f)

pub loop-start-preserved : goal.loop-start-preserved
loop-start-preserved c = λ f.
    let between = λ (k : Key). range_contains key_cmp (Included (c.args.process, c.in-Some.start)) (Excluded (c.args.process, c.in-Some.end)) k in
    run-added (locks_page c.args.memories.now) c.args.process c.loop-start.at c.in-Some.start c.in-Some.end c.in-Some.ensures.order.0
    c.in-Some.ensures.order.1 c.in-Some.ensures.kept f c.args.self.now.pages.entries c.range.result (contains nat_cmp c.args.made.now f)
    (contains nat_cmp c.loop-start.made f) (contains nat_cmp c.add_frames.new.made f)
    (c.range.ensures.between tt ∙ ap (filter (λ (e : Key × Entry). between e.0)) c.entries.ensures)
    (c.in_ok-add_frames.ensures f) (c.loop-start.invariant f)

pub returns : goal.returns
returns c = λ f. all-runs (locks_page c.args.memories.now) c.args.process c.loop-start.at c.in_default.ensures.kept f c.args.self.now.pages.entries
    (contains nat_cmp c.args.made.now f) (contains nat_cmp c.loop-start.made f) (c.loop-start.invariant f)
