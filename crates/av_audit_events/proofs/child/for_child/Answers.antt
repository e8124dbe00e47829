use Rattle.std.proofs.Common.{◌++◌, ◌-◌, List, length, take, drop, get_or, ap, sym, ◌∙◌}
use Rattle.av_base.specs.Keys.{Key}
use Rattle.av_audit_pages.specs.Entries.{entries_of, entry_of}
use Rattle.av_audit_pages.specs.declared.entries.Entry.{Entry}
use Rattle.av_audit_pages.specs.declared.entries.Entry.TheVariants.{Zero}
use Rattle.av_audit_events.specs.Child.{child_entries, pages_that}
use Rattle.av_audit_events.proofs.ChildLaws.{copy-added, goes-over, stays-behind}
use Rattle.av_audit_events.proofs.FilterLaws.{slice-cons}
use Rattle.av_audit_events.proofs.child.for_child.Goals as goal

pub loop-rest-preserved : goal.loop-rest-preserved
loop-rest-preserved c = λ goes is.
    let rest : List (Key × Entry) = c.loop-rest.rest.now in
    let first : Key × Entry = get_or rest 0 ((0, 0), Zero) in
    let others : List (Key × Entry) = take (length rest - 1) (drop 1 rest) in
    let whole = ap entries_of (slice-cons rest ((0, 0), Zero) c.in-len1-up.len_at_least) in
    let before = c.loop-rest.invariant goes is in
    let step = stays-behind goes c.args.child first.0 (entry_of first.1) (entries_of others) c.loop-rest.due.now
    (before.0 ∙ ap (pages_that goes) (sym whole)) c.in_default-behind.ensures in
    (step.0, ap (λ r. entries_of c.loop-rest.made.items ++ r) (sym step.1 ∙ ap (child_entries c.args.child goes) whole) ∙ before.1)

pub loop-rest-preserved-in_ok-push : goal.loop-rest-preserved-in_ok-push
loop-rest-preserved-in_ok-push c = λ goes is.
    let rest : List (Key × Entry) = c.loop-rest.rest.now in
    let first : Key × Entry = get_or rest 0 ((0, 0), Zero) in
    let others : List (Key × Entry) = take (length rest - 1) (drop 1 rest) in
    let whole = ap entries_of (slice-cons rest ((0, 0), Zero) c.in-len1-up.len_at_least) in
    let before = c.loop-rest.invariant goes is in
    let step = goes-over goes c.args.child first.0 (entry_of first.1) (entries_of others) c.loop-rest.due.now c.in-Some.more.now
    (before.0 ∙ ap (pages_that goes) (sym whole)) c.in-Some.ensures in (
      step.0,
      copy-added c.loop-rest.made.items c.push.new.self.items (c.args.child, first.0.1) c.not_seen.result
          _ (child_entries c.args.child goes (entries_of others))
          c.in_ok-push.ensures.items c.not_seen.ensures
          ∙ ap (λ r. entries_of c.loop-rest.made.items ++ r) (sym step.1 ∙ ap (child_entries c.args.child goes) whole) ∙ before.1,
    )
