use Rattle.std.proofs.Common.{ap, sym, ◌∙◌}
use Rattle.std.proofs.lemmas.Result.{on_ok_weaker}
use Rattle.av_plain.specs.Event.{put_all}
use Rattle.av_plain.specs.Fork.{goes_over}
use Rattle.av_audit_pages.specs.Entries.{entries_of}
use Rattle.av_audit_book.specs.Book.{ledger_of}
use Rattle.av_audit_events.specs.Child.{child_entries, pages_that}
use Rattle.av_audit_events.proofs.ChildLaws.{child-gets}
use Rattle.av_audit_events.proofs.child.fork.Goals as goal

pub returns : goal.returns
returns c =
    let l = ledger_of c.args.book.now in
    let those = ap entries_of c.as_slice.ensures.value ∙ c.in_ok-entries.ensures in
    on_ok_weaker c.put_all.result (λ h q is.
    let gets = child-gets q c.args.parent c.args.child l c.args.pages.now is in
    let copies = ap entries_of c.as_slice-2.ensures.value
    ∙ c.in_ok-copies.ensures (λ x. goes_over (q x)) (gets.0 ∙ ap (pages_that (λ x. goes_over (q x))) (sym those))
    ∙ ap (child_entries c.args.child (λ x. goes_over (q x))) those ∙ gets.1 in
    h ∙ ap (λ es. put_all es l) copies) c.put_all.ensures
