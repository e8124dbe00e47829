use Rattle.std.proofs.Common.{◌++◌, [], List, refl, ap, subst, ◌∙◌}
use Rattle.std.specs.List.{AllByRecursion}
use Rattle.std.proofs.lemmas.Result.{IfOk-weaker}
use Rattle.av_trace.specs.declared.command.Command.TheVariants as commands
use Rattle.av_trace.specs.declared.note.Note.{Note}
use Rattle.av_trace.specs.declared.reply.Reply.{Reply}
use Rattle.av_trace.specs.Note.{IsNote}
use Rattle.av_plain.specs.Event.{note_events}
use Rattle.av_plain.specs.Merge.{merges}
use Rattle.av_audit_book.specs.Book.{ledger_of}
use Rattle.av_audit_book.specs.Machine.{setting_of}
use Rattle.av_audit_judge.specs.Says.{SaysReply}
use Rattle.av_audit_judge.proofs.KnownLaws.{known-verdict}
use Rattle.av_audit_judge.proofs.VerdictLaws.{said}
use Rattle.av_audit_neighbour.specs.Held.{held_by}
use Rattle.av_audit_neighbour.proofs.Knowing.{range-sound}
use Rattle.av_audit_neighbour.proofs.MergeLaws.{all-claimed, found-pages, merge-after, merge-only}
use Rattle.av_audit_neighbour.proofs.merging.judges_merge.Goals as goal

pub returns : goal.returns
returns c =
    let m = setting_of c.args.machine.now in
    let l = ledger_of c.args.book.now in
    let memories = c.args.memories.now in
    let pages = c.in-Some.pages in
    let keys = c.as_slice-in-Some.result.now in
    let are = c.as_slice-in-Some.ensures.value ∙ c.in_ok-keys.ensures in
    IfOk-weaker c.is_reply.result _ _ (λ legal says w at sound.
    let merged : List Note = merges m (held_by memories pages) w l [] keys in
    let done = c.in_ok-merges-in-Some.ensures w at (range-sound m w l sound) in
    let holds = found-pages w l memories c.in_ok-first_pages.field-0 pages
    (c.in_ok-first_pages.ensures w at (c.as_slice.ensures.value ∙ c.in_ok-keys.ensures)) c.in-Some.is in
    let notes = done.notes ∙ ap (λ (r : Reply). r.notes ++ merged) c.new-reply.ensures in
    let fit = subst (AllByRecursion IsNote) (c.as_slice-in-Some-2.ensures ∙ notes) c.all_fit.ensures in
    known-verdict m w l (ledger_of c.merges.new.book) commands.Merge (said merged) (note_events merged) c.args.text.now legal
    (merge-only m w l (held_by memories pages) keys sound (all-claimed memories w at) holds are)
    (record { answer = tt; rest = (fit, refl) }) (done.after ∙ merge-after l merged)
    (subst (SaysReply legal c.args.text.now)
    (λ i. record { answer = (c.new-reply.ensures i).answer; notes = notes i; rows = (c.new-reply.ensures i).rows }) says)) c.is_reply.ensures
