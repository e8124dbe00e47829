use Rattle.std.proofs.Common.{◌++◌, List, ap, subst, ◌∙◌}
use Rattle.std.specs.List.{AllByRecursion}
use Rattle.std.proofs.lemmas.Result.{IfOk-weaker}
use Rattle.av_trace.specs.declared.reply.Reply.{Reply}
use Rattle.av_trace.specs.Note.{IsNote}
use Rattle.av_plain.specs.Event.{Event, notes_of}
use Rattle.av_plain.specs.Zap.{keys_in, zaps_of}
use Rattle.av_audit_book.specs.Book.{ledger_of}
use Rattle.av_audit_judge.specs.Says.{SaysReply}
use Rattle.av_audit.proofs.known.says_zaps.Goals as goal

pub returns : goal.returns
returns c =
    let l = ledger_of c.args.book.now in
    let zaps : List Event = zaps_of l (keys_in l c.args.process c.args.from c.args.n) in
    let notes = c.in_ok-zap_range.ensures.notes ∙ ap (λ (r : Reply). r.notes ++ notes_of zaps) c.new-reply.ensures in
    let fit = subst (AllByRecursion IsNote) (c.as_slice.ensures ∙ notes) c.all_fit.ensures in
    IfOk-weaker c.is_reply.result _ _ (λ legal says. record {
      says = subst (SaysReply legal c.args.unit.now)
          (λ i. record { answer = c.args.answer; notes = notes i; rows = (c.new-reply.ensures i).rows }) says;
      form = fit;
      after = c.in_ok-zap_range.ensures.ledger;
    }) c.is_reply.ensures
