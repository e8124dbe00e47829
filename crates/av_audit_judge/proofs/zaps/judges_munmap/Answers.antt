use Rattle.std.proofs.Common.{◌≡◌, ◌++◌, ℕ, List, refl, ap, subst, ◌∙◌, arith}
use Rattle.std.specs.Int.{div_ceil}
use Rattle.std.specs.List.{AllByRecursion}
use Rattle.std.proofs.lemmas.Result.{IfOk-weaker}
use Rattle.av_base.specs.Page.{page_of, pages_of}
use Rattle.av_trace.specs.declared.command.Command.TheVariants as commands
use Rattle.av_trace.specs.declared.note.Note.{Note}
use Rattle.av_trace.specs.Note.{IsNote}
use Rattle.av_plain.specs.Event.{Event, after_all, notes_of}
use Rattle.av_plain.specs.Zap.{keys_in, zaps_of}
use Rattle.av_audit_book.specs.Book.{ledger_of}
use Rattle.av_audit_judge.specs.Says.{SaysReply}
use Rattle.av_audit_judge.proofs.KnownLaws.{known-verdict, munmap-only}
use Rattle.av_audit_judge.proofs.VerdictLaws.{said}
use Rattle.av_audit_judge.proofs.zaps.judges_munmap.Goals as goal

whole-pages : (len n : ℕ) → n ≡ div_ceil len 4096 → n ≡ pages_of len
whole-pages len n is = omega (arith, is)

pub returns : goal.returns
returns c =
    let l = ledger_of c.args.book.now in
    let p = c.args.process in
    let from = page_of c.args.address in
    let zaps : List Event = zaps_of l (keys_in l p from (pages_of c.args.length)) in
    let size = whole-pages c.args.length c.div_ceil-pages.result c.div_ceil-pages.ensures in
    let notes = c.in_ok-zap_range.ensures.notes ∙ ap (λ n. c.new-notes.result ++ notes_of (zaps_of l (keys_in l p from n))) size
    ∙ ap (λ (n : List Note). n ++ notes_of zaps) c.new-notes.ensures in
    let fit = subst (AllByRecursion IsNote) (c.as_slice.ensures ∙ notes) c.all_fit.ensures in
    IfOk-weaker c.tells.result _ _ (λ legal says m w none.
    known-verdict m w l (ledger_of c.zap_range.new.book) (commands.Munmap p c.args.address c.args.length) (said (notes_of zaps)) zaps c.args.text.now legal
    (munmap-only m w l p c.args.address c.args.length none) (record { answer = tt; rest = (fit, refl) })
    (c.in_ok-zap_range.ensures.ledger ∙ ap (λ n. after_all l (zaps_of l (keys_in l p from n))) size)
    (subst (λ n. SaysReply legal c.args.text.now (said n)) notes says)) c.tells.ensures
