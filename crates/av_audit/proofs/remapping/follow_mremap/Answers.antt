use Rattle.std.proofs.Common.{◌+◌, ◌++◌, ap, ◌∙◌}
use Rattle.std.proofs.lemmas.Bool.{ne_eqb}
use Rattle.std.proofs.lemmas.Result.{on_ok_weaker}
use Rattle.av_plain.specs.Event.{EntriesMoved, after, after_all, notes_of}
use Rattle.av_plain.specs.Zap.{keys_in, zaps_of}
use Rattle.av_audit_book.specs.Book.{ledger_of}
use Rattle.av_audit.proofs.RemapLaws.{move-ledger, move-notes}
use Rattle.av_audit.proofs.remapping.follow_mremap.Goals as goal

pub returns-clause-ledger : goal.returns-clause-ledger
returns-clause-ledger c =
    let p = c.args.process in
    let l = ledger_of c.args.book.now in
    let l1 = ledger_of c.zap_range-2.new.book in
    let l2 = ledger_of c.zap_range-3.new.book in
    on_ok_weaker c.move_entries.result (λ h.
    move-ledger l l1 l2 (ledger_of c.move_entries.new.book) p c.args.from c.args.n c.args.to c.args.m (ne_eqb c.args.to c.args.from c.if-to-from.false)
    c.in_ok-zap_range.ensures.ledger
    (c.in_ok-zap_range-2.ensures.ledger ∙ ap (λ k. after_all l1 (zaps_of l1 (keys_in l1 p (c.args.from + c.args.m) k))) c.saturating_sub-shorter.ensures)
    (h ∙ ap (λ k. after l2 (EntriesMoved p k c.args.from c.args.to)) c.min.ensures)) c.move_entries.ensures

pub returns-clause-notes : goal.returns-clause-notes
returns-clause-notes c =
    let p = c.args.process in
    let l = ledger_of c.args.book.now in
    let l1 = ledger_of c.zap_range-2.new.book in
    on_ok_weaker c.move_entries.result (λ h.
    move-notes l l1 p c.args.from c.args.n c.args.to c.args.m c.args.notes.now c.zap_range-2.new.notes c.zap_range-3.new.notes
    (ne_eqb c.args.to c.args.from c.if-to-from.false) c.in_ok-zap_range.ensures.ledger c.in_ok-zap_range.ensures.notes
    (c.in_ok-zap_range-2.ensures.notes
    ∙ ap (λ k. c.zap_range-2.new.notes ++ notes_of (zaps_of l1 (keys_in l1 p (c.args.from + c.args.m) k))) c.saturating_sub-shorter.ensures))
    c.move_entries.ensures
