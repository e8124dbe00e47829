use Rattle.std.proofs.Common.{◌++◌, ap, ◌∙◌}
use Rattle.av_plain.specs.Event.{after_all, notes_of}
use Rattle.av_plain.specs.Zap.{zaps_of}
use Rattle.av_audit_book.specs.Book.{ledger_of}
use Rattle.av_audit_events.proofs.FilterLaws.{slice-cons}
use Rattle.av_audit_events.proofs.ZapLaws.{zap-notes, zap-then}
use Rattle.av_audit_events.proofs.zaps.zap_all.Goals as goal

pub loop-rest-preserved : goal.loop-rest-preserved
loop-rest-preserved c =
    let l = ledger_of c.loop-rest.book in
    let now = ledger_of c.zap_one.new.book in
    let is = slice-cons c.loop-rest.rest.now _ c.in-len1-up.len_at_least in
    record {
      ledger = zap-then l now _ _ c.in_ok-zap_one.ensures.ledger
          ∙ ap (λ ks. after_all l (zaps_of l ks)) is ∙ c.loop-rest.invariant.ledger;
      notes = zap-notes l now _ _ c.loop-rest.notes c.zap_one.new.notes c.in_ok-zap_one.ensures.ledger c.in_ok-zap_one.ensures.notes
          ∙ ap (λ ks. c.loop-rest.notes ++ notes_of (zaps_of l ks)) is ∙ c.loop-rest.invariant.notes;
    }
