use Rattle.std.proofs.Common.{◌∙◌}
use Rattle.av_plain.specs.Event.{settle_entry}
use Rattle.av_plain.specs.Zap.{slot_behind_key}
use Rattle.av_audit_book.specs.Book.{ledger_of}
use Rattle.av_audit_events.proofs.ZapLaws.{behind-stays}
use Rattle.av_audit_events.proofs.zaps.zap.Goals as goal

pub returns-clause-ledger : goal.returns-clause-ledger
returns-clause-ledger c = c.settle_entry.ensures ∙ (λ i. settle_entry (c.remove-entry.ensures.entry i) (c.remove-entry.ensures.others i))

pub returns-clause-behind : goal.returns-clause-behind
returns-clause-behind c = c.slot_behind-slot.ensures
    ∙ (λ i. slot_behind_key (c.remove-entry.ensures.others i) (c.remove-entry.ensures.entry i))
    ∙ behind-stays (ledger_of c.args.book.now) (c.args.process, c.args.page) _
