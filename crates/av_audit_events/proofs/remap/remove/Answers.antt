use Rattle.std.proofs.Common.{[], ◌∷◌, ap, not, ◌==◌, ◌∙◌}
use Rattle.std.specs.Prelude.{◌&&◌}
use Rattle.av_base.specs.Keys.{Key}
use Rattle.av_plain.specs.Ledger.{Entry as PlainEntry}
use Rattle.av_audit_book.specs.Book.{ledger_of}
use Rattle.av_audit_book.proofs.RemovalLaws.{filter-same}
use Rattle.av_audit_events.specs.Remap.{is_among}
use Rattle.av_audit_events.proofs.RemapLaws.{one-key}
use Rattle.av_audit_events.proofs.remap.remove.Goals as goal

pub returns : goal.returns
returns c =
    let k : Key = (c.args.process, c.args.page) in
    let l = ledger_of c.args.book.now in
    let left = filter-same (λ (e : Key × PlainEntry). not (k.0 == e.0.0 && k.1 == e.0.1))
    (λ e. not (is_among (k ∷ []) e.0)) (λ e. ap not (one-key k e.0)) l.entries in
    c.remove.ensures.others ∙ (λ i. record l { entries = left i })
