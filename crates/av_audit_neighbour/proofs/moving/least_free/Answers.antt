use Rattle.std.proofs.Common.{◌≡◌, ℕ, false, sym, ◌∙◌}
use Rattle.av_plain.specs.Ledger.{is_free}
use Rattle.av_audit_book.specs.Book.{ledger_of}
use Rattle.av_audit_neighbour.proofs.MoveLaws.{one-more}
use Rattle.av_audit_neighbour.proofs.moving.least_free.Goals as goal

pub loop-frame-preserved : goal.loop-frame-preserved
loop-frame-preserved c = one-more (λ (f : ℕ). is_free (ledger_of c.args.book.now) f ≡ false) c.args.low c.loop-frame.frame c.loop-frame.invariant
    (sym c.is_free.ensures ∙ c.if-is_free.false)
