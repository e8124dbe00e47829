use Rattle.std.proofs.Common.{ap, not, sym, ◌∙◌}
use Rattle.av_audit_book.specs.Book.{ledger_of}
use Rattle.av_audit_book.proofs.UseLaws.{used-is}
use Rattle.av_audit_book.proofs.book.Book.is_free.Goals as goal

pub returns : goal.returns
returns c = ap not c.is_frame_used.ensures ∙ sym (used-is (ledger_of c.args.self.now) c.args.frame)
