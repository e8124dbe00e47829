use Rattle.std.proofs.Common.{ap, ◌∙◌}
use Rattle.std.specs.Prelude.{nat_lt}
use Rattle.std.specs.List.{range_with_len}
use Rattle.av_plain.specs.Ledger.{is_free}
use Rattle.av_audit_book.specs.Book.{ledger_of}
use Rattle.av_audit_book.proofs.UseLaws.{one-passes}
use Rattle.av_audit_book.proofs.book.Book.has_free.Goals as goal

pub returns : goal.returns
returns c = ap (nat_lt 0) c.count_free.ensures ∙ one-passes (is_free (ledger_of c.args.self.now)) (range_with_len 0 c.args.machine.now.frames)
