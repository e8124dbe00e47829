use Rattle.std.proofs.Common.{length, ◌∙◌, ◌-◌}
use Rattle.std.specs.Prelude.{filter}
use Rattle.std.specs.List.{range_with_len}
use Rattle.av_audit_book.specs.Book.{ledger_of}
use Rattle.av_audit_book.proofs.UseLaws.{count-is}
use Rattle.av_audit_book.proofs.book.Book.in_use.Goals as goal

pub returns : goal.returns
returns c =
    let l = ledger_of c.args.self.now in
    c.slots_used.ensures
    ∙ (λ i. length (filter (λ page. count-is l (record { area = c.args.area; page = page }) i) (range_with_len 1 (c.size.ensures i - 1))))
