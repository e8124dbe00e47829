use Rattle.std.proofs.Common.{subst, sym, ◌-◌}
use Rattle.std.specs.Prelude.{filter}
use Rattle.std.specs.List.{range_with_len}
use Rattle.av_plain.specs.Ledger.{slots_in_use}
use Rattle.av_audit_book.specs.Book.{ledger_of}
use Rattle.av_audit_book.specs.Filters.{IsFirst}
use Rattle.av_audit_book.specs.Machine.{setting_of}
use Rattle.av_audit_book.proofs.UseLaws.{count-is, first-is, no-first}
use Rattle.av_audit_book.proofs.book.Book.least_in_use.Goals as goal

pub returns-in_err-page : goal.returns-in_err-page
returns-in_err-page c =
    let l = ledger_of c.args.self.now in
    subst (IsFirst c.args.area (slots_in_use (setting_of c.args.machine.now) l c.args.area)) (sym c.from_residual.ensures)
    (no-first _ _ c.in_err-page.ensures
    (λ i. filter (λ page. count-is l (record { area = c.args.area; page = page }) i) (range_with_len 1 (c.size.ensures i - 1))))

pub returns : goal.returns
returns c =
    let l = ledger_of c.args.self.now in
    first-is _ _ _ _ c.in_ok-page.ensures
    (λ i. filter (λ page. count-is l (record { area = c.args.area; page = page }) i) (range_with_len 1 (c.size.ensures i - 1)))
