use Rattle.std.proofs.Common.{◌∙◌}
use Rattle.std.proofs.lemmas.Result.{IfOk-weaker}
use Rattle.av_plain.specs.Ledger.{names_slot}
use Rattle.av_audit_pages.proofs.EntryLaws.{passing-keys}
use Rattle.av_audit_book.proofs.book.Book.keys_of_slot.Goals as goal

pub returns : goal.returns
returns c = IfOk-weaker c.keys_of_slot.result _ _
    (λ keys is. is ∙ passing-keys (names_slot c.args.slot) c.args.self.now.pages.entries) c.keys_of_slot.ensures
