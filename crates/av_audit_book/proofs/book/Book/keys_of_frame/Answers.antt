use Rattle.std.proofs.Common.{◌∙◌}
use Rattle.std.proofs.lemmas.Result.{IfOk-weaker}
use Rattle.av_plain.specs.Ledger.{names_frame}
use Rattle.av_audit_pages.proofs.EntryLaws.{passing-keys}
use Rattle.av_audit_book.proofs.book.Book.keys_of_frame.Goals as goal

pub returns : goal.returns
returns c = IfOk-weaker c.keys_of_frame.result _ _
    (λ keys is. is ∙ passing-keys (names_frame c.args.frame) c.args.self.now.pages.entries) c.keys_of_frame.ensures.keys
