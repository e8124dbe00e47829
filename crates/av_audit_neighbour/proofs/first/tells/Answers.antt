use Rattle.std.proofs.Common.{Some, ap, sym, ◌∙◌}
use Rattle.std.specs.Prelude.{option_map}
use Rattle.std.proofs.lemmas.Result.{IfOk-weaker}
use Rattle.av_plain.specs.World.{pages}
use Rattle.av_audit_pages.specs.Entries.{entry_of}
use Rattle.av_audit_book.specs.Book.{ledger_of}
use Rattle.av_audit_neighbour.proofs.FirstLaws.{marked-there, told-frame}
use Rattle.av_audit_neighbour.proofs.first.tells.Goals as goal

pub returns-else-is_none : goal.returns-else-is_none
returns-else-is_none c = IfOk-weaker c.tells_frame.result _ _ (λ same told w at.
    told-frame w (ledger_of c.args.book.now) c.args.memories.now c.args.pages.now c.tells_frame.new.pages c.args.key c.in-Some-InFrame.frame
    c.in-Some-InFrame.field-0-1 same at (sym c.entry.ensures ∙ ap (option_map entry_of) c.in-Some-InFrame.is
    ∙ ap (λ e. Some (entry_of e)) c.in-Some-InFrame.field-0-is)
    (marked-there (pages w c.args.key.0) c.args.key.1 c.page_marks.result c.is_none.result (c.page_marks.ensures w at) c.is_none.ensures c.if-is_none.false)
    told) c.tells_frame.ensures.ok
