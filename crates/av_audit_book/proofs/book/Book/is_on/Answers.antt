use Rattle.std.proofs.Common.{◌∙◌}
use Rattle.av_audit_book.proofs.AreaLaws.{find-some}
use Rattle.av_audit_book.proofs.book.Book.is_on.Goals as goal

pub returns : goal.returns
returns c = c.contains_key.ensures ∙ find-some c.args.self.now.on.entries c.args.area
