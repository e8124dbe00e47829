use borrow.Author.Tests.{tests}
use Rattle.std.proofs.Common.{rules, sym, ◌∙◌}
use Rattle.std.proofs.lemmas.Iterator.Consumers.{YieldsList-from_rest}
use Rattle.std.proofs.lemmas.Iterator.Search.{any_from_yields_List}
use Rattle.av_plain.specs.Ledger.{names_frame, walk}
use Rattle.av_audit_pages.proofs.EntryLaws.{passing-keys}
use Rattle.av_audit_world.specs.Locks.{locks_page}
use Rattle.av_audit_book.specs.Book.{ledger_of}
use Rattle.av_audit_book.proofs.SparedLaws.{none-locked}
use Rattle.av_audit_book.proofs.book.Book.is_locked.Goals as goal

pub returns-then-is_empty : goal.returns-then-is_empty
returns-then-is_empty c = sym (none-locked c.args.memories.now c.locking.result.now (c.is_empty.ensures.0 c.if-is_empty.true)
    c.locking.ensures.kept (walk (ledger_of c.args.self.now) c.args.frame))

pub returns : goal.returns
returns c = any_from_yields_List (locks_page c.args.memories.now) _ _ _ c.any.ensures.ran
    (YieldsList-from_rest (walk (ledger_of c.args.self.now) c.args.frame)
    (c.walk.ensures ∙ passing-keys (names_frame c.args.frame) c.args.self.now.pages.entries))
    (λ x b q k. search (rules, tests))
