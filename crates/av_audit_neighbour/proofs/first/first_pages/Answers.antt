use Rattle.av_audit_book.specs.Book.{ledger_of}
use Rattle.av_audit_judge.proofs.Finds.{slice-cons}
use Rattle.av_audit_neighbour.proofs.FirstLaws.{none-left, told-all, told-false, told-next, told-true}
use Rattle.av_audit_neighbour.proofs.first.first_pages.Goals as goal

pub returns-then-not-branch : goal.returns-then-not-branch
returns-then-not-branch c = λ w at are held holds.
    told-false w (ledger_of c.args.book.now) c.args.memories.now c.loop-rest.pages _ c.tells.new.pages c.in_ok-tells.field-0
    (c.in_ok-tells.ensures w at) c.if-not-branch.true held holds ((c.loop-rest.invariant w at).are_true held holds)

pub loop-rest-preserved : goal.loop-rest-preserved
loop-rest-preserved c = λ w at.
    told-next w (ledger_of c.args.book.now) c.args.memories.now c.loop-rest.pages c.tells.new.pages _ _ c.loop-rest.rest.now c.args.keys.now
    (slice-cons c.loop-rest.rest.now _ c.in-len1-up.len_at_least) (c.loop-rest.invariant w at)
    (told-true w (ledger_of c.args.book.now) c.args.memories.now c.loop-rest.pages _ c.tells.new.pages c.in_ok-tells.field-0
    (c.in_ok-tells.ensures w at) c.if-not-branch.false)

pub returns : goal.returns
returns c = λ w at are.
    told-all w (ledger_of c.args.book.now) c.args.memories.now c.loop-rest.pages c.loop-rest.rest.now c.args.keys.now (c.loop-rest.invariant w at)
    (none-left c.loop-rest.rest.now c.in_default.len_below) are
