use Rattle.std.proofs.Common.{◌+◌, ◌^◌, option_map, subst, arith}
use Rattle.av_base.specs.Page.{address_of}
use Rattle.av_plain.specs.Access.{Accesses}
use Rattle.av_audit_book.specs.Book.{ledger_of}
use Rattle.av_audit_book.specs.Machine.{setting_of}
use Rattle.av_audit_judge.specs.Says.{SaysOnly}
use Rattle.av_audit_judge.proofs.Finds.{if-ok}
use Rattle.av_audit_access.specs.Access.{Ends, end_of}
use Rattle.av_audit.proofs.EndLaws.{WritesTo, tells-no-end, tells-no-line}
use Rattle.av_audit.proofs.LockLaws.{all-higher, came-in, lock-telling}
use Rattle.av_audit.proofs.locking.comes_in.Goals as goal

pub returns-in_default : goal.returns-in_default
returns-in_default c = λ w h.
    let m = setting_of c.args.machine.now in
    let l = ledger_of c.args.book.now in
    tells-no-line (λ end es. Accesses m w l c.args.process c.args.pages.now es end) (WritesTo (address_of c.args.from)) l l c.args.unit.now
    c.in_default.ensures.none

pub accesses-requires-clause-pages : goal.accesses-requires-clause-pages
accesses-requires-clause-pages c =
    all-higher c.args.pages.now (c.args.from + c.args.n) (2 ^ 52) (let low = c.requires.low in omega (arith, low)) c.requires.pages

pub returns-in-None : goal.returns-in-None
returns-in-None c = λ w h.
    let m = setting_of c.args.machine.now in
    let l = ledger_of c.args.book.now in
    let l' = ledger_of c.accesses.new.book in
    tells-no-end (λ end es. Accesses m w l c.args.process c.args.pages.now es end) (WritesTo (address_of c.args.from))
    (lock-telling m w l c.args.process (address_of c.args.from) c.args.pages.now) l l' c.args.unit.now c.in-Some.line.now c.in-Some.notes.now
    c.in-Some.ensures.some
    (subst (λ f. Ends (λ end es. Accesses m w l c.args.process c.args.pages.now es end) l c.in-Some.notes.now (option_map end_of f) l') c.in-None.is
    (c.in_ok-accesses.ensures w h))

pub returns-in-Some-2 : goal.returns-in-Some-2
returns-in-Some-2 c = if-ok c.says.result (λ b. SaysOnly b c.in-Some.line.now c.write_answer.result) _
    (λ b says w h.
    let m = setting_of c.args.machine.now in
    let l = ledger_of c.args.book.now in
    let l' = ledger_of c.accesses.new.book in
    let t = subst (λ f. Ends (λ end es. Accesses m w l c.args.process c.args.pages.now es end) l c.in-Some.notes.now (option_map end_of f) l')
    c.in-Some-2.is (c.in_ok-accesses.ensures w h) in
    came-in m w l l' c.args.process c.args.from c.args.n c.args.pages.now c.args.unit.now c.in-Some.line.now c.in-Some.notes.now
    (end_of c.in-Some-2.end) c.bytes_before-k.result c.write_answer.result b c.in-Some.ensures.some c.requires.pages t c.bytes_before-k.ensures
    c.write_answer.ensures.answer c.write_answer.ensures.fits says)
    c.says.ensures
