use Rattle.std.proofs.Common.{◌≡◌, ℕ, Bool, arith, refl, subst, sym, ◌∙◌}
use Rattle.av_trace.specs.declared.command.Command.TheVariants.{Munmap}
use Rattle.av_trace.specs.declared.reply.Answer.TheVariants.{Refused}
use Rattle.av_audit_book.specs.Book.{ledger_of}
use Rattle.av_audit_judge.specs.Says.{SaysOnly}
use Rattle.av_audit_judge.specs.Verdict.{IsVerdict}
use Rattle.av_audit_judge.proofs.Finds.{if-ok}
use Rattle.std.specs.Int.{div_ceil}
use Rattle.av_base.specs.Page.{page_of, pages_of}
use Rattle.av_plain.specs.World.{no_pages, pages, set_process, with_pages}
use Rattle.av_audit_world.specs.Memories.{IsWorld}
use Rattle.av_audit.proofs.JudgeLaws.{alive, done-left, not-left, refused-left}
use Rattle.av_audit.proofs.leaving.audits_munmap.Goals as goal

whole-pages : (len n : ℕ) → n ≡ div_ceil len 4096 → n ≡ pages_of len
whole-pages len n is = omega (arith, is)

pub returns-in-Some : goal.returns-in-Some
returns-in-Some c =
    let l = ledger_of c.args.book.now in
    if-ok c.is_answer.result (λ b. SaysOnly b c.args.unit.now (Refused c.in-Some.error)) _
    (λ b says m w at told. refused-left m w c.args.book.now (Munmap c.args.process c.args.address c.args.length)
    c.args.unit.now c.in-Some.error b c.args.memories.now told
    (sym (c.refuses_munmap.ensures m w l at) ∙ c.in-Some.is) says at)
    c.is_answer.ensures

pub returns-then-not-branch : goal.returns-then-not-branch
returns-then-not-branch c = λ m w at told.
    let l = ledger_of c.args.book.now in
    let l1 = ledger_of c.judges_munmap.new.book in
    let command = Munmap c.args.process c.args.address c.args.length in
    not-left m w l l1 command c.args.unit.now c.args.memories.now c.judges_munmap.new.book
    (subst (λ (b : Bool). IsVerdict m w l command c.args.unit.now b l1) c.if-not-branch.true
    (c.in_ok-judges_munmap-in-None.ensures m w (sym (c.refuses_munmap.ensures m w l at) ∙ c.in-None.is)))

pub returns-in_ok-edit-in-None : goal.returns-in_ok-edit-in-None
returns-in_ok-edit-in-None c = λ m w at told.
    let l = ledger_of c.args.book.now in
    let l1 = ledger_of c.judges_munmap.new.book in
    let p = c.args.process in
    let from = page_of c.args.address in
    let command = Munmap p c.args.address c.args.length in
    let none = sym (c.refuses_munmap.ensures m w l at) ∙ c.in-None.is in
    let size = whole-pages c.args.length c.div_ceil-n.result c.div_ceil-n.ensures in
    done-left m w (set_process w p (with_pages (pages w p) from (pages_of c.args.length) no_pages)) l command c.args.unit.now c.edit.new.self
    c.judges_munmap.new.book told none (λ es answer rows h. h.0) refl
    (subst (λ (b : Bool). IsVerdict m w l command c.args.unit.now b l1) c.if-not-branch.false
    (c.in_ok-judges_munmap-in-None.ensures m w none))
    (subst (λ n. IsWorld c.edit.new.self (set_process w p (with_pages (pages w p) from n no_pages))) size
    (c.in_ok-edit-in-None.ensures w at (alive m w l p c.args.address c.args.length none)))
