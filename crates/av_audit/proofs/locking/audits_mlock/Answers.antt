use Rattle.std.proofs.Common.{◌≡◌, ℕ, ◌<◌, ◌≤◌, ◌==◌, true, false, refl, ap, subst, sym, ◌∙◌, arith}
use Rattle.std.proofs.lemmas.Bool.Decides.{nat_tests}
use Rattle.av_base.specs.Page.{address_of, page_of, pages_met}
use Rattle.av_base.specs.declared.flags.Flag.TheVariants.{Locked}
use Rattle.av_trace.specs.declared.command.Command.TheVariants.{Mlock}
use Rattle.av_trace.specs.declared.reply.Answer.TheVariants.{Refused}
use Rattle.av_trace.specs.declared.reply.Errno.TheVariants.{Enomem}
use Rattle.av_plain.specs.Access.{Accesses}
use Rattle.av_plain.specs.Lock.{accesses_of, with_lock}
use Rattle.av_plain.specs.World.{pages, pages_to_hole, set_process, with_change_on, with_page_flag}
use Rattle.av_audit_book.specs.Book.{ledger_of}
use Rattle.av_audit_book.specs.Machine.{setting_of}
use Rattle.av_audit_judge.specs.Says.{SaysOnly}
use Rattle.av_audit_judge.proofs.Finds.{if-ok}
use Rattle.av_audit_world.specs.Memories.{IsWorld}
use Rattle.av_audit.specs.Access.{Tells}
use Rattle.av_audit.proofs.EndLaws.{WritesTo}
use Rattle.av_audit.proofs.JudgeLaws.{refused-left}
use Rattle.av_audit.proofs.LockLaws.{hole-left, lock-left, lock-lives}
use Rattle.av_audit.proofs.locking.audits_mlock.Goals as goal

pub returns-in-Some : goal.returns-in-Some
returns-in-Some c = if-ok c.is_answer.result (λ b. SaysOnly b c.args.unit.now (Refused c.in-Some.error)) _
    (λ b says w h. refused-left (setting_of c.args.machine.now) w c.args.book.now (Mlock c.args.process c.args.address c.args.length) c.args.unit.now
    c.in-Some.error b c.args.memories.now refl
    (sym (c.refuses_mlock.ensures.tests (setting_of c.args.machine.now) w (ledger_of c.args.book.now) h) ∙ c.in-Some.is) says h)
    c.is_answer.ensures

all-not : (k n met hole : ℕ) → k < n → k ≡ hole → n ≡ met → (hole == met) ≡ false
all-not k n met hole less is size = grind (arith, nat_tests, less, is, size)

all-is : (k n met hole : ℕ) → n ≤ k → k ≤ n → k ≡ hole → n ≡ met → (hole == met) ≡ true
all-is k n met hole over most is size = grind (arith, nat_tests, over, most, is, size)

pub returns-then-mapped-n : goal.returns-then-mapped-n
returns-then-mapped-n c = if-ok c.is_answer-then-mapped-n.result (λ b. SaysOnly b c.args.unit.now (Refused Enomem)) _
    (λ b says w h.
    let m = setting_of c.args.machine.now in
    let p = c.args.process in
    let q = pages w p in
    let from = page_of c.args.address in
    let size = c.pages_met-n.ensures.pages in
    let mapped = c.before_hole-mapped.ensures.pages w h ∙ ap (pages_to_hole q from) size in
    let none = sym (c.refuses_mlock.ensures.tests m w (ledger_of c.args.book.now) h) ∙ c.in_default.is in
    let at = subst (λ k. IsWorld c.edit.new.self (set_process w p (with_change_on q from k (with_page_flag Locked true)))) mapped
    (c.in_ok-edit.ensures w h (lock-lives m w (ledger_of c.args.book.now) p c.args.address c.args.length none)) in
    hole-left m w p c.args.address c.args.length c.args.unit.now refl c.edit.new.self c.args.book.now b at none
    (all-not c.before_hole-mapped.result c.pages_met-n.result (pages_met c.args.address c.args.length)
    (pages_to_hole q from (pages_met c.args.address c.args.length)) c.if-mapped-n.true mapped size) says)
    c.is_answer-then-mapped-n.ensures

pub returns : goal.returns
returns c = if-ok c.comes_in.result _ _
    (λ b says w h.
    let m = setting_of c.args.machine.now in
    let l = ledger_of c.args.book.now in
    let l' = ledger_of c.comes_in.new.book in
    let p = c.args.process in
    let q = pages w p in
    let from = page_of c.args.address in
    let met = pages_met c.args.address c.args.length in
    let size = c.pages_met-n.ensures.pages in
    let mapped = c.before_hole-mapped.ensures.pages w h ∙ ap (pages_to_hole q from) size in
    let none = sym (c.refuses_mlock.ensures.tests m w l h) ∙ c.in_default.is in
    let at = subst (λ k. IsWorld c.edit-2.new.self (set_process w p (with_change_on q from k (with_page_flag Locked true)))) mapped
    (c.in_ok-edit-2.ensures w h (lock-lives m w (ledger_of c.args.book.now) p c.args.address c.args.length none)) in
    let now = with_lock true w p from met in
    let turns = c.as_slice.ensures.value ∙ c.in_ok-pages.ensures.pages w h ∙ ap (accesses_of q from) size in
    let over = c.if-mapped-n.false in
    lock-left m w p c.args.address c.args.length c.args.unit.now refl c.edit-2.new.self c.comes_in.new.book b at l none
    (all-is c.before_hole-mapped.result c.pages_met-n.result met (pages_to_hole q from met) (omega (arith, over)) c.before_hole-mapped.ensures.most
    mapped size)
    (subst (λ ps. Tells (λ end es. Accesses m now l p ps es end) (WritesTo (address_of from)) l c.args.unit.now b l') turns (says now at)))
    c.comes_in.ensures
