use Rattle.std.proofs.Common.{Bool, true, false, None, ap, subst, ◌∙◌}
use Rattle.av_base.specs.Page.{page_of, pages_of}
use Rattle.av_plain.specs.Advice.{advice_answer}
use Rattle.av_plain.specs.World.{pages, pages_to_locked, set_process, wiped, with_change_on}
use Rattle.av_plain.specs.Zap.{keys_in, zaps_of}
use Rattle.av_audit_book.specs.Book.{ledger_of}
use Rattle.av_audit_world.specs.Memories.{IsWorld}
use Rattle.av_audit.specs.Known.{SaysEvents}
use Rattle.av_audit.proofs.KnownUnits.{differ, dontneed-said, madvise-lives}
use Rattle.av_audit.proofs.advising.audits_dontneed.Goals as goal

pub returns-then-not-branch : goal.returns-then-not-branch
returns-then-not-branch c = λ m w advice at told change none.
    let p = c.args.process in
    let q = pages w p in
    let from = page_of c.args.address in
    let l = ledger_of c.args.book.now in
    let l1 = ledger_of c.says_zaps.new.book in
    let size = c.pages_of-n.ensures.pages in
    let unlocked = c.before_locked-unlocked.ensures.pages w at in
    let answer = c.advice_answer-answer.ensures q from unlocked (c.before_hole.ensures.pages w at) ∙ ap (λ n. advice_answer q from n None) size in
    dontneed-said m w l l1 p c.args.address c.args.length advice c.args.unit.now false c.args.memories.now told change none
    (subst (λ k. SaysEvents l (advice_answer q from (pages_of c.args.length) None) (zaps_of l (keys_in l p from k)) c.args.unit.now false l1)
    (unlocked ∙ ap (pages_to_locked q from) size)
    (subst (λ a. SaysEvents l a (zaps_of l (keys_in l p from c.before_locked-unlocked.result)) c.args.unit.now false l1) answer
    (subst (λ (b : Bool). SaysEvents l c.advice_answer-answer.result (zaps_of l (keys_in l p from c.before_locked-unlocked.result)) c.args.unit.now b l1)
    c.if-not-branch.true c.in_ok-says_zaps.ensures)))
    (λ yes. absurd (differ yes))

pub returns : goal.returns
returns c = λ m w advice at told change none.
    let p = c.args.process in
    let q = pages w p in
    let from = page_of c.args.address in
    let l = ledger_of c.args.book.now in
    let l1 = ledger_of c.says_zaps.new.book in
    let size = c.pages_of-n.ensures.pages in
    let unlocked = c.before_locked-unlocked.ensures.pages w at in
    let answer = c.advice_answer-answer.ensures q from unlocked (c.before_hole.ensures.pages w at) ∙ ap (λ n. advice_answer q from n None) size in
    dontneed-said m w l l1 p c.args.address c.args.length advice c.args.unit.now true c.edit.new.self told change none
    (subst (λ k. SaysEvents l (advice_answer q from (pages_of c.args.length) None) (zaps_of l (keys_in l p from k)) c.args.unit.now true l1)
    (unlocked ∙ ap (pages_to_locked q from) size)
    (subst (λ a. SaysEvents l a (zaps_of l (keys_in l p from c.before_locked-unlocked.result)) c.args.unit.now true l1) answer
    (subst (λ (b : Bool). SaysEvents l c.advice_answer-answer.result (zaps_of l (keys_in l p from c.before_locked-unlocked.result)) c.args.unit.now b l1)
    c.if-not-branch.false c.in_ok-says_zaps.ensures)))
    (λ yes. subst (λ k. IsWorld c.edit.new.self (set_process w p (with_change_on q from k wiped)))
    (unlocked ∙ ap (pages_to_locked q from) size)
    (c.in_ok-edit.ensures w at (madvise-lives m w l p c.args.address c.args.length advice none)))
