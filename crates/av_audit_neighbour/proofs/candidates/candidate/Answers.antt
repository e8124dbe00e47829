use Rattle.std.proofs.Common.{ℕ, Bool, Some, ap, sym, ◌∙◌}
use Rattle.av_plain.specs.Ledger.{entry}
use Rattle.av_audit_pages.specs.Entries.{entry_of}
use Rattle.av_audit_book.specs.Book.{ledger_of}
use Rattle.av_audit_book.proofs.SparedLaws.{locked-is}
use Rattle.av_audit_neighbour.proofs.CandidateLaws.{joins, stays, stays-locked}
use Rattle.av_audit_neighbour.proofs.candidates.candidate.Goals.{else-may_join-via-then-may_join+else-not-is_locked}
use Rattle.av_audit_neighbour.proofs.candidates.candidate.Goals.{else-may_join-via-else-may_join}
use Rattle.av_audit_neighbour.proofs.candidates.candidate.Goals as goal

pub returns-then-not-is_locked-clause-is : goal.returns-then-not-is_locked-clause-is
returns-then-not-is_locked-clause-is c = λ w h.
    let l = ledger_of c.args.book.now in
    let f = c.in-Some-InFrame.frame in
    let named = ap (λ x. Some (entry_of x)) (sym c.in-Some-InFrame.field-0-is) ∙ c.in-Some-InFrame.ensures in
    joins w l c.args.key f c.in-Some-InFrame.field-0-1 (entry l c.args.key) named c.may_join.result (c.may_join.ensures.may w h) c.if-may_join.true
    (sym (c.is_locked.ensures ∙ ap (λ (test : ℕ → Bool). test f) (locked-is c.args.memories.now w h l)) ∙ c.if-not-is_locked.true)

pub returns-else-may_join-clause-is : goal.returns-else-may_join-clause-is
returns-else-may_join-clause-is c = λ w h.
    let l = ledger_of c.args.book.now in
    let k = c.args.key in
    let f = c.in-Some-InFrame.frame in
    let seen = c.in-Some-InFrame.field-0-1 in
    let named = ap (λ x. Some (entry_of x)) (sym c.in-Some-InFrame.field-0-is) ∙ c.in-Some-InFrame.ensures in
    elim c.else-may_join.branch [
      | else-may_join-via-then-may_join+else-not-is_locked b ↦
          stays-locked w l k f seen (entry l k) named c.may_join.result (c.may_join.ensures.may w h)
          (sym (b.is_locked.ensures ∙ ap (λ (test : ℕ → Bool). test f) (locked-is c.args.memories.now w h l))
          ∙ b.if-not-is_locked.false)
      | else-may_join-via-else-may_join b ↦
          stays w l k f seen (entry l k) named c.may_join.result (c.may_join.ensures.may w h) b.if-may_join.false
    ]
