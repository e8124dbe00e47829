use Rattle.std.proofs.Common.{refl, subst, sym}
use Rattle.av_audit_book.specs.Machine.{setting_of}
use Rattle.av_plain.specs.Sound.{AllSound}
use Rattle.av_audit.specs.Judge.{IsLeft, IsRight}
use Rattle.av_audit.specs.declared.auditor.Auditor.{Auditor}
use Rattle.av_audit.proofs.JudgeLaws.{left-right}
use Rattle.av_audit.proofs.auditor.Auditor.judge_next.Goals as goal

pub returns-clause-right : goal.returns-clause-right
returns-clause-right c = λ w l at.
    let m = setting_of c.args.self.now.machine in
    let command = c.args.command.now in
    let unit = c.args.unit.now in
    let legal = c.in_ok-legal.legal in
    let new : Auditor = record c.args.self.now { memories = c.is_legal.new.memories; book = c.is_legal.new.book } in
    subst (λ verdict. IsRight m w l command unit verdict new) (sym c.to_verdict.ensures)
    (left-right m w l command unit legal new refl at.sound
    (subst (λ l. IsLeft m w l command unit legal new.memories new.book) (sym at.ledger)
    (c.in_ok-legal.ensures w at.world (subst (AllSound m w) at.ledger at.sound))))
