use Rattle.std.proofs.Common.{subst}
use Rattle.av_audit_book.specs.Machine.{setting_of}
use Rattle.av_audit.specs.Judge.{IsRight}
use Rattle.av_audit.proofs.auditor.Auditor.judge.Goals as goal

pub returns-in-Ok-Legal-clause-going : goal.returns-in-Ok-Legal-clause-going
returns-in-Ok-Legal-clause-going c = λ going w l at.
    subst (λ v. IsRight (setting_of c.args.self.now.machine) w l c.args.command.now c.args.unit.now v c.judge_next.new.self)
    c.in-Ok-Legal.field-0-is (c.in-Ok-Legal.ensures.right w l at)

pub returns-in-Ok-Illegal-clause-going : goal.returns-in-Ok-Illegal-clause-going
returns-in-Ok-Illegal-clause-going c = λ going w l at.
    subst (λ v. IsRight (setting_of c.args.self.now.machine) w l c.args.command.now c.args.unit.now v c.judge_next.new.self)
    c.in-Ok-Illegal.field-0-is (c.in-Ok-Illegal.ensures.right w l at)
