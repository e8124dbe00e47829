use Rattle.av_audit_run.proofs.Findings.{breaks-before}
use Rattle.av_audit_run.proofs.laws.breaks_come_before_what_is_wrong.Goals as goal

pub returns : goal.returns
returns c = breaks-before
