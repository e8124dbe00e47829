use Rattle.av_audit_run.proofs.Findings.{stopped-once}
use Rattle.av_audit_run.proofs.laws.stopped_once.Goals as goal

pub returns : goal.returns
returns c = stopped-once
