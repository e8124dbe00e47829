use Rattle.av_audit_run.proofs.Findings.{audit-of}
use Rattle.av_audit_run.proofs.laws.audits_of_inputs.Goals as goal

pub returns : goal.returns
returns c = audit-of
