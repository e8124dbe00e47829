use Rattle.av_audit_run.proofs.Findings.{legal-or-stopped}
use Rattle.av_audit_run.proofs.laws.legal_or_stopped.Goals as goal

pub returns : goal.returns
returns c = legal-or-stopped
