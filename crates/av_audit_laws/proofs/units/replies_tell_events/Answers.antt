use Rattle.av_audit_laws.proofs.ToldReply.{legal-told}
use Rattle.av_audit_laws.proofs.units.replies_tell_events.Goals as goal

pub returns : goal.returns
returns c = legal-told
