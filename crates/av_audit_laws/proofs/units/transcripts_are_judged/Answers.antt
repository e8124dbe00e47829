use Rattle.av_audit_laws.proofs.UnitLaws.{transcript-units, units-transcript}
use Rattle.av_audit_laws.proofs.units.transcripts_are_judged.Goals as goal

pub returns-clause-legal : goal.returns-clause-legal
returns-clause-legal c = units-transcript

pub returns-clause-units : goal.returns-clause-units
returns-clause-units c = transcript-units
