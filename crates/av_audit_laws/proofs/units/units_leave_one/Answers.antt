use Rattle.av_audit_laws.proofs.UnitLaws.{leaves-one}
use Rattle.av_audit_laws.proofs.units.units_leave_one.Goals as goal

pub returns : goal.returns
returns c = leaves-one
