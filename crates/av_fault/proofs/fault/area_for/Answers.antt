use Rattle.std.proofs.Common.{◌∙◌, None, Some, ap, is_some}
use Rattle.av_fault.proofs.TouchLaws.{may-be, some-then}
use Rattle.av_fault.proofs.fault.area_for.Goals as goal

pub returns-in_err-area-clause-permitted : goal.returns-in_err-area-clause-permitted
returns-in_err-area-clause-permitted c =
    ap is_some c.from_residual.ensures
    ∙ may-be c.args.mem.now.spaces.processes c.args.process c.args.page c.args.write None c.in_err-area.ensures.area

pub returns-clause-permitted : goal.returns-clause-permitted
returns-clause-permitted c =
    ap is_some c.then_some.ensures ∙ some-then c.permits.result c.in_ok-area.area ∙ c.permits.ensures
    ∙ may-be c.args.mem.now.spaces.processes c.args.process c.args.page c.args.write (Some c.in_ok-area.area) c.in_ok-area.ensures.area
