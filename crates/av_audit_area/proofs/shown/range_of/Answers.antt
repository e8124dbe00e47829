use Rattle.std.proofs.Common.{subst}
use Rattle.av_audit_area.specs.Shown.{Shows}
use Rattle.av_audit_area.proofs.shown.range_of.Goals as goal

pub returns-in_err-start-in-Area-clause-none : goal.returns-in_err-start-in-Area-clause-none
returns-in_err-start-in-Area-clause-none c =
    rw c.from_residual.ensures
    (λ r shows. c.in_err-start-in-Area.ensures.none r.start (subst (λ row. Shows row r) c.in-Area.is shows).0)

pub returns-in_err-end-in-Area-clause-none : goal.returns-in_err-end-in-Area-clause-none
returns-in_err-end-in-Area-clause-none c =
    rw c.from_residual-in_err-end-in-Area.ensures
    (λ r shows. c.in_err-end-in-Area.ensures.none r.end (subst (λ row. Shows row r) c.in-Area.is shows).1)
