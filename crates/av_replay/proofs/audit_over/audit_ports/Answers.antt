use Rattle.std.proofs.Common.{subst, sym}
use Rattle.av_audit_book.specs.Machine.{setting_of}
use Rattle.av_audit_run.specs.Transcript.{Audits}
use Rattle.av_audit_run.specs.declared.transcript.Finding.{Finding}
use Rattle.av_replay.specs.Audit.{EndsAudit}
use Rattle.av_replay.specs.declared.status.Status.{Status}
use Rattle.av_replay.proofs.Audits.{breaks-ends, legal-ends}
use Rattle.av_replay.proofs.audit_over.audit_ports.Goals as goal

pub returns-in-Ok-Legal-clause-ends : goal.returns-in-Ok-Legal-clause-ends
returns-in-Ok-Legal-clause-ends g c =
    let m = setting_of c.args.machine in
    let old = g.P.Ports.view c.args.ports.now in
    let mid = g.P.Ports.view c.audit.new.ports in
    legal-ends m old (g.P.Ports.view c.write_last.new.ports) c.write_last.result mid (
      subst (λ (f : Finding). Audits f m old mid) c.in-Ok-Legal.field-0-is c.in-Ok-Legal.ensures.audits,
      c.in-Ok-Legal.ensures.only,
      c.in-Ok-Legal.ensures.fails,
    )
    c.write_last.ensures.only c.write_last.ensures.ends

pub returns-in-Ok-Illegal-clause-ends : goal.returns-in-Ok-Illegal-clause-ends
returns-in-Ok-Illegal-clause-ends g c =
    let m = setting_of c.args.machine in
    let old = g.P.Ports.view c.args.ports.now in
    let new = g.P.Ports.view c.audit.new.ports in (
      subst (λ (f : Finding). Audits f m old new) c.in-Ok-Illegal.field-0-is c.in-Ok-Illegal.ensures.audits,
      c.in-Ok-Illegal.ensures.only,
      c.in-Ok-Illegal.ensures.fails,
    )

pub returns-in-Err-clause-ends : goal.returns-in-Err-clause-ends
returns-in-Err-clause-ends g c =
    let m = setting_of c.args.machine in
    let old = g.P.Ports.view c.args.ports.now in
    let new = g.P.Ports.view c.audit.new.ports in
    let e = c.in-Err.ensures in
    subst (λ (s : Status). EndsAudit s m old new) (sym c.status_of.ensures)
    (breaks-ends m old new c.in-Err.error (e.stops, e.only, e.fails))
