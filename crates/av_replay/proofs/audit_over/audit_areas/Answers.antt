use Rattle.std.proofs.Common.{Err, ap, subst, sym, refl, ◌<◌, ℕ}
use Rattle.av_plain.specs.Device.{Device, seen_by}
use Rattle.av_audit_book.specs.Machine.{setting_of}
use Rattle.av_ports.specs.Ports.{PortsView}
use Rattle.av_replay.specs.Audit.{DoesAudit}
use Rattle.av_replay.specs.declared.status.Status.TheVariants as statuses
use Rattle.av_replay.specs.KernelPorts.{ports_by}
use Rattle.av_replay.proofs.Audits.{device-same, does-after, never-attaches, never-misused, wanting}
use Rattle.av_replay.proofs.audit_over.audit_areas.Goals as goal

pub audit_lent-requires : goal.audit_lent-requires
audit_lent-requires g c =
    let e = c.in-Ok.ensures in
    record { some = subst (λ (n : ℕ). 0 < n) (sym e.frames) c.requires.some; named = e.named; counted = e.counted }

pub returns-in-Ok-clause-does : goal.returns-in-Ok-clause-does
returns-in-Ok-clause-does g c = λ other.
    let at = ports_by g.S.Source.view g.K.Sink.view g.D.SwapDev.sizes g.D.SwapDev.pages g.D.SwapDev.failures g.D.SwapDev.history in
    let seen = seen_by g.D.SwapDev.sizes g.D.SwapDev.pages g.D.SwapDev.failures g.D.SwapDev.history in
    let e = c.in-Ok.ensures in
    let old = at c.args.source.now c.args.sink.now c.args.dev.now in
    let mid = at c.args.source.now c.args.sink.now c.read_machine.new.dev in
    let new = at c.audit_lent.new.source c.audit_lent.new.sink c.audit_lent.new.dev in
    does-after c.args.frames c.audit_lent.result old mid new (setting_of c.in-Ok.machine)
    (ap (λ (d : Device). record old { device = d }) (sym (device-same (seen c.args.dev.now) (seen c.read_machine.new.dev) e.same e.unfailed)))
    e.machine c.audit_lent.ensures

pub returns-in-Err-Memory-clause-does : goal.returns-in-Err-Memory-clause-does
returns-in-Err-Memory-clause-does g c = λ other.
    let at = ports_by g.S.Source.view g.K.Sink.view g.D.SwapDev.sizes g.D.SwapDev.pages g.D.SwapDev.failures g.D.SwapDev.history in
    let seen = seen_by g.D.SwapDev.sizes g.D.SwapDev.pages g.D.SwapDev.failures g.D.SwapDev.history in
    let e = c.in-Err-Memory.ensures in
    let old = at c.args.source.now c.args.sink.now c.args.dev.now in
    let same = device-same (seen c.args.dev.now) (seen c.read_machine.new.dev) e.same (e.unfailed_memory (ap Err c.in-Err-Memory.field-0-is)) in
    subst (λ (p : PortsView). DoesAudit c.args.frames statuses.Memory old p) (ap (λ (d : Device). record old { device = d }) (sym same))
    (wanting c.args.frames old)

pub returns-in-Ok-clause-begun : goal.returns-in-Ok-clause-begun
returns-in-Ok-clause-begun g c = λ usage.
    never-misused _ _ _ c.audit_lent.result c.audit_lent.ensures usage

pub returns-in-Ok-clause-fault : goal.returns-in-Ok-clause-fault
returns-in-Ok-clause-fault g c = λ fault.
    absurd (never-attaches _ _ _ c.audit_lent.result c.audit_lent.ensures fault)
