use Rattle.std.proofs.Common.{map, string_bytes, refl, inl, inr, arith}
use Rattle.av_words.specs.declared.words.Asked.TheVariants as asked
use Rattle.av_replay.proofs.Asks.{audit-no-load, form-of, load-no-audit, run-no-audit, run-no-load}
use Rattle.av_replay.proofs.top_call.run.Goals as goal

pub audit_over-requires-clause-some : goal.audit_over-requires-clause-some
audit_over-requires-clause-some g c =
    let form = form-of (map string_bytes c.args.words.now) _ (asked.Audit c.in-Audit.frames) _ c.deref-in-Audit.result.now c.in-Audit.is
    c.deref-in-Audit.ensures.value c.in-Ok.ensures.found in
    omega (arith, form.within.least)

pub returns-in-Run-clause-does : goal.returns-in-Run-clause-does
returns-in-Run-clause-does g c =
    let names = map (λ name. name.now) c.deref.result.now in
    let form = form-of (map string_bytes c.args.words.now) _ (asked.Run c.in-Run.frames) _ c.deref.result.now c.in-Run.is c.deref.ensures.value
    c.in-Ok.ensures.found in
    λ usage other. inr (asked.Run c.in-Run.frames, names, form, c.run_over.ensures.replayed other)

pub returns-in-Run-clause-usage : goal.returns-in-Run-clause-usage
returns-in-Run-clause-usage g c =
    let names = map (λ name. name.now) c.deref.result.now in
    let form = form-of (map string_bytes c.args.words.now) _ (asked.Run c.in-Run.frames) _ c.deref.result.now c.in-Run.is c.deref.ensures.value
    c.in-Ok.ensures.found in
    record {
      only = λ usage. absurd (c.run_over.ensures.begun usage);
      always = λ memory none. absurd (none (asked.Run c.in-Run.frames) names form);
    }

pub returns-in-Run-clause-nothing : goal.returns-in-Run-clause-nothing
returns-in-Run-clause-nothing g c =
    λ usage. absurd (c.run_over.ensures.begun usage)

pub returns-in-Run-clause-fault : goal.returns-in-Run-clause-fault
returns-in-Run-clause-fault g c =
    c.run_over.ensures.fault

pub returns-in-Run-clause-fewer : goal.returns-in-Run-clause-fewer
returns-in-Run-clause-fewer g c =
    let names = map (λ name. name.now) c.deref.result.now in
    let form = form-of (map string_bytes c.args.words.now) _ (asked.Run c.in-Run.frames) _ c.deref.result.now c.in-Run.is c.deref.ensures.value
    c.in-Ok.ensures.found in
    λ fault. (asked.Run c.in-Run.frames, names, form, inl (c.run_over.ensures.fewer fault))

pub returns-in-Run-clause-kernel : goal.returns-in-Run-clause-kernel
returns-in-Run-clause-kernel g c =
    λ no. c.run_over.ensures.kernel

pub returns-in-Run-clause-none : goal.returns-in-Run-clause-none
returns-in-Run-clause-none g c =
    let names = map (λ name. name.now) c.deref.result.now in
    let form = form-of (map string_bytes c.args.words.now) _ (asked.Run c.in-Run.frames) _ c.deref.result.now c.in-Run.is c.deref.ensures.value
    c.in-Ok.ensures.found in
    λ asks. absurd (run-no-audit (map string_bytes c.args.words.now) c.in-Run.frames names form asks)

pub returns-in-Run-clause-unread : goal.returns-in-Run-clause-unread
returns-in-Run-clause-unread g c =
    let names = map (λ name. name.now) c.deref.result.now in
    let form = form-of (map string_bytes c.args.words.now) _ (asked.Run c.in-Run.frames) _ c.deref.result.now c.in-Run.is c.deref.ensures.value
    c.in-Ok.ensures.found in
    λ asks. absurd (run-no-load (map string_bytes c.args.words.now) c.in-Run.frames names form asks)

pub returns-in-Work-clause-does : goal.returns-in-Work-clause-does
returns-in-Work-clause-does g c =
    let names = map (λ name. name.now) c.deref-in-Work.result.now in
    let form = form-of (map string_bytes c.args.words.now) _
    (asked.Work c.in-Work.seed c.in-Work.lines c.in-Work.frames) _ c.deref-in-Work.result.now c.in-Work.is
    c.deref-in-Work.ensures.value c.in-Ok.ensures.found in
    λ usage other. inr (asked.Work c.in-Work.seed c.in-Work.lines c.in-Work.frames, names, form, (refl, c.work_over.ensures.worked other))

pub returns-in-Work-clause-usage : goal.returns-in-Work-clause-usage
returns-in-Work-clause-usage g c =
    let names = map (λ name. name.now) c.deref-in-Work.result.now in
    let form = form-of (map string_bytes c.args.words.now) _
    (asked.Work c.in-Work.seed c.in-Work.lines c.in-Work.frames) _ c.deref-in-Work.result.now c.in-Work.is
    c.deref-in-Work.ensures.value c.in-Ok.ensures.found in
    record {
      only = λ usage. absurd (c.work_over.ensures.begun usage);
      always = λ memory none. absurd (none (asked.Work c.in-Work.seed c.in-Work.lines c.in-Work.frames) names form);
    }

pub returns-in-Work-clause-nothing : goal.returns-in-Work-clause-nothing
returns-in-Work-clause-nothing g c =
    λ usage. absurd (c.work_over.ensures.begun usage)

pub returns-in-Work-clause-fault : goal.returns-in-Work-clause-fault
returns-in-Work-clause-fault g c =
    λ fault. let f = c.work_over.ensures.fault fault in (f.0, refl, f.1)

pub returns-in-Work-clause-fewer : goal.returns-in-Work-clause-fewer
returns-in-Work-clause-fewer g c =
    let names = map (λ name. name.now) c.deref-in-Work.result.now in
    let form = form-of (map string_bytes c.args.words.now) _
    (asked.Work c.in-Work.seed c.in-Work.lines c.in-Work.frames) _ c.deref-in-Work.result.now c.in-Work.is
    c.deref-in-Work.ensures.value c.in-Ok.ensures.found in
    λ fault. (asked.Work c.in-Work.seed c.in-Work.lines c.in-Work.frames, names, form, inl (c.work_over.ensures.fewer fault))

pub returns-in-Work-clause-kernel : goal.returns-in-Work-clause-kernel
returns-in-Work-clause-kernel g c =
    λ no. c.work_over.ensures.kernel

pub returns-in-Work-clause-none : goal.returns-in-Work-clause-none
returns-in-Work-clause-none g c =
    let names = map (λ name. name.now) c.deref-in-Work.result.now in
    let form = form-of (map string_bytes c.args.words.now) _
    (asked.Work c.in-Work.seed c.in-Work.lines c.in-Work.frames) _ c.deref-in-Work.result.now c.in-Work.is
    c.deref-in-Work.ensures.value c.in-Ok.ensures.found in
    λ asks. absurd (load-no-audit (map string_bytes c.args.words.now) c.in-Work.seed c.in-Work.lines c.in-Work.frames names form asks)

pub returns-in-Work-clause-unread : goal.returns-in-Work-clause-unread
returns-in-Work-clause-unread g c =
    λ asks. refl

pub returns-clause-does : goal.returns-clause-does
returns-clause-does g c =
    let names = map (λ name. name.now) c.deref-in-Audit.result.now in
    let form = form-of (map string_bytes c.args.words.now) _ (asked.Audit c.in-Audit.frames) _
    c.deref-in-Audit.result.now c.in-Audit.is c.deref-in-Audit.ensures.value c.in-Ok.ensures.found in
    λ usage other. inr (asked.Audit c.in-Audit.frames, names, form, (c.audit_over.ensures.kernel, c.audit_over.ensures.audited other))

pub returns-clause-usage : goal.returns-clause-usage
returns-clause-usage g c =
    let names = map (λ name. name.now) c.deref-in-Audit.result.now in
    let form = form-of (map string_bytes c.args.words.now) _ (asked.Audit c.in-Audit.frames) _
    c.deref-in-Audit.result.now c.in-Audit.is c.deref-in-Audit.ensures.value c.in-Ok.ensures.found in
    record {
      only = λ usage. absurd (c.audit_over.ensures.begun usage);
      always = λ memory none. absurd (none (asked.Audit c.in-Audit.frames) names form);
    }

pub returns-clause-nothing : goal.returns-clause-nothing
returns-clause-nothing g c =
    λ usage. absurd (c.audit_over.ensures.begun usage)

pub returns-clause-fault : goal.returns-clause-fault
returns-clause-fault g c =
    c.audit_over.ensures.fault

pub returns-clause-fewer : goal.returns-clause-fewer
returns-clause-fewer g c =
    let names = map (λ name. name.now) c.deref-in-Audit.result.now in
    let form = form-of (map string_bytes c.args.words.now) _ (asked.Audit c.in-Audit.frames) _
    c.deref-in-Audit.result.now c.in-Audit.is c.deref-in-Audit.ensures.value c.in-Ok.ensures.found in
    λ fault. (
      asked.Audit c.in-Audit.frames,
      names,
      form,
      elim (c.audit_over.ensures.fewer fault) [
        | inl fewer ↦ inl fewer
        | inr loses ↦ inr ((c.in-Audit.frames, names, form), loses)
      ],
    )

pub returns-clause-kernel : goal.returns-clause-kernel
returns-clause-kernel g c =
    let names = map (λ name. name.now) c.deref-in-Audit.result.now in
    let form = form-of (map string_bytes c.args.words.now) _ (asked.Audit c.in-Audit.frames) _
    c.deref-in-Audit.result.now c.in-Audit.is c.deref-in-Audit.ensures.value c.in-Ok.ensures.found in
    λ no. absurd (no (c.in-Audit.frames, names, form))

pub returns-clause-none : goal.returns-clause-none
returns-clause-none g c =
    λ asks. c.audit_over.ensures.kernel

pub returns-clause-unread : goal.returns-clause-unread
returns-clause-unread g c =
    let names = map (λ name. name.now) c.deref-in-Audit.result.now in
    let form = form-of (map string_bytes c.args.words.now) _ (asked.Audit c.in-Audit.frames) _
    c.deref-in-Audit.result.now c.in-Audit.is c.deref-in-Audit.ensures.value c.in-Ok.ensures.found in
    λ asks. absurd (audit-no-load (map string_bytes c.args.words.now) c.in-Audit.frames names form asks)
