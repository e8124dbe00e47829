use Rattle.std.proofs.Common.{◌≡◌, ◌≤◌, ℕ, Err, None, ap, arith, inl, inr, length, map, refl, subst, sym, ◌∙◌}
use Rattle.std.proofs.lemmas.List.{length-map}
use Rattle.av_io.specs.Count.{Rose}
use Rattle.av_plain.specs.Device.{seen_by}
use Rattle.av_replay.proofs.Audits.{wanting}
use Rattle.av_replay.proofs.audit_over.audit_over.Goals as goal

pub audit_areas-requires-clause-few : goal.audit_areas-requires-clause-few
audit_areas-requires-clause-few g c = omega (arith, c.in-Ok.ensures.all.0, c.requires.few)

-- every area was attached
pub returns-in-Ok-clause-audited : goal.returns-in-Ok-clause-audited
returns-in-Ok-clause-audited g c = λ other.
    let all = c.in-Ok.ensures.all in
    let many : length c.in-Ok.pages.items ≡ length (map (λ name. name.now) c.args.names.now) = all.0 ∙ sym (length-map c.args.names.now _) in
    record {
      pages = c.in-Ok.pages.items;
      few = omega (arith, many);
      attached = seen_by g.D.SwapDev.sizes g.D.SwapDev.pages g.D.SwapDev.failures g.D.SwapDev.history c.attach_all.new.dev;
      attaches = all.1;
      failed = None;
      tries = all.2;
      does = c.audit_areas.ensures.does other;
      all = inl many;
    }

-- page 0 of one could not be read
pub returns-in-Ok-clause-fault : goal.returns-in-Ok-clause-fault
returns-in-Ok-clause-fault g c = λ fault.
    let lost = c.audit_areas.ensures.fault fault in (
      subst (λ (n : ℕ). Rose n (g.D.SwapDev.failures c.audit_areas.new.dev)) c.in-Ok.ensures.all.1.failures lost.0,
      lost.1,
      lost.2,
    )

pub returns-in-Ok-clause-fewer : goal.returns-in-Ok-clause-fewer
returns-in-Ok-clause-fewer g c = λ fault.
    let all = c.in-Ok.ensures.all in
    let lost = c.audit_areas.ensures.fault fault in
    inr (record {
      pages = c.in-Ok.pages.items;
      many = all.0 ∙ sym (length-map c.args.names.now _);
      attached = seen_by g.D.SwapDev.sizes g.D.SwapDev.pages g.D.SwapDev.failures g.D.SwapDev.history c.attach_all.new.dev;
      attaches = all.1;
      tries = all.2;
      same = lost.3;
      failures = lost.0;
    })

pub returns-in-Err-Failed-clause-fewer : goal.returns-in-Err-Failed-clause-fewer
returns-in-Err-Failed-clause-fewer g c = λ fault. inl (c.in-Err-Failed.ensures.fewer (ap Err c.in-Err-Failed.field-0-is))

-- memory was wanting for an area
pub returns-in-Err-Memory-clause-audited : goal.returns-in-Err-Memory-clause-audited
returns-in-Err-Memory-clause-audited g c = λ other.
    let some = c.in-Err-Memory.ensures.wanting (ap Err c.in-Err-Memory.field-0-is) in
    record {
      pages = some.0;
      few = subst (λ n. length some.0 ≤ n) (sym (length-map c.args.names.now _)) some.1;
      attached = seen_by g.D.SwapDev.sizes g.D.SwapDev.pages g.D.SwapDev.failures g.D.SwapDev.history c.attach_all.new.dev;
      attaches = some.2;
      failed = some.3;
      tries = some.4;
      does = wanting c.args.frames _;
      all = inr (refl, refl);
    }
