use Rattle.std.proofs.Common.{◌≡◌, ◌≤◌, Err, None, ap, arith, inl, inr, length, map, refl, subst, sym, ◌∙◌}
use Rattle.std.proofs.lemmas.List.{length-map}
use Rattle.av_plain.specs.Device.{seen_by}
use Rattle.av_replay.proofs.Endings.{nothing_done}
use Rattle.av_replay.proofs.over.run_over.Goals as goal

-- every area was attached
pub returns-in-Ok-clause-replayed : goal.returns-in-Ok-clause-replayed
returns-in-Ok-clause-replayed g c = λ other.
    let all = c.in-Ok.ensures.all in
    let many : length c.in-Ok.pages.items ≡ length (map (λ name. name.now) c.args.names.now) = all.0 ∙ sym (length-map c.args.names.now _) in
    record {
      pages = c.in-Ok.pages.items;
      few = omega (arith, many);
      attached = seen_by g.D.SwapDev.sizes g.D.SwapDev.pages g.D.SwapDev.failures g.D.SwapDev.history c.attach_all.new.dev;
      attaches = all.1;
      failed = None;
      tries = all.2;
      does = c.run_trace.ensures.replayed;
      all = inl many;
    }

-- memory was wanting for an area
pub returns-in-Err-Memory-clause-replayed : goal.returns-in-Err-Memory-clause-replayed
returns-in-Err-Memory-clause-replayed g c = λ other.
    let some = c.in-Err-Memory.ensures.wanting (ap Err c.in-Err-Memory.field-0-is) in
    record {
      pages = some.0;
      few = subst (λ n. length some.0 ≤ n) (sym (length-map c.args.names.now _)) some.1;
      attached = seen_by g.D.SwapDev.sizes g.D.SwapDev.pages g.D.SwapDev.failures g.D.SwapDev.history c.attach_all.new.dev;
      attaches = some.2;
      failed = some.3;
      tries = some.4;
      does = nothing_done c.args.frames _;
      all = inr (refl, (refl, refl));
    }
