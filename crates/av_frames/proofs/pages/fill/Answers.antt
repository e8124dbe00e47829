use Rattle.std.proofs.Common.{arith, ◌≡◌, ◌-◌, ◌≤◌, ◌∙◌, sym, refl, ap, length, replicate, ◌++◌}
use Rattle.av_frames.specs.Pages.{zeros}
use Rattle.av_frames.proofs.Written.{one_more, none_more}
use Rattle.av_frames.proofs.pages.fill.Goals as goal

pub loop-preserved : goal.loop-preserved
loop-preserved c =
    let old = c.args.pages.now in
    let from : length old.items ≤ c.loop.counter = omega (arith, c.loop.auto.counter, c.len-counter.ensures, old.ok.0) in
    record {
      items = c.push_reserved.ensures.items
          ∙ one_more old.items c.loop.pages.items zeros (length old.items) c.loop.counter from c.loop.invariant.items;
      ends = omega (arith, c.loop-test.true);
      len = omega (arith, c.push_reserved.ensures.len, c.loop.invariant.len);
      capacity = c.push_reserved.ensures.capacity ∙ c.loop.invariant.capacity;
    }

pub returns-clause-items : goal.returns-clause-items
returns-clause-items c =
    let old = c.args.pages.now in
    let same : c.loop.counter - length old.items ≡ c.args.count - length old.items =
    omega (arith, c.loop.auto.counter, c.loop.invariant.ends, c.loop-test.false, c.len-counter.ensures, old.ok.0) in
    c.loop.invariant.items ∙ ap (λ k. old.items ++ replicate k zeros) same

pub loop-init : goal.loop-init
loop-init c =
    let old = c.args.pages.now in
    record {
      items = none_more old.items zeros _ (omega (arith, c.len-counter.ensures, old.ok.0));
      ends = omega (arith, c.len-counter.ensures, old.ok.0);
      len = sym c.len-counter.ensures;
      capacity = refl;
    }
