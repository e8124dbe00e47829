-- Each piece that is served is a part of the access more, and is shown; one that stops ends it.
use Rattle.std.proofs.Common.{◌≡◌, None, sym, subst, ◌∙◌, arith}
use Rattle.av_plain.specs.Device.{seen_by}
use Rattle.av_access.specs.Access.{IsRead}
use Rattle.av_step.specs.Step.{IsSteadyFor}
use Rattle.av_access.proofs.AccessParts.{none_left, piece-within, piece-ends, read-served, read-stopped}
use Rattle.av_access.proofs.access.read_pieces.Goals as goal
use Rattle.av_plain.proofs.Wrote.{device-on}

pub read_page-requires-clause-steady : goal.read_page-requires-clause-steady
read_page-requires-clause-steady g c = subst (λ sizes. IsSteadyFor sizes c.args.process c.loop-done.mem) (sym c.loop-done.invariant.same.sizes)
    c.loop-done.invariant.steady

pub returns-in-Some-clause-access : goal.returns-in-Some-clause-access
returns-in-Some-clause-access g c = λ s keeps.
    let k = c.loop-done.done in
    let piece = c.next_piece-piece.result in
    let h = c.loop-done.invariant.access s keeps in
    read-stopped s c.loop-done.mem c.read_page.new.mem c.args.process c.args.address c.args.len k piece c.args.notes.now c.loop-done.notes
    c.read_page.new.notes c.loop-done.shown c.read_page.new.shown
    c.read_page.ensures.count c.next_piece-piece.ensures c.loop-done-test.true c.loop-done.invariant.begins h c.in-Some.stop
    (rw c.in-Some.is at (c.in_ok-stop.ensures.step h.access.served.next h.access.served.keeps))

pub loop-done-preserved : goal.loop-done-preserved
loop-done-preserved g c =
    let k = c.loop-done.done in
    let piece = c.next_piece-piece.result in
    record {
      within = piece-within c.args.address c.args.len k piece c.next_piece-piece.ensures c.loop-done-test.true;
      begins = piece-ends c.args.address c.args.len k piece c.next_piece-piece.ensures;
      access = λ s keeps.
          let h = c.loop-done.invariant.access s keeps in
          read-served s c.loop-done.mem c.read_page.new.mem c.args.process c.args.address c.args.len k piece c.args.notes.now c.loop-done.notes
          c.read_page.new.notes c.loop-done.shown c.read_page.new.shown
          c.read_page.ensures.count c.next_piece-piece.ensures c.loop-done-test.true c.loop-done.invariant.begins h
          (rw (none_left c.in_ok-stop.field-0 c.in_default.not-Some) at (c.in_ok-stop.ensures.step h.access.served.next h.access.served.keeps));
      steady = subst (λ sizes. IsSteadyFor sizes c.args.process c.read_page.new.mem) c.loop-done.invariant.same.sizes c.in_ok-stop.ensures.steady;
      same = device-on _ _ _ c.loop-done.invariant.same c.read_page.ensures.same;
      count = c.read_page.ensures.count ∙ c.loop-done.invariant.count;
    }

pub returns-clause-access : goal.returns-clause-access
returns-clause-access g c = λ s keeps.
    let all : c.loop-done.done ≡ c.args.len = omega (arith, c.loop-done.invariant.within, c.loop-done-test.false) in
    subst (λ n. IsRead (seen_by g.D.SwapDev.sizes g.D.SwapDev.pages g.D.SwapDev.failures g.D.SwapDev.history c.args.dev.now)
    (seen_by g.D.SwapDev.sizes g.D.SwapDev.pages g.D.SwapDev.failures g.D.SwapDev.history c.loop-done.dev) s c.loop-done.mem c.args.process c.args.address n
    c.args.notes.now
    c.loop-done.notes None c.loop-done.done c.loop-done.shown) all (c.loop-done.invariant.access s keeps)
