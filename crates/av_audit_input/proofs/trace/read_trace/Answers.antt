use Rattle.std.proofs.Common.{◌∷◌, [], ◌++◌, ◌∙◌, arith, subst}
use Rattle.std.proofs.lemmas.Result.{err_from_is_err_and, IfOk-weaker}
use Rattle.av_audit_input.proofs.InputLaws.{fails-since, only-then, stays-then}
use Rattle.av_ports.proofs.Times.{unfailed_then}
use Rattle.av_audit_input.specs.Script.{IsScript}
use Rattle.av_audit_input.proofs.TraceLaws.{commands-few, ends-marked, ends-next, past-more, mark-fails-since, mark-within, stops-line}
use Rattle.av_audit_input.proofs.trace.read_trace.Goals as goal

pub returns-in_err-next_line-clause-stops : goal.returns-in_err-next_line-clause-stops
returns-in_err-next_line-clause-stops g c =
    let past = c.loop-number.invariant.past in
    let p = err_from_is_err_and c.from_residual.result c.from_residual.ensures.1 in
    rw (p.1, p.2) (stops-line c.in_err-next_line.field-0.0 past.0 past.1 c.loop-number.number c.args.pending.now
    c.loop-number.pending c.next_line.new.pending (g.P.Ports.view c.args.ports.now) (g.P.Ports.view c.loop-number.ports)
    (g.P.Ports.view c.next_line.new.ports) past.3 (omega (arith, c.loop-number-test.true)) c.in_err-next_line.ensures.same
    c.next_line.ensures.near c.in_err-next_line.ensures.stops)

pub returns-in_err-next_line-clause-only : goal.returns-in_err-next_line-clause-only
returns-in_err-next_line-clause-only g c = only-then _ _ _ c.loop-number.invariant.only c.next_line.ensures.only

pub returns-in_err-next_line-clause-fails : goal.returns-in_err-next_line-clause-fails
returns-in_err-next_line-clause-fails g c =
    let p = err_from_is_err_and c.from_residual.result c.from_residual.ensures.1 in
    rw (p.1, p.2) (fails-since (g.P.Ports.view c.args.ports.now) (g.P.Ports.view c.loop-number.ports) (g.P.Ports.view c.next_line.new.ports)
    c.in_err-next_line.field-0.0 c.loop-number.invariant.unfailed c.loop-number.invariant.untold c.in_err-next_line.ensures.fails)

pub returns-in-Transcript-clause-only : goal.returns-in-Transcript-clause-only
returns-in-Transcript-clause-only g c = only-then _ _ _ c.loop-number.invariant.only c.next_line.ensures.only

pub returns-in-Transcript-clause-taken : goal.returns-in-Transcript-clause-taken
returns-in-Transcript-clause-taken g c =
    let past = c.loop-number.invariant.past in
    let taken = rw c.in-Transcript.is at c.in_ok-next_line.ensures.taken in
    let t = taken past.1 past.2 in (
      past.1,
      subst (λ cs. IsScript c.next_line.new.script cs) t.2.1 t.1,
      ends-marked _ past.0 past.1 c.loop-number.number c.args.pending.now
          c.loop-number.pending c.next_line.new.pending (g.P.Ports.view c.args.ports.now) (g.P.Ports.view c.loop-number.ports)
          (g.P.Ports.view c.next_line.new.ports) past.3 (omega (arith, c.loop-number-test.true)) c.loop-number.invariant.untold
          c.next_line.ensures.near t.2.0,
    )

pub returns-in-End-clause-taken : goal.returns-in-End-clause-taken
returns-in-End-clause-taken g c =
    let past = c.loop-number.invariant.past in
    let taken = rw c.in-End.is at c.in_ok-next_line.ensures.taken in
    let t = taken past.1 past.2 in (
      t.0,
      t.1,
      ends-next past.0 past.1 t.0 c.loop-number.number c.args.pending.now
          c.loop-number.pending c.next_line.new.pending (g.P.Ports.view c.args.ports.now) (g.P.Ports.view c.loop-number.ports)
          (g.P.Ports.view c.next_line.new.ports) past.3 (omega (arith, c.loop-number-test.true)) c.loop-number.invariant.untold
          c.next_line.ensures.near t.2,
    )

pub returns-in-End-clause-only : goal.returns-in-End-clause-only
returns-in-End-clause-only g c = only-then _ _ _ c.loop-number.invariant.only c.next_line.ensures.only

pub loop-number-preserved : goal.loop-number-preserved
loop-number-preserved g c =
    let past = c.loop-number.invariant.past in
    let all = rw c.in-Line.is at c.in_ok-next_line.ensures.taken in
    let t = all past.1 past.2 in
    let taken = t.2 in
    record {
      past = (
        past.0 ++ taken.0 ∷ [],
        t.0,
        t.1,
        past-more past.0 taken.0 past.1 t.0 c.loop-number.number c.args.pending.now
            c.loop-number.pending c.next_line.new.pending (g.P.Ports.view c.args.ports.now) (g.P.Ports.view c.loop-number.ports)
            (g.P.Ports.view c.next_line.new.ports) past.3 taken.1 taken.2,
      );
      only = only-then _ _ _ c.loop-number.invariant.only c.next_line.ensures.only;
      unfailed = unfailed_then _ _ _ c.loop-number.invariant.unfailed c.in_ok-next_line.ensures.fails;
      untold = stays-then (g.P.Ports.view c.args.ports.now) (g.P.Ports.view c.loop-number.ports) (g.P.Ports.view c.next_line.new.ports)
          c.loop-number.invariant.untold taken.3;
      kept = c.next_line.ensures.kept ∙ c.loop-number.invariant.kept;
    }

pub returns-clause-taken : goal.returns-clause-taken
returns-clause-taken g c =
    let past = c.loop-number.invariant.past in
    IfOk-weaker c.take_mark.result _ _ (λ ended h. (
      past.1,
      past.2,
      ends-marked ended past.0 past.1 c.loop-number.number c.args.pending.now
          c.loop-number.pending c.take_mark.new.pending (g.P.Ports.view c.args.ports.now) (g.P.Ports.view c.loop-number.ports)
          (g.P.Ports.view c.take_mark.new.ports) past.3 (omega (arith, c.loop-number.auto.number-end)) c.loop-number.invariant.untold
          c.take_mark.ensures.near h,
    ))
    c.take_mark.ensures.taken

pub returns-clause-only : goal.returns-clause-only
returns-clause-only g c = only-then _ _ _ c.loop-number.invariant.only c.take_mark.ensures.only

pub returns-clause-stops : goal.returns-clause-stops
returns-clause-stops g c =
    let past = c.loop-number.invariant.past in
    mark-within c.take_mark.result past.0 past.1 c.loop-number.number c.args.pending.now
    c.loop-number.pending c.take_mark.new.pending (g.P.Ports.view c.args.ports.now) (g.P.Ports.view c.loop-number.ports)
    (g.P.Ports.view c.take_mark.new.ports) past.3 (omega (arith, c.loop-number.auto.number-end, c.loop-number-test.false))
    c.take_mark.ensures.near c.take_mark.ensures.same c.take_mark.ensures.stops

pub returns-clause-fails : goal.returns-clause-fails
returns-clause-fails g c = mark-fails-since c.take_mark.result (g.P.Ports.view c.args.ports.now) (g.P.Ports.view c.loop-number.ports)
    (g.P.Ports.view c.take_mark.new.ports) c.loop-number.invariant.unfailed c.loop-number.invariant.untold c.take_mark.ensures.fails

pub next_line-requires : goal.next_line-requires
next_line-requires g c =
    let past = c.loop-number.invariant.past in
    omega (arith, past.2.count, past.3.count, commands-few past.0 past.1 past.3.says)
