use Rattle.std.proofs.Common.{◌+◌, ◌∷◌, [], ◌∙◌, ap, length-append, refl, arith}
use Rattle.av_plain.specs.Device.{setting_of}
use Rattle.av_replay.proofs.Runs.{no_past, starts, longer, next_answers, goes_on}
use Rattle.av_ports.proofs.Times.{flushed_none, flushed_then, unfailed_then}
use Rattle.av_replay.proofs.Calls.{fails_at, fails_since, fails_then, finished_memory, memory_at, read_at}
use Rattle.av_replay.proofs.Endings.{done, halts, finishes}
use Rattle.av_replay.proofs.replay.do_lines.Goals as goal

pub loop-number-init : goal.loop-number-init
loop-number-init g c = record {
  so_far = (
    no_past (setting_of c.args.kernel.now.frames (g.P.Ports.view c.args.ports.now).device),
    starts c.args.pending.now (g.P.Ports.view c.args.ports.now) c.args.kernel.now c.requires.pending c.requires.start,
    refl,
  );
  flushed = flushed_none _ _ refl refl;
  kept = refl;
  steps = omega (arith, c.requires.start.steps);
}

pub loop-number-preserved : goal.loop-number-preserved
loop-number-preserved g c =
    let s = c.loop-number.invariant.so_far in
    let turned = rw c.in-Ok-true.field-0-test at c.in-Ok-true.ensures.turned in
    let t = turned.0 in
    let a = next_answers _ _ _ _ _ _ _ _ _ _ _ _ _ s.1 t.takes in
    record {
      so_far = (
        longer s.0 t.line a.did a.next,
        goes_on _ _ _ _ _ _ _ _ _ _ _ s.1 t.takes c.in-Ok-true.ensures.unfailed turned.1,
        length-append s.0.lines (t.line ∷ []) ∙ ap (λ n. n + 1) s.2,
      );
      flushed = flushed_then 0 _ _ _ c.loop-number.invariant.flushed c.in-Ok-true.ensures.flushed;
      kept = c.in-Ok-true.ensures.kept ∙ c.loop-number.invariant.kept;
      steps = omega (arith, c.loop-number.invariant.steps, t.takes.does.steps);
    }

pub returns-in-Ok-false : goal.returns-in-Ok-false
returns-in-Ok-false g c =
    let s = c.loop-number.invariant.so_far in
    record {
      headline = done _ _ _ _ _ _ _ _ _ s.1 (omega (arith, s.2)) (rw c.in-Ok-false.field-0-test at c.in-Ok-false.ensures.turned);
      unfailed = unfailed_then _ _ _ s.1.unfailed c.in-Ok-false.ensures.unfailed;
      memory = λ e. absurd cc;
      flushed = flushed_then 0 _ _ _ c.loop-number.invariant.flushed c.in-Ok-false.ensures.flushed;
      none_kept = λ e. absurd cc;
      kept = c.in-Ok-false.ensures.kept ∙ c.loop-number.invariant.kept;
    }

pub returns-in-Err : goal.returns-in-Err
returns-in-Err g c =
    let s = c.loop-number.invariant.so_far in
    let number = c.loop-number.number + 1 in
    let error = c.in-Err.error in
    let fails = fails_then _ _ _ s.1.unfailed error c.in-Err.ensures.unfailed in
    rw c.status_of.ensures (record {
      headline = halts _ _ _ _ _ _ _ _ _ error number s.1 (omega (arith, s.2)) (omega arith) c.in-Err.ensures.turned;
      unfailed = fails_at _ _ error number fails;
      memory = memory_at _ _ error number fails;
      flushed = flushed_then 0 _ _ _ c.loop-number.invariant.flushed c.in-Err.ensures.flushed;
      none_kept = λ e. c.in-Err.ensures.none_kept (read_at error number e);
      kept = c.in-Err.ensures.kept ∙ c.loop-number.invariant.kept;
    })

pub returns : goal.returns
returns g c =
    let s = c.loop-number.invariant.so_far in
    let f = c.finish.ensures in
    record {
      headline = finishes _ _ _ _ _ _ _ _ s.1 (omega (arith, s.2)) f.reads c.finish.result f.finished;
      unfailed = fails_since _ _ _ s.1.unfailed c.finish.result f.unfailed;
      memory = λ e. unfailed_then _ _ _ s.1.unfailed (finished_memory _ _ c.finish.result _ f.finished e);
      flushed = flushed_then 0 _ _ _ c.loop-number.invariant.flushed f.flushed;
      none_kept = f.none_kept;
      kept = f.kept ∙ c.loop-number.invariant.kept;
    }
