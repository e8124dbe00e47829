use Rattle.std.proofs.Common.{Some, append-nil, inl, inr, refl, arith}
use Rattle.std.proofs.lemmas.Result.{err_from_is_err_and}
use Rattle.av_replay.proofs.Turns.{handed_or_left}
use Rattle.av_replay.proofs.turn.do_line.Goals as goal

pub returns-clause-ok : goal.returns-clause-ok
returns-clause-ok g c =
    let counted = c.in_ok-answer.ensures.counts in
    record {
      answers = λ s stands.
          let says = rw c.in-Some.is at c.in-Ok.ensures.found in
          let steps = c.in_ok-answer.ensures.stands s stands in
          record {
            did = Some (record { command = c.in-Some.command; reply = c.answer.new.reply });
            next = steps.next;
            commands = says;
            run = (steps.next, steps.step, refl);
            said = rw (append-nil, c.in_ok-reply_text.ensures, c.clear.ensures) refl;
            stands = steps.stands;
            failures = let within = steps.failures in omega (arith, within);
            asked = rw append-nil steps.wrote;
            counts = record {
              steps = counted.steps;
              tally = counted.tally;
              frames = counted.frames;
              sizes = counted.sizes;
              spent = λ _. counted.spent;
            };
          };
      steps = omega (arith, counted.steps);
    }

-- memory was wanting for the line
pub returns-in-Err-Memory-clause-err : goal.returns-in-Err-Memory-clause-err
returns-in-Err-Memory-clause-err g c = inl refl

-- or in its command
pub returns-in_err-answer-clause-err : goal.returns-in_err-answer-clause-err
returns-in_err-answer-clause-err g c =
    let p = err_from_is_err_and c.from_residual.result c.from_residual.ensures.1 in
    let says = rw c.in-Some.is at c.in-Ok.ensures.found in
    rw (p.1, p.2) (handed_or_left c.args.line.now c.in-Some.command (g.P.Ports.view c.args.ports.now) (g.P.Ports.view c.answer.new.self) says
    (λ not. c.answer.ensures.leaves_device (inr not)))

-- or for its text
pub returns-in_err-reply_text-clause-err : goal.returns-in_err-reply_text-clause-err
returns-in_err-reply_text-clause-err g c =
    let p = err_from_is_err_and c.from_residual-in_err-reply_text.result c.from_residual-in_err-reply_text.ensures.1 in
    let says = rw c.in-Some.is at c.in-Ok.ensures.found in
    rw (p.1, p.2) (handed_or_left c.args.line.now c.in-Some.command (g.P.Ports.view c.args.ports.now) (g.P.Ports.view c.answer.new.self) says
    (λ not. c.answer.ensures.leaves_device (inr not)))
