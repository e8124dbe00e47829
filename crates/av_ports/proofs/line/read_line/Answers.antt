use Rattle.std.proofs.Common.{◌∙◌, arith}
use Rattle.av_ports.proofs.Times.{flushed_then, unfailed_then}
use Rattle.av_ports.proofs.line.read_line.Goals as goal

pub loop-size-preserved : goal.loop-size-preserved
loop-size-preserved g c =
    let was = c.loop-size.invariant in
    let now = c.in_ok-read_on.ensures in
    record {
      same = now.reads.same ∙ was.same;
      held = now.reads.held ∙ was.held;
      device = now.reads.device ∙ was.device;
      kept = now.kept ∙ was.kept;
      unfailed = unfailed_then _ _ _ was.unfailed now.unfailed;
      flushed = flushed_then 0 _ _ _ was.flushed now.flushed;
      stays_open = λ untold. now.stays_open (omega arith);
    }

pub returns-in_err-read_on-clause-flushed : goal.returns-in_err-read_on-clause-flushed
returns-in_err-read_on-clause-flushed g c = flushed_then 0 _ _ _ c.loop-size.invariant.flushed c.read_on.ensures.flushed

pub returns-then-branch-eq0-clause-flushed : goal.returns-then-branch-eq0-clause-flushed
returns-then-branch-eq0-clause-flushed g c = flushed_then 0 _ _ _ c.loop-size.invariant.flushed c.read_on.ensures.flushed
