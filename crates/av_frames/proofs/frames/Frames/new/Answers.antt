use Rattle.av_frames.proofs.Shown.{seen_fresh}
use Rattle.av_frames.proofs.frames.Frames.new.Goals as goal

pub returns : goal.returns
returns c = rw (
  c.in_ok-new.ensures,
  c.in_ok-new-2.ensures,
  c.in_ok-fill.ensures,
  c.in_ok-fill-2.ensures,
  c.in_ok-fill-3.ensures,
  c.in_ok-new-3.ensures,
) (seen_fresh c.args.count)
