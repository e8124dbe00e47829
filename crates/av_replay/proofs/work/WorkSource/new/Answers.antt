use Rattle.std.proofs.Common.{false, Some}
use Rattle.av_replay.proofs.Works.{whole-load}
use Rattle.av_replay.proofs.work.WorkSource.new.Goals as goal

pub returns : goal.returns
returns g c =
    let is = whole-load c.args.areas c.args.seed c.args.lines c.turn_on_lines.result.now c.turn_on_lines.ensures in
    λ i. record { left = Some (is i); has_told_end = false; reads = 0; failures = 0 }
