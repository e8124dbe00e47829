use Rattle.std.proofs.Common.{◌∙◌, refl}
use Rattle.av_replay.proofs.Endings.{nothing_done, replays_last}
use Rattle.av_replay.proofs.replay.replay.Goals as goal

pub returns-in_default : goal.returns-in_default
returns-in_default g c = record { replayed = nothing_done _ _; kept = refl }

pub returns : goal.returns
returns g c =
    let d = c.do_lines-status.ensures in
    let f = c.flush_last.ensures in
    record {
      replayed = replays_last c.args.kernel.now.frames (g.P.Ports.view c.args.ports.now) (g.P.Ports.view c.do_lines-status.new.ports)
          (g.P.Ports.view c.flush_last.new.ports) c.do_lines-status.new.kernel c.do_lines-status.result c.flush_last.result f.only f.last d.headline
          d.unfailed d.memory d.flushed d.none_kept;
      kept = f.kept ∙ d.kept;
    }
