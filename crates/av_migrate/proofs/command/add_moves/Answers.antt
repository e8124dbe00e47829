use Rattle.av_migrate.proofs.CommandLaws.{moves-added}
use Rattle.av_migrate.proofs.command.add_moves.Goals as goal

pub returns-clause-adds : goal.returns-clause-adds
returns-clause-adds g c = moves-added c.compact_frames.result c.args.mem.now c.compact_frames.new.mem c.args.notes.now c.compact_frames.new.notes _ _
    c.compact_frames.ensures.compacts
