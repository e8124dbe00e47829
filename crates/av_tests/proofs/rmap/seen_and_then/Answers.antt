use Rattle.av_tests.proofs.RmapLaws.{as_many_as_before}
use Rattle.av_tests.proofs.rmap.seen_and_then.Goals as goal

pub clear_seen-after-requires-clause-maps : goal.clear_seen-after-requires-clause-maps
clear_seen-after-requires-clause-maps g c = as_many_as_before (g.K.Look.view c.args.look.now) (g.K.Look.view c.clear_seen-before.new.look)
    c.args.frame c.args.maps c.clear_seen-before.ensures.cleared c.requires.maps
