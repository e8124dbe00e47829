use Rattle.av_tests.proofs.swapcache.goes_on_and_over.Goals as goal

pub flies_over-requires : goal.flies_over-requires
flies_over-requires g c = (c.in_ok-turn_on.ensures c.if-not-branch.false).uncached
