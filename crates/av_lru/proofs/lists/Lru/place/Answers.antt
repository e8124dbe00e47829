use Rattle.av_lru.proofs.Steps.{place_is, never_both}
use Rattle.av_lru.proofs.lists.Lru.place.Goals as goal

pub returns-clause-place : goal.returns-clause-place
returns-clause-place c = place_is _ _ _ _ c.self.invariant _ c.self.view_is c.args.frame _ c.requires c.index.ensures

pub returns-clause-never_both : goal.returns-clause-never_both
returns-clause-never_both c = never_both _ _ _ _ c.self.invariant _ c.self.view_is c.args.frame
