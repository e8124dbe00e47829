use Rattle.av_swapcache.specs.contracts.area.Area.{the_view}
use Rattle.av_swapcache.proofs.AreaLaws.{is_kept}
use Rattle.av_swapcache.proofs.area.Area.keeps.Goals as goal

pub returns-clause-kept : goal.returns-clause-kept
returns-clause-kept c = is_kept (the_view c.self.inside) c.args.self.now c.self.view_is c.self.invariant
