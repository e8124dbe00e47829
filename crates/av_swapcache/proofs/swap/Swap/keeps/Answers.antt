use Rattle.av_swapcache.specs.contracts.swap.Swap.{the_view}
use Rattle.av_swapcache.proofs.Fits.{fits_now}
use Rattle.av_swapcache.proofs.swap.Swap.keeps.Goals as goal

pub returns : goal.returns
returns c = fits_now (the_view c.self.inside) c.args.self.now _ _ c.self.view_is c.self.invariant c.keep.ensures
