use Rattle.std.proofs.Common.{arith}
use Rattle.av_swapcache.specs.contracts.swap.Swap.{the_view}
use Rattle.av_swapcache.proofs.Whole.{off_shown, off_whole, on_below}
use Rattle.av_swapcache.proofs.swap.Swap.remove.Goals as goal

pub index_mut-requires : goal.index_mut-requires
index_mut-requires c =
    let below = on_below (the_view c.self.inside) c.args.self.now c.args.area c.self.view_is c.requires.on in omega (arith, below)

pub invariant_of-self : goal.invariant_of-self
invariant_of-self c =
    off_whole (the_view c.self.inside) c.args.self.now c.args.area c.self.view_is c.requires.on c.requires.unused _ _ c.self.invariant

pub returns : goal.returns
returns c = off_shown (the_view c.self.inside) c.args.self.now c.args.area c.self.view_is c.requires.on c.requires.unused
