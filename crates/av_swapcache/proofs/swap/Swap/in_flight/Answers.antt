use Rattle.std.proofs.Common.{false, sym, ap, ◌∙◌}
use Rattle.av_swapcache.specs.contracts.swap.Swap.{the_view}
use Rattle.av_frames.proofs.Free.{any_default}
use Rattle.av_swapcache.specs.Swap.{is_writing}
use Rattle.av_swapcache.proofs.Whole.{flies_is}
use Rattle.av_swapcache.proofs.swap.Swap.in_flight.Goals as goal

pub returns-in-Some : goal.returns-in-Some
returns-in-Some c =
    let w = c.self.invariant in
    flies_is (the_view c.self.inside) c.args.self.now _ _ c.args.slot c.self.view_is w c.index.result.now
    (c.index.ensures ∙ any_default c.self.inside.writing.items c.in-Some.frame c.index.result.now false
    (w.in_range c.args.slot c.in-Some.frame (sym c.in-Some.ensures.frame))
    ∙ ap (is_writing c.self.inside.writing.items) c.in-Some.ensures.frame)

pub returns-in-None : goal.returns-in-None
returns-in-None c = flies_is (the_view c.self.inside) c.args.self.now _ _ c.args.slot c.self.view_is c.self.invariant false
    (ap (is_writing c.self.inside.writing.items) c.in-None.ensures.frame)
