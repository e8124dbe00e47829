use Rattle.std.proofs.Common.{take, ap, subst, ◌∙◌}
use Rattle.av_interval.specs.Batch.{overlaps_past}
use Rattle.av_interval.specs.Search.{IsOrdered}
use Rattle.av_rmap.specs.View.{View}
use Rattle.av_rmap.proofs.stores.StoresMutLook.next.Goals as goal

pub returns-clause-found : goal.returns-clause-found
returns-clause-found g c = c.next.ensures.found
    ∙ ap (λ (v : View). take 64 (overlaps_past c.args.after c.args.index (v.spans c.args.anon))) c.stores.ensures

pub returns-clause-ordered : goal.returns-clause-ordered
returns-clause-ordered g c = subst (λ (v : View). IsOrdered (v.spans c.args.anon)) c.stores.ensures c.next.ensures.ordered
