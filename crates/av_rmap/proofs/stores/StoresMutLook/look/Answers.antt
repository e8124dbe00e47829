use Rattle.std.proofs.Common.{ap, ◌∙◌}
use Rattle.av_rmap.specs.View.{View}
use Rattle.av_rmap.proofs.stores.StoresMutLook.look.Goals as goal

pub returns-clause-entry : goal.returns-clause-entry
returns-clause-entry g c = c.look.ensures.entry ∙ ap (λ (v : View). v.entry c.args.process c.args.page) c.stores.ensures
