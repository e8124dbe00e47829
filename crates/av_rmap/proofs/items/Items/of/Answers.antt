use Rattle.std.proofs.Common.{◌<◌, List, length, sym, subst, ◌∙◌}
use Rattle.av_base.specs.Items.{Item}
use Rattle.av_rmap.specs.Items.{AreOnce}
use Rattle.av_rmap.proofs.ItemLemmas.{item-at}
use Rattle.av_rmap.proofs.items.Items.of.Goals as goal

pub returns-clause-once : goal.returns-clause-once
returns-clause-once c =
    let less = subst (λ (v : List (List Item)). c.args.frame < length v) (sym c.self.view_is) c.requires in
    subst AreOnce (sym (c.items.ensures ∙ c.index.ensures ∙ item-at c.self.inside.lists.items c.args.frame c.index.result.now less))
    (c.self.invariant.once c.args.frame)
