use Rattle.std.proofs.Common.{◌≡◌, ◌<◌, [], List, length, get_or, set, sym, ap, subst, ◌∙◌}
use Rattle.av_base.specs.Items.{Item}
use Rattle.av_rmap.specs.Items.{shown}
use Rattle.av_rmap.specs.ItemLists.{AreKept}
use Rattle.av_rmap.proofs.ItemLemmas.{lists-swap, kept-moved, shown-moved}
use Rattle.av_rmap.proofs.items.Items.rename.Goals as goal

from_below : (c : goal.After-swap) → c.args.from < length c.self.inside.lists.items
from_below c = subst (λ (v : List (List Item)). c.args.from < length v) (sym c.self.view_is) c.requires.in_range.0

to_below : (c : goal.After-swap) → c.args.to < length c.self.inside.lists.items
to_below c = subst (λ (v : List (List Item)). c.args.to < length v) (sym c.self.view_is) c.requires.in_range.1

swapped : (c : goal.After-swap) → c.swap.new.self.items
    ≡ set (set c.self.inside.lists.items c.args.from (get_or c.self.inside.lists.items c.args.to [])) c.args.to
    (get_or c.self.inside.lists.items c.args.from [])
swapped c = c.swap.ensures.items ∙ lists-swap c.self.inside.lists.items c.args.from c.args.to (from_below c) (to_below c)

pub invariant_of-self : goal.invariant_of-self
invariant_of-self c = subst (λ (lists : List (List Item)). AreKept lists c.self.inside.merged) (sym (swapped c))
    (kept-moved c.self.inside.lists.items c.args.from c.args.to c.self.inside.merged (from_below c) (to_below c)
    (ap (λ (v : List (List Item)). get_or v c.args.to []) c.self.view_is ∙ c.requires.not_merged) c.self.invariant)

pub returns : goal.returns
returns c = rw (← c.self.view_is) (ap shown (swapped c)
    ∙ shown-moved c.self.inside.lists.items c.args.from c.args.to (from_below c) (to_below c)
    (ap (λ (v : List (List Item)). get_or v c.args.to []) c.self.view_is ∙ c.requires.not_merged))
