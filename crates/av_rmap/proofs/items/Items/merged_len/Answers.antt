use Rattle.std.proofs.Common.{◌≡◌, [], List, get_or, length, subst, ◌∙◌}
use Rattle.std.specs.List.{range_with_len}
use Rattle.av_base.specs.Items.{Item}
use Rattle.av_base.specs.Words.{how_many}
use Rattle.av_base.proofs.Counted.{count-places}
use Rattle.av_rmap.specs.Items.{is_merged}
use Rattle.av_rmap.proofs.items.Items.merged_len.Goals as goal

pub returns : goal.returns
returns c = subst (λ (v : List (List Item)). c.self.inside.merged ≡ how_many (λ f. is_merged (get_or v f [])) (range_with_len 0 (length v))) c.self.view_is
    (c.self.invariant.counted ∙ count-places is_merged c.self.inside.lists.items [])
