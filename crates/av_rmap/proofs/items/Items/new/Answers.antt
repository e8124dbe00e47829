use Rattle.std.proofs.Common.{ap, ◌∙◌}
use Rattle.av_rmap.specs.Items.{shown}
use Rattle.av_rmap.proofs.ItemLemmas.{none-kept, none-replicate}
use Rattle.av_rmap.proofs.items.Items.new.Goals as goal

pub invariant_of-result : goal.invariant_of-result
invariant_of-result c = none-kept _ c.args.frames c.ranges.frames.fits c.in_ok-no_lists.ensures

pub returns : goal.returns
returns c = ap shown c.in_ok-no_lists.ensures ∙ none-replicate c.args.frames
