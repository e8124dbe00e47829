use Rattle.std.proofs.Common.{ap, ◌∙◌, max}
use Rattle.av_arena.specs.Arena.{store_of}
use Rattle.av_interval.specs.Roots.{root_of, top_of}
use Rattle.av_arena.specs.Tree.{tree_at, entries}
use Rattle.av_interval.proofs.SpansLemmas.{empty_forest}
use Rattle.av_arena.proofs.TreeLemmas.{none_tree}
use Rattle.av_interval.proofs.spans.Spans.new.Goals as goal
use Rattle.av_interval.specs.Span.{key}
use Rattle.av_interval.specs.Span.{last_of, max_laws}

pub invariant_of-result : goal.invariant_of-result
invariant_of-result c = empty_forest (store_of c.new.result) (root_of c.new-2.result) c.new.ensures c.new-2.ensures

pub returns : goal.returns
returns c = λ a. ap (λ o. entries (tree_at (store_of c.new.result) (top_of o))) (c.new-2.ensures a)
    ∙ ap entries (none_tree key 0 max last_of max_laws (store_of c.new.result))
