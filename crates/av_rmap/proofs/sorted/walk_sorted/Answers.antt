use Rattle.std.proofs.Common.{◌++◌, ap, ◌∙◌}
use Rattle.av_base.specs.Keys.{same_key}
use Rattle.av_base.specs.Words.{how_many}
use Rattle.av_rmap.specs.Walk.{AreItsEntries, names}
use Rattle.av_rmap.proofs.SortedLemmas.{many-in-any-order, sorted-rise, at-most-once}
use Rattle.av_rmap.proofs.sorted.walk_sorted.Goals as goal

pub returns-clause-entries : goal.returns-clause-entries
returns-clause-entries g c = λ k.
    many-in-any-order (same_key k) c.walk.new.into.items c.sort_unstable.new.self.items c.sort_unstable.ensures.permutation
    ∙ ap (how_many (same_key k)) (c.walk.ensures.entries.1 ∙ ap (λ xs. xs ++ c.walk.ensures.entries.0) c.in_ok-keys.ensures.items)
    ∙ c.walk.ensures.entries.2 k

pub returns-clause-rising : goal.returns-clause-rising
returns-clause-rising g c =
    let view = g.K.Look.view c.args.look.now in
    let its : AreItsEntries view (names c.args.target) c.sort_unstable.new.self.items = returns-clause-entries g c in
    sorted-rise c.sort_unstable.new.self.items c.sort_unstable.ensures.sorted
    (at-most-once view (names c.args.target) c.sort_unstable.new.self.items its)
