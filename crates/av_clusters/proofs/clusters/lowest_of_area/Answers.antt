use Rattle.std.proofs.Common.{◌+◌, ◌*◌, length, sym, ◌∙◌, arith}
use Rattle.av_clusters.specs.Clusters.{group_size}
use Rattle.av_clusters.proofs.Pages.{lowest_of_whole, passed, none_in_whole}
use Rattle.av_clusters.proofs.clusters.lowest_of_area.Goals as goal

pub returns-then-is_some-clause-lowest : goal.returns-then-is_some-clause-lowest
returns-then-is_some-clause-lowest c = lowest_of_whole c.args.pages.now 0 (length c.args.pages.now) (group_size * c.loop-group.group)
    (group_size * c.loop-group.group + group_size) _ c.lowest_of_group-page.ensures.lowest
    (sym c.is_some.ensures ∙ c.if-is_some.true) (omega arith) (λ q a b. b) c.loop-group.invariant.2

pub loop-group-preserved : goal.loop-group-preserved
loop-group-preserved c = (
  c.lowest_of_group-page.ensures.full,
  c.lowest_of_group-page.ensures.groups,
  passed c.args.pages.now 0 (group_size * c.loop-group.group) (group_size * c.loop-group.group + group_size) _ _
      c.lowest_of_group-page.ensures.lowest (sym c.is_some.ensures ∙ c.if-is_some.false) (omega arith) c.loop-group.invariant.2,
)

pub returns-clause-lowest : goal.returns-clause-lowest
returns-clause-lowest c = sym (none_in_whole c.args.pages.now 0 (length c.args.pages.now) (group_size * c.loop-group.group)
    (λ q a b. omega arith) c.loop-group.invariant.2)
