use Rattle.std.proofs.Common.{not, sym, ap, ◌∙◌, arith}
use Rattle.av_clusters.proofs.Pages.{none_of}
use Rattle.av_clusters.proofs.Marks.{none_marked, mark_one}
use Rattle.av_clusters.proofs.clusters.lowest_of_group.Goals as goal

pub returns-then-full_groups-group-clause-lowest : goal.returns-then-full_groups-group-clause-lowest
returns-then-full_groups-group-clause-lowest c =
    sym (none_marked 16384 c.args.pages.now c.args.full_groups.now c.args.group c.requires.groups c.if-full_groups-group.true)

pub returns-then-is_none-clause-groups : goal.returns-then-is_none-clause-groups
returns-then-is_none-clause-groups c = mark_one 16384 c.args.pages.now c.args.full_groups.now c.args.group (omega arith) c.requires.groups
    (sym c.lowest_of_clusters-page.ensures.lowest
    ∙ none_of c.lowest_of_clusters-page.result (c.is_none.ensures ∙ ap not c.if-is_none.true))
