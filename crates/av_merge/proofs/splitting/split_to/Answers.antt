use Rattle.av_vma.specs.Areas.{area_of}
use Rattle.av_merge.specs.Pages.{pages_by}
use Rattle.av_merge.proofs.SplittingLaws.{ends_uncut, has_before}
use Rattle.av_merge.proofs.PlacingMaps.{laid_of}
use Rattle.av_merge.proofs.splitting.split_to.Goals as goal

pub returns-then-get-at-clause-pages : goal.returns-then-get-at-clause-pages
returns-then-get-at-clause-pages c =
    let areas = area_of c.args.areas.now in
    let spans = c.args.tree.now in
    let before = has_before c.requires.stands.0 c.args.area c.args.at areas spans c.get.result c.requires.stands.1 c.requires.inside c.get.ensures in
    ends_uncut (pages_by areas spans) c.args.at c.get.result (laid_of c.requires.stands.0 areas spans c.requires.stands.1) before.0 before.1
    c.if-get-at.true
