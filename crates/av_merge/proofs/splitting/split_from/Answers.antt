use Rattle.av_vma.specs.Areas.{area_of}
use Rattle.av_merge.specs.Pages.{pages_by}
use Rattle.av_merge.proofs.SplittingLaws.{begins_uncut, found, found_inside}
use Rattle.av_merge.proofs.PlacingMaps.{laid_of}
use Rattle.av_merge.proofs.PlacingLaws.{used_at}
use Rattle.av_merge.proofs.splitting.split_from.Goals as goal

pub get-requires : goal.get-requires
get-requires c = record {
  used = used_at c.requires.stands.0 (area_of c.args.areas.now) c.args.tree.now c.args.at c.args.area
      c.requires.stands.1 c.requires.there;
}

pub split_area-requires-clause-inside : goal.split_area-requires-clause-inside
split_area-requires-clause-inside c =
    let areas = area_of c.args.areas.now in
    let spans = c.args.tree.now in
    found_inside c.requires.stands.0 c.args.area c.args.at areas spans c.get.result
    (found c.requires.stands.0 c.args.area c.args.at areas spans c.get.result c.requires.stands.1 c.requires.there c.get.ensures) c.if-get-at.true

pub returns-else-get-at-clause-pages : goal.returns-else-get-at-clause-pages
returns-else-get-at-clause-pages c =
    let areas = area_of c.args.areas.now in
    let spans = c.args.tree.now in
    begins_uncut (pages_by areas spans) c.args.at c.get.result (laid_of c.requires.stands.0 areas spans c.requires.stands.1)
    (found c.requires.stands.0 c.args.area c.args.at areas spans c.get.result c.requires.stands.1 c.requires.there c.get.ensures).here
    c.if-get-at.false
