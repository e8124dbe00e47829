use Rattle.std.proofs.Common.{◌∙◌}
use Rattle.std.proofs.lemmas.Result.{on_ok_weaker}
use Rattle.av_vma.specs.Areas.{area_of}
use Rattle.av_merge.specs.Pages.{pages_by}
use Rattle.av_merge.proofs.SplittingLaws.{only_cut}
use Rattle.av_merge.proofs.PlacingMaps.{laid_of}
use Rattle.av_merge.proofs.splitting.split_area.Goals as goal

pub returns-clause-pages : goal.returns-clause-pages
returns-clause-pages c =
    let areas = area_of c.args.areas.now in
    let spans = c.args.tree.now in
    on_ok_weaker c.unmap_within.result
    (λ pages page. pages page ∙ only_cut c.args.at (pages_by areas spans) (laid_of c.requires.stands.0 areas spans c.requires.stands.1) page)
    c.unmap_within.ensures.pages
