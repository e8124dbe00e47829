use Rattle.av_vma.specs.Areas.{area_of}
use Rattle.av_merge.specs.Pages.{pages_by}
use Rattle.av_merge.proofs.SplittingEmpty.{all_empty}
use Rattle.av_merge.proofs.splitting.unmap_all.Goals as goal

pub returns-clause-empty : goal.returns-clause-empty
returns-clause-empty c =
    let p = c.requires.stands.0 in
    all_empty p (area_of c.take_out.new.areas) c.take_out.new.tree (pages_by (area_of c.args.areas.now) c.args.tree.now)
    (c.take_out.ensures.stands p c.requires.stands.1).areas c.take_out.ensures.pages
