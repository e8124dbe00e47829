use Rattle.av_vma.specs.Areas.{area_of}
use Rattle.av_merge.specs.Kin.{lengths}
use Rattle.av_merge.specs.Pages.{pages_by}
use Rattle.av_merge.proofs.JoiningLaws.{differ_apart, not_joined}
use Rattle.av_merge.proofs.joining.join_unless.Goals as goal

pub returns-then-differs-clause-pages : goal.returns-then-differs-clause-pages
returns-then-differs-clause-pages c =
    let on = pages_by (area_of c.args.areas.now) c.args.tree.now in
    not_joined (lengths c.args.areas.now c.args.anons.now) c.args.at on
    (differ_apart (lengths c.args.areas.now c.args.anons.now) c.args.at on (c.requires.differ c.if-differs.true))
