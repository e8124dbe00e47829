use Rattle.av_vma.specs.Areas.{area_of}
use Rattle.av_anon.specs.Anons.{family}
use Rattle.av_anon.specs.Spans.{spans_of}
use Rattle.av_merge.proofs.Kin.{keeps_unlink}
use Rattle.av_merge.proofs.linking.leave_by.Goals as goal

pub returns-clause-kin : goal.returns-clause-kin
returns-clause-kin g c =
    keeps_unlink (area_of c.args.areas.now) (area_of c.unlink.new.areas) (family c.args.anons.now) (spans_of c.args.anons.now) c.args.number
    c.requires.order
    (family c.unlink.new.self) (spans_of c.unlink.new.self) c.unlink.ensures.spans c.get.result c.get.ensures c.unlink.ensures.areas
    c.unlink.ensures.family
