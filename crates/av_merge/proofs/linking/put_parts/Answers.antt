use Rattle.std.proofs.lemmas.Result.{on_ok_weaker}
use Rattle.av_vma.specs.Areas.{area_of}
use Rattle.av_anon.specs.Anons.{family}
use Rattle.av_anon.specs.Spans.{spans_of}
use Rattle.av_merge.proofs.Kin.{keeps_trans}
use Rattle.av_merge.proofs.linking.put_parts.Goals as goal

pub returns-in-Ok-clause-kin : goal.returns-in-Ok-clause-kin
returns-in-Ok-clause-kin c = on_ok_weaker c.put.result
    (λ kin. keeps_trans (area_of c.args.areas.now) (area_of c.link.new.areas) (area_of c.put.new.areas) (family c.args.anons.now)
    (family c.link.new.anons)
    (family c.put.new.anons) (spans_of c.link.new.anons) (spans_of c.put.new.anons) c.in-Ok.ensures.kin kin)
    c.put.ensures.kin
