use Rattle.av_vma.specs.Areas.{area_of}
use Rattle.av_anon.specs.Anons.{family}
use Rattle.av_anon.specs.Spans.{spans_of}
use Rattle.av_merge.proofs.LinkingLaws.{ok_both, resized_keeps}
use Rattle.av_merge.proofs.linking.put.Goals as goal

pub returns-clause-kin : goal.returns-clause-kin
returns-clause-kin c =
    ok_both c.resize-result.result c.resize-result.ensures.areas c.resize-result.ensures.spans (λ now spanned.
    resized_keeps (area_of c.args.areas.now) (area_of c.resize-result.new.areas) (area_of c.change-2.new.self) (family c.args.anons.now)
    (family c.resize-result.new.self)
    (spans_of c.args.anons.now) (spans_of c.resize-result.new.self) c.args.number c.args.area c.requires.order spanned c.change-2.ensures
    c.requires.whole
    c.requires.was now c.resize-result.ensures.family)
