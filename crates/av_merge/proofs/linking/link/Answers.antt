use Rattle.std.proofs.Common.{rules}
use Rattle.av_vma.specs.Areas.{area_of}
use Rattle.av_anon.specs.Anons.{family}
use Rattle.av_anon.specs.Spans.{spans_of}
use Rattle.av_merge.proofs.LinkingLaws.{linked_keeps, ok_three}
use Rattle.av_merge.proofs.linking.link.Goals as goal

pub returns-clause-kin : goal.returns-clause-kin
returns-clause-kin c =
    ok_three c.clone_chain-result.result c.clone_chain-result.ensures.areas c.clone_chain-result.ensures.family
    c.clone_chain-result.ensures.spans (λ now is spanned.
    linked_keeps (area_of c.args.areas.now) (area_of c.clone_chain-result.new.areas) (area_of c.change.new.self) (family c.args.anons.now)
    (family c.clone_chain-result.new.self)
    (spans_of c.args.anons.now) (spans_of c.clone_chain-result.new.self) c.args.number c.args.area c.requires.order spanned c.change.ensures _
    c.requires.there (search rules) now is)
