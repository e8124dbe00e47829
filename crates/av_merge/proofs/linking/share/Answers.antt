use Rattle.std.proofs.Common.{sym, ◌∙◌}
use Rattle.av_vma.specs.Areas.{area_of}
use Rattle.av_anon.specs.Anons.{family}
use Rattle.av_anon.specs.Spans.{spans_of}
use Rattle.av_merge.proofs.Kin.{keeps_clone}
use Rattle.av_merge.proofs.LinkingLaws.{none_of, ok_three}
use Rattle.av_merge.proofs.linking.share.Goals as goal

pub returns-clause-kin : goal.returns-clause-kin
returns-clause-kin c =
    ok_three c.clone_chain.result c.clone_chain.ensures.areas c.clone_chain.ensures.family c.clone_chain.ensures.spans (λ now is spanned.
    keeps_clone (area_of c.args.areas.now) (area_of c.clone_chain.new.areas) (family c.args.anons.now)
    (spans_of c.args.anons.now) c.args.number c.requires.order
    (family c.clone_chain.new.self) (spans_of c.clone_chain.new.self) spanned c.args.other c.get.result c.get.ensures
    (none_of c.get.result.anon (sym c.is_some.ensures ∙ c.if-is_some.false)) now is)
