use Rattle.std.proofs.Common.{None, refl, ap, ◌∙◌}
use Rattle.std.proofs.lemmas.Option.{none-some}
use Rattle.av_vma.specs.Areas.{area_of}
use Rattle.av_anon.specs.Anons.{family, own_of}
use Rattle.av_anon.specs.Spans.{spans_of}
use Rattle.av_merge.proofs.Kin.{keeps_bare, keeps_trans}
use Rattle.av_merge.proofs.LinkingLaws.{bare_now}
use Rattle.av_merge.proofs.linking.take.Goals as goal

pub returns-clause-kin : goal.returns-clause-kin
returns-clause-kin c =
    let old = area_of c.args.areas.now in
    let mid = area_of c.leave.new.areas in
    let f = family c.leave.new.anons in
    let spans = spans_of c.leave.new.anons in
    let left = c.leave.ensures.kin in
    keeps_trans old mid (area_of c.remove.new.self) (family c.args.anons.now) f f spans spans left
    (keeps_bare mid (area_of c.remove.new.self) f spans c.args.number left.order None
    (ap own_of (c.leave.ensures.areas c.args.number) ∙ bare_now old c.args.number) refl (λ A e. absurd (none-some A e)) c.remove.ensures)
