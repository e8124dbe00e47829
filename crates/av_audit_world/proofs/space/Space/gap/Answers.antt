use Rattle.std.proofs.Common.{subst}
use Rattle.av_vma.specs.Gap.{IsGap}
use Rattle.av_audit_ranges.specs.Ranges.{marks_at}
use Rattle.av_audit_world.proofs.KindLaws.{some-is}
use Rattle.av_audit_world.proofs.space.Space.gap.Goals as goal

pub returns-clause-gap : goal.returns-clause-gap
returns-clause-gap c = λ q h. subst (λ t. IsGap t c.args.n c.gap.result)
    (λ i page. some-is (marks_at c.args.self.now.ranges page) _ (q page) (h.pages page) i) c.gap.ensures.gap
