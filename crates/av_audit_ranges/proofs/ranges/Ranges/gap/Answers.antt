use Rattle.std.proofs.Common.{subst}
use Rattle.std.specs.Prelude.{IfSome}
use Rattle.av_vma.specs.Gap.{IsGap}
use Rattle.av_audit_ranges.specs.Holes.{AreHoles}
use Rattle.av_audit_ranges.specs.Ranges.{is_mapped}
use Rattle.av_audit_ranges.proofs.HolesLaws.{gap-is}
use Rattle.av_audit_ranges.proofs.ranges.Ranges.gap.Goals as goal

pub returns-in-Some-clause-gap : goal.returns-in-Some-clause-gap
returns-in-Some-clause-gap c =
    let b = c.self.inside.bounds in
    subst (λ b. IsGap (is_mapped b) c.args.n c.highest.result) c.self.view_is
    (gap-is (is_mapped b) c.args.n c.in-Some.holes c.highest.result c.requires.some
    (subst (λ o. IfSome o (AreHoles (is_mapped b))) c.in-Some.is c.self.invariant.index) c.highest.ensures)

pub returns-in-None-clause-gap : goal.returns-in-None-clause-gap
returns-in-None-clause-gap c = subst (λ b. IsGap (is_mapped b) c.args.n c.gap.result) c.self.view_is c.gap.ensures.gap
