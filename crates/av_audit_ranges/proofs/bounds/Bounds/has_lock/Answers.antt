use Rattle.std.proofs.Common.{◌≡◌, ℕ, true, false, arith, subst}
use Rattle.std.proofs.lemmas.Bool.Decides.{nat_tests}
use Rattle.av_audit_ranges.specs.Marks.{is_locked}
use Rattle.av_audit_ranges.specs.Ranges.{marks_at}
use Rattle.av_audit_ranges.proofs.CountLaws.{none-locked, some-locked}
use Rattle.av_audit_ranges.proofs.bounds.Bounds.has_lock.Goals as goal

pub returns-clause-some : goal.returns-clause-some
returns-clause-some c = λ is.
    let counted = c.self.invariant.counted in
    subst (λ b. (page : ℕ) × (is_locked (marks_at b page) ≡ true)) c.self.view_is
    (some-locked c.self.inside.map.entries c.self.invariant.rising (grind (arith, nat_tests, is, counted)))

pub returns-clause-none : goal.returns-clause-none
returns-clause-none c = λ is.
    let counted = c.self.invariant.counted in
    subst (λ b. (page : ℕ) → is_locked (marks_at b page) ≡ false) c.self.view_is
    (none-locked c.self.inside.map.entries (grind (arith, nat_tests, is, counted)))
