use Rattle.std.proofs.Common.{◌≡◌, ℕ, ◌<◌, ◌≤◌, Bool, ◌&&◌, ◌∙◌, ap, arith, is_some}
use Rattle.std.specs.Prelude.{nat_le}
use Rattle.std.proofs.lemmas.Bool.Decides.{nat_tests}
use Rattle.av_audit_index.proofs.UsedLaws.{ends-lie}
use Rattle.av_audit_index.proofs.holders.Holders.are_within.Goals as goal

from-first : (from first : ℕ) (b : Bool) → from ≤ first → b ≡ (nat_le from first && b)
from-first from first b h = grind (arith, nat_tests)

before-from : (from first : ℕ) (b : Bool) → first < from → nat_le from first ≡ (nat_le from first && b)
before-from from first b h = grind (arith, nat_tests)

pub returns-then-from-first : goal.returns-then-from-first
returns-then-from-first c =
    from-first c.args.from c.in-Some-Some.first.now _ c.if-from-first.true
    ∙ ends-lie _ _ c.self.view_is c.args.from c.args.end c.in-Some-Some.first.now c.in-Some-Some.last.now
    (ap is_some c.in-Some-Some.ensures.value) (ap is_some c.in-Some-Some.ensures'.value)
    c.in-Some-Some.ensures.least c.in-Some-Some.ensures'.greatest

pub returns-else-from-first : goal.returns-else-from-first
returns-else-from-first c =
    before-from c.args.from c.in-Some-Some.first.now _ c.if-from-first.false
    ∙ ends-lie _ _ c.self.view_is c.args.from c.args.end c.in-Some-Some.first.now c.in-Some-Some.last.now
    (ap is_some c.in-Some-Some.ensures.value) (ap is_some c.in-Some-Some.ensures'.value)
    c.in-Some-Some.ensures.least c.in-Some-Some.ensures'.greatest
