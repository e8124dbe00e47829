use Rattle.std.proofs.Common.{◌≡◌, ◌-◌, get_or, subst}
use Rattle.av_swapmap.specs.Counts.{Store, shown}
use Rattle.av_swapmap.specs.Digits.{digit_of}
use Rattle.av_swapmap.proofs.Places.{kept_at, past_is}
use Rattle.av_swapmap.proofs.counts.Counts.digit.Goals as goal

pub returns-in-Some : goal.returns-in-Some
returns-in-Some c = subst
    (λ (v : Store). get_or c.in-Some.digits.now (c.args.i - 1) 0 ≡ digit_of ((shown v).count c.args.page) c.args.i) c.self.view_is
    (kept_at _ c.args.i _ _ c.in-Some.ensures.value (c.self.invariant.slots c.args.page) c.requires.from_one c.if-i-le4.true)

pub returns-in_default : goal.returns-in_default
returns-in_default c = subst (λ (v : Store). 0 ≡ digit_of ((shown v).count c.args.page) c.args.i) c.self.view_is
    (past_is _ c.args.i (c.self.invariant.slots c.args.page).fits c.if-i-le4.false)
