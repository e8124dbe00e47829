use Rattle.std.proofs.Common.{ℕ, ◌+◌, ◌*◌, eqb, ap, ◌∙◌, sym}
use Rattle.av_swapdev.specs.Header.{number_at}
use Rattle.av_swapdev.proofs.HeaderNamed.{any_passed, is_other}
use Rattle.av_swapdev.proofs.header.is_named.Goals as goal

pub loop-place-preserved : goal.loop-place-preserved
loop-place-preserved c =
    let other = sym (ap (eqb c.args.m) c.bad_at.ensures) ∙ is_other c.args.m c.bad_at.result c.if-m-bad_at.false in
    any_passed (eqb c.args.m) (λ (i : ℕ). number_at c.args.order c.args.page.now (1536 + 4 * i)) c.loop-place.place c.args.count _
    c.loop-place-test.true other c.loop-place.invariant
