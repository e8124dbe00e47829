use Rattle.std.proofs.Common.{ℕ, ◌+◌, ◌*◌, ap, ◌∙◌, sym}
use Rattle.av_swapdev.specs.Header.{number_at, is_out}
use Rattle.av_swapdev.proofs.HeaderNamed.{any_passed, is_inside}
use Rattle.av_swapdev.proofs.header.has_wrong.Goals as goal

pub loop-place-preserved : goal.loop-place-preserved
loop-place-preserved c =
    let inside = sym (ap (is_out c.args.last) c.bad_at-bad.ensures)
    ∙ is_inside c.args.last c.bad_at-bad.result c.if-bad-eq0.false c.if-bad-last.false in
    any_passed (is_out c.args.last) (λ (i : ℕ). number_at c.args.order c.args.page.now (1536 + 4 * i)) c.loop-place.place c.args.count _
    c.loop-place-test.true
    inside c.loop-place.invariant
