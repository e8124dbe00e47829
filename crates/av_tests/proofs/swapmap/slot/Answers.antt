use Rattle.std.proofs.Common.{ℕ, ◌+◌, ◌<◌, ◌^◌, ◌∙◌, sym, subst, arith}
use Rattle.av_tests.proofs.swapmap.slot.Goals as goal

pub add-requires-clause-not_bad : goal.add-requires-clause-not_bad
add-requires-clause-not_bad c = λ i. (c.in_ok-counts.ensures i).bad 0

none : (n : ℕ) → n < 2 ^ 32 → 0 + n < 2 ^ 32
none n h = omega (arith, h)

pub add-requires-clause-room : goal.add-requires-clause-room
add-requires-clause-room c = subst (λ n. n + c.args.entries < 2 ^ 32) (sym (λ i. (c.in_ok-counts.ensures i).count 0))
    (none c.args.entries c.ranges.entries.fits)

pub set_cached-requires-clause-not_bad : goal.set_cached-requires-clause-not_bad
set_cached-requires-clause-not_bad c = (λ i. (c.in_ok-add.ensures i).bad 0) ∙ (λ i. (c.in_ok-counts.ensures i).bad 0)
