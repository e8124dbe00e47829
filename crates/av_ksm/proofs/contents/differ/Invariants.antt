use Rattle.std.proofs.Common.{◌≡◌, ◌<◌, ℕ, get_or}
use Rattle.av_ksm.proofs.contents.differ.Given as goal

abbrev pub invariant-loop-i : goal.invariant-loop-i
invariant-loop-i l = l.differences ≡ 0 → (k : ℕ) → k < l.i → get_or l.x k 0 ≡ get_or l.y k 0
