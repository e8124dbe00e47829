use Rattle.std.proofs.Common.{◌≡◌, ℕ, ◌-◌, ◌<◌, ◌≤◌, length, get_or}
use Rattle.av_swapdev.proofs.mem_dev.invert.Given as goal

abbrev pub invariant-loop-byte : goal.invariant-loop-byte
invariant-loop-byte l = ((k : ℕ) → k < l.byte-index → get_or l.page k 0 ≡ 255 - get_or l.fn.page k 0)
    × ((k : ℕ) → l.byte-index ≤ k → get_or l.page k 0 ≡ get_or l.fn.page k 0) × (length l.page ≡ 4096)
