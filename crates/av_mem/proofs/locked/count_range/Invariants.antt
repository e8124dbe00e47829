use Rattle.std.proofs.Common.{◌≡◌, ℕ, ◌+◌, ◌-◌, ◌≤◌}
use Rattle.av_mem.specs.Locked.{IsCounted, locks_in}
use Rattle.av_mem.specs.Mem.{locks_of, view}
use Rattle.av_mem.proofs.locked.count_range.Given as goal

abbrev pub invariant-loop-page : goal.invariant-loop-page
invariant-loop-page l = record {
  low : l.from ≤ l.next;
  all : (l.next - l.from) + (l.past - l.next) ≡ l.past - l.from;
  locks : (f : ℕ) → IsCounted l.way (locks_of l.fn.mem f) (locks_of l.mem f)
      (locks_in l.fn.mem l.process l.from (l.next - l.from) f);
  same : view l.mem ≡ view l.fn.mem;
  rest : l.mem ≡ record l.fn.mem { frames = l.mem.frames };
}

abbrev pub decreases-loop-page : goal.decreases-loop-page
decreases-loop-page l = l.past - l.next
