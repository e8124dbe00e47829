use Rattle.std.proofs.Common.{◌≡◌, ℕ, ◌-◌, ◌<◌, ◌≤◌, true}
use Rattle.av_spaces.specs.Spaces.{is_taken}
use Rattle.av_place.specs.Advice.{is_unlocked}
use Rattle.av_place.proofs.advice.first_locked.Given as goal

abbrev pub invariant-loop-page : goal.invariant-loop-page
invariant-loop-page l = record {
  low : l.from ≤ l.page;
  high : l.page ≤ l.past;
  there : l.page < l.past → is_taken l.spaces.processes l.process l.page ≡ true;
  each : (o : ℕ) → l.from ≤ o → o < l.page → is_unlocked l.spaces.processes l.process o ≡ true;
}

abbrev pub decreases-loop-page : goal.decreases-loop-page
decreases-loop-page l = l.past - l.page
