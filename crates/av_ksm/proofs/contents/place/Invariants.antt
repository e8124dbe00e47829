use Rattle.std.proofs.Common.{◌≡◌, ◌-◌, ◌<◌, ◌≤◌, ℕ, length, get_or}
use Rattle.std.specs.declared.cmp.Ordering.TheVariants.{Less, Greater}
use Rattle.av_frames.specs.Store.{shown}
use Rattle.av_ksm.specs.Contents.{cmp_frames}
use Rattle.av_ksm.proofs.contents.place.Given as goal

-- what lies before is less, and what lies from `past` on is greater
abbrev pub invariant-loop-from : goal.invariant-loop-from
invariant-loop-from l = record {
  ordered : l.from ≤ l.past;
  within : l.past ≤ length l.row;
  less : (k : ℕ) → k < l.from → cmp_frames (shown l.frames).bytes (get_or l.row k 0) l.frame ≡ Less;
  greater : (k : ℕ) → l.past ≤ k → k < length l.row → cmp_frames (shown l.frames).bytes (get_or l.row k 0) l.frame ≡ Greater;
}

abbrev pub decreases-loop-from : goal.decreases-loop-from
decreases-loop-from l = l.past - l.from
