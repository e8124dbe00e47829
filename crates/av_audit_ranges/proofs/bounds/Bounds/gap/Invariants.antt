use Rattle.std.proofs.Common.{◌≡◌, ℕ, ◌+◌, ◌<◌, ◌≤◌, None}
use Rattle.av_base.specs.Limits.{low_page, top_page}
use Rattle.av_vma.specs.Gap.{IsRoom}
use Rattle.av_audit_ranges.specs.Ranges.{is_mapped, marks_at}
use Rattle.av_audit_ranges.proofs.bounds.Bounds.gap.Given as goal

-- no page of the hole is mapped, and no room ends above it
abbrev pub invariant-loop-end : goal.invariant-loop-end
invariant-loop-end l = record {
  low : low_page ≤ l.hole;
  order : l.hole ≤ l.end;
  high : l.end ≤ top_page;
  free : (q : ℕ) → l.hole ≤ q → q < l.end → marks_at l.self q ≡ None;
  below : (page : ℕ) → IsRoom (is_mapped l.self) l.n page → page + l.n ≤ l.end;
}

abbrev pub decreases-loop-end : goal.decreases-loop-end
decreases-loop-end l = l.hole
