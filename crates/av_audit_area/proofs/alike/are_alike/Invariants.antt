use Rattle.std.proofs.Common.{◌-◌}
use Rattle.av_audit_ranges.specs.Ranges.{marks_at}
use Rattle.av_audit_area.specs.Alike.{SaySame}
use Rattle.av_audit_area.proofs.alike.are_alike.Given as goal

abbrev pub invariant-loop-page : goal.invariant-loop-page
invariant-loop-page l = SaySame (marks_at l.one) (marks_at l.other) l.page

abbrev pub decreases-loop-page : goal.decreases-loop-page
decreases-loop-page l = l.end - l.page
