use Rattle.std.proofs.Common.{◌≡◌, ◌&&◌, true, false, Some}
use Rattle.std.specs.Option.{IfSome}
use Rattle.av_plain.specs.Ledger.{same_slot}
use Rattle.av_audit_queue.specs.Line.{member_at}
use Rattle.av_audit_pages.specs.Pairs.{passes_at}
use Rattle.av_audit_pages.proofs.PlacedLaws.{HoldsBefore, ranks_left}
use Rattle.av_audit_pages.proofs.pairs.Pairs.is_stale.Given as goal

abbrev pub invariant-loop-first : goal.invariant-loop-first
invariant-loop-first l = record {
  there : IfSome l.first (λ e. (member_at l.self e.0 ≡ Some e.1) × (same_slot l.slot e.1.slot ≡ true));
  before : HoldsBefore (λ r. passes_at (λ c. same_slot l.slot c.slot && c.stale) l.self r ≡ false) l.first;
}

abbrev pub decreases-loop-first : goal.decreases-loop-first
decreases-loop-first l = ranks_left l.self l.first
