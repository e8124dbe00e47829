use Rattle.std.proofs.Common.{◌≡◌, map, true, Some}
use Rattle.std.specs.List.Sorted.{IsStrictlySortedBy}
use Rattle.std.specs.Map.{keys_of, values_of}
use Rattle.std.specs.Option.{IfSome}
use Rattle.std.specs.Ordering.{nat_cmp}
use Rattle.std.specs.Prelude.{option_map}
use Rattle.av_plain.specs.Ledger.{same_slot}
use Rattle.av_audit_queue.specs.Line.{member_at}
use Rattle.av_audit_pages.specs.Entries.{changed_pair}
use Rattle.av_audit_pages.specs.declared.changes.PairChange.TheVariants.{Stale}
use Rattle.av_audit_pages.proofs.PlacedLaws.{HoldsBefore, ranks_left}
use Rattle.av_audit_pages.proofs.pairs.Pairs.set_stale.Given as goal

abbrev pub invariant-loop-first : goal.invariant-loop-first
invariant-loop-first l = record {
  rising : IsStrictlySortedBy nat_cmp (keys_of l.self);
  there : IfSome l.first (λ e. (member_at l.self e.0 ≡ Some e.1) × (same_slot l.slot e.1.slot ≡ true));
  before : HoldsBefore (λ r. option_map (changed_pair (Stale l.slot l.stale)) (member_at l.self r) ≡ member_at l.self r) l.first;
  alike : map (changed_pair (Stale l.slot l.stale)) (values_of l.self) ≡ map (changed_pair (Stale l.slot l.stale)) (values_of l.fn.self);
}

abbrev pub decreases-loop-first : goal.decreases-loop-first
decreases-loop-first l = ranks_left l.self l.first
