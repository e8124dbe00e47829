use Rattle.std.proofs.Common.{◌≡◌, filter, length, not}
use Rattle.av_plain.specs.Ledger.{same_slot}
use Rattle.av_audit_pages.proofs.pages.Pages.off_cache.Given as goal

abbrev pub invariant-loop-slot : goal.invariant-loop-slot
invariant-loop-slot l = record {
  entries : l.self.entries ≡ l.fn.self.entries;
  others : filter (λ c. not (same_slot l.slot c.slot)) l.self.cache ≡ filter (λ c. not (same_slot l.slot c.slot)) l.fn.self.cache;
}

abbrev pub decreases-loop-slot : goal.decreases-loop-slot
decreases-loop-slot l = length l.self.cache
