use Rattle.std.proofs.Common.{◌≡◌, ℕ, ◌-◌, ◌<◌, ◌≤◌}
use Rattle.av_pagetable.specs.declared.pte.Pte.TheVariants.{Empty}
use Rattle.av_pagetable.specs.Table.{entry_in, page_bound}
use Rattle.av_pagetable.proofs.table.MapTableTable.clear_range.Given as goal

abbrev pub invariant-loop-page : goal.invariant-loop-page
invariant-loop-page l = record {
  from_there : l.initial.next ≤ l.next;
  gone : (q : ℕ) → l.initial.next ≤ q → q < l.next → entry_in l.self.entries q ≡ Empty;
  lower : (q : ℕ) → q < l.initial.next → entry_in l.self.entries q ≡ entry_in l.initial.self.entries q;
  behind : (q : ℕ) → l.past ≤ q → entry_in l.self.entries q ≡ entry_in l.initial.self.entries q;
  higher : (q : ℕ) → l.next ≤ q → entry_in l.self.entries q ≡ entry_in l.initial.self.entries q;
}

abbrev pub decreases-loop-page : goal.decreases-loop-page
decreases-loop-page l = page_bound - l.next
