use Rattle.std.proofs.Common.{◌≡◌, ℕ, ◌<◌, ◌≤◌, false, length, ◌-◌}
use Rattle.av_pagetable.specs.Entries.{has}
use Rattle.av_pagetable.proofs.tables.Tables.process_from.Given as goal

abbrev pub invariant-loop-process : goal.invariant-loop-process
invariant-loop-process g l = (l.initial.process ≤ l.number)
    × ((p : ℕ) → l.initial.process ≤ p → p < l.number → has l.initial.self p ≡ false)

abbrev pub decreases-loop-process : goal.decreases-loop-process
decreases-loop-process g l = length l.initial.self.tables.items.items - l.number
