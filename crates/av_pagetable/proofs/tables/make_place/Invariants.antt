use Rattle.std.proofs.Common.{◌≡◌, ◌+◌, ◌-◌, length}
use Rattle.av_pagetable.specs.Entries.{table_at}
use Rattle.av_pagetable.proofs.tables.make_place.Given as goal

abbrev pub invariant-loop-tables : goal.invariant-loop-tables
invariant-loop-tables g l = table_at l.tables.items ≡ table_at l.initial.tables.items

abbrev pub decreases-loop-tables : goal.decreases-loop-tables
decreases-loop-tables g l = l.process + 1 - length l.tables.items
