use Rattle.std.proofs.Common.{◌≡◌, ◌++◌, ℕ, Bool, length}
use Rattle.av_audit_pages.specs.Entries.{entries_of}
use Rattle.av_audit_events.specs.Child.{child_entries, pages_that}
use Rattle.av_audit_events.proofs.child.for_child.Given as goal

abbrev pub invariant-loop-rest : goal.invariant-loop-rest
invariant-loop-rest l = (goes : ℕ → Bool) → l.pages ≡ pages_that goes (entries_of l.entries)
    → (l.due ≡ pages_that goes (entries_of l.rest))
    × (entries_of l.made.items ++ child_entries l.child goes (entries_of l.rest) ≡ child_entries l.child goes (entries_of l.entries))

abbrev pub decreases-loop-rest : goal.decreases-loop-rest
decreases-loop-rest l = length l.rest
