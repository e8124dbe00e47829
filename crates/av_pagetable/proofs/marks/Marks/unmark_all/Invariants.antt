use Rattle.std.proofs.Common.{◌≡◌, ℕ, ◌<◌, true, false, get_or}
use Rattle.av_pagetable.specs.declared.pte.Pte.TheVariants.{Empty}
use Rattle.av_pagetable.specs.Seen.{is_marked, names_seen}
use Rattle.av_pagetable.proofs.marks.Marks.unmark_all.Given as goal

abbrev pub invariant-loop-entry : goal.invariant-loop-entry
invariant-loop-entry l = (f : ℕ) → is_marked l.self f ≡ true → (is_marked l.initial.self f ≡ true)
    × ((i : ℕ) → i < l.entry-index → names_seen f (get_or l.entries i Empty) ≡ false)
