use Rattle.std.proofs.Common.{◌≡◌, ℕ, ◌+◌, ◌<◌, length, slice_index_or, get_or}
use Rattle.av_pagetable.specs.declared.pte.Pte.TheVariants.{Empty}
use Rattle.av_pagetable.proofs.dir.copy_entries.Given as goal

abbrev pub invariant-loop-i : goal.invariant-loop-i
invariant-loop-i l = record {
  long : length l.run ≡ 64;
  done : (k : ℕ) → k < l.i → slice_index_or l.run k Empty ≡ (get_or l.parts (l.start + k) (0, Empty)).1;
}
