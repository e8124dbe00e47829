-- An area with other bounds.
use Rattle.std.specs.Prelude.{ℕ}
use Rattle.av_vma.specs.declared.area.Area.{Area}

abbrev pub with_bounds : ℕ → ℕ → ℕ → Area → Area
with_bounds start end pgoff area = record area { start = start; end = end; pgoff = pgoff }
