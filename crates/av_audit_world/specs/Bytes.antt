-- Bytes that are written over others.
use Rattle.std.specs.Prelude.{ℕ, ◌-◌, List, if◌then◌else◌, length, slice_index}
use Rattle.av_base.specs.Words.{within}

-- bytes with a piece laid over them
abbrev pub overlaid : ℕ → List ℕ → (ℕ → ℕ) → ℕ → ℕ
overlaid at piece bytes i =
    if within at (length piece) i then slice_index piece (i - at) else bytes i
