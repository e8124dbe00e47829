-- Worked examples for locks, beside those of `av_laws`: what a pass leaves alone.
use Rattle.std.specs.Prelude.{true, Some}
use Rattle.av_plain.specs.Pass.{Spared}
use Rattle.av_laws.specs.Frames.{none_spared, two_spared}

-- frame 0 is pinned, and each frame is one of a locked page
abbrev pub pinned_among_locked : Spared
pinned_among_locked = record two_spared { locked = λ f. true }

-- frame 3 is pinned
abbrev pub pinned_and_merged : Spared
pinned_and_merged = record none_spared { pinned = Some 3 }
