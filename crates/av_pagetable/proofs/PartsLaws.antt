-- The parts of a directory, of which one is changed in its place.
use Rattle.std.proofs.Common.{◌≡◌, ℕ, zero, suc, ◌<◌, length, slice_set, refl, arith}
use Rattle.av_pagetable.specs.declared.parts.Parts.{Parts}
use Rattle.av_pagetable.specs.declared.parts.Parts.TheVariants.{Alone, Many}
use Rattle.av_pagetable.specs.Parts.{parts_in, with_part}

pub parts_in-with_part : {C : Type 0} (parts : Parts C) (k : ℕ) (x : ℕ × C) → k < length (parts_in parts)
    → parts_in (with_part parts k x) ≡ slice_set (parts_in parts) k x
parts_in-with_part (Alone part) zero x within = refl
parts_in-with_part (Alone part) (suc k) x within = absurd (omega (arith, within))
parts_in-with_part (Many parts) k x within = refl
