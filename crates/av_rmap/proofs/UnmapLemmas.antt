-- What a slot in the place of a frame makes of an entry.
use Rattle.std.proofs.Common.{◌≡◌, ℕ, Bool, true, false, cond, ◌==◌, refl, ap}
use Rattle.av_base.specs.declared.slot.Slot.{Slot}
use Rattle.av_pagetable.specs.declared.pte.Pte.{Pte}
use Rattle.av_pagetable.specs.declared.pte.Pte.TheVariants.{Empty, Zero, Here, Away}
use Rattle.av_rmap.specs.Unmap.{away}
use Rattle.av_rmap.specs.Walk.{names_frame}
use Rattle.av_rmap.proofs.Changes.{IsOfFrame}

away-twice : (f : ℕ) (s : Slot) (e : Pte) → away f s (away f s e) ≡ away f s e
away-twice f s Empty = refl
away-twice f s Zero = refl
away-twice f s (Here other write seen) = by (f == other) refl
  where
    by : (b : Bool) → (f == other) ≡ b → away f s (cond b (Away s) (Here other write seen)) ≡ cond b (Away s) (Here other write seen)
    by true e = refl
    by false e = ap (λ b. cond b (Away s) (Here other write seen)) e
away-twice f s (Away slot) = refl

-- one that doesn't name the frame
pub away-other : (f : ℕ) (s : Slot) (e : Pte) → names_frame f e ≡ false → away f s e ≡ e
away-other f s Empty h = refl
away-other f s Zero h = refl
away-other f s (Here other write seen) h = ap (λ b. cond b (Away s) (Here other write seen)) h
away-other f s (Away slot) h = refl

pub sends : (f : ℕ) (s : Slot) → IsOfFrame f (away f s)
sends f s = record { twice = away-twice f s; other = away-other f s }
