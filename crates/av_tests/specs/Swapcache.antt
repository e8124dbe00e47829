-- What the test of the swap cache knows between its calls.
use Rattle.std.specs.Prelude.{◌≡◌, ℕ, Option, None}
use Rattle.av_base.specs.declared.slot.Slot.{Slot}
use Rattle.av_swapcache.specs.Swap.{HasAreas, IsUncached, Shown}

-- the cache and the areas that are on stay
abbrev pub AreKept : Shown → Shown → Type 0
AreKept old new = (new.find ≡ old.find) × (new.on ≡ old.on)

-- the device has the areas that are on, and this frame caches no slot
pub record Serves (sizes : ℕ → Option ℕ) (f : ℕ) (h : Shown) : Type 0 where
  pub areas : HasAreas sizes h
  pub spare : IsUncached h f

-- the device has the areas that are on, and no slot is in use
pub record IsIdle (sizes : ℕ → Option ℕ) (h : Shown) : Type 0 where
  pub areas : HasAreas sizes h
  pub uncached : (s : Slot) → h.find s ≡ None
  pub unnamed : (s : Slot) → h.entries s ≡ 0
