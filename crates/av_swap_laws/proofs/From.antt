-- Where the definitions ask for a step, what the step needs holds, by soundness.
use Rattle.std.proofs.Common.{filter, ◌≡◌, inl, inr, ℕ, ◌+◌, min, ◌<◌, ◌≤◌, Bool, true, false, cond, not, ◌&&◌, ◌||◌, List, [], ◌∷◌, ◌++◌, nat_lt, Option, Some, None, refl, ap, arith, ◌==◌}
use Rattle.std.proofs.lemmas.Bool.Decides.{nat_tests}
use Rattle.std.proofs.lemmas.Bool.{false≢true}
use Rattle.av_base.specs.Words.{how_many, is_in, without}
use Rattle.av_base.specs.declared.slot.Slot.{Slot}
use Rattle.av_plain.specs.Choice.{ListsFree}
use Rattle.av_plain.specs.Fault.{is_unneeded}
use Rattle.av_plain.specs.Ledger.{Ledger, Setting, frame_at, in_flight, is_free, is_full, is_orphan, is_stale, is_unmapped, may_give, same_slot, slot_entries, slot_of}
use Rattle.av_plain.specs.Sound.{AreThere, IsSoundBut, flights, is_there, listings, uses, mergings}
use Rattle.av_plain.proofs.Sound.Counts.{frame_at-none, frame_at-some, pair-frame, pair-slot, same-itself, same-turned, slot_of-none, slot-itself}
use Rattle.av_plain.proofs.Sound.Steps.{given-nowhere}
use Rattle.av_swap_laws.specs.May.{MayLeave, MayComeIn, MayGoOut}
use Rattle.av_swap_laws.specs.Steps.{without_slot}

module _ (m : Setting) (x : Slot → ℕ) (l : Ledger) (sound : IsSoundBut m x l) where
  -- ---- put: a frame of a list that has no slot, and a slot that may be given

  -- a frame that stands in a list is in use
  pub listed-used : (f : ℕ) → 0 < listings l f → 0 < uses l f
  listed-used f some = let e = sound.listed f in by (uses l f) (listings l f) e some
    where
      by : (n k : ℕ) → k ≡ min 1 n → 0 < k → 0 < n
      by n k e h = omega (arith, e, h)

  pub given-may_put : (closing : Option ℕ) (f : ℕ) (s : Slot) → slot_of l f ≡ None → may_give m closing l s ≡ true → 0 < uses l f → mergings l f ≡ 0
      → MayGoOut l f s
  given-may_put closing f s none may used own =
      let nowhere = given-nowhere m closing l s may in
      let out = slot_of-none f l.cache none in
      record { absent = nowhere.uncached; unnamed = nowhere.unnamed; unmerged = own; used = omega (arith, out, used) }

  -- ---- load: a slot that is not cached

  pub uncached-may_load : (f : ℕ) (s : Slot) → frame_at l s ≡ None → is_free l f ≡ true → MayComeIn l f s
  uncached-may_load f s none free = record { absent = frame_at-none s l.cache none; free = free }

  -- ---- drop: the frame is one of the machine's, and the slot is there

  pub cached-in_range : (f : ℕ) (s : Slot) → frame_at l s ≡ Some f → f < m.frames
  cached-in_range f s is = let pair = frame_at-some f s l.cache is in let held = pair-frame s f l.cache in sound.in_range f
      (omega (arith, pair, held))

  pub cached-there : (f : ℕ) (s : Slot) → AreThere m l → frame_at l s ≡ Some f → is_there m l s ≡ true
  cached-there f s there is = let pair = frame_at-some f s l.cache is in let held = pair-slot s f l.cache in there s (omega (arith, pair, held))

  -- ---- flight: a slot stands in it once

  pub flight-once : (s : Slot) → flights l s ≤ 1
  flight-once s = let a = sound.flying s in let b = sound.slots_once s in omega (arith, a, b)

-- an orphan, and a slot that an access needs no more, has no entry
pub orphan-leaves : (l : Ledger) (s : Slot) → is_orphan l s ≡ true → MayLeave l s
orphan-leaves l s is = inl (by (is_unmapped l (frame_at l s)) (in_flight l s) (slot_entries l s) is)
  where
    by : (a b : Bool) (n : ℕ) → (a && not b && n == 0) ≡ true → n ≡ 0
    by true true n h = absurd (false≢true h)
    by true false n h = grind (arith, nat_tests, h)
    by false b n h = absurd (false≢true h)

pub unneeded-leaves : (m : Setting) (write came : Bool) (l : Ledger) (s : Slot) → is_unneeded m write came l s ≡ true → MayLeave l s
unneeded-leaves m write came l s is = inl (by (in_flight l s) (slot_entries l s) (write || came && is_full m l) is)
  where
    by : (b : Bool) (n : ℕ) (c : Bool) → (not b && n == 0 && c) ≡ true → n ≡ 0
    by true n c h = absurd (false≢true h)
    by false n true h = grind (arith, nat_tests, h)
    by false n false h = grind (arith, nat_tests, h)

-- reclaim drops what is neither stale nor in flight
pub clean-leaves : (l : Ledger) (s : Slot) → is_stale l s ≡ false → in_flight l s ≡ false → MayLeave l s
clean-leaves l s fresh landed = inr (fresh, landed)

-- ---- flight as the code keeps it

without-none : (s : Slot) (fs : List Slot) → how_many (same_slot s) fs ≡ 0 → without_slot s fs ≡ fs
without-none s [] h = refl
without-none s (t ∷ fs) h = by (same_slot s t) refl h (without-none s fs)
  where
    by : (b : Bool) → same_slot s t ≡ b → cond b 1 0 + how_many (same_slot s) fs ≡ 0 → (how_many (same_slot s) fs ≡ 0 → without_slot s fs ≡ fs)
        → cond (not b) (t ∷ without_slot s fs) (without_slot s fs) ≡ t ∷ fs
    by true e h rest = absurd (omega (arith, h))
    by false e h rest = ap (λ fs. t ∷ fs) (rest (omega (arith, h)))

-- the first goes
pub flight-first : (s : Slot) (rest : List Slot) → how_many (same_slot s) (s ∷ rest) ≤ 1 → without_slot s (s ∷ rest) ≡ rest
flight-first s rest few = by (same_slot s s) (slot-itself s) few (without-none s rest)
  where
    by : (b : Bool) → b ≡ true → cond b 1 0 + how_many (same_slot s) rest ≤ 1 → (how_many (same_slot s) rest ≡ 0 → without_slot s rest ≡ rest)
        → cond (not b) (s ∷ without_slot s rest) (without_slot s rest) ≡ rest
    by true e h same = same (omega (arith, h))
    by false e h same = absurd (false≢true e)

-- or the one that has just begun, as in a pass
pub flight-last : (s : Slot) (fs : List Slot) → how_many (same_slot s) fs ≡ 0 → without_slot s (fs ++ s ∷ []) ≡ fs
flight-last s [] h = by (same_slot s s) (slot-itself s)
  where
    by : (b : Bool) → b ≡ true → cond (not b) (s ∷ []) [] ≡ []
    by true e = refl
    by false e = absurd (false≢true e)
flight-last s (t ∷ fs) h = by (same_slot s t) refl h (flight-last s fs)
  where
    by : (b : Bool) → same_slot s t ≡ b → cond b 1 0 + how_many (same_slot s) fs ≡ 0
        → (how_many (same_slot s) fs ≡ 0 → without_slot s (fs ++ s ∷ []) ≡ fs)
        → cond (not b) (t ∷ without_slot s (fs ++ s ∷ [])) (without_slot s (fs ++ s ∷ [])) ≡ t ∷ fs
    by true e h rest = absurd (omega (arith, h))
    by false e h rest = ap (λ fs. t ∷ fs) (rest (omega (arith, h)))

-- ---- the first of the free frames is one of the machine's, is free, and is listed once

pub record IsFirst (m : Setting) (l : Ledger) (f : ℕ) (left : List ℕ) : Type 0 where
  pub free : is_free l f ≡ true
  pub below : f < m.frames
  pub alone : is_in f left ≡ false

pub first-is : (m : Setting) (l : Ledger) (f : ℕ) (left : List ℕ) → ListsFree m l (f ∷ left) → IsFirst m l f left
first-is m l f left lists = by (f == f) (is_free l f) (nat_lt f m.frames) (same-itself f) refl refl (lists f)
  where
    none : (fs : List ℕ) → how_many (λ g. f == g) fs ≡ 0 → is_in f fs ≡ false
    none [] h = refl
    none (g ∷ fs) h = each (f == g) h (none fs)
      where
        each : (b : Bool) → cond b 1 0 + how_many (λ g. f == g) fs ≡ 0 → (how_many (λ g. f == g) fs ≡ 0 → is_in f fs ≡ false)
            → (b || is_in f fs) ≡ false
        each true h more = absurd (omega (arith, h))
        each false h more = more (omega (arith, h))

    by : (b c d : Bool) → b ≡ true → is_free l f ≡ c → nat_lt f m.frames ≡ d → cond b 1 0 + how_many (λ g. f == g) left ≡ cond (c && d) 1 0
        → IsFirst m l f left
    by true true true e i j h = record { free = i; below = grind (arith, nat_tests, j); alone = none left (omega (arith, h)) }
    by true true false e i j h = absurd (omega (arith, h))
    by true false d e i j h = absurd (omega (arith, h))
    by false c d e i j h = absurd (false≢true e)

-- ---- a list without a frame, the test turned round

pub without-turned : (f : ℕ) (fs : List ℕ) → filter (λ g. not (g == f)) fs ≡ without f fs
without-turned f fs = ap (λ (test : ℕ → Bool). filter test fs) (λ i g. not (same-turned g f i))
