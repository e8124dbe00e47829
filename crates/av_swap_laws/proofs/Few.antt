-- No more entries name a cached frame and its slot together than processes live: so counts have room while a frame is unmapped.
use Rattle.std.proofs.Common.{◌≡◌, ℕ, ◌+◌, ◌<◌, ◌≤◌, Bool, true, false, cond, ◌&&◌, ◌||◌, nat_lt, length, Some, refl, subst, arith, ◌==◌}
use Rattle.std.proofs.lemmas.Bool.Decides.{nat_tests}
use Rattle.std.proofs.lemmas.Bool.{false≢true}
use Rattle.av_base.specs.Keys.{Key}
use Rattle.av_base.specs.declared.slot.Slot.{Slot}
use Rattle.av_plain.specs.Ledger.{Entry, InFrame, InSlot, Ledger, Setting, Zero, map_count, names_frame, names_slot, same_slot, slot_entries, slot_of}
use Rattle.av_plain.specs.Sound.{AtPages, IsSoundBut, mergings, pairs}
use Rattle.av_plain.specs.World.{World}
use Rattle.av_plain.proofs.Event.{how_many-or}
use Rattle.av_plain.proofs.Sound.Bound.{NameOne, name_one-bound}
use Rattle.av_plain.proofs.Sound.Counts.{pair-frame, same-is, same-itself, slot-is, slot_of-some}

-- an entry of the frame or of the slot
abbrev of_either : ℕ → Slot → Entry → Bool
of_either f s e = names_frame f e || names_slot s e

mixed : (l : Ledger) (f : ℕ) (s : Slot) → 0 < pairs l s f → (g : ℕ) (t : Slot) → (f == g || false) ≡ true → same_slot s t ≡ true
    → nat_lt 0 (pairs l t g) ≡ true
mixed l f s pair g t a b =
    let p = subst (λ g. 0 < pairs l t g) (same-is f g (either (f == g) a)) (subst (λ t. 0 < pairs l t f) (slot-is s t b) pair) in
    grind (arith, nat_tests, p)
  where
    either : (b : Bool) → (b || false) ≡ true → b ≡ true
    either true e = refl
    either false e = e

-- two entries of a frame that isn't merged
alike : (l : Ledger) (f : ℕ) → mergings l f ≡ 0 → (g j : ℕ) → (f == g) ≡ true → (f == j) ≡ true → (g == j && mergings l g == 0) ≡ true
alike l f own g j a b = subst (λ x. (x == j && mergings l x == 0) ≡ true) (same-is f g a)
    (subst (λ y. (f == y && mergings l f == 0) ≡ true) (same-is f j b) (λ i. same-itself f i && own i == 0))

either : (b : Bool) → (b || false) ≡ true → b ≡ true
either true e = refl
either false e = e

named-once : (l : Ledger) (f : ℕ) (s : Slot) → mergings l f ≡ 0 → 0 < pairs l s f → NameOne l (of_either f s)
named-once l f s own pair Zero e h i = absurd (false≢true h)
named-once l f s own pair (InFrame g seen) Zero h i = absurd (false≢true i)
named-once l f s own pair (InFrame g seen) (InFrame j now) h i = alike l f own g j (either (f == g) h) (either (f == j) i)
named-once l f s own pair (InFrame g seen) (InSlot t) h i = mixed l f s pair g t h i
named-once l f s own pair (InSlot t) Zero h i = absurd (false≢true i)
named-once l f s own pair (InSlot t) (InFrame g seen) h i = mixed l f s pair g t i h
named-once l f s own pair (InSlot t) (InSlot r) h i = grind (arith, nat_tests, h, i)

pub together-few : (m : Setting) (x : Slot → ℕ) (w : World) (l : Ledger) (f : ℕ) (s : Slot) → IsSoundBut m x l → AtPages w l → slot_of l f ≡ Some s
    → map_count l f + slot_entries l s ≤ length w
together-few m x w l f s sound at_pages is = subst (λ n. n ≤ length w)
    (how_many-or (λ (e : Key × Entry). names_frame f e.1) (λ (e : Key × Entry). names_slot s e.1)
    (λ (e : Key × Entry). of_either f s e.1) l.entries (λ e. each e.1))
    (name_one-bound m x w l (of_either f s) sound at_pages (named-once l f s own (slot_of-some f s l.cache is)))
  where
    own : mergings l f ≡ 0
    own = let a = sound.frames_once f in let p = slot_of-some f s l.cache is in let q = pair-frame s f l.cache in omega (arith, a, p, q)

    each : (e : Entry) → cond (of_either f s e) 1 0 ≡ cond (names_frame f e) 1 0 + cond (names_slot s e) 1 0
    each Zero = refl
    each (InFrame g seen) = by (f == g)
      where
        by : (b : Bool) → ◌≡◌ {A = ℕ} (cond (b || false) 1 0) (cond b 1 0 + 0)
        by true = refl
        by false = refl
    each (InSlot t) = by (same_slot s t)
      where
        by : (b : Bool) → ◌≡◌ {A = ℕ} (cond b 1 0) (0 + cond b 1 0)
        by true = refl
        by false = refl
