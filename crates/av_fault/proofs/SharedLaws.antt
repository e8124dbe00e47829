-- Whether a write to the frame of a page has to copy it: as the kernel's parts answer it, and after a pass that leaves the frame alone; and what a copy
-- leaves of the frame's uses.
use Rattle.std.proofs.Common.{◌≡◌, ℕ, ◌<◌, ◌==◌, Bool, true, false, ◌&&◌, ◌||◌, nat_lt, Option, Some, None, is_none, refl, sym, ap, subst, ◌∙◌, arith}
use Rattle.std.proofs.lemmas.Bool.Decides.{nat_tests}
use Rattle.av_base.specs.declared.slot.Slot.{Slot}
use Rattle.av_plain.specs.Areas.{Rmap}
use Rattle.av_plain.specs.Device.{Device}
use Rattle.av_plain.specs.Fault.{is_named, asks_copy}
use Rattle.av_plain.specs.Ledger.{Ledger, Setting, is_merged, map_count, same_slot, slot_entries, slot_of}
use Rattle.av_plain.specs.Sound.{IsSound, mergings}
use Rattle.av_plain.specs.World.{World}
use Rattle.av_plain.proofs.Sound.Counts.{pair-frame, slot-is, slot_of-none, slot_of-some, two_slots}
use Rattle.av_plain.proofs.Sound.Changes.{any-counts}
use Rattle.av_plain.proofs.Sound.Sharing.{ByFrame, ByMerge, BySlot, IsSharedBy}
use Rattle.av_swap_laws.specs.May.{KeepsUse, LosesUse}
use Rattle.av_mem.specs.declared.mem.Mem.{Mem}
use Rattle.av_mem.specs.Mem.{view}
use Rattle.av_mem.specs.Between.{KeepsBetween}
use Rattle.av_mem.proofs.MergedLaws.{merged-is}
use Rattle.av_mem.proofs.ReachLaws.{reaches-served}
use Rattle.av_fault.specs.Using.{is_named_in, asks_copy_in}

-- of a frame that another entry names, or whose slot an entry names, or that is merged
pub shared-by : (m : Setting) (l : Ledger) (g : ℕ) → IsSound m l → IsSharedBy l g → asks_copy l g ≡ true
shared-by m l g sound (ByFrame two) =
    let some : nat_lt 1 (map_count l g) ≡ true = grind (arith, nat_tests, two) in
    ap (λ b. b || is_named l (slot_of l g) || is_merged l g) some
shared-by m l g sound (BySlot t pair named) = second (nat_lt 1 (map_count l g)) (is_named l (slot_of l g)) (by (slot_of l g) refl)
  where
    second : (a b : Bool) → b ≡ true → (a || b || is_merged l g) ≡ true
    second true b e = refl
    second false b e = ap (λ b. b || is_merged l g) e

    by : (o : Option Slot) → slot_of l g ≡ o → is_named l o ≡ true
    by None e = let none = slot_of-none g l.cache e in let p = pair-frame t g l.cache in absurd (omega (arith, none, pair, p))
    by (Some s) e = at (same_slot t s) refl
      where
        at : (b : Bool) → same_slot t s ≡ b → nat_lt 0 (slot_entries l s) ≡ true
        at true is = let n = subst (λ x. 0 < slot_entries l x) (slot-is t s is) named in grind (arith, nat_tests, n)
        at false is = let p = two_slots t s g l.cache is in let q = slot_of-some g s l.cache e in let once = sound.frames_once g in
            absurd (omega (arith, p, q, pair, once))
shared-by m l g sound (ByMerge merge) =
    let some : nat_lt 0 (mergings l g) ≡ true = grind (arith, nat_tests, merge) in
    third (nat_lt 1 (map_count l g) || is_named l (slot_of l g)) (is_merged l g) (any-counts (λ y. g == y) l.merged ∙ some)
  where
    third : (a b : Bool) → b ≡ true → (a || b) ≡ true
    third true b e = refl
    third false b e = e

-- ---- what a copy of the frame leaves of its uses

-- whether it is the last one
abbrev pub is_last : ℕ → Option Slot → Bool
is_last n o = n == 1 && is_none o

-- it is: then nothing has the frame any more
pub loses-use : (l : Ledger) (g : ℕ) → is_last (map_count l g) (slot_of l g) ≡ true → LosesUse l g
loses-use l g = by (map_count l g) (slot_of l g)
  where
    by : (n : ℕ) (o : Option Slot) → (n == 1 && is_none o) ≡ true → (n ≡ 1) × (o ≡ None)
    by n None last = (one (n == 1) refl last, refl)
      where
        one : (b : Bool) → (n == 1) ≡ b → (b && true) ≡ true → n ≡ 1
        one true e last = grind (arith, nat_tests, e)
        one false e last = cc
    by n (Some s) last = absurd (never (n == 1) last)
      where
        never : (b : Bool) → (b && false) ≡ true → ⊥
        never true e = cc
        never false e = cc

-- it isn't: then another entry names it, or an entry names its slot. A merged frame has none
pub keeps-use : (m : Setting) (l : Ledger) (g : ℕ) → IsSound m l → 0 < map_count l g → asks_copy l g ≡ true
    → is_last (map_count l g) (slot_of l g) ≡ false → KeepsUse l g
keeps-use m l g sound mapped asks = by (slot_of l g) refl
  where
    first : (a b : Bool) → b ≡ false → (a || b) ≡ true → a ≡ true
    first true b e h = refl
    first false b e h = sym e ∙ h

    by : (o : Option Slot) → slot_of l g ≡ o → is_last (map_count l g) o ≡ false → KeepsUse l g
    by None e more = ap (λ b. b || is_named l (slot_of l g)) (two (map_count l g) mapped more)
      where
        two : (n : ℕ) → 0 < n → (n == 1 && true) ≡ false → nat_lt 1 n ≡ true
        two n some more = grind (arith, nat_tests, some, more)
    by (Some s) e more = first (nat_lt 1 (map_count l g) || is_named l (slot_of l g)) (is_merged l g) (any-counts (λ y. g == y) l.merged ∙ none) asks
      where
        none : nat_lt 0 (mergings l g) ≡ false
        none = let q = slot_of-some g s l.cache e in let p = pair-frame s g l.cache in let once = sound.frames_once g in
            let z : mergings l g ≡ 0 = omega (arith, q, p, once) in grind (arith, nat_tests, z)

-- ---- as the kernel answers it

module _ (d : Device) (k : Mem) (w : World) (r : Rmap) (l : Ledger) (h : KeepsBetween d k w r l) (f : ℕ) where
  -- the parts answer what the ledger says
  pub shared-in : asks_copy_in (view k) f ≡ asks_copy l f
  shared-in = λ i. nat_lt 1 (h.serves.held.ledger.frames.maps f i) || named i
      || merged-is k r l (reaches-served d None k w r l h.serves) h.sound.in_order f (h.sound.merged f) i
    where
      by : (o : Option Slot) → is_named_in (view k) o ≡ is_named l o
      by None = refl
      by (Some s) = ap (nat_lt 0) (h.serves.held.ledger.swap.counts s)

      named : is_named_in (view k) ((view k).slot f) ≡ is_named l (slot_of l f)
      named = ap (is_named_in (view k)) (h.serves.held.ledger.frames.slots f) ∙ by (slot_of l f)
