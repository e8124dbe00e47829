-- Counts after each change of the lists, the cache and flight.
use Rattle.std.proofs.Common.{◌≡◌, ℕ, ◌+◌, ◌<◌, ◌≤◌, Bool, true, false, cond, not, ◌&&◌, List, [], ◌∷◌, filter, Some, None, option_map, refl, ap, ◌∙◌, arith, ◌==◌}
use Rattle.std.proofs.lemmas.Bool.Decides.{nat_tests}
use Rattle.av_base.proofs.Without.{count-without}
use Rattle.av_base.specs.Words.{how_many, without}
use Rattle.av_base.specs.declared.slot.Slot.{Slot}
use Rattle.av_plain.specs.Event.{off_lists, to_active, to_inactive_head, to_inactive_tail}
use Rattle.av_plain.specs.Ledger.{Cached, Ledger, cached_by, same_slot}
use Rattle.av_plain.specs.Sound.{listings}
use Rattle.av_plain.proofs.Ledger.{how_many-append}

pub same-is : (f g : ℕ) → (f == g) ≡ true → f ≡ g
same-is f g h = grind (arith, nat_tests)

pub same-itself : (f : ℕ) → (f == f) ≡ true
same-itself f = grind (arith, nat_tests)

pub same-turned : (f g : ℕ) → (f == g) ≡ (g == f)
same-turned f g = grind (arith, nat_tests)

pub slot-is : (s t : Slot) → same_slot s t ≡ true → s ≡ t
slot-is s t h =
    let a : s.area ≡ t.area = grind (arith, nat_tests, h) in
    let b : s.page ≡ t.page = grind (arith, nat_tests, h) in
    λ i. record { area = a i; page = b i }

pub slot-itself : (s : Slot) → same_slot s s ≡ true
slot-itself s = grind (arith, nat_tests)

pub slot-turned : (s t : Slot) → same_slot s t ≡ same_slot t s
slot-turned s t = grind (arith, nat_tests)

-- ---- lists of frames

at_front : (b : Bool) (a i : ℕ) → cond b 0 a + (cond b 1 0 + cond b 0 i) ≡ cond b 1 (a + i)
at_front true a i = refl
at_front false a i = omega arith

pub listings-to_head : (f g : ℕ) (l : Ledger) → listings (to_inactive_head f l) g ≡ cond (g == f) 1 (listings l g)
listings-to_head f g l = (λ i. count-without f g l.active i + (cond (g == f) 1 0 + count-without f g l.inactive i)) ∙ at_front (g == f) _ _

pub listings-to_tail : (f g : ℕ) (l : Ledger) → listings (to_inactive_tail f l) g ≡ cond (g == f) 1 (listings l g)
listings-to_tail f g l =
    ap (λ n. how_many (λ x. g == x) (without f l.active) + n) (how_many-append (λ x. g == x) (without f l.inactive) (f ∷ []))
    ∙ (λ i. count-without f g l.active i + (count-without f g l.inactive i + (cond (g == f) 1 0 + 0))) ∙ last (g == f) _ _
  where
    last : (b : Bool) (a i : ℕ) → cond b 0 a + (cond b 0 i + (cond b 1 0 + 0)) ≡ cond b 1 (a + i)
    last true a i = refl
    last false a i = omega arith

pub listings-to_active : (f g : ℕ) (l : Ledger) → listings (to_active f l) g ≡ cond (g == f) 1 (listings l g)
listings-to_active f g l = (λ i. (cond (g == f) 1 0 + count-without f g l.active i) + count-without f g l.inactive i) ∙ first (g == f) _ _
  where
    first : (b : Bool) (a i : ℕ) → (cond b 1 0 + cond b 0 a) + cond b 0 i ≡ cond b 1 (a + i)
    first true a i = refl
    first false a i = omega arith

pub listings-off_lists : (f g : ℕ) (l : Ledger) → listings (off_lists f l) g ≡ cond (g == f) 0 (listings l g)
listings-off_lists f g l = (λ i. count-without f g l.active i + count-without f g l.inactive i) ∙ none (g == f) _ _
  where
    none : (b : Bool) (a i : ℕ) → cond b 0 a + cond b 0 i ≡ cond b 0 (a + i)
    none true a i = refl
    none false a i = refl

-- ---- the cache

-- what a slot that goes leaves
pub slots-off_cache : (s t : Slot) (cs : List Cached)
    → how_many (λ (c : Cached). same_slot t c.slot) (filter (λ (c : Cached). not (same_slot s c.slot)) cs)
    ≡ cond (same_slot t s) 0 (how_many (λ (c : Cached). same_slot t c.slot) cs)
slots-off_cache s t [] = elim (same_slot t s) as (λ b. ◌≡◌ {A = ℕ} 0 (cond b 0 0)) [ true ↦ refl | false ↦ refl ]
slots-off_cache s t (c ∷ cs) = let rest = slots-off_cache s t cs in
    elim (same_slot s c.slot) as (λ b. same_slot s c.slot ≡ b → how_many (λ (c : Cached). same_slot t c.slot)
    (cond (not b) (c ∷ filter (λ (c : Cached). not (same_slot s c.slot)) cs) (filter (λ (c : Cached). not (same_slot s c.slot)) cs)) ≡ cond
    (same_slot t s) 0
    (cond (same_slot t c.slot) 1 0 + how_many (λ (c : Cached). same_slot t c.slot) cs)) [
      | true ↦ λ is. rest ∙ gone (same_slot t s) (same_slot t c.slot) _ (ap (same_slot t) (slot-is s c.slot is))
      | false ↦ λ is. ap (λ n. cond (same_slot t c.slot) 1 0 + n) rest ∙ other (same_slot t s) (same_slot t c.slot) _ (λ a b. apart a b is)
    ] refl
  where
    gone : (b c : Bool) (n : ℕ) → b ≡ c → cond b 0 n ≡ cond b 0 (cond c 1 0 + n)
    gone true c n h = refl
    gone false true n h = cc
    gone false false n h = omega arith

    other : (b c : Bool) (n : ℕ) → (b ≡ true → c ≡ true → ⊥) → cond c 1 0 + cond b 0 n ≡ cond b 0 (cond c 1 0 + n)
    other true true n h = absurd (h refl refl)
    other true false n h = refl
    other false c n h = refl

    apart : same_slot t s ≡ true → same_slot t c.slot ≡ true → same_slot s c.slot ≡ false → ⊥
    apart a b d = grind (arith, nat_tests)

pub pairs-off_cache : (s t : Slot) (f : ℕ) (cs : List Cached) → how_many (λ (c : Cached). same_slot t c.slot && f == c.frame)
    (filter (λ (c : Cached). not (same_slot s c.slot)) cs) ≡ cond (same_slot t s) 0 (how_many (λ (c : Cached). same_slot t c.slot && f == c.frame) cs)
pairs-off_cache s t f [] = elim (same_slot t s) as (λ b. ◌≡◌ {A = ℕ} 0 (cond b 0 0)) [ true ↦ refl | false ↦ refl ]
pairs-off_cache s t f (c ∷ cs) = let rest = pairs-off_cache s t f cs in
    elim (same_slot s c.slot) as (λ b. same_slot s c.slot ≡ b → how_many (λ (c : Cached). same_slot t c.slot && f == c.frame)
    (cond (not b) (c ∷ filter (λ (c : Cached). not (same_slot s c.slot)) cs) (filter (λ (c : Cached). not (same_slot s c.slot)) cs)) ≡ cond
    (same_slot t s) 0
    (cond (same_slot t c.slot && f == c.frame) 1 0 + how_many (λ (c : Cached). same_slot t c.slot && f == c.frame) cs)) [
      | true ↦ λ is. rest ∙ gone (same_slot t s) (same_slot t c.slot) (f == c.frame) _ (ap (same_slot t) (slot-is s c.slot is))
      | false ↦ λ is. ap (λ n. cond (same_slot t c.slot && f == c.frame) 1 0 + n) rest ∙ other (same_slot t s) (same_slot t c.slot)
          (f == c.frame) _ (λ a b. apart a b is)
    ] refl
  where
    gone : (b c d : Bool) (n : ℕ) → b ≡ c → cond b 0 n ≡ cond b 0 (cond (c && d) 1 0 + n)
    gone true c d n h = refl
    gone false true d n h = cc
    gone false false d n h = omega arith

    other : (b c d : Bool) (n : ℕ) → (b ≡ true → c ≡ true → ⊥) → cond (c && d) 1 0 + cond b 0 n ≡ cond b 0 (cond (c && d) 1 0 + n)
    other true true d n h = absurd (h refl refl)
    other true false d n h = refl
    other false c d n h = refl

    apart : same_slot t s ≡ true → same_slot t c.slot ≡ true → same_slot s c.slot ≡ false → ⊥
    apart a b d = grind (arith, nat_tests)

pub holders-off_cache : (s : Slot) (f : ℕ) (cs : List Cached)
    → how_many (λ (c : Cached). f == c.frame) (filter (λ (c : Cached). not (same_slot s c.slot)) cs)
    + how_many (λ (c : Cached). same_slot s c.slot && f == c.frame) cs ≡ how_many (λ (c : Cached). f == c.frame) cs
holders-off_cache s f [] = refl
holders-off_cache s f (c ∷ cs) = let rest = holders-off_cache s f cs in
    elim (same_slot s c.slot) as (λ b. how_many (λ (c : Cached). f == c.frame)
    (cond (not b) (c ∷ filter (λ (c : Cached). not (same_slot s c.slot)) cs) (filter (λ (c : Cached). not (same_slot s c.slot)) cs))
    + (cond (b && f == c.frame) 1 0 + how_many (λ (c : Cached). same_slot s c.slot && f == c.frame) cs) ≡ cond (f == c.frame) 1 0 + how_many
    (λ (c : Cached). f == c.frame) cs) [
      | true ↦ a _ _ _ _ rest
      | false ↦ b _ _ _ _ rest
    ]
  where
    a : (x p q n : ℕ) → p + q ≡ n → p + (x + q) ≡ x + n
    a x p q n h = omega arith

    b : (x p q n : ℕ) → p + q ≡ n → (x + p) + (0 + q) ≡ x + n
    b x p q n h = omega arith

zero_plus : (n : ℕ) → n ≡ 0 → 0 + n ≡ 0
zero_plus n h = omega arith

-- the first that passes, and how many do
pub slot_of-none : (f : ℕ) (cs : List Cached) → option_map (λ (c : Cached). c.slot) (cached_by (λ c. f == c.frame) cs) ≡ None →
    how_many (λ (c : Cached). f == c.frame) cs ≡ 0
slot_of-none f [] h = refl
slot_of-none f (c ∷ cs) h =
    elim (f == c.frame) as (λ b. option_map (λ (c : Cached). c.slot) (cond b (Some c) (cached_by (λ c. f == c.frame) cs)) ≡ None →
    cond b 1 0 + how_many (λ (c : Cached). f == c.frame) cs ≡ 0) [
      | true ↦ λ e. cc
      | false ↦ λ e. zero_plus _ (slot_of-none f cs e)
    ] h

pub slot_of-some : (f : ℕ) (s : Slot) (cs : List Cached) → option_map (λ (c : Cached). c.slot) (cached_by (λ c. f == c.frame) cs) ≡ Some s →
    0 < how_many (λ (c : Cached). same_slot s c.slot && f == c.frame) cs
slot_of-some f s [] h = cc
slot_of-some f s (c ∷ cs) h =
    elim (f == c.frame) as (λ b. option_map (λ (c : Cached). c.slot) (cond b (Some c) (cached_by (λ c. f == c.frame) cs)) ≡ Some s →
    0 < cond (same_slot s c.slot && b) 1 0 + how_many (λ (c : Cached). same_slot s c.slot && f == c.frame) cs) [
      | true ↦ λ e. let is : c.slot ≡ s = cc in counted (same_slot s c.slot) _ (ap (same_slot s) is ∙ slot-itself s)
      | false ↦ λ e. more _ _ (slot_of-some f s cs e)
    ] h
  where
    counted : (b : Bool) (n : ℕ) → b ≡ true → 0 < cond (b && true) 1 0 + n
    counted true n h = omega arith
    counted false n h = cc

    more : (x n : ℕ) → 0 < n → 0 < x + n
    more x n h = omega arith

pub frame_at-none : (s : Slot) (cs : List Cached) → option_map (λ (c : Cached). c.frame) (cached_by (λ c. same_slot s c.slot) cs) ≡ None →
    how_many (λ (c : Cached). same_slot s c.slot) cs ≡ 0
frame_at-none s [] h = refl
frame_at-none s (c ∷ cs) h =
    elim (same_slot s c.slot) as (λ b. option_map (λ (c : Cached). c.frame) (cond b (Some c) (cached_by (λ c. same_slot s c.slot) cs))
    ≡ None → cond b 1 0 + how_many (λ (c : Cached). same_slot s c.slot) cs ≡ 0) [
      | true ↦ λ e. cc
      | false ↦ λ e. zero_plus _ (frame_at-none s cs e)
    ] h

pub frame_at-some : (f : ℕ) (s : Slot) (cs : List Cached) → option_map (λ (c : Cached). c.frame) (cached_by (λ c. same_slot s c.slot) cs) ≡ Some f →
    0 < how_many (λ (c : Cached). same_slot s c.slot && f == c.frame) cs
frame_at-some f s [] h = cc
frame_at-some f s (c ∷ cs) h = elim (same_slot s c.slot) as (λ b. option_map (λ (c : Cached). c.frame)
    (cond b (Some c) (cached_by (λ c. same_slot s c.slot) cs)) ≡ Some f →
    0 < cond (b && f == c.frame) 1 0 + how_many (λ (c : Cached). same_slot s c.slot && f == c.frame) cs) [
      | true ↦ λ e. let is : c.frame ≡ f = cc in counted (f == c.frame) _ (ap (λ x. f == x) is ∙ same-itself f)
      | false ↦ λ e. more _ _ (frame_at-some f s cs e)
    ] h
  where
    counted : (b : Bool) (n : ℕ) → b ≡ true → 0 < cond b 1 0 + n
    counted true n h = omega arith
    counted false n h = cc

    more : (x n : ℕ) → 0 < n → 0 < x + n
    more x n h = omega arith

-- a pair is a slot's and a frame's
pub pair-slot : (s : Slot) (f : ℕ) (cs : List Cached) → how_many (λ (c : Cached). same_slot s c.slot && f == c.frame) cs ≤ how_many
    (λ (c : Cached). same_slot s c.slot) cs
pair-slot s f [] = omega arith
pair-slot s f (c ∷ cs) = let rest = pair-slot s f cs in both (same_slot s c.slot) (f == c.frame) _ _ rest
  where
    both : (a b : Bool) (n m : ℕ) → n ≤ m → cond (a && b) 1 0 + n ≤ cond a 1 0 + m
    both true true n m h = omega arith
    both true false n m h = omega arith
    both false b n m h = omega arith

pub pair-frame : (s : Slot) (f : ℕ) (cs : List Cached) → how_many (λ (c : Cached). same_slot s c.slot && f == c.frame) cs ≤ how_many
    (λ (c : Cached). f == c.frame) cs
pair-frame s f [] = omega arith
pair-frame s f (c ∷ cs) = let rest = pair-frame s f cs in both (same_slot s c.slot) (f == c.frame) _ _ rest
  where
    both : (a b : Bool) (n m : ℕ) → n ≤ m → cond (a && b) 1 0 + n ≤ cond b 1 0 + m
    both true true n m h = omega arith
    both true false n m h = omega arith
    both false true n m h = omega arith
    both false false n m h = omega arith

-- two slots at one frame
pub two_slots : (s t : Slot) (f : ℕ) (cs : List Cached) → same_slot s t ≡ false
    → how_many (λ (c : Cached). same_slot s c.slot && f == c.frame) cs + how_many
    (λ (c : Cached). same_slot t c.slot && f == c.frame) cs ≤ how_many (λ (c : Cached). f == c.frame) cs
two_slots s t f [] h = omega arith
two_slots s t f (c ∷ cs) h = let rest = two_slots s t f cs h in
    each (same_slot s c.slot) (same_slot t c.slot) (f == c.frame) _ _ _ (λ a b. apart a b) rest
  where
    apart : same_slot s c.slot ≡ true → same_slot t c.slot ≡ true → ⊥
    apart a b = grind (arith, nat_tests, h)

    each : (a b d : Bool) (n m k : ℕ) → (a ≡ true → b ≡ true → ⊥) → n + m ≤ k → (cond (a && d) 1 0 + n) + (cond (b && d) 1 0 + m) ≤ cond d 1 0 + k
    each true true d n m k h i = absurd (h refl refl)
    each true false true n m k h i = omega arith
    each true false false n m k h i = omega arith
    each false true true n m k h i = omega arith
    each false true false n m k h i = omega arith
    each false false true n m k h i = omega arith
    each false false false n m k h i = omega arith

-- two frames at one slot
pub two_frames : (s : Slot) (f g : ℕ) (cs : List Cached) → (f == g) ≡ false
    → how_many (λ (c : Cached). same_slot s c.slot && f == c.frame) cs + how_many
    (λ (c : Cached). same_slot s c.slot && g == c.frame) cs ≤ how_many (λ (c : Cached). same_slot s c.slot) cs
two_frames s f g [] h = omega arith
two_frames s f g (c ∷ cs) h = let rest = two_frames s f g cs h in
    each (same_slot s c.slot) (f == c.frame) (g == c.frame) _ _ _ (λ a b. apart a b) rest
  where
    apart : (f == c.frame) ≡ true → (g == c.frame) ≡ true → ⊥
    apart a b = grind (arith, nat_tests, h)

    each : (a b d : Bool) (n m k : ℕ) → (b ≡ true → d ≡ true → ⊥) → n + m ≤ k → (cond (a && b) 1 0 + n) + (cond (a && d) 1 0 + m) ≤ cond a 1 0 + k
    each true true true n m k h i = absurd (h refl refl)
    each true true false n m k h i = omega arith
    each true false true n m k h i = omega arith
    each true false false n m k h i = omega arith
    each false b d n m k h i = omega arith
