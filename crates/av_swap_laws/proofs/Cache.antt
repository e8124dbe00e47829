-- What the cache answers of a frame and of a slot, after each change of it.
use Rattle.std.proofs.Common.{◌≡◌, ℕ, ◌+◌, ◌<◌, ◌≤◌, Bool, true, false, cond, not, ◌&&◌, ◌||◌, List, [], ◌∷◌, map, filter, Option, Some, None, option_map, refl, sym, ap, ◌∙◌, arith, ◌==◌, nat_lt}
use Rattle.std.proofs.lemmas.Bool.Decides.{nat_tests}
use Rattle.std.specs.List.{list_any}
use Rattle.av_base.specs.Words.{how_many}
use Rattle.av_base.specs.declared.slot.Slot.{Slot}
use Rattle.av_plain.specs.Event.{into_cache, off_cache, with_stale}
use Rattle.av_plain.specs.Ledger.{Cached, Ledger, Setting, cached_by, frame_at, is_cached, is_free, is_merged, is_stale, same_slot, slot_of}
use Rattle.av_plain.specs.Sound.{IsSoundBut, holders, pairs, slots}
use Rattle.av_plain.proofs.Covered.Swap.{unmerged-by}
use Rattle.av_plain.proofs.Sound.Access.{unused}
use Rattle.av_plain.proofs.Sound.Changes.{any-counts}
use Rattle.av_swap_laws.specs.May.{AreOnce}
use Rattle.av_plain.proofs.Sound.Counts.{frame_at-none, frame_at-some, pair-frame, pair-slot, same-is, slot-is, slot_of-none, slot_of-some, two_frames, two_slots}

-- ---- a slot is cached

pub slot_of-into : (s : Slot) (f : ℕ) (stale : Bool) (l : Ledger) (g : ℕ)
    → slot_of (into_cache s f stale l) g ≡ cond (g == f) (Some s) (slot_of l g)
slot_of-into s f stale l g = by (g == f)
  where
    by : (b : Bool) → option_map (λ (c : Cached). c.slot) (cond b (Some (record { slot = s; frame = f; stale = stale })) (cached_by
        (λ c. g == c.frame) l.cache))
        ≡ cond b (Some s) (slot_of l g)
    by true = refl
    by false = refl

pub frame_at-into : (s : Slot) (f : ℕ) (stale : Bool) (l : Ledger) (t : Slot)
    → frame_at (into_cache s f stale l) t ≡ cond (same_slot t s) (Some f) (frame_at l t)
frame_at-into s f stale l t = by (same_slot t s)
  where
    by : (b : Bool) → option_map (λ (c : Cached). c.frame)
        (cond b (Some (record { slot = s; frame = f; stale = stale })) (cached_by (λ c. same_slot t c.slot) l.cache)) ≡ cond b (Some f) (frame_at l t)
    by true = refl
    by false = refl

-- ---- it is cached no longer

-- what is said of a slot, unless it is this one
abbrev pub unless : Slot → Option Slot → Option Slot
unless s None = None
unless s (Some t) = cond (same_slot s t) None (Some t)

-- the first that passes, where none does
none-left : (p q : Cached → Bool) (cs : List Cached) → how_many p cs ≡ 0 → cached_by p (filter q cs) ≡ None
none-left p q [] h = refl
none-left p q (c ∷ cs) h = by (q c) (p c) refl h (none-left p q cs)
  where
    by : (a b : Bool) → p c ≡ b → cond b 1 0 + how_many p cs ≡ 0 → (how_many p cs ≡ 0 → cached_by p (filter q cs) ≡ None)
        → cached_by p (cond a (c ∷ filter q cs) (filter q cs)) ≡ None
    by a true e z rest = absurd (omega (arith, z))
    by true false e z rest = ap (λ b. cond b (Some c) (cached_by p (filter q cs))) e ∙ rest (omega (arith, z))
    by false false e z rest = rest (omega (arith, z))

-- the cache without a slot
abbrev others : Slot → List Cached → List Cached
others s cs = filter (λ (c : Cached). not (same_slot s c.slot)) cs

slots_left : (s : Slot) (g : ℕ) (cs : List Cached) → how_many (λ (c : Cached). g == c.frame) cs ≤ 1
    → option_map (λ (c : Cached). c.slot) (cached_by (λ c. g == c.frame) (filter (λ (c : Cached). not (same_slot s c.slot)) cs))
    ≡ unless s (option_map (λ (c : Cached). c.slot) (cached_by (λ c. g == c.frame) cs))
slots_left s g [] h = refl
slots_left s g (c ∷ cs) h = by (same_slot s c.slot) (g == c.frame) refl refl h (slots_left s g cs)
  where
    by : (a b : Bool) → same_slot s c.slot ≡ a → (g == c.frame) ≡ b → cond b 1 0 + how_many (λ (c : Cached). g == c.frame) cs ≤ 1
        → (how_many (λ (c : Cached). g == c.frame) cs ≤ 1 → option_map (λ (c : Cached). c.slot) (cached_by (λ c. g == c.frame) (others s cs))
        ≡ unless s (option_map (λ (c : Cached). c.slot) (cached_by (λ c. g == c.frame) cs)))
        → option_map (λ (c : Cached). c.slot) (cached_by (λ c. g == c.frame) (cond (not a) (c ∷ others s cs) (others s cs)))
        ≡ unless s (option_map (λ (c : Cached). c.slot) (cond b (Some c) (cached_by (λ c. g == c.frame) cs)))
    by true true is is' few more =
        ap (option_map (λ (c : Cached). c.slot)) (none-left (λ c. g == c.frame) (λ c. not (same_slot s c.slot)) cs (omega (arith, few)))
        ∙ sym (ap (λ a. cond a None (Some c.slot)) is)
    by true false is is' few more = more (omega (arith, few))
    by false true is is' few more =
        ap (λ b. option_map (λ (c : Cached). c.slot) (cond b (Some c) (cached_by (λ c. g == c.frame) (others s cs)))) is'
        ∙ sym (ap (λ a. cond a None (Some c.slot)) is)
    by false false is is' few more =
        ap (λ b. option_map (λ (c : Cached). c.slot) (cond b (Some c) (cached_by (λ c. g == c.frame) (others s cs)))) is'
        ∙ more (omega (arith, few))

pub is_stale-off : (s : Slot) (l : Ledger) (t : Slot) → same_slot t s ≡ false → is_stale (off_cache s l) t ≡ is_stale l t
is_stale-off s l t other = each l.cache
  where
    apart : (c : Cached) → same_slot s c.slot ≡ true → same_slot t c.slot ≡ false
    apart c is = ap (same_slot t) (sym (slot-is s c.slot is)) ∙ other

    each : (cs : List Cached) → list_any (λ (c : Cached). same_slot t c.slot && c.stale) (filter (λ (c : Cached). not (same_slot s c.slot)) cs)
        ≡ list_any (λ (c : Cached). same_slot t c.slot && c.stale) cs
    each [] = refl
    each (c ∷ cs) = by (same_slot s c.slot) refl (each cs)
      where
        by : (a : Bool) → same_slot s c.slot ≡ a
            → list_any (λ (c : Cached). same_slot t c.slot && c.stale) (others s cs) ≡ list_any (λ (c : Cached). same_slot t c.slot && c.stale) cs
            → list_any (λ (c : Cached). same_slot t c.slot && c.stale) (cond (not a) (c ∷ others s cs) (others s cs))
            ≡ ((same_slot t c.slot && c.stale) || list_any (λ (c : Cached). same_slot t c.slot && c.stale) cs)
        by true is more = more ∙ sym (ap (λ b. (b && c.stale) || list_any (λ (c : Cached). same_slot t c.slot && c.stale) cs) (apart c is))
        by false is more = ap (λ b. (same_slot t c.slot && c.stale) || b) more

-- ---- it is stale, or is not

-- a pair of the cache, with another word on whether its page changed
abbrev restaled : Bool → Slot → Cached → Cached
restaled b s c = cond (same_slot s c.slot) (record c { stale = b }) c

restaled-slot : (b : Bool) (s : Slot) (c : Cached) → (restaled b s c).slot ≡ c.slot
restaled-slot b s c = elim (same_slot s c.slot) as (λ (v : Bool). (cond v (record c { stale = b }) c).slot ≡ c.slot) [ true ↦ refl | false ↦ refl ]

restaled-frame : (b : Bool) (s : Slot) (c : Cached) → (restaled b s c).frame ≡ c.frame
restaled-frame b s c = elim (same_slot s c.slot) as (λ (v : Bool). (cond v (record c { stale = b }) c).frame ≡ c.frame) [ true ↦ refl | false ↦ refl ]

-- the first that passes is the first that did, where the test reads neither
first-restaled : {A : Type 0} (b : Bool) (s : Slot) (p : Cached → Bool) (q : Cached → A) → ((c : Cached) → p (restaled b s c) ≡ p c)
    → ((c : Cached) → q (restaled b s c) ≡ q c) → (cs : List Cached)
    → option_map q (cached_by p (map (restaled b s) cs)) ≡ option_map q (cached_by p cs)
first-restaled b s p q same_p same_q [] = refl
first-restaled b s p q same_p same_q (c ∷ cs) =
    ap (λ v. option_map q (cond v (Some (restaled b s c)) (cached_by p (map (restaled b s) cs)))) (same_p c)
    ∙ by (p c) (first-restaled b s p q same_p same_q cs)
  where
    by : (v : Bool) → option_map q (cached_by p (map (restaled b s) cs)) ≡ option_map q (cached_by p cs)
        → option_map q (cond v (Some (restaled b s c)) (cached_by p (map (restaled b s) cs))) ≡ option_map q (cond v (Some c) (cached_by p cs))
    by true more = ap Some (same_q c)
    by false more = more

pub slot_of-stale : (b : Bool) (s : Slot) (l : Ledger) (g : ℕ) → slot_of (with_stale b s l) g ≡ slot_of l g
slot_of-stale b s l g = first-restaled b s (λ c. g == c.frame) (λ (c : Cached). c.slot) (λ c. ap (λ f. g == f) (restaled-frame b s c))
    (restaled-slot b s) l.cache

pub is_stale-other : (b : Bool) (s : Slot) (l : Ledger) (t : Slot) → same_slot t s ≡ false → is_stale (with_stale b s l) t ≡ is_stale l t
is_stale-other b s l t other = each l.cache
  where
    one : (c : Cached) (v : Bool) → same_slot s c.slot ≡ v
        → (same_slot t (cond v (record c { stale = b }) c).slot && (cond v (record c { stale = b }) c).stale) ≡ (same_slot t c.slot && c.stale)
    one c true is = let none : same_slot t c.slot ≡ false = ap (same_slot t) (sym (slot-is s c.slot is)) ∙ other in
        ap (λ v. v && b) none ∙ sym (ap (λ v. v && c.stale) none)
    one c false is = refl

    each : (cs : List Cached) → list_any (λ (c : Cached). same_slot t c.slot && c.stale) (map (restaled b s) cs)
        ≡ list_any (λ (c : Cached). same_slot t c.slot && c.stale) cs
    each [] = refl
    each (c ∷ cs) = λ i. one c (same_slot s c.slot) refl i || each cs i

pub is_stale-itself : (b : Bool) (s : Slot) (l : Ledger) → is_cached l s ≡ true → is_stale (with_stale b s l) s ≡ b
is_stale-itself b s l cached = each l.cache ∙ ap (λ v. v && b) cached
  where
    one : (c : Cached) (v : Bool) → same_slot s c.slot ≡ v
        → (same_slot s (cond v (record c { stale = b }) c).slot && (cond v (record c { stale = b }) c).stale) ≡ (v && b)
    one c true is = ap (λ v. v && b) is
    one c false is = ap (λ v. v && c.stale) is

    -- stale where the slot is among them
    each : (cs : List Cached) → list_any (λ (c : Cached). same_slot s c.slot && c.stale) (map (restaled b s) cs) ≡ (list_any (λ
        (c : Cached). same_slot s c.slot) cs && b)
    each [] = refl
    each (c ∷ cs) = (λ i. one c (same_slot s c.slot) refl i || each cs i)
        ∙ joined (same_slot s c.slot) (list_any (λ (c : Cached). same_slot s c.slot) cs) b
      where
        joined : (x y b : Bool) → ((x && b) || (y && b)) ≡ ((x || y) && b)
        joined true true true = refl
        joined true true false = refl
        joined true false true = refl
        joined true false false = refl
        joined false y b = refl

-- ---- a slot that is not cached

pub uncached-frame : (s : Slot) (l : Ledger) → slots l s ≡ 0 → frame_at l s ≡ None
uncached-frame s l none = by (frame_at l s) refl
  where
    by : (o : Option ℕ) → frame_at l s ≡ o → o ≡ None
    by None e = refl
    by (Some f) e = let p = frame_at-some f s l.cache e in let q = pair-slot s f l.cache in absurd (omega (arith, p, q, none))

pub uncached-stale : (s : Slot) (l : Ledger) → slots l s ≡ 0 → is_stale l s ≡ false
uncached-stale s l none = each l.cache none
  where
    each : (cs : List Cached) → how_many (λ (c : Cached). same_slot s c.slot) cs ≡ 0
        → list_any (λ (c : Cached). same_slot s c.slot && c.stale) cs ≡ false
    each [] h = refl
    each (c ∷ cs) h = by (same_slot s c.slot) refl h (each cs)
      where
        by : (v : Bool) → same_slot s c.slot ≡ v → cond v 1 0 + how_many (λ (c : Cached). same_slot s c.slot) cs ≡ 0
            → (how_many (λ (c : Cached). same_slot s c.slot) cs ≡ 0 → list_any (λ (c : Cached). same_slot s c.slot && c.stale) cs ≡ false)
            → ((v && c.stale) || list_any (λ (c : Cached). same_slot s c.slot && c.stale) cs) ≡ false
        by true is h more = absurd (omega (arith, h))
        by false is h more = more (omega (arith, h))

pub cached-is : (s : Slot) (f : ℕ) (l : Ledger) → frame_at l s ≡ Some f → is_cached l s ≡ true
cached-is s f l is = any-counts (λ (c : Cached). same_slot s c.slot) l.cache ∙ some _ _ (frame_at-some f s l.cache is) (pair-slot s f l.cache)
  where
    some : (n k : ℕ) → 0 < n → n ≤ k → nat_lt 0 k ≡ true
    some n k h i = grind (arith, nat_tests, h, i)

pub cached-slots : (s : Slot) (f : ℕ) (l : Ledger) → frame_at l s ≡ Some f → 0 < slots l s
cached-slots s f l is = let p = frame_at-some f s l.cache is in let q = pair-slot s f l.cache in omega (arith, p, q)

-- ---- frames and slots go together, where each is cached once

pub once-of : (m : Setting) (x : Slot → ℕ) (l : Ledger) → IsSoundBut m x l → AreOnce l
once-of m x l sound = record { slots_once = sound.slots_once; frames_once = sound.frames_once; merged = sound.merged }

-- a frame caches one slot at most
pub holders-once : (l : Ledger) → AreOnce l → (f : ℕ) → holders l f ≤ 1
holders-once l once f = let a = once.frames_once f in omega (arith, a)

-- a frame that is free isn't merged, nor is one that is cached
pub free-own : (l : Ledger) → AreOnce l → (f : ℕ) → is_free l f ≡ true → is_merged l f ≡ false
free-own l once f free = unmerged-by l f (let a = once.merged f in let u = unused l f free in omega (arith, a, u))

pub cached-own : (l : Ledger) → AreOnce l → (f : ℕ) (s : Slot) → frame_at l s ≡ Some f → is_merged l f ≡ false
cached-own l once f s is = unmerged-by l f (let a = once.frames_once f in let p = frame_at-some f s l.cache is in
    let q = pair-frame s f l.cache in omega (arith, a, p, q))

module _ (l : Ledger) (sound : AreOnce l) where
  pub slot-frame : (f : ℕ) (s : Slot) → slot_of l f ≡ Some s → frame_at l s ≡ Some f
  slot-frame f s is = by (frame_at l s) refl
    where
      pair : 0 < pairs l s f
      pair = slot_of-some f s l.cache is

      by : (o : Option ℕ) → frame_at l s ≡ o → o ≡ Some f
      by None e = let z = frame_at-none s l.cache e in let q = pair-slot s f l.cache in absurd (omega (arith, z, q, pair))
      by (Some g) e = same (f == g) refl
        where
          same : (b : Bool) → (f == g) ≡ b → Some g ≡ Some f
          same true i = ap Some (sym (same-is f g i))
          same false i = let two = two_frames s f g l.cache i in let p = frame_at-some g s l.cache e in let once = sound.slots_once s in
              absurd (omega (arith, two, p, once, pair))

  pub frame-slot : (f : ℕ) (s : Slot) → frame_at l s ≡ Some f → slot_of l f ≡ Some s
  frame-slot f s is = by (slot_of l f) refl
    where
      pair : 0 < pairs l s f
      pair = frame_at-some f s l.cache is

      by : (o : Option Slot) → slot_of l f ≡ o → o ≡ Some s
      by None e = let z = slot_of-none f l.cache e in let q = pair-frame s f l.cache in absurd (omega (arith, z, q, pair))
      by (Some t) e = same (same_slot s t) refl
        where
          same : (b : Bool) → same_slot s t ≡ b → Some t ≡ Some s
          same true i = ap Some (sym (slot-is s t i))
          same false i = let two = two_slots s t f l.cache i in let p = slot_of-some f t l.cache e in let once = holders-once l sound f in
              absurd (omega (arith, two, p, once, pair))

  -- a slot that goes leaves the other frames theirs
  pub slot_of-off : (s : Slot) (f : ℕ) → frame_at l s ≡ Some f → (g : ℕ) → slot_of (off_cache s l) g ≡ cond (g == f) None (slot_of l g)
  slot_of-off s f is g = slots_left s g l.cache (holders-once l sound g) ∙ by (g == f) (slot_of l g) refl refl
    where
      by : (b : Bool) (o : Option Slot) → (g == f) ≡ b → slot_of l g ≡ o → unless s o ≡ cond b None o
      by true None i e = refl
      by false None i e = refl
      by true (Some t) i e = let at : Some t ≡ Some s = sym e ∙ ap (slot_of l) (same-is g f i) ∙ frame-slot f s is in
          let same : t ≡ s = cc in ap (λ b. cond b None (Some t)) (ap (same_slot s) same ∙ itself s)
        where
          itself : (s : Slot) → same_slot s s ≡ true
          itself s = grind (arith, nat_tests)
      by false (Some t) i e = other (same_slot s t) refl
        where
          other : (b : Bool) → same_slot s t ≡ b → cond b None (Some t) ≡ Some t
          other true j = let at : Some f ≡ Some g = sym is ∙ ap (frame_at l) (slot-is s t j) ∙ slot-frame g t e in
              let same : g ≡ f = cc in absurd (differ same i)
            where
              differ : g ≡ f → (g == f) ≡ false → ⊥
              differ a b = grind (arith, nat_tests)
          other false j = refl
