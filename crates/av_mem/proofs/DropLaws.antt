-- The view after a slot is taken out of the cache.
use Rattle.std.proofs.Common.{◌≡◌, ℕ, ◌+◌, Bool, true, false, cond, not, ◌==◌, nat_lt, Option, None, is_some, refl, sym, ap, ◌∙◌, arith}
use Rattle.std.proofs.lemmas.Bool.Decides.{nat_tests}
use Rattle.av_base.specs.declared.slot.Slot.{Slot}
use Rattle.av_base.specs.Words.{with_at}
use Rattle.av_clusters.specs.Clusters.{Slots, give_slot}
use Rattle.av_anon.specs.declared.anons.Anons.{Anons as AnonSet}
use Rattle.av_anon.proofs.Words.{with_at-same}
use Rattle.av_frames.specs.Store.{Shown as ShownFrames, shown as shown_frames, with_slot as with_frame_slot}
use Rattle.av_lru.specs.Lists.{Lists}
use Rattle.av_rmap.specs.Items.{Shown as ShownItems, shown as shown_items}
use Rattle.av_plain.specs.Stands.{Pte as Plain, View}
use Rattle.av_plain.proofs.Sound.Counts.{slot-itself}
use Rattle.av_spaces.specs.Spaces.{AllSpaces}
use Rattle.av_swap_laws.specs.Steps.{view_drop, view_freed, view_given_back, view_uncached}
use Rattle.av_swapcache.specs.Swap.{Shown as ShownSwap, count_of, given_back, same_slot, shown as shown_swap, with_find}
use Rattle.av_mem.specs.Mem.{view, view_of_parts}
use Rattle.av_mem.specs.declared.mem.Mem.{Mem}
use Rattle.av_mem.proofs.StepLaws.{SameRest, table_of, view-by}

-- ---- a slot that is cached no longer

counted-off : (s : Slot) (h : ShownSwap) → count_of (with_find s None h) s ≡ h.entries s
counted-off s h = by (same_slot s s) (slot-itself s)
  where
    by : (b : Bool) → b ≡ true → h.entries s + cond (is_some (cond b None (h.find s))) 1 0 ≡ h.entries s
    by true e = omega arith
    by false e = cc

slots-back : (s : Slot) (h : ShownSwap) (n : ℕ) → h.entries s ≡ n
    → (given_back s (with_find s None h)).slots ≡ cond (n == 0) (with_at s.area (give_slot (h.slots s.area) s.page) h.slots) h.slots
slots-back s h n is = by (n == 0) (nat_lt 0 (count_of (with_find s None h) s)) (ap (nat_lt 0) (counted-off s h ∙ is) ∙ above n)
  where
    above : (n : ℕ) → nat_lt 0 n ≡ not (n == 0)
    above n = grind (arith, nat_tests)

    by : (z : Bool) (b : Bool) → b ≡ not z → with_at s.area (cond b (h.slots s.area) (give_slot (h.slots s.area) s.page)) h.slots
        ≡ cond z (with_at s.area (give_slot (h.slots s.area) s.page) h.slots) h.slots
    by true true e = cc
    by true false e = refl
    by false true e = λ i k. with_at-same s.area (h.slots s.area) h.slots refl k i
    by false false e = cc

-- ---- a slot that is dropped

-- the parts that stay
pub record Parts : Type 0 where
  pub lists : Lists
  pub items : ShownItems
  pub table : ℕ → ℕ → Option Plain
  pub spaces : AllSpaces
  pub anons : AnonSet

abbrev pub parts_of : Mem → Parts
parts_of k = record { lists = k.lists; items = shown_items k.items; table = table_of k; spaces = k.spaces; anons = k.anons }

-- the view where the slots are these, and the swap cache has let the slot go
abbrev with_slots : Parts → ShownSwap → Slot → ShownFrames → (ℕ → Slots) → View
with_slots p h s F slots = view_of_parts F p.lists p.items p.table p.spaces p.anons (record (with_find s None h) { slots = slots })

-- what the law says, by its two tests
abbrev pub uncached : ℕ → Slot → View → Bool → View
uncached f s v back = cond back (view_given_back s (view_uncached f s v)) (view_uncached f s v)

abbrev dropped : ℕ → Slot → View → Bool → Bool → View
dropped f s v gone back = let u = cond gone (view_freed f (view_uncached f s v)) (view_uncached f s v) in cond back (view_given_back s u) u

module _ (F : ShownFrames) (p : Parts) (h : ShownSwap) (f : ℕ) (s : Slot) where
  abbrev whole : View
  whole = view_of_parts F p.lists p.items p.table p.spaces p.anons h

  kept-by : (back : Bool) → with_slots p h s (with_frame_slot f None F)
      (cond back (with_at s.area (give_slot (h.slots s.area) s.page) h.slots) h.slots)
      ≡ uncached f s whole back
  kept-by true = refl
  kept-by false = refl

  pub uncached-is : view_of_parts (with_frame_slot f None F) p.lists p.items p.table p.spaces p.anons (given_back s (with_find s None h))
      ≡ uncached f s whole (h.entries s == 0)
  uncached-is = ap (with_slots p h s (with_frame_slot f None F)) (slots-back s h (h.entries s) refl) ∙ kept-by (h.entries s == 0)

-- it is freed before the slot is given back, or after that
pub freed-after : (f : ℕ) (s : Slot) (v : View) (back : Bool) → view_freed f (uncached f s v back) ≡ dropped f s v true back
freed-after f s v true = refl
freed-after f s v false = refl

pub kept-after : (f : ℕ) (s : Slot) (v : View) (back : Bool) → uncached f s v back ≡ dropped f s v false back
kept-after f s v true = refl
kept-after f s v false = refl

-- ---- in the memory system

pub not-zero : (n : ℕ) → (n ≡ 0 → ⊥) → (n == 0) ≡ false
not-zero n h = by (n == 0) refl
  where
    by : (b : Bool) → (n == 0) ≡ b → b ≡ false
    by true e = let is : n ≡ 0 = grind (arith, nat_tests, e) in absurd (h is)
    by false e = refl

-- what the frame is then, freed or not
abbrev pub after_uncached : ℕ → Bool → View → View
after_uncached f gone v = cond gone (view_freed f v) v

pub drop-by : (f : ℕ) (s : Slot) (v : View) (gone back : Bool) → after_uncached f gone (uncached f s v back) ≡ dropped f s v gone back
drop-by f s v true back = freed-after f s v back
drop-by f s v false back = kept-after f s v back

pub dropped-view : (old mid new : Mem) (f : ℕ) (s : Slot) → SameRest old mid → mid.lists ≡ old.lists
    → shown_swap mid.swap ≡ given_back s (with_find s None (shown_swap old.swap))
    → shown_frames mid.frames ≡ with_frame_slot f None (shown_frames old.frames)
    → (gone : Bool) → ((shown_frames mid.frames).maps f == 0) ≡ gone → view new ≡ after_uncached f gone (view mid)
    → view new ≡ view_drop f s (view old)
dropped-view old mid new f s same lists swap frames gone test left = left
    ∙ ap (after_uncached f gone) (view-by old mid (with_frame_slot f None (shown_frames old.frames)) old.lists
    (given_back s (with_find s None (shown_swap old.swap))) same frames lists swap
    ∙ uncached-is (shown_frames old.frames) (parts_of old) (shown_swap old.swap) f s)
    ∙ drop-by f s (view old) gone ((shown_swap old.swap).entries s == 0)
    ∙ ap (λ b. dropped f s (view old) b ((shown_swap old.swap).entries s == 0))
    (sym (sym (ap (λ (F : ShownFrames). F.maps f == 0) frames) ∙ test))

-- the tables are as they were
pub dropped-table : (f : ℕ) (s : Slot) (v : View) → (view_drop f s v).table ≡ v.table
dropped-table f s v = by (v.maps f == 0) (v.entries s == 0)
  where
    by : (a b : Bool) → (cond b (view_given_back s (cond a (view_freed f (view_uncached f s v)) (view_uncached f s v)))
        (cond a (view_freed f (view_uncached f s v)) (view_uncached f s v))).table ≡ v.table
    by true true = refl
    by true false = refl
    by false true = refl
    by false false = refl
