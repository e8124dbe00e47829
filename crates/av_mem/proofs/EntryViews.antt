-- The view after one entry fewer names a frame or a slot.
use Rattle.std.proofs.Common.{◌≡◌, ℕ, ◌+◌, ◌-◌, ◌<◌, Bool, true, false, cond, not, ◌&&◌, ◌==◌, nat_lt, Option, Some, None, is_none, is_some, refl, sym, ap, ◌∙◌, arith}
use Rattle.std.proofs.lemmas.Bool.Decides.{nat_tests}
use Rattle.std.proofs.lemmas.Bool.{false≢true}
use Rattle.av_base.specs.declared.slot.Slot.{Slot}
use Rattle.av_base.specs.Words.{with_at}
use Rattle.av_anon.proofs.Words.{with_at-same}
use Rattle.av_clusters.specs.Clusters.{Slots, give_slot}
use Rattle.av_frames.specs.Store.{shown as shown_frames}
use Rattle.av_plain.specs.Ledger.{InFrame, InSlot}
use Rattle.av_plain.specs.Stands.{View}
use Rattle.av_swap_laws.specs.Steps.{view_cleared, view_freed, view_given_back, with_at_slot}
use Rattle.av_rmap.specs.Items.{shown as shown_items}
use Rattle.av_swapcache.specs.Swap.{Shown as ShownSwap, count_of, given_back, same_slot, shown as shown_swap, with_entries}
use Rattle.av_mem.specs.Entries.{view_less, view_settled}
use Rattle.av_mem.specs.Mem.{view, view_of_parts}
use Rattle.av_mem.specs.declared.mem.Mem.{Mem}
use Rattle.av_mem.proofs.StepLaws.{SameRest, view-by}

-- ---- a frame

-- what the law says, by its test
abbrev pub frame_less : ℕ → View → Bool → View
frame_less f v free =
    let left : View = record (view_cleared 0 0 v) { maps = with_at f (v.maps f - 1) v.maps } in
    record (cond free (view_freed f left) left) { table = v.table }

-- one entry fewer names it, and it is free where this says so
abbrev with_one_less : ℕ → View → View
with_one_less f v = record v { maps = with_at f (v.maps f - 1) v.maps }

abbrev settled_by : ℕ → View → Bool → View
settled_by f v b = cond b (view_freed f v) v

-- that was the last, and it is not cached; or it stays in use
pub frame-less : (v : View) (f : ℕ) (seen write : Bool) → 0 < v.maps f
    → view_settled f (record v { maps = with_at f (v.maps f - 1) v.maps }) ≡ view_less (Some (record { entry = InFrame f seen; write = write })) v
frame-less v f seen write some = ap (λ n. settled_by f (with_one_less f v) (n == 0 && is_none (v.slot f))) left
    ∙ ap (λ b. settled_by f (with_one_less f v) (b && is_none (v.slot f))) (last (v.maps f) some)
    ∙ by (v.maps f == 1 && is_none (v.slot f))
  where
    left : with_at f (v.maps f - 1) v.maps f ≡ v.maps f - 1
    left = ap (λ b. cond b (v.maps f - 1) (v.maps f)) (itself f)
      where
        itself : (f : ℕ) → (f == f) ≡ true
        itself f = grind (arith, nat_tests)

    last : (n : ℕ) → 0 < n → (n - 1 == 0) ≡ (n == 1)
    last n h = grind (arith, nat_tests, h)

    by : (b : Bool) → settled_by f (with_one_less f v) b ≡ frame_less f v b
    by true = refl
    by false = refl

-- what the code asks of it
pub none-by : {X : Type 0} (o : Option X) (b : Bool) → is_some o ≡ not b → is_none o ≡ b
none-by None true e = refl
none-by None false e = absurd (false≢true e)
none-by (Some x) true e = absurd (false≢true (sym e))
none-by (Some x) false e = refl

pub kept-by_name : (n : ℕ) (o : Option Slot) → (n ≡ 0 → ⊥) → (n == 0 && is_none o) ≡ false
kept-by_name n o named = by (n == 0) refl
  where
    by : (b : Bool) → (n == 0) ≡ b → (b && is_none o) ≡ false
    by true e = let none : n ≡ 0 = grind (arith, nat_tests, e) in absurd (named none)
    by false e = refl

pub kept-by_cache : (n : ℕ) (o : Option Slot) → is_none o ≡ false → (n == 0 && is_none o) ≡ false
kept-by_cache n o cached = by (n == 0)
  where
    by : (b : Bool) → (b && is_none o) ≡ false
    by true = cached
    by false = refl

-- ---- a slot

-- what the law says, by its test
abbrev pub slot_less : Slot → View → Bool → View
slot_less s v back =
    let left : View = record (view_cleared 0 0 v) { entries = with_at_slot s (v.entries s - 1) v.entries } in
    record (cond back (view_given_back s left) left) { table = v.table }

-- its clusters have it back where nothing names it then
module _ (s : Slot) (h : ShownSwap) (some : 0 < h.entries s) where
  count-less : count_of (with_entries s (h.entries s - 1) h) s ≡ (h.entries s - 1) + cond (is_some (h.find s)) 1 0
  count-less = ap (λ b. cond b (h.entries s - 1) (h.entries s) + cond (is_some (h.find s)) 1 0) (itself s)
    where
      itself : (s : Slot) → same_slot s s ≡ true
      itself s = grind (arith, nat_tests)

  slots-less : (given_back s (with_entries s (h.entries s - 1) h)).slots
      ≡ cond (h.entries s == 1 && is_none (h.find s)) (with_at s.area (give_slot (h.slots s.area) s.page) h.slots) h.slots
  slots-less = ap (λ n. with_at s.area (cond (nat_lt 0 n) (h.slots s.area) (give_slot (h.slots s.area) s.page)) h.slots) count-less
      ∙ by (h.entries s == 1 && is_none (h.find s)) _ (test (h.entries s) (h.find s) some)
    where
      two : (n : ℕ) → 0 < n → nat_lt 0 (n - 1 + 1) ≡ true
      two n e = grind (arith, nat_tests, e)

      one : (n : ℕ) → 0 < n → nat_lt 0 (n - 1 + 0) ≡ not (n == 1)
      one n e = grind (arith, nat_tests, e)

      without : (b : Bool) → true ≡ not (b && false)
      without true = refl
      without false = refl

      with : (b : Bool) → not b ≡ not (b && true)
      with true = refl
      with false = refl

      test : (n : ℕ) (o : Option ℕ) → 0 < n → nat_lt 0 (n - 1 + cond (is_some o) 1 0) ≡ not (n == 1 && is_none o)
      test n None e = one n e ∙ with (n == 1)
      test n (Some f) e = two n e ∙ without (n == 1)

      by : (z b : Bool) → b ≡ not z → with_at s.area (cond b (h.slots s.area) (give_slot (h.slots s.area) s.page)) h.slots
          ≡ cond z (with_at s.area (give_slot (h.slots s.area) s.page) h.slots) h.slots
      by true true e = absurd (false≢true (sym e))
      by true false e = refl
      by false true e = λ i k. with_at-same s.area (h.slots s.area) h.slots refl k i
      by false false e = absurd (false≢true e)

module _ (old new : Mem) (s : Slot) (write : Bool) where
  abbrev h : ShownSwap
  h = shown_swap old.swap

  -- the parts, with these slots
  abbrev with_slots : (ℕ → Slots) → View
  with_slots slots = view_of_parts (shown_frames old.frames) old.lists (shown_items old.items) (view old).table old.spaces old.anons
      (record (with_entries s (h.entries s - 1) h) { slots = slots })

  pub slot-down : SameRest old new → new.frames ≡ old.frames → new.lists ≡ old.lists → 0 < h.entries s
      → shown_swap new.swap ≡ given_back s (with_entries s (h.entries s - 1) h)
      → view new ≡ view_less (Some (record { entry = InSlot s; write = write })) (view old)
  slot-down same frames lists some swap =
      view-by old new (shown_frames old.frames) old.lists (given_back s (with_entries s (h.entries s - 1) h)) same (ap shown_frames frames) lists swap
      ∙ ap with_slots (slots-less s h some) ∙ by (h.entries s == 1 && is_none (h.find s))
    where
      by : (b : Bool) → with_slots (cond b (with_at s.area (give_slot (h.slots s.area) s.page) h.slots) h.slots) ≡ slot_less s (view old) b
      by true = refl
      by false = refl
