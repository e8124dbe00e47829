-- How many frames are locked, and how many of these cached, after a count or a slot is set.
use Rattle.std.proofs.Common.{◌≡◌, ℕ, ◌^◌, ◌<◌, ◌+◌, ◌&&◌, cond, length, slice_set, slice_index, slice_index_or, nat_lt, Option, None, is_some, subst, sym, ap, ◌∙◌, arith, length-set, get_or-set_same, get_or-set_other, replicate}
use Rattle.std.proofs.lemmas.List.{length-replicate}
use Rattle.av_base.specs.declared.slot.Slot.{Slot}
use Rattle.av_frames.specs.Locks.{LocksAndSlots, IsCounted, is_locked, is_locked_cached, count_frames}
use Rattle.av_frames.proofs.Counts.{IsRecounted, none, recounted}
use Rattle.av_frames.proofs.Shown.{same_value}

abbrev pub with_count : ℕ → ℕ → LocksAndSlots → LocksAndSlots
with_count f count a = record a { locks = slice_set a.locks f count }

abbrev pub with_slot : ℕ → Option Slot → LocksAndSlots → LocksAndSlots
with_slot f slot a = record a { slots = slice_set a.slots f slot }

-- what is known where a frame's count is set
pub record CountIsSet (a : LocksAndSlots) (f was count : ℕ) (slot : Option Slot) (m n : ℕ) : Type 0 where
  pub locked : IsRecounted (nat_lt 0 was) (nat_lt 0 count) m (count_frames (is_locked (with_count f count a)) a)
  pub cached : IsRecounted (nat_lt 0 was && is_some slot) (nat_lt 0 count && is_some slot) n (count_frames (is_locked_cached (with_count f count a)) a)

pub count-set : (a v : LocksAndSlots) (f was count : ℕ) (slot : Option Slot) (m n : ℕ) → IsCounted a m n → a ≡ v → f < length v.locks
    → was ≡ slice_index v.locks f → slot ≡ slice_index_or a.slots f None → CountIsSet a f was count slot m n
count-set a v f was count slot m n h view below at cached = record {
  locked = recounted (is_locked a) (is_locked b) f (length a.locks) _ _ m low h.few h.locked
      (ap (nat_lt 0) at_a) (ap (nat_lt 0) (sym here))
      (λ g ne. ap (nat_lt 0) (get_or-set_other a.locks f g count 0 ne));
  cached = recounted (is_locked_cached a) (is_locked_cached b) f (length a.locks) _ _ n low h.few h.cached
      (ap (λ k. nat_lt 0 k && is_some slot) at_a ∙ ap (λ (o : Option Slot). is_locked a f && is_some o) cached)
      (ap (λ k. nat_lt 0 k && is_some slot) (sym here) ∙ ap (λ (o : Option Slot). is_locked b f && is_some o) cached)
      (λ g ne. ap (λ k. nat_lt 0 k && is_some (slice_index_or a.slots g None)) (get_or-set_other a.locks f g count 0 ne));
}
  where
    b : LocksAndSlots
    b = with_count f count a

    low : f < length a.locks
    low = subst (λ (x : LocksAndSlots). f < length x.locks) (sym view) below

    at_a : was ≡ slice_index a.locks f
    at_a = at ∙ ap (λ (x : LocksAndSlots). slice_index x.locks f) (sym view)

    here : slice_index b.locks f ≡ count
    here = get_or-set_same a.locks f count 0 low

pub count-kept : (a : LocksAndSlots) (f was count : ℕ) (slot : Option Slot) (m n m' n' : ℕ) → IsCounted a m n → CountIsSet a f was count slot m n
    → m' + cond (nat_lt 0 was) 1 0 ≡ m + cond (nat_lt 0 count) 1 0
    → n' + cond (nat_lt 0 was && is_some slot) 1 0 ≡ n + cond (nat_lt 0 count && is_some slot) 1 0
    → IsCounted (with_count f count a) m' n'
count-kept a f was count slot m n m' n' h is locked both =
    let long = length-set a.locks f count in
    let one = is.locked.set in
    let other = is.cached.set in
    let few = h.few in
    let slots = h.slots in
    record {
      few = omega (arith, long, few);
      slots = omega (arith, long, slots);
      locked = rw long (omega (arith, one, locked));
      cached = rw long (omega (arith, other, both));
    }

-- the same where its slot is
pub slot-set : (a v : LocksAndSlots) (f count : ℕ) (was slot : Option Slot) (m n : ℕ) → IsCounted a m n → a ≡ v → f < length v.locks
    → count ≡ slice_index v.locks f → was ≡ slice_index_or a.slots f None
    → IsRecounted (nat_lt 0 count && is_some was) (nat_lt 0 count && is_some slot) n (count_frames (is_locked_cached (with_slot f slot a)) a)
slot-set a v f count was slot m n h view below at cached =
    recounted (is_locked_cached a) (is_locked_cached (with_slot f slot a)) f (length a.locks) _ _ n low h.few h.cached
    (ap (λ k. nat_lt 0 k && is_some was) at_a ∙ ap (λ (o : Option Slot). is_locked a f && is_some o) cached)
    (ap (λ k. nat_lt 0 k && is_some slot) at_a
    ∙ ap (λ (o : Option Slot). is_locked a f && is_some o) (sym (get_or-set_same a.slots f slot None (let len = h.slots in omega (arith, len, low)))))
    (λ g ne. ap (λ (o : Option Slot). is_locked a g && is_some o) (get_or-set_other a.slots f g slot None ne))
  where
    low : f < length a.locks
    low = subst (λ (x : LocksAndSlots). f < length x.locks) (sym view) below

    at_a : count ≡ slice_index a.locks f
    at_a = at ∙ ap (λ (x : LocksAndSlots). slice_index x.locks f) (sym view)

pub slot-kept : (a : LocksAndSlots) (f count : ℕ) (was slot : Option Slot) (m n n' : ℕ) → IsCounted a m n
    → IsRecounted (nat_lt 0 count && is_some was) (nat_lt 0 count && is_some slot) n (count_frames (is_locked_cached (with_slot f slot a)) a)
    → n' + cond (nat_lt 0 count && is_some was) 1 0 ≡ n + cond (nat_lt 0 count && is_some slot) 1 0
    → IsCounted (with_slot f slot a) m n'
slot-kept a f count was slot m n n' h is both =
    let other = is.set in
    record {
      few = h.few;
      slots = length-set a.slots f slot ∙ h.slots;
      locked = h.locked;
      cached = omega (arith, other, both);
    }

-- none is locked at first
pub counted-fresh : (n : ℕ) → n < 2 ^ 32 → IsCounted (record { locks = replicate n 0; slots = replicate n None }) 0 0
counted-fresh n few =
    let a : LocksAndSlots = record { locks = replicate n 0; slots = replicate n None } in
    let long = length-replicate {A = ℕ} n 0 in
    let slots = length-replicate {A = Option Slot} n None in
    record {
      few = omega (arith, long, few);
      slots = omega (arith, long, slots);
      locked = none (is_locked a) _ 0 (λ g. ap (nat_lt 0) (same_value n g 0));
      cached = none (is_locked_cached a) _ 0 (λ g. ap (λ k. nat_lt 0 k && is_some (slice_index_or a.slots g None)) (same_value n g 0));
    }
