-- What stays cached where entries go or move: a slot that an entry names keeps the frame that caches it. So bytes stay where pages keep them.
use Rattle.std.proofs.Common.{◌≡◌, ◌⊎◌, inl, inr, ℕ, ◌+◌, ◌-◌, ◌<◌, ◌≤◌, min, Bool, true, false, cond, not, ◌&&◌, ◌==◌, List, [], ◌∷◌, Option, Some, None, refl, sym, ap, subst, ◌∙◌, arith}
use Rattle.std.proofs.lemmas.Bool.Decides.{nat_tests}
use Rattle.av_base.specs.Keys.{Key}
use Rattle.av_base.specs.declared.slot.Slot.{Slot}
use Rattle.av_trace.specs.declared.note.Note.TheVariants.{Dropped}
use Rattle.av_plain.specs.Device.{Device}
use Rattle.av_plain.specs.Event.{after_all, after_move, after_note, after_zap, note_events, off_cache, when}
use Rattle.av_plain.specs.Ledger.{Ledger, Setting, entry, frame_at, in_flight, is_orphan, is_stale, is_unmapped, same_slot, slot_entries}
use Rattle.av_plain.specs.Mremap.{remap_events}
use Rattle.av_plain.specs.Sound.{IsSound}
use Rattle.av_plain.specs.Stands.{BytesStand, IsClean, IsKept, View}
use Rattle.av_plain.specs.World.{World, pages}
use Rattle.av_plain.specs.Zap.{keys_in, orphan_drop, slot_behind_key, zap_of, zaps_of}
use Rattle.av_plain.proofs.Access.{after_all-append}
use Rattle.av_plain.proofs.Covered.Slots.{frame_at-off}
use Rattle.av_plain.proofs.Event.{put_all-only}
use Rattle.av_plain.proofs.Mremap.{after-elsewhere, after-in_place, others_of, shifted, then_tail, then_target}
use Rattle.av_plain.proofs.Sound.Counts.{slot-is}
use Rattle.av_plain.proofs.Sound.Mremap.{free_target, slots-stay, tail-kept, target-kept}
use Rattle.av_plain.proofs.Sound.Steps.{settle-cache, settle-entries, settle-flight}
use Rattle.av_plain.proofs.Sound.Zap.{zap_of-kept}
use Rattle.av_plain.proofs.Zap.{same_swap-after_zap, slot_entries-after_zap}
use Rattle.av_swap_laws.proofs.Cache.{is_stale-off}
use Rattle.av_swap_laws.proofs.Parts.{clean-same, kept-moves, named-slot}

-- no more entries name each slot; one that is named is cached where it was; and one that is cached, neither stale nor in flight, was so
pub record KeepsCached (l later : Ledger) : Type 0 where
  pub fewer : (s : Slot) → slot_entries later s ≤ slot_entries l s
  pub found : (s : Slot) → 0 < slot_entries later s → frame_at later s ≡ frame_at l s
  pub clean : (s : Slot) → is_stale later s ≡ false → in_flight later s ≡ false
      → (frame_at later s ≡ None) ⊎ ((frame_at later s ≡ frame_at l s) × (is_stale l s ≡ false) × (in_flight l s ≡ false))

-- cache and flight stay
pub cache-stays : (l later : Ledger) → later.cache ≡ l.cache → later.flight ≡ l.flight → ((s : Slot) → slot_entries later s ≤ slot_entries l s)
    → KeepsCached l later
cache-stays l later cache flight fewer = record {
  fewer = fewer;
  found = λ s named. at s;
  clean = λ s fresh low. inr (
    at s,
    ap (λ cs. is_stale (record l { cache = cs }) s) (sym cache) ∙ fresh,
    ap (λ fs. in_flight (record l { flight = fs }) s) (sym flight) ∙ low,
  );
}
  where
    at : (s : Slot) → frame_at later s ≡ frame_at l s
    at s = ap (λ cs. frame_at (record l { cache = cs }) s) cache

pub cached-itself : (l : Ledger) → KeepsCached l l
cached-itself l = cache-stays l l refl refl (λ s. omega arith)

pub cached-then : (a b c : Ledger) → KeepsCached a b → KeepsCached b c → KeepsCached a c
cached-then a b c first second = record {
  fewer = λ s. omega (arith, first.fewer s, second.fewer s);
  found = λ s named. second.found s named ∙ first.found s (omega (arith, named, second.fewer s));
  clean = λ s fresh low. later s (second.clean s fresh low);
}
  where
    both : (s : Slot) → frame_at c s ≡ frame_at b s
        → (frame_at b s ≡ None) ⊎ ((frame_at b s ≡ frame_at a s) × (is_stale a s ≡ false) × (in_flight a s ≡ false))
        → (frame_at c s ≡ None) ⊎ ((frame_at c s ≡ frame_at a s) × (is_stale a s ≡ false) × (in_flight a s ≡ false))
    both s same (inl none) = inl (same ∙ none)
    both s same (inr was) = inr (same ∙ was.0, was.1, was.2)

    later : (s : Slot) → (frame_at c s ≡ None) ⊎ ((frame_at c s ≡ frame_at b s) × (is_stale b s ≡ false) × (in_flight b s ≡ false))
        → (frame_at c s ≡ None) ⊎ ((frame_at c s ≡ frame_at a s) × (is_stale a s ≡ false) × (in_flight a s ≡ false))
    later s (inl none) = inl none
    later s (inr was) = both s was.0 (first.clean s was.1 was.2)

-- ---- entries go

-- a slot that no entry names is dropped
drop-cached : (l : Ledger) (s : Slot) → slot_entries l s ≡ 0 → KeepsCached l (after_note (Dropped s) l)
drop-cached l s none = record {
  fewer = λ t. let same = names t in omega (arith, same);
  found = λ t named. found t (same_slot t s) refl named;
  clean = λ t fresh low. clean t (same_slot t s) refl fresh low;
}
  where
    now : Ledger
    now = after_note (Dropped s) l

    names : (t : Slot) → slot_entries now t ≡ slot_entries l t
    names t = ap (λ es. slot_entries (record l { entries = es }) t) (settle-entries (frame_at l s) (off_cache s l))

    at : (t : Slot) → frame_at now t ≡ cond (same_slot t s) None (frame_at l t)
    at t = ap (λ cs. frame_at (record l { cache = cs }) t) (settle-cache (frame_at l s) (off_cache s l)) ∙ frame_at-off s t l.cache

    at_other : (t : Slot) → same_slot t s ≡ false → frame_at now t ≡ frame_at l t
    at_other t other = at t ∙ ap (λ b. cond b None (frame_at l t)) other

    found : (t : Slot) (b : Bool) → same_slot t s ≡ b → 0 < slot_entries now t → frame_at now t ≡ frame_at l t
    found t true is named =
        let same = names t in let gone = ap (slot_entries l) (slot-is t s is) in absurd (omega (arith, named, same, gone, none))
    found t false other named = at_other t other

    clean : (t : Slot) (b : Bool) → same_slot t s ≡ b → is_stale now t ≡ false → in_flight now t ≡ false
        → (frame_at now t ≡ None) ⊎ ((frame_at now t ≡ frame_at l t) × (is_stale l t ≡ false) × (in_flight l t ≡ false))
    clean t true is fresh low = inl (at t ∙ ap (λ b. cond b None (frame_at l t)) is)
    clean t false other fresh low = inr (
      at_other t other,
      sym (is_stale-off s l t other) ∙ ap (λ cs. is_stale (record l { cache = cs }) t) (sym (settle-cache (frame_at l s) (off_cache s l))) ∙ fresh,
      ap (λ fs. in_flight (record l { flight = fs }) t) (sym (settle-flight (frame_at l s) (off_cache s l))) ∙ low,
    )

orphan-cached : (l : Ledger) (o : Option Slot) → KeepsCached l (after_all l (orphan_drop l o))
orphan-cached l None = cached-itself l
orphan-cached l (Some s) = by (is_orphan l s) refl
  where
    unnamed : (a b : Bool) (n : ℕ) → (a && b && n == 0) ≡ true → n ≡ 0
    unnamed a b n h = grind (arith, nat_tests, h)

    by : (b : Bool) → is_orphan l s ≡ b → KeepsCached l (after_all l (note_events (when b (Dropped s))))
    by true is = drop-cached l s (unnamed (is_unmapped l (frame_at l s)) (not (in_flight l s)) (slot_entries l s) is)
    by false is = cached-itself l

zap-cached : (m : Setting) (l : Ledger) (k : Key) → IsSound m l → KeepsCached l (after_all l (zap_of l k))
zap-cached m l k sound = cached-then l (after_zap k l) (after_all l (zap_of l k))
    (cache-stays l (after_zap k l) (same_swap-after_zap k l).cache (same_swap-after_zap k l).flight
    (λ s. let left = slot_entries-after_zap k l s sound.in_order in omega (arith, left)))
    (orphan-cached (after_zap k l) (slot_behind_key l (entry l k)))

pub zaps-cached : (m : Setting) (l : Ledger) (ks : List Key) → IsSound m l → KeepsCached l (after_all l (zaps_of l ks))
zaps-cached m l [] sound = cached-itself l
zaps-cached m l (k ∷ ks) sound =
    let then = after_all l (zap_of l k) in
    subst (KeepsCached l) (sym (after_all-append l (zap_of l k) (zaps_of then ks)))
    (cached-then l then (after_all then (zaps_of then ks)) (zap-cached m l k sound) (zaps-cached m then ks (zap_of-kept m l k sound)))

-- ---- entries move

pub remap-cached : (m : Setting) (l : Ledger) (p from n to k : ℕ) → IsSound m l → KeepsCached l (after_all l (remap_events l p from n to k))
remap-cached m l p from n to k sound = by (to == from) refl
  where
    target : Ledger
    target = then_target l p from n to k

    tail : Ledger
    tail = then_tail l p from n to k

    moved : KeepsCached tail (after_move p (min n k) from to tail)
    moved =
        let only = put_all-only (shifted p (min n k) from to tail.entries) (record tail { entries = others_of p from (min n k) tail.entries }) in
        cache-stays tail (after_move p (min n k) from to tail) (ap (λ (x : Ledger). x.cache) only) (ap (λ (x : Ledger). x.flight) only)
        (λ s. let same = slots-stay m tail p (min n k) from to (tail-kept m l p from n to k sound) (free_target m l p from n to k sound) s in
        omega (arith, same))

    by : (b : Bool) → (to == from) ≡ b → KeepsCached l (after_all l (remap_events l p from n to k))
    by true here = subst (KeepsCached l) (sym (after-in_place l p from n to k here)) (zaps-cached m l (keys_in l p (from + k) (n - k)) sound)
    by false there = subst (KeepsCached l) (sym (after-elsewhere l p from n to k there))
        (cached-then l tail (after_move p (min n k) from to tail)
        (cached-then l target tail (zaps-cached m l (keys_in l p to k) sound)
        (zaps-cached m target (keys_in target p (from + k) (n - k)) (target-kept m l p from n to k sound)))
        moved)

-- ---- bytes

-- each page has an entry that kept what it claims
pub bytes-left : (d : Device) (v v' : View) (w later : World) (l l' : Ledger) → v'.bytes ≡ v.bytes → KeepsCached l l' → BytesStand v d w l
    → ((p page : ℕ) → IsKept v d l (entry l' (p, page)) (pages later p page)) → BytesStand v' d later l'
bytes-left d v v' w later l l' same cached h kept = record {
  kept = λ p page. kept-moves v v' d d l l' (entry l' (p, page)) (pages later p page) same
      (λ s is. cached.found s (named-slot l' (p, page) s is)) (λ s is none held. held) (kept p page);
  clean = λ s fresh low. by s (cached.clean s fresh low);
}
  where
    by : (s : Slot) → (frame_at l' s ≡ None) ⊎ ((frame_at l' s ≡ frame_at l s) × (is_stale l s ≡ false) × (in_flight l s ≡ false))
        → IsClean v' d s (frame_at l' s)
    by s (inl none) = subst (IsClean v' d s) (sym none) tt
    by s (inr was) = clean-same v v' d s (frame_at l s) (frame_at l' s) same was.0 (h.clean s was.1 was.2)
