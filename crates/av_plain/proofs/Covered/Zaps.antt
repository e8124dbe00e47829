-- What holds of frames and slots where entries go, and where areas become others.
use Rattle.std.proofs.Common.{◌≡◌, ℕ, ◌≤◌, Bool, true, false, cond, not, ◌&&◌, ◌==◌, ◌∙◌, List, [], ◌∷◌, Option, Some, None, is_some, option_map, IsSomeAnd, refl, sym, ap, subst}
use Rattle.av_base.specs.Keys.{Key, same_key}
use Rattle.av_base.specs.Words.{how_many}
use Rattle.av_base.specs.declared.slot.Slot.{Slot}
use Rattle.av_vma.specs.Pages.{home_of}
use Rattle.av_trace.specs.declared.note.Note.TheVariants.{Dropped}
use Rattle.av_plain.specs.Areas.{Rmap}
use Rattle.av_plain.specs.Covered.{AreMergedCovered, AreSlotsCovered, IsRmapSound}
use Rattle.av_plain.specs.Event.{after_all, after_note, after_zap, entries_where, note_events, off_cache, when}
use Rattle.av_plain.specs.Ledger.{Cached, Entry, Ledger, cached_by, entry, frame_at, is_merged, is_orphan, names_frame, names_slot, same_slot}
use Rattle.av_plain.specs.Zap.{orphan_drop, slot_behind_key, zap_of, zaps_of}
use Rattle.av_plain.proofs.Access.{after_all-append}
use Rattle.av_plain.proofs.Covered.{AnonsStay, Names, Owns, merged-fewer, sound-fewer, sound-next}
use Rattle.av_plain.proofs.Covered.Slots.{merged-carried, slots-carried, slots-same}
use Rattle.av_plain.proofs.Covered.Swap.{AreMergedFewer, Reach, merged-settled, merged-settled_entry, reach-note}
use Rattle.av_plain.proofs.Sound.Steps.{settle-entries}
use Rattle.av_plain.proofs.Zap.{entry-after_zap, in_order-after_zap, same_swap-after_zap}

-- ---- entries go

-- what an entry is that is left it was
left-was : (P : Entry → Type 0) (k : Key) (l : Ledger) (q : Key) → IsSomeAnd (entry (after_zap k l) q) P → IsSomeAnd (entry l q) P
left-was P k l q is = by (same_key k q) (subst (λ o. IsSomeAnd o P) (entry-after_zap k l q) is)
  where
    by : (b : Bool) → IsSomeAnd (cond b None (entry l q)) P → IsSomeAnd (entry l q) P
    by true is = absurd is
    by false is = is

-- the merged frames are fewer then
zapped-fewer : (l : Ledger) (k : Key) → AreMergedFewer (record l { entries = entries_where (λ q. not (k.0 == q.0 && k.1 == q.1)) l }) (after_zap k l)
zapped-fewer l k = merged-settled_entry (entry l k) (record l { entries = entries_where (λ q. not (k.0 == q.0 && k.1 == q.1)) l })

pub sound-zapped : (l : Ledger) (r : Rmap) (k : Key) → IsRmapSound l r → IsRmapSound (after_zap k l) r
sound-zapped l r k = sound-fewer l (after_zap k l) r (λ q f names own.
    (left-was (λ e. names_frame f e ≡ true) k l q names, sym ((zapped-fewer l k).named q f names) ∙ own))

pub merged-zapped : (l : Ledger) (r : Rmap) (k : Key) → AreMergedCovered l r → AreMergedCovered (after_zap k l) r
merged-zapped l r k =
    merged-fewer l (after_zap k l) r (λ q f names is. left-was (λ e. names_frame f e ≡ true) k l q names) (zapped-fewer l k).fewer

pub slots-zapped : (l : Ledger) (r : Rmap) (k : Key) → AreSlotsCovered l r → AreSlotsCovered (after_zap k l) r
slots-zapped l r k = slots-same l (after_zap k l) r (λ t q. left-was (λ e. names_slot t e ≡ true) k l q)
    (λ t. ap (λ cs. option_map (λ (c : Cached). c.frame) (cached_by (λ c. same_slot t c.slot) cs)) (same_swap-after_zap k l).cache)

pub zapped-reach : (l : Ledger) (r : Rmap) (k : Key) → Reach l r → Reach (after_zap k l) r
zapped-reach l r k h = record {
  in_order = in_order-after_zap k l h.in_order;
  once = λ s. subst (λ cs. how_many (λ (c : Cached). same_slot s c.slot) cs ≤ 1) (sym (same_swap-after_zap k l).cache) (h.once s);
  sound = sound-zapped l r k h.sound;
  slots = slots-zapped l r k h.slots;
  merged = merged-zapped l r k h.merged;
}

pub orphan-reach : (x l : Ledger) (r : Rmap) (o : Option Slot) → Reach l r → Reach (after_all l (orphan_drop x o)) r
orphan-reach x l r None h = h
orphan-reach x l r (Some t) h = by (is_orphan x t)
  where
    by : (b : Bool) → Reach (after_all l (note_events (when b (Dropped t)))) r
    by true = reach-note l r (Dropped t) tt h
    by false = h

pub zap_of-reach : (l : Ledger) (r : Rmap) (k : Key) → Reach l r → Reach (after_all l (zap_of l k)) r
zap_of-reach l r k h = orphan-reach (after_zap k l) (after_zap k l) r (slot_behind_key l (entry l k)) (zapped-reach l r k h)

-- a row of them
pub zaps-reach : (l : Ledger) (r : Rmap) (ks : List Key) → Reach l r → Reach (after_all l (zaps_of l ks)) r
zaps-reach l r [] h = h
zaps-reach l r (k ∷ ks) h = subst (λ x. Reach x r) (sym (after_all-append l (zap_of l k) (zaps_of (after_all l (zap_of l k)) ks)))
    (zaps-reach (after_all l (zap_of l k)) r ks (zap_of-reach l r k h))

-- ---- what is merged then

-- an entry names the frame
abbrev pub IsNamed : Ledger → ℕ → Type 0
IsNamed l f = (k : Key) × Names l k f

-- a frame that an entry names was named, and is merged if it was; and no other is merged now
pub record MergedLeft (l l' : Ledger) : Type 0 where
  pub named : (f : ℕ) → IsNamed l' f → IsNamed l f × (is_merged l' f ≡ is_merged l f)
  pub fewer : (f : ℕ) → is_merged l' f ≡ true → is_merged l f ≡ true

pub left-then : (a b c : Ledger) → MergedLeft a b → MergedLeft b c → MergedLeft a c
left-then a b c x y = record {
  named = λ f is. let v = y.named f is in let u = x.named f v.0 in (u.0, v.1 ∙ u.1);
  fewer = λ f is. x.fewer f (y.fewer f is);
}

left-zapped : (l : Ledger) (k : Key) → MergedLeft l (after_zap k l)
left-zapped l k = record {
  named = λ f is. ((is.0, left-was (λ e. names_frame f e ≡ true) k l is.0 is.1), (zapped-fewer l k).named is.0 f is.1);
  fewer = (zapped-fewer l k).fewer;
}

left-dropped : (l : Ledger) (t : Slot) → MergedLeft l (after_note (Dropped t) l)
left-dropped l t = record {
  named = λ f is. (
    (is.0, subst (λ es. Names (record l { entries = es }) is.0 f) (settle-entries (frame_at l t) (off_cache t l)) is.1),
    (merged-settled (frame_at l t) (off_cache t l)).named is.0 f is.1,
  );
  fewer = (merged-settled (frame_at l t) (off_cache t l)).fewer;
}

left-same : (l : Ledger) → MergedLeft l l
left-same l = record { named = λ f is. (is, refl); fewer = λ f is. is }

left-orphan : (x l : Ledger) (o : Option Slot) → MergedLeft l (after_all l (orphan_drop x o))
left-orphan x l None = left-same l
left-orphan x l (Some t) = by (is_orphan x t)
  where
    by : (b : Bool) → MergedLeft l (after_all l (note_events (when b (Dropped t))))
    by true = left-dropped l t
    by false = left-same l

pub left-zaps : (l : Ledger) (ks : List Key) → MergedLeft l (after_all l (zaps_of l ks))
left-zaps l [] = left-same l
left-zaps l (k ∷ ks) =
    let gone = after_zap k l in
    let one = after_all l (zap_of l k) in
    left-then l one _ (left-then l gone one (left-zapped l k) (left-orphan gone gone (slot_behind_key l (entry l k))))
    (subst (MergedLeft one) (sym (after_all-append l (zap_of l k) (zaps_of one ks))) (left-zaps one ks))

-- ---- areas become others

-- each page with an entry keeps the home that frames have from it, no area has an own anon_vma that
-- none had, and of the anon_vmas is left what is linked
pub next-reach : (l : Ledger) (r next : Rmap)
    → ((k : Key) (h : ℕ × ℕ) → is_some (entry l k) ≡ true → home_of k.1 (r.areas k.0 k.1) ≡ Some h → home_of k.1 (next.areas k.0 k.1) ≡ Some h)
    → ((p page v : ℕ) → Owns next p page v → (q : ℕ) × (other : ℕ) × Owns r q other v)
    → AnonsStay r.anons next.areas next.anons → next.homes ≡ r.homes → next.items ≡ r.items → Reach l r → Reach l next
next-reach l r next home owns left homes items h = record {
  in_order = h.in_order;
  once = h.once;
  sound = sound-next l l r next (λ k f names. names) (λ k f x names is. home k x
      (there (λ e. names_frame f e ≡ true) k names) is) owns (λ k f names own. own) left homes h.sound;
  slots = slots-carried l r next owns left h.sound h.slots l (λ t k names. record {
    was = k;
    names = names;
    home = λ x is. home k x
        (there (λ e. names_slot t e ≡ true) k names) is;
  })
      (λ t f at. at) homes;
  merged = merged-carried l r next owns left h.sound h.slots l (λ k f names. record {
    was = k;
    names = names;
    home = λ x is. home k x
        (there (λ e. names_frame f e ≡ true) k names) is;
  })
      (λ f is. is) homes items h.merged;
}
  where
    there : (P : Entry → Type 0) (k : Key) → IsSomeAnd (entry l k) P → is_some (entry l k) ≡ true
    there P k is = by (entry l k) is
      where
        by : (o : Option Entry) → IsSomeAnd o P → is_some o ≡ true
        by None is = absurd is
        by (Some e) is = refl
