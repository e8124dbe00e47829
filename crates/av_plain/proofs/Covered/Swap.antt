-- What holds of frames and slots after the commands that move pages to swap areas and back.
use Rattle.std.proofs.Common.{◌≡◌, ℕ, ◌+◌, ◌<◌, ◌≤◌, Bool, true, false, cond, not, T, List, [], ◌∷◌, ◌++◌, map, Option, Some, None, is_none, refl, sym, ap, subst, ◌∙◌, arith, ◌==◌}
use Rattle.std.specs.FinMap.Entries.{is_sorted}
use Rattle.std.proofs.Common.{nat_lt}
use Rattle.std.proofs.lemmas.Bool.{false≢true}
use Rattle.std.specs.Prelude.{reverse, if◌then◌else◌, IsTrue, IsSomeAnd, MatchBool, MatchOption}
use Rattle.av_base.specs.Keys.{Key, key_cmp}
use Rattle.av_base.proofs.Without.{count-without}
use Rattle.av_base.specs.Words.{how_many, is_in, without}
use Rattle.av_base.specs.declared.slot.Slot.{Slot}
use Rattle.av_trace.specs.declared.note.Cause.{Cause}
use Rattle.av_trace.specs.declared.note.Cause.TheVariants.{Ksm, Locked, NoSlot, Referenced, WriteStarted, Writeback}
use Rattle.av_trace.specs.declared.note.Note.{Note}
use Rattle.av_trace.specs.declared.note.Note.TheVariants.{Aged, Copied, Dropped, Failed, Joined, Kept, Loaded, Mapped, Moved, New, Put, Shared, Started, Unmapped, Written, Zeroed}
use Rattle.av_plain.specs.Areas.{Rmap, home_for, rmap_after_all, rmap_after_note}
use Rattle.av_plain.specs.Covered.{AreMergedCovered, AreSlotsCovered, IsRmapSound}
use Rattle.av_plain.specs.Event.{after_note, after_notes, change_entries, frame_of, if_some, into_cache, key_at, note_events, off_cache, off_flight, off_lists, set_entry, settle, settle_entry, to_active, to_inactive_head, to_inactive_tail, when, with_stale, without_seen}
use Rattle.av_plain.specs.Ledger.{Cached, Entry, InFrame, InSlot, Ledger, Setting, Zero, entry, frame_at, has_free, is_free, is_merged, is_orphan, keys_of_slot, map_count, may_give, names_frame, same_slot, slot_entries, slot_of}
use Rattle.av_plain.specs.Pass.{Completes, IsPass, IsSlotFor, Seeks, Spared, Turns, end_note, end_notes, frames_in_turn, is_dirty, is_stuck, stays_cached, turn_notes, unmap_notes}
use Rattle.av_plain.specs.Reclaim.{Outcome, Outcomes, cause_of, leave_notes}
use Rattle.av_plain.specs.Sound.{IsSound, mergings, pairs, slots}
use Rattle.av_plain.proofs.Access.{after_notes-append}
use Rattle.av_plain.proofs.Covered.{Names, merged-fewer, merged-homed, merged-set, settled-merged, sound-fewer, sound-set, unnamed-by}
use Rattle.av_plain.proofs.Covered.Slots.{names-unmapped, names-unseen, slots-lists, slots-loaded, slots-off_cache, slots-put, slots-set, slots-stale, slots-unmapped, slots-unseen, sound-loaded, sound-mapped, sound-unmapped, sound-unseen}
use Rattle.av_plain.proofs.Sound.Access.{unused}
use Rattle.av_plain.proofs.Sound.Changes.{any-counts}
use Rattle.av_plain.proofs.Sound.Counts.{frame_at-none, frame_at-some, pair-frame, pair-slot, same-is, slot-is, slot_of-some, two_frames}
use Rattle.av_plain.proofs.Sound.Counts as counts
use Rattle.av_plain.proofs.Sound.Pass.{AreUnmerged, all-unmerged, unmerged-first, unmerged-rest}
use Rattle.av_plain.proofs.Sound.Reclaim.{unmerged_of}
use Rattle.av_plain.proofs.Sound.Steps.{alike-with_stale, given-nowhere, settle-cache, settle-entries}
use Rattle.av_plain.proofs.Sound.Swap.Empty.{Waits}
use Rattle.av_plain.proofs.Sound.There.{sorted-note}

-- what holds after each note
pub record Reach (l : Ledger) (r : Rmap) : Type 0 where
  pub in_order : T (is_sorted key_cmp l.entries)
  pub once : (s : Slot) → slots l s ≤ 1
  pub sound : IsRmapSound l r
  pub slots : AreSlotsCovered l r
  pub merged : AreMergedCovered l r

-- ---- one note

-- what a note asks for. These commands show a page to no process that hasn't seen it, and they
-- neither merge frames nor move them
abbrev pub Fits : Ledger → Note → Type 0
Fits l (Zeroed p a) = ⊥
Fits l (New p a f) = ⊥
Fits l (Copied p a f) = ⊥
Fits l (Loaded t f) = (slots l t ≡ 0) × (is_free l f ≡ true) × (is_merged l f ≡ false)
Fits l (Put f t) = (slots l t ≡ 0) × (slot_entries l t ≡ 0)
Fits l (Mapped p a f) =
    (t : Slot) × Waits t f (entry l (key_at p a)) × (frame_at l t ≡ Some f) × (is_merged l f ≡ false)
Fits l (Unmapped f) = is_merged l f ≡ false
Fits l (Shared f) = ⊥
Fits l (Joined p a f) = ⊥
Fits l (Moved from to) = ⊥
Fits l note = Unit {0}

-- the frame that is cached at a slot caches it
cached_at : (l : Ledger) (f : ℕ) (t : Slot) → slots l t ≤ 1 → slot_of l f ≡ Some t → frame_at l t ≡ Some f
cached_at l f t once is = by (frame_at l t) refl
  where
    pair : 0 < pairs l t f
    pair = slot_of-some f t l.cache is

    by : (o : Option ℕ) → frame_at l t ≡ o → frame_at l t ≡ Some f
    by None e = absurd (let none = frame_at-none t l.cache e in let p = pair-slot t f l.cache in let q = pair in omega (arith, none, p, q))
    by (Some g) e = same (f == g) refl
      where
        same : (b : Bool) → (f == g) ≡ b → frame_at l t ≡ Some f
        same true eq = e ∙ ap Some (sym (same-is f g eq))
        same false eq = absurd
            (let a = frame_at-some g t l.cache e in let b = two_frames t f g l.cache eq in let q = pair in omega (arith, a, b, once, q))

-- no entry names a frame that is free, and no slot is cached at it
pub free-unnamed : (l : Ledger) (f : ℕ) → is_free l f ≡ true → (k : Key) → Names l k f → ⊥
free-unnamed l f free = let u = unused l f free in unnamed-by l f (omega (arith, u))

pub free-uncached : (l : Ledger) (f : ℕ) → is_free l f ≡ true → (t : Slot) → frame_at l t ≡ Some f → ⊥
free-uncached l f free t at =
    let u = unused l f free in let p = frame_at-some f t l.cache at in let q = pair-frame t f l.cache in omega (arith, u, p, q)

-- a frame that isn't counted among the merged ones isn't merged
pub unmerged-by : (l : Ledger) (f : ℕ) → mergings l f ≡ 0 → is_merged l f ≡ false
unmerged-by l f none = any-counts (λ y. f == y) l.merged ∙ ap (nat_lt 0) none

-- a frame that is free isn't merged
pub free-unmerged : (m : Setting) (l : Ledger) (f : ℕ) → IsSound m l → is_free l f ≡ true → is_merged l f ≡ false
free-unmerged m l f s free = unmerged-by l f (let a = s.merged f in let u = unused l f free in omega (arith, a, u))

-- nor is one that is cached
pub cached-unmerged : (m : Setting) (l : Ledger) (f : ℕ) (t : Slot) → IsSound m l → frame_at l t ≡ Some f → is_merged l f ≡ false
cached-unmerged m l f t s at = unmerged-by l f (let a = s.frames_once f in let p = frame_at-some f t l.cache at in
    let q = pair-frame t f l.cache in omega (arith, a, p, q))

-- a merged frame is none that isn't
pub unlike : (l : Ledger) (f g : ℕ) → is_merged l f ≡ false → (g == f) ≡ true → is_merged l g ≡ true → ⊥
unlike l f g own same is = false≢true (sym own ∙ ap (is_merged l) (sym (same-is g f same)) ∙ is)

once-in : (l : Ledger) (t : Slot) (f : ℕ) (stale : Bool) → slots l t ≡ 0 → ((s : Slot) → slots l s ≤ 1) → (s : Slot)
    → slots (into_cache t f stale l) s ≤ 1
once-in l t f stale none once s = by (same_slot s t) refl
  where
    by : (b : Bool) → same_slot s t ≡ b → cond b 1 0 + slots l s ≤ 1
    by true e = let z = ap (slots l) (slot-is s t e) in omega (arith, z, none)
    by false e = let o = once s in omega (arith, o)

-- the merged frames are fewer, but those that entries name are the same
pub record AreMergedFewer (l l' : Ledger) : Type 0 where
  pub named : (k : Key) (f : ℕ) → Names l' k f → is_merged l' f ≡ is_merged l f
  pub fewer : (f : ℕ) → is_merged l' f ≡ true → is_merged l f ≡ true

pub merged-same : (l l' : Ledger) → l'.merged ≡ l.merged → AreMergedFewer l l'
merged-same l l' e = record { named = λ k f names. same f; fewer = λ f is. sym (same f) ∙ is }
  where
    same : (f : ℕ) → is_merged l' f ≡ is_merged l f
    same f = ap (is_in f) e

-- entries and cache stay
pub reach-alike : (l l' : Ledger) (r : Rmap) → l'.entries ≡ l.entries → l'.cache ≡ l.cache → AreMergedFewer l l' → Reach l r → Reach l' r
reach-alike l l' r e c m h = record {
  in_order = subst (λ es. T (is_sorted key_cmp es)) (sym e) h.in_order;
  once = λ s. subst (λ cs. how_many (λ (c : Cached). same_slot s c.slot) cs ≤ 1) (sym c) (h.once s);
  sound = sound-fewer l l' r (λ k f names own. (was k f names, sym (m.named k f names) ∙ own)) h.sound;
  slots = slots-lists l l' r e c h.slots;
  merged = merged-fewer l l' r (λ k f names is. was k f names) m.fewer h.merged;
}
  where
    was : (k : Key) (f : ℕ) → Names l' k f → Names l k f
    was k f names = subst (λ es. Names (record l { entries = es }) k f) e names

-- lists alone change
pub reach-lists : (l l' : Ledger) (r : Rmap) → l'.entries ≡ l.entries → l'.cache ≡ l.cache → l'.merged ≡ l.merged → Reach l r → Reach l' r
reach-lists l l' r e c m = reach-alike l l' r e c (merged-same l l' m)

pub reach-stale : (l : Ledger) (r : Rmap) (stale : Bool) (s : Slot) → Reach l r → Reach (with_stale stale s l) r
reach-stale l r stale s h = record {
  in_order = h.in_order;
  once = λ t. let a = (alike-with_stale l stale s).slots_same t in let b = h.once t in omega (arith, a, b);
  sound = sound-fewer l (with_stale stale s l) r (λ k f names own. (names, own)) h.sound;
  slots = slots-stale l r stale s h.slots;
  merged = merged-fewer l (with_stale stale s l) r (λ k f names is. names) (λ f is. is) h.merged;
}

reach-off_cache : (l : Ledger) (r : Rmap) (s : Slot) → Reach l r → Reach (off_cache s l) r
reach-off_cache l r s h = record {
  in_order = h.in_order;
  once = λ t. fewer t (same_slot t s) (counts.slots-off_cache s t l.cache);
  sound = sound-fewer l (off_cache s l) r (λ k f names own. (names, own)) h.sound;
  slots = slots-off_cache l r s h.slots;
  merged = merged-fewer l (off_cache s l) r (λ k f names is. names) (λ f is. is) h.merged;
}
  where
    fewer : (t : Slot) (b : Bool) → slots (off_cache s l) t ≡ cond b 0 (slots l t) → slots (off_cache s l) t ≤ 1
    fewer t true e = omega (arith, e)
    fewer t false e = let b = h.once t in omega (arith, e, b)

reach-unseen : (l : Ledger) (r : Rmap) (f : ℕ) → Reach l r → Reach (change_entries f without_seen l) r
reach-unseen l r f h = record {
  in_order = sorted-note l (Aged f) h.in_order;
  once = h.once;
  sound = sound-unseen l r f h.sound;
  slots = slots-unseen l r f h.slots;
  merged = merged-fewer l (change_entries f without_seen l) r (λ k g names is. names-unseen l f k g names) (λ g is. is) h.merged;
}

reach-mapped : (l : Ledger) (r : Rmap) (k : Key) (t : Slot) (f : ℕ) → Waits t f (entry l k) → frame_at l t ≡ Some f → Reach l r →
    IsRmapSound (set_entry k (InFrame f false) l) r
reach-mapped l r k t f waits at h = by (entry l k) refl waits
  where
    by : (o : Option Entry) → entry l k ≡ o → Waits t f o → IsRmapSound (set_entry k (InFrame f false) l) r
    by None is w = absurd w
    by (Some Zero) is w = absurd w
    by (Some (InFrame g seen)) is w = sound-set l (set_entry k (InFrame f false) l) r k (InFrame f false) refl
        (λ i names. subst (λ o. IsSomeAnd o (λ e. names_frame i e ≡ true)) (sym is) (ap (λ x. i == x) w ∙ names)) h.sound
    by (Some (InSlot u)) is w = sound-mapped l r k t f (is ∙ ap (λ x. Some (InSlot x)) w) at h.slots h.sound

pub settled_entry-entries : (o : Option Entry) (l : Ledger) → (settle_entry o l).entries ≡ l.entries
settled_entry-entries None l = refl
settled_entry-entries (Some e) l = settle-entries (frame_of e) l

pub settled_entry-cache : (o : Option Entry) (l : Ledger) → (settle_entry o l).cache ≡ l.cache
settled_entry-cache None l = refl
settled_entry-cache (Some e) l = settle-cache (frame_of e) l

-- a frame that is merged without another was so
pub still-in : (f g : ℕ) (fs : List ℕ) → is_in f (without g fs) ≡ true → is_in f fs ≡ true
still-in f g fs is = any-counts (λ x. f == x) fs
    ∙ by (f == g) _ _ (count-without g f fs) (sym (any-counts (λ x. f == x) (without g fs)) ∙ is)
  where
    by : (b : Bool) (n k : ℕ) → n ≡ cond b 0 k → nat_lt 0 n ≡ true → nat_lt 0 k ≡ true
    by true n k e h = absurd (false≢true (sym (ap (nat_lt 0) e) ∙ h))
    by false n k e h = ap (nat_lt 0) (sym e) ∙ h

-- where a frame is settled
pub merged-settled : (o : Option ℕ) (l : Ledger) → AreMergedFewer l (if_some o settle l)
merged-settled None l = merged-same l l refl
merged-settled (Some g) l = record {
  named = λ k f names. settled-merged g l k f (settled g k f names);
  fewer = λ f is. by f (is_free l g) is;
}
  where
    settled : (g : ℕ) (k : Key) (f : ℕ) → Names (settle g l) k f → Names l k f
    settled g k f = by (is_free l g)
      where
        by : (b : Bool) → Names (cond b (off_lists g l) l) k f → Names l k f
        by true names = names
        by false names = names

    by : (f : ℕ) (b : Bool) → is_merged (cond b (off_lists g l) l) f ≡ true → is_merged l f ≡ true
    by f true is = still-in f g l.merged is
    by f false is = is

-- where the frame of an entry is settled
pub merged-settled_entry : (o : Option Entry) (l : Ledger) → AreMergedFewer l (settle_entry o l)
merged-settled_entry None l = merged-same l l refl
merged-settled_entry (Some e) l = merged-settled (frame_of e) l

pub reach-note : (l : Ledger) (r : Rmap) (note : Note) → Fits l note → Reach l r → Reach (after_note note l) (rmap_after_note l note r)
reach-note l r (Zeroed p a) fits h = absurd fits
reach-note l r (New p a f) fits h = absurd fits
reach-note l r (Copied p a f) fits h = absurd fits
reach-note l r (Shared f) fits h = absurd fits
reach-note l r (Joined p a f) fits h = absurd fits
reach-note l r (Moved from to) fits h = absurd fits
reach-note l r (Loaded t f) fits h = record {
  in_order = h.in_order;
  once = once-in l t f false fits.0 h.once;
  sound = sound-loaded l r t f (free-unnamed l f fits.1) h.sound;
  slots = slots-loaded l r t f h.in_order (free-uncached l f fits.1) h.sound h.slots;
  merged = merged-homed (after_note (Loaded t f) l) r f (home_for r (keys_of_slot l t)) fits.2
      (merged-fewer l (after_note (Loaded t f) l) r (λ k g names is. names) (λ g is. is) h.merged);
}
reach-note l r (Put f t) fits h = record {
  in_order = h.in_order;
  once = once-in l t f true fits.0 h.once;
  sound = sound-fewer l (into_cache t f true l) r (λ k f names own. (names, own)) h.sound;
  slots = slots-put l r t f true fits.1 h.slots;
  merged = merged-fewer l (into_cache t f true l) r (λ k g names is. names) (λ g is. is) h.merged;
}
reach-note l r (Mapped p a f) fits h = record {
  in_order = sorted-note l (Mapped p a f) h.in_order;
  once = h.once;
  sound = reach-mapped l r (key_at p a) fits.0 f fits.1 fits.2 h;
  slots = slots-set l r (key_at p a) (InFrame f false) (λ s. refl) h.slots;
  merged = merged-set l r (key_at p a) (InFrame f false) (λ g at is. absurd (unlike l f g fits.3 at is)) h.merged;
}
reach-note l r (Unmapped f) fits h = by (slot_of l f) refl
  where
    by : (o : Option Slot) → slot_of l f ≡ o → Reach (if_some o (λ s. change_entries f (λ _. InSlot s)) l) r
    by None is = h
    by (Some t) is = record {
      in_order = subst (λ o. T (is_sorted key_cmp (if_some o (λ s. change_entries f (λ _. InSlot s)) l).entries)) is
          (sorted-note l (Unmapped f) h.in_order);
      once = h.once;
      sound = sound-unmapped l r f t h.sound;
      slots = slots-unmapped l r f t (cached_at l f t (h.once t) is) fits h.sound h.slots;
      merged = merged-fewer l (change_entries f (λ _. InSlot t) l) r (λ k g names is. names-unmapped l f t k g names) (λ g is. is) h.merged;
    }
reach-note l r (Started t) fits h = reach-stale (record l { flight = l.flight ++ t ∷ [] }) r false t
    (reach-lists l (record l { flight = l.flight ++ t ∷ [] }) r refl refl refl h)
reach-note l r (Written t) fits h = by (frame_at l t)
  where
    by : (o : Option ℕ) → Reach (if_some o to_inactive_tail (off_flight t l)) r
    by None = reach-lists l (off_flight t l) r refl refl refl h
    by (Some f) = reach-lists l (to_inactive_tail f (off_flight t l)) r refl refl refl h
reach-note l r (Failed t) fits h = reach-stale (off_flight t l) r true t (reach-lists l (off_flight t l) r refl refl refl h)
reach-note l r (Dropped t) fits h = reach-alike (off_cache t l) (after_note (Dropped t) l) r (settle-entries (frame_at l t) (off_cache t l))
    (settle-cache (frame_at l t) (off_cache t l)) (merged-settled (frame_at l t) (off_cache t l)) (reach-off_cache l r t h)
reach-note l r (Kept f Writeback) fits h = reach-lists l (to_inactive_head f l) r refl refl refl h
reach-note l r (Kept f WriteStarted) fits h = reach-lists l (to_inactive_head f l) r refl refl refl h
reach-note l r (Kept f Referenced) fits h = reach-lists (change_entries f without_seen l) (to_active f (change_entries f without_seen l)) r refl refl refl
    (reach-unseen l r f h)
reach-note l r (Kept f NoSlot) fits h = reach-lists l (to_active f l) r refl refl refl h
reach-note l r (Kept f Locked) fits h = reach-lists l (to_active f l) r refl refl refl h
reach-note l r (Kept f Ksm) fits h = reach-lists l (to_active f l) r refl refl refl h
reach-note l r (Aged f) fits h = reach-lists (change_entries f without_seen l) (to_inactive_head f (change_entries f without_seen l)) r refl refl refl
    (reach-unseen l r f h)

-- ---- several

abbrev pub AllFit : Ledger → List Note → Type 0
AllFit l [] = Unit {0}
AllFit l (note ∷ notes) = Fits l note × AllFit (after_note note l) notes

pub reach-notes : (l : Ledger) (r : Rmap) (notes : List Note) → AllFit l notes → Reach l r →
    Reach (after_notes l notes) (rmap_after_all l (note_events notes) r)
reach-notes l r [] fit h = h
reach-notes l r (note ∷ notes) fit h = reach-notes (after_note note l) (rmap_after_note l note r) notes fit.1 (reach-note l r note fit.0 h)

pub fit-append : (l : Ledger) (a b : List Note) → AllFit l a → AllFit (after_notes l a) b → AllFit l (a ++ b)
fit-append l [] b x y = y
fit-append l (note ∷ a) b x y = (x.0, fit-append (after_note note l) a b x.1 y)

pub fit-is : (l : Ledger) (a b : List Note) → a ≡ b → AllFit l b → AllFit l a
fit-is l a b e h = subst (AllFit l) (sym e) h

-- ---- writes that end, and a pass

pub fit-drop : (l : Ledger) (t : Slot) (b : Bool) → AllFit l (when b (Dropped t))
fit-drop l t true = (tt, tt)
fit-drop l t false = tt

fit-end : (l : Ledger) (failed : Bool) (t : Slot) → Fits l (end_note failed t)
fit-end l true t = tt
fit-end l false t = tt

pub fit-completes : (l : Ledger) (ts : List Slot) (notes : List Note) → Completes l ts notes → AllFit l notes
fit-completes l [] notes c = fit-is l notes [] c tt
fit-completes l (t ∷ ts) notes c = fit-is l notes (end_notes l t c.0 ++ c.1) c.2
    (fit-append l (end_notes l t c.0) c.1 (
      fit-end l c.0 t,
      fit-drop (after_note (end_note c.0 t) l) t (is_orphan (after_note (end_note c.0 t) l) t),
    ) (fit-completes (after_notes l (end_notes l t c.0)) ts c.1 c.3))

fit-unmap : (m : Setting) (sp : Spared) (l : Ledger) (f : ℕ) (t : Slot) → is_merged l f ≡ false → IsSlotFor m sp l f t → AllFit l (unmap_notes l f t)
fit-unmap m sp l f t own for = fit-append l (when (is_none (slot_of l f)) (Put f t)) (when (not (map_count l f == 0)) (Unmapped f))
    (by (slot_of l f) for) (unmaps _ (not (map_count l f == 0)) (put_still (is_none (slot_of l f))))
  where
    put_still : (b : Bool) → is_merged (after_notes l (when b (Put f t))) f ≡ false
    put_still true = own
    put_still false = own

    by : (o : Option Slot) → MatchOption o (IsTrue (may_give m sp.closing l t)) (λ r. t ≡ r) → AllFit l (when (is_none o) (Put f t))
    by None may = let n = given-nowhere m sp.closing l t may in ((n.uncached, n.unnamed), tt)
    by (Some r) same = tt

    unmaps : (l' : Ledger) (b : Bool) → is_merged l' f ≡ false → AllFit l' (when b (Unmapped f))
    unmaps l' true is = (is, tt)
    unmaps l' false is = tt

-- a turn merges nothing
turn-merged : (l : Ledger) (f : ℕ) (t : Slot) (failed : Bool) → (after_notes l (turn_notes l f t failed)).merged ≡ l.merged
turn-merged l f t failed =
    ap (λ (x : Ledger). x.merged) (after_notes-append l (unmap_notes l f t) (if is_dirty l f t then Started t ∷ end_note failed t ∷ [] else []))
    ∙ writes (after_notes l (unmap_notes l f t)) (is_dirty l f t)
    ∙ ap (λ (x : Ledger). x.merged)
    (after_notes-append l (when (is_none (slot_of l f)) (Put f t)) (when (not (map_count l f == 0)) (Unmapped f)))
    ∙ unmaps (after_notes l (when (is_none (slot_of l f)) (Put f t))) (not (map_count l f == 0)) ∙ puts (is_none (slot_of l f))
  where
    puts : (b : Bool) → (after_notes l (when b (Put f t))).merged ≡ l.merged
    puts true = refl
    puts false = refl

    changed : (l' : Ledger) (o : Option Slot) → (if_some o (λ s. change_entries f (λ _. InSlot s)) l').merged ≡ l'.merged
    changed l' None = refl
    changed l' (Some s) = refl

    unmaps : (l' : Ledger) (b : Bool) → (after_notes l' (when b (Unmapped f))).merged ≡ l'.merged
    unmaps l' true = changed l' (slot_of l' f)
    unmaps l' false = refl

    ends : (failed : Bool) (l' : Ledger) → (after_note (end_note failed t) l').merged ≡ l'.merged
    ends true l' = refl
    ends false l' = landed (frame_at l' t)
      where
        landed : (o : Option ℕ) → (if_some o to_inactive_tail (off_flight t l')).merged ≡ l'.merged
        landed None = refl
        landed (Some g) = refl

    writes : (l' : Ledger) (b : Bool) → (after_notes l' (if b then Started t ∷ end_note failed t ∷ [] else [])).merged ≡ l'.merged
    writes l' true = ends failed (after_note (Started t) l')
    writes l' false = refl

fit-turn : (m : Setting) (sp : Spared) (l : Ledger) (f : ℕ) (t : Slot) (failed : Bool) → is_merged l f ≡ false → IsSlotFor m sp l f t
    → AllFit l (turn_notes l f t failed)
fit-turn m sp l f t failed own for = fit-append l (unmap_notes l f t) (if is_dirty l f t then Started t ∷ end_note failed t ∷ [] else [])
    (fit-unmap m sp l f t own for) (by (after_notes l (unmap_notes l f t)) (is_dirty l f t))
  where
    by : (l' : Ledger) (b : Bool) → AllFit l' (if b then Started t ∷ end_note failed t ∷ [] else [])
    by l' true = (tt, (fit-end (after_note (Started t) l') failed t, tt))
    by l' false = tt

abbrev pub AgainFits : Setting → Spared → List ℕ → Type 0
AgainFits m sp fs = (l' : Ledger) (ns : List Note) → AreUnmerged l' fs → Turns m sp l' fs ns → AllFit l' ns

fit-turns : (m : Setting) (sp : Spared) (l : Ledger) (fs : List ℕ) (notes : List Note) → AreUnmerged l fs → Turns m sp l fs notes → AllFit l notes
fit-turns m sp l [] notes u r = fit-is l notes [] r tt
fit-turns m sp l (f ∷ fs) notes u r = stuck (λ l' ns v q. fit-turns m sp l' fs ns v q) (is_stuck m sp l f) r
  where
    own : is_merged l f ≡ false
    own = unmerged-by l f (unmerged-first l f fs u)

    stuck : AgainFits m sp fs → (b : Bool) → MatchBool b (Turns m sp l fs notes)
        ((t : Slot) × (failed : Bool) × IsSlotFor m sp l f t × MatchBool (stays_cached l f t failed)
        ((rest : List Note) × (notes ≡ turn_notes l f t failed ++ rest) × Turns m sp (after_notes l (turn_notes l f t failed)) fs rest)
        (notes ≡ turn_notes l f t failed ++ Dropped t ∷ []))
        → AllFit l notes
    stuck again true r = again l notes (unmerged-rest l l f fs refl u) r
    stuck again false r = goes (stays_cached l f r.0 r.1) r.3
      where
        goes : (b : Bool) → MatchBool b
            ((rest : List Note) × (notes ≡ turn_notes l f r.0 r.1 ++ rest) × Turns m sp (after_notes l (turn_notes l f r.0 r.1)) fs
            rest) (notes ≡ turn_notes l f r.0 r.1 ++ Dropped r.0 ∷ []) → AllFit l notes
        goes true q = fit-is l notes (turn_notes l f r.0 r.1 ++ q.0) q.1
            (fit-append l (turn_notes l f r.0 r.1) q.0 (fit-turn m sp l f r.0 r.1 own r.2)
            (again (after_notes l (turn_notes l f r.0 r.1)) q.0
            (unmerged-rest l (after_notes l (turn_notes l f r.0 r.1)) f fs (turn-merged l f r.0 r.1) u) q.2))
        goes false q = fit-is l notes (turn_notes l f r.0 r.1 ++ Dropped r.0 ∷ []) q
            (fit-append l (turn_notes l f r.0 r.1) (Dropped r.0 ∷ []) (fit-turn m sp l f r.0 r.1 own r.2) (tt, tt))

pub fit-seeks : (m : Setting) (sp : Spared) (l : Ledger) (notes : List Note) → Seeks m sp l notes → AllFit l notes
fit-seeks m sp l notes r = by (has_free m l) r
  where
    pass : (b : Bool) (now : Ledger) (ns : List Note) → MatchBool b (ns ≡ []) (Turns m sp now (frames_in_turn sp now) ns) → AllFit now ns
    pass true now ns q = fit-is now ns [] q tt
    pass false now ns q =
        fit-turns m sp now (frames_in_turn sp now) ns (all-unmerged sp now (reverse now.inactive ++ reverse now.active)) q

    by : (b : Bool) → MatchBool b (notes ≡ []) (IsPass m sp l notes) → AllFit l notes
    by true q = fit-is l notes [] q tt
    by false q = fit-is l notes (q.0 ++ q.1) q.2 (fit-append l q.0 q.1 (fit-completes l l.flight q.0 q.3)
        (pass (has_free m (after_notes l q.0)) (after_notes l q.0) q.1 q.4))

-- ---- reclaim and age

fit-leave : (m : Setting) (sp : Spared) (l : Ledger) (f : ℕ) (t : Slot) → is_merged l f ≡ false → IsSlotFor m sp l f t → AllFit l (leave_notes l f t)
fit-leave m sp l f t own for = fit-append l (unmap_notes l f t) (cond (is_dirty l f t) (Started t ∷ Kept f WriteStarted ∷ []) (Dropped t ∷ []))
    (fit-unmap m sp l f t own for) (by (after_notes l (unmap_notes l f t)) (is_dirty l f t))
  where
    by : (l' : Ledger) (b : Bool) → AllFit l' (cond b (Started t ∷ Kept f WriteStarted ∷ []) (Dropped t ∷ []))
    by l' true = (tt, (tt, tt))
    by l' false = (tt, tt)

fit-kept : (l : Ledger) (f : ℕ) (cause : Cause) → Fits l (Kept f cause)
fit-kept l f Writeback = tt
fit-kept l f WriteStarted = tt
fit-kept l f Referenced = tt
fit-kept l f NoSlot = tt
fit-kept l f Locked = tt
fit-kept l f Ksm = tt

fit-outcome : (m : Setting) (sp : Spared) (l : Ledger) (f : ℕ) (notes : List Note) → Outcome m sp l f notes → AllFit l notes
fit-outcome m sp l f notes h = by (cause_of m sp l f) refl h
  where
    by : (o : Option Cause) → cause_of m sp l f ≡ o → MatchOption o ((t : Slot) × IsSlotFor m sp l f t × (notes ≡ leave_notes l f t)) (λ cause. notes ≡ Kept f cause ∷ []) →
        AllFit l notes
    by None is q = fit-is l notes (leave_notes l f q.0) q.2 (fit-leave m sp l f q.0 (unmerged-by l f (unmerged_of m sp l f is)) q.1)
    by (Some cause) is q = fit-is l notes (Kept f cause ∷ []) q (tt, tt)

pub fit-outcomes : (m : Setting) (sp : Spared) (l : Ledger) (fs : List ℕ) (notes : List Note) → Outcomes m sp l fs notes → AllFit l notes
fit-outcomes m sp l [] notes h = fit-is l notes [] h tt
fit-outcomes m sp l (f ∷ fs) notes h = fit-is l notes (h.0 ++ h.1) h.2
    (fit-append l h.0 h.1 (fit-outcome m sp l f h.0 h.3) (fit-outcomes m sp (after_notes l h.0) fs h.1 h.4))

pub fit-ages : (l : Ledger) (fs : List ℕ) → AllFit l (map Aged fs)
fit-ages l [] = tt
fit-ages l (f ∷ fs) = (tt, fit-ages (after_note (Aged f) l) fs)
