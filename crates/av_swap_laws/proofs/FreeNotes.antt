-- Which frames and slots each note of swap takes and makes free.
use Rattle.std.proofs.Common.{◌≡◌, ℕ, ◌+◌, ◌<◌, Bool, true, false, cond, List, [], ◌∷◌, ◌++◌, Option, Some, refl, sym, ap, subst, ◌∙◌, arith, ◌==◌, T}
use Rattle.std.proofs.lemmas.Bool.Decides.{nat_tests}
use Rattle.std.specs.FinMap.Entries.{is_sorted}
use Rattle.av_base.specs.Keys.{key_cmp}
use Rattle.av_base.specs.Page.{page_of}
use Rattle.av_base.specs.Words.{with_at}
use Rattle.av_base.specs.declared.slot.Slot.{Slot}
use Rattle.av_clusters.specs.Clusters.{give_slot}
use Rattle.av_trace.specs.declared.note.Cause.TheVariants.{Ksm, Locked, NoSlot, Referenced, WriteStarted, Writeback}
use Rattle.av_trace.specs.declared.note.Note.TheVariants.{Aged, Dropped, Failed, Kept, Loaded, Mapped, Put, Started, Unmapped, Written}
use Rattle.av_plain.specs.Choice.{AreaSlots, Chooses, IsGiven, new_free, with_given_back}
use Rattle.av_plain.specs.Event.{Noted, after_note, change_entries, if_some, into_cache, off_cache, without_seen}
use Rattle.av_plain.specs.Ledger.{InSlot, Ledger, Setting, entry, frame_at, map_count, same_slot, slot_entries, slot_of}
use Rattle.av_plain.specs.Sound.{count, holders, is_there, pairs, slots, uses}
use Rattle.av_plain.specs.Stands.{LedgerStands, View, free_of}
use Rattle.av_plain.proofs.Event.{map_count-unseen, slot_entries-unseen}
use Rattle.av_plain.proofs.Sound.Cache.{frames_left, slots_more}
use Rattle.av_plain.proofs.Sound.Counts.{frame_at-some, pair-frame, pair-slot, same-is, slot-is, slot_of-some, two_frames}
use Rattle.av_plain.proofs.Sound.Steps.{Alike, alike-end_note, alike-started, holders-dropped, settle-entries, slots-dropped}
use Rattle.av_swap_laws.specs.May.{AreOnce}
use Rattle.av_swap_laws.specs.Steps.{view_done, view_drop, view_fail, view_freed, view_given_back, view_load, view_map, view_put, view_start, view_to_active, view_to_head, view_uncached, view_unmap, view_unseen}
use Rattle.av_swap_laws.proofs.Cache.{cached-slots, holders-once}
use Rattle.av_swap_laws.proofs.Free.{FreesNone, chooses-frame, chooses-none, chooses-slot, frames-none, frames-one, given-none, given-one}
use Rattle.av_swap_laws.proofs.Map.{entries-now, maps-now}

-- ---- what stays in use

frees-alike : (l l' : Ledger) → Alike l l' → FreesNone l l'
frees-alike l l' a = record {
  frames = λ g h. let e = ap (λ es. map_count (record l { entries = es }) g) a.entries in let k = a.holders_same g in omega (arith, e, k, h);
  slots = λ t h. let e = ap (λ es. slot_entries (record l { entries = es }) t) a.entries in let k = a.slots_same t in omega (arith, e, k, h);
}

frees-into : (l : Ledger) (s : Slot) (f : ℕ) (b : Bool) → FreesNone l (into_cache s f b l)
frees-into l s f b = record {
  frames = λ g h. by (g == f) _ _ h;
  slots = λ t h. by' (same_slot t s) _ _ h;
}
  where
    by : (c : Bool) (n k : ℕ) → 0 < n + k → 0 < n + (cond c 1 0 + k)
    by true n k h = omega arith
    by false n k h = omega (arith, h)

    by' : (c : Bool) (n k : ℕ) → 0 < n + k → 0 < (cond c 1 0 + n) + k
    by' true n k h = omega arith
    by' false n k h = omega (arith, h)

frees-unmapped : (l : Ledger) (f : ℕ) (s : Slot) → slot_of l f ≡ Some s → FreesNone l (change_entries f (λ _. InSlot s) l)
frees-unmapped l f s cached = record {
  frames = λ g h. by g (g == f) refl h _ (frames_left s f l g (g == f) refl);
  slots = λ t h. let e = slots_more s f l t in omega (arith, e, h);
}
  where
    by : (g : ℕ) (b : Bool) → (g == f) ≡ b → 0 < map_count l g + holders l g → (n : ℕ) → n ≡ cond b 0 (map_count l g) → 0 < n + holders l g
    by g true e h n is =
        let pair = slot_of-some f s l.cache cached in
        let held = pair-frame s f l.cache in
        let same = ap (holders l) (same-is g f e) in
        omega (arith, pair, held, same)
    by g false e h n is = omega (arith, is, h)

frees-unseen : (l : Ledger) (f : ℕ) → FreesNone l (change_entries f without_seen l)
frees-unseen l f = record {
  frames = λ g h. let e = map_count-unseen f l g in omega (arith, e, h);
  slots = λ t h. let e = slot_entries-unseen f l t in omega (arith, e, h);
}

-- ---- the notes that free nothing

module _ (m : Setting) (closing : Option ℕ) (l : Ledger) (v : View) where
  pub put-chosen : (f : ℕ) (s : Slot) (left : AreaSlots) → IsGiven m closing l s v.slots left
      → Chooses m closing l (Noted (Put f s)) (free_of v) (free_of (view_put f s left v))
  put-chosen f s left given = chooses-slot m closing l (Put f s) (frees-into l s f true) s v.free v.slots left refl refl given

  pub unmap-chosen : (f : ℕ) (s : Slot) → slot_of l f ≡ Some s → Chooses m closing l (Noted (Unmapped f)) (free_of v) (free_of (view_unmap f s v))
  unmap-chosen f s cached = chooses-none m closing l (Unmapped f)
      (subst (FreesNone l) (sym (ap (λ o. if_some o (λ s. change_entries f (λ _. InSlot s)) l) cached)) (frees-unmapped l f s cached))
      (free_of v) refl refl

  pub start-chosen : (f : ℕ) (s : Slot) → Chooses m closing l (Noted (Started s)) (free_of v) (free_of (view_start f s v))
  start-chosen f s = chooses-none m closing l (Started s) (frees-alike l _ (alike-started l s)) (free_of v) refl refl

  pub done-chosen : (f : ℕ) (s : Slot) → Chooses m closing l (Noted (Written s)) (free_of v) (free_of (view_done f s v))
  done-chosen f s = chooses-none m closing l (Written s) (frees-alike l _ (alike-end_note l false s)) (free_of v) refl refl

  pub fail-chosen : (f : ℕ) (s : Slot) → Chooses m closing l (Noted (Failed s)) (free_of v) (free_of (view_fail f s v))
  fail-chosen f s = chooses-none m closing l (Failed s) (frees-alike l _ (alike-end_note l true s)) (free_of v) refl refl

  pub load-chosen : (f : ℕ) (s : Slot) (left : List ℕ) (held : ℕ → ℕ) (home : Option (ℕ × ℕ)) → v.free ≡ f ∷ left
      → Chooses m closing l (Noted (Loaded s f)) (free_of v) (free_of (view_load f s left held home v))
  load-chosen f s left held home first = subst (λ fs. Chooses m closing l (Noted (Loaded s f)) (record { frames = fs; slots = v.slots })
      (record { frames = left; slots = v.slots })) (sym first)
      (chooses-frame m closing l (Loaded s f)
      (let u = frees-into l s f false in record { frames = u.frames; slots = u.slots }) f left v.slots refl refl refl)

  pub writeback-chosen : (f : ℕ) → Chooses m closing l (Noted (Kept f Writeback)) (free_of v) (free_of (view_to_head f v))
  writeback-chosen f = chooses-none m closing l (Kept f Writeback) (record { frames = λ g h. h; slots = λ t h. h }) (free_of v) refl refl

  pub write_started-chosen : (f : ℕ) → Chooses m closing l (Noted (Kept f WriteStarted)) (free_of v) (free_of (view_to_head f v))
  write_started-chosen f = chooses-none m closing l (Kept f WriteStarted) (record { frames = λ g h. h; slots = λ t h. h }) (free_of v) refl refl

  pub no_slot-chosen : (f : ℕ) → Chooses m closing l (Noted (Kept f NoSlot)) (free_of v) (free_of (view_to_active f v))
  no_slot-chosen f = chooses-none m closing l (Kept f NoSlot) (record { frames = λ g h. h; slots = λ t h. h }) (free_of v) refl refl

  pub locked-chosen : (f : ℕ) → Chooses m closing l (Noted (Kept f Locked)) (free_of v) (free_of (view_to_active f v))
  locked-chosen f = chooses-none m closing l (Kept f Locked) (record { frames = λ g h. h; slots = λ t h. h }) (free_of v) refl refl

  pub ksm-chosen : (f : ℕ) → Chooses m closing l (Noted (Kept f Ksm)) (free_of v) (free_of (view_to_active f v))
  ksm-chosen f = chooses-none m closing l (Kept f Ksm) (record { frames = λ g h. h; slots = λ t h. h }) (free_of v) refl refl

  pub referenced-chosen : (f : ℕ) → Chooses m closing l (Noted (Kept f Referenced)) (free_of v) (free_of (view_to_active f (view_unseen f v)))
  referenced-chosen f = chooses-none m closing l (Kept f Referenced) (let u = frees-unseen l f in record { frames = u.frames; slots = u.slots })
      (free_of v) refl refl

  pub aged-chosen : (f : ℕ) → Chooses m closing l (Noted (Aged f)) (free_of v) (free_of (view_to_head f (view_unseen f v)))
  aged-chosen f = chooses-none m closing l (Aged f) (let u = frees-unseen l f in record { frames = u.frames; slots = u.slots }) (free_of v) refl refl

-- ---- a drop

module _ (m : Setting) (closing : Option ℕ) (l : Ledger) (f : ℕ) (s : Slot) (once : AreOnce l) (cached : frame_at l s ≡ Some f)
    (in_range : f < m.frames) (there : is_there m l s ≡ true) where
  abbrev now : Ledger
  now = after_note (Dropped s) l

  maps-dropped : (g : ℕ) → map_count now g ≡ map_count l g
  maps-dropped g = ap (λ es. map_count (record l { entries = es }) g) (settle-entries (frame_at l s) (off_cache s l))

  names-dropped : (t : Slot) → slot_entries now t ≡ slot_entries l t
  names-dropped t = ap (λ es. slot_entries (record l { entries = es }) t) (settle-entries (frame_at l s) (off_cache s l))

  pair : 0 < pairs l s f
  pair = frame_at-some f s l.cache cached

  -- the frame has only this slot, and the slot only this frame
  no_other : (g : ℕ) → (g == f) ≡ false → pairs l s g ≡ 0
  no_other g other = let two = two_frames s g f l.cache other in let one = once.slots_once s in let p = pair in omega (arith, two, one, p)

  frames-more : (g : ℕ) → (g == f) ≡ false → 0 < uses l g → 0 < uses now g
  frames-more g other h = let a = maps-dropped g in let b = holders-dropped l s g in let c = no_other g other in omega (arith, a, b, c, h)

  uses-f : uses now f ≡ map_count l f
  uses-f =
      let a = maps-dropped f in
      let b = holders-dropped l s f in
      let held = pair-frame s f l.cache in
      let one = holders-once l once f in
      let p = pair in
      omega (arith, a, b, held, one, p)

  slots-more : (t : Slot) → same_slot t s ≡ false → 0 < count l t → 0 < count now t
  slots-more t other h = let a = names-dropped t in let b = slots-dropped l s t ∙ ap (λ b. cond b 0 (slots l t)) other in omega (arith, a, b, h)

  count-s : count now s ≡ slot_entries l s
  count-s = let a = names-dropped s in let b = slots-dropped l s s ∙ ap (λ b. cond b 0 (slots l s)) (itself s) in omega (arith, a, b)
    where
      itself : (s : Slot) → same_slot s s ≡ true
      itself s = grind (arith, nat_tests)

  uses-had : 0 < uses l f
  uses-had = let held = pair-frame s f l.cache in let p = pair in omega (arith, held, p)

  count-had : 0 < count l s
  count-had = let held = pair-slot s f l.cache in let p = pair in omega (arith, held, p)

  -- the frame comes free where no entry names it
  frames-freed : (b : Bool) → (map_count l f == 0) ≡ b → new_free m l now ≡ cond b (f ∷ []) []
  frames-freed true e = frames-one m l now f in_range uses-had (uses-f ∙ zero e) frames-more
    where
      zero : (map_count l f == 0) ≡ true → map_count l f ≡ 0
      zero e = grind (arith, nat_tests, e)
  frames-freed false e = frames-none m l now (λ g h. by g (g == f) refl h)
    where
      some : (n : ℕ) → (n == 0) ≡ false → 0 < n
      some n e = grind (arith, nat_tests, e)

      by : (g : ℕ) (b : Bool) → (g == f) ≡ b → 0 < uses l g → 0 < uses now g
      by g true i h = subst (λ g. 0 < uses now g) (sym (same-is g f i)) (subst (λ n. 0 < n) (sym uses-f) (some (map_count l f) e))
      by g false i h = frames-more g i h

  -- and the slot where none names that
  slots-freed : (free : AreaSlots) (b : Bool) → (slot_entries l s == 0) ≡ b
      → with_given_back m l now free ≡ cond b (with_at s.area (give_slot (free s.area) s.page) free) free
  slots-freed free true e = given-one m l now s free there count-had (count-s ∙ zero e) slots-more
    where
      zero : (slot_entries l s == 0) ≡ true → slot_entries l s ≡ 0
      zero e = grind (arith, nat_tests, e)
  slots-freed free false e = given-none m l now free (λ t h. by t (same_slot t s) refl h)
    where
      some : (n : ℕ) → (n == 0) ≡ false → 0 < n
      some n e = grind (arith, nat_tests, e)

      by : (t : Slot) (b : Bool) → same_slot t s ≡ b → 0 < count l t → 0 < count now t
      by t true i h = subst (λ t. 0 < count now t) (sym (slot-is t s i)) (subst (λ n. 0 < n) (sym count-s) (some (slot_entries l s) e))
      by t false i h = slots-more t i h

  pub drop-chosen : (v : View) → LedgerStands m v l → Chooses m closing l (Noted (Dropped s)) (free_of v) (free_of (view_drop f s v))
  drop-chosen v h = record {
    frames = (
      v.free,
      refl,
      frees (v.maps f == 0) (v.entries s == 0)
          ∙ sym (ap (λ fs. fs ++ v.free) (frames-freed (v.maps f == 0) (ap (λ n. n == 0) (sym (h.frames.maps f)))) ∙ front (v.maps f == 0)),
    );
    slots = (
      v.slots,
      v.slots,
      refl,
      refl,
      gives (v.maps f == 0) (v.entries s == 0)
          ∙ sym (slots-freed v.slots (v.entries s == 0) (ap (λ n. n == 0) (sym (h.swap.counts s)))),
    );
  }
    where
      front : (b : Bool) → (cond b (f ∷ []) [] ++ v.free) ≡ cond b (f ∷ v.free) v.free
      front true = refl
      front false = refl

      frees : (a b : Bool) → (cond b (view_given_back s (cond a (view_freed f (view_uncached f s v)) (view_uncached f s v)))
          (cond a (view_freed f (view_uncached f s v)) (view_uncached f s v))).free ≡ cond a (f ∷ v.free) v.free
      frees true true = refl
      frees true false = refl
      frees false true = refl
      frees false false = refl

      gives : (a b : Bool) → (cond b (view_given_back s (cond a (view_freed f (view_uncached f s v)) (view_uncached f s v)))
          (cond a (view_freed f (view_uncached f s v)) (view_uncached f s v))).slots
          ≡ cond b (with_at s.area (give_slot (v.slots s.area) s.page) v.slots) v.slots
      gives true true = refl
      gives true false = refl
      gives false true = refl
      gives false false = refl

-- ---- an entry that named a cached slot names its frame

module _ (m : Setting) (closing : Option ℕ) (l : Ledger) (p a f : ℕ) (s : Slot) (sorted : T (is_sorted key_cmp l.entries)) (once : AreOnce l)
    (at : entry l (p, page_of a) ≡ Some (InSlot s)) (cached : frame_at l s ≡ Some f) where
  frees-mapped : FreesNone l (after_note (Mapped p a f) l)
  frees-mapped = record {
    frames = λ g h. let e = maps-now l p (page_of a) f s sorted once at cached g in omega (arith, e, h);
    slots = λ t h. by t (same_slot t s) refl h _ (entries-now l p (page_of a) f s sorted once at cached t);
  }
    where
      by : (t : Slot) (b : Bool) → same_slot t s ≡ b → 0 < slots l t + slot_entries l t → (n : ℕ) → n + cond b 1 0 ≡ slot_entries l t
          → 0 < slots l t + n
      by t true e h n is = let some = subst (λ t. 0 < slots l t) (sym (slot-is t s e)) (cached-slots s f l cached) in omega (arith, some)
      by t false e h n is = omega (arith, is, h)

  pub map-chosen : (v : View) → Chooses m closing l (Noted (Mapped p a f)) (free_of v) (free_of (view_map p (page_of a) f s v))
  map-chosen v = chooses-none m closing l (Mapped p a f) frees-mapped (free_of v) refl refl
