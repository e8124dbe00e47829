-- The users of slots: each slot in use has one, and each stays one in a pass.
use Rattle.std.proofs.Common.{◌≡◌, ℕ, zero, suc, ◌+◌, ◌<◌, Bool, true, false, cond, not, ◌||◌, T, List, [], ◌∷◌, ◌++◌, map, filter, length, Option, Some, None, option_map, is_none, reverse, refl, sym, ap, subst, ◌∙◌, arith, nat_lt, ◌==◌}
use Rattle.std.proofs.lemmas.Bool.Decides.{nat_tests}
use Rattle.std.specs.FinMap.Entries.{find, is_sorted}
use Rattle.std.specs.List.{list_any}
use Rattle.std.specs.Prelude.{IsSomeAnd, IsTrue, MatchBool, MatchOption}
use Rattle.av_base.specs.Keys.{Key, key_cmp, same_key}
use Rattle.av_base.proofs.Keys.{same_key-is, same_key-itself}
use Rattle.av_base.specs.Words.{how_many}
use Rattle.av_base.specs.declared.slot.Slot.{Slot}
use Rattle.av_trace.specs.declared.note.Note.{Note}
use Rattle.av_trace.specs.declared.note.Note.TheVariants.{Dropped, Loaded, Put, Started, Unmapped}
use Rattle.av_plain.specs.Event.{after_note, after_notes, change_entries, if_some, into_cache, off_cache, set_entry, slot_behind, when}
use Rattle.av_plain.specs.Ledger.{Cached, Entry, InFrame, InSlot, Ledger, Setting, Zero, cached_by, entry, frame_at, has_free, is_cached, map_count, may_give, names_frame, names_slot, same_slot, slot_count, slot_entries, slot_of}
use Rattle.av_plain.specs.Pass.{Completes, IsPass, IsSlotFor, Seeks, Spared, Turns, end_note, frames_in_turn, is_dirty, is_stuck, stays_cached, turn_notes, unmap_notes}
use Rattle.av_plain.specs.Sound.{IsSound, flights, mergings, no_excuse, pairs, slots, uses}
use Rattle.av_plain.proofs.Access.{after_notes-append}
use Rattle.av_plain.proofs.Event.{entry-unmap, to_slot}
use Rattle.av_plain.proofs.Ledger.{entry-set, how_many-found}
use Rattle.av_plain.proofs.Ledger.Walk.{keys-filter, passes}
use Rattle.av_plain.proofs.Sound.Cache.{put-kept}
use Rattle.av_plain.proofs.Sound.Changes.{any-counts}
use Rattle.av_plain.proofs.Sound.Counts.{frame_at-none, frame_at-some, same-is, same-itself, slot-is, slot-itself, slot_of-none, slot_of-some, two_frames, two_slots}
use Rattle.av_plain.proofs.Sound.Pass.{AreReady, AreUnmerged, TurnKept, all-ready, all-unmerged, ready-first, ready-rest, turn-kept, unmerged-first, unmerged-rest}
use Rattle.av_plain.proofs.Sound.Steps.{Alike, alike-end_note, alike-started, alike-then, given-nowhere, pairs-dropped, settle-entries, unmap_notes-kept}
use Rattle.av_evict.proofs.StepLaws.{pair-slot_of}
use Rattle.av_swapoff.specs.System.{IsUser}

-- ---- by counts

-- the entry names the slot, or a frame that caches it
abbrev pub IsBehind : Ledger → Slot → Entry → Type 0
IsBehind l s Zero = ⊥
IsBehind l s (InFrame f seen) = 0 < pairs l s f
IsBehind l s (InSlot t) = same_slot s t ≡ true

-- so the entry of the key does
abbrev pub IsKeyOf : Ledger → Slot → Key → Type 0
IsKeyOf l s k = IsSomeAnd (entry l k) (IsBehind l s)

pub user-key : (l : Ledger) (s : Slot) (k : Key) → IsUser l s k → IsKeyOf l s k
user-key l s k is = by (entry l k) is
  where
    by : (o : Option Entry) → IsSomeAnd o (λ e. slot_behind l e ≡ Some s) → IsSomeAnd o (IsBehind l s)
    by None is = is
    by (Some Zero) is = cc
    by (Some (InFrame f seen)) is = slot_of-some f s l.cache is
    by (Some (InSlot t)) is = let e : t ≡ s = cc in ap (same_slot s) e ∙ slot-itself s

pub key-user : (m : Setting) (l : Ledger) (s : Slot) (k : Key) → IsSound m l → IsKeyOf l s k → IsUser l s k
key-user m l s k sound is = by (entry l k) is
  where
    by : (o : Option Entry) → IsSomeAnd o (IsBehind l s) → IsSomeAnd o (λ e. slot_behind l e ≡ Some s)
    by None is = is
    by (Some Zero) is = absurd is
    by (Some (InFrame f seen)) is = pair-slot_of m l s f sound is
    by (Some (InSlot t)) is = ap Some (sym (slot-is s t is))

-- ---- a slot in use has a user

counted : (p : Entry → Bool) (es : List (Key × Entry)) → length (map (λ e. e.0) (filter (λ e. p e.1) es)) ≡ how_many (λ e. p e.1) es
counted p [] = refl
counted p (e ∷ es) = by (p e.1) (counted p es)
  where
    by : (b : Bool) → length (map (λ e. e.0) (filter (λ e. p e.1) es)) ≡ how_many (λ e. p e.1) es →
        length (map (λ e. e.0) (cond b (e ∷ filter (λ e. p e.1) es) (filter (λ e. p e.1) es))) ≡ cond b 1 0 + how_many (λ e. p e.1) es
    by true h = one_more _ _ h
      where
        one_more : (n k : ℕ) → n ≡ k → suc n ≡ 1 + k
        one_more n k h = omega (arith, h)
    by false h = zero_plus _ _ h
      where
        zero_plus : (n k : ℕ) → n ≡ k → n ≡ 0 + k
        zero_plus n k h = omega (arith, h)

pub keys-length : (l : Ledger) (s : Slot) → length (map (λ e. e.0) (filter (λ e. names_slot s e.1) l.entries)) ≡ slot_entries l s
keys-length l s = counted (names_slot s) l.entries

-- an entry that passes has a key
pub first-passes : (p : Entry → Bool) (es : List (Key × Entry)) → T (is_sorted key_cmp es) → 0 < how_many (λ e. p e.1) es →
    (k : Key) × (passes p (find key_cmp k es) ≡ true)
first-passes p es sorted some = by (map (λ e. e.0) (filter (λ e. p e.1) es)) (counted p es) (λ k. keys-filter p es k sorted)
  where
    by : (ks : List Key) → length ks ≡ how_many (λ e. p e.1) es → ((k : Key) → list_any (same_key k) ks ≡ passes p (find key_cmp k es)) →
        (k : Key) × (passes p (find key_cmp k es) ≡ true)
    by [] n has = absurd (omega (arith, n, some))
    by (k ∷ ks) n has = (k, sym (has k) ∙ ap (λ b. b || list_any (same_key k) ks) (same_key-itself k))

pub used-user : (m : Setting) (l : Ledger) (s : Slot) → IsSound m l → l.flight ≡ [] → 0 < slot_count l s → (k : Key) × IsKeyOf l s k
used-user m l s sound landed used = by (slot_entries l s) refl
  where
    named : 0 < slot_entries l s → (k : Key) × IsKeyOf l s k
    named some = let x = first-passes (names_slot s) l.entries sound.in_order some in (x.0, is (entry l x.0) x.1)
      where
        is : (o : Option Entry) → passes (names_slot s) o ≡ true → IsSomeAnd o (IsBehind l s)
        is None h = cc
        is (Some Zero) h = cc
        is (Some (InFrame f seen)) h = cc
        is (Some (InSlot t)) h = h

    mapped : (f : ℕ) → 0 < pairs l s f → 0 < map_count l f → (k : Key) × IsKeyOf l s k
    mapped f pair some = let x = first-passes (names_frame f) l.entries sound.in_order some in (x.0, is (entry l x.0) x.1)
      where
        is : (o : Option Entry) → passes (names_frame f) o ≡ true → IsSomeAnd o (IsBehind l s)
        is None h = cc
        is (Some Zero) h = cc
        is (Some (InFrame g seen)) h = subst (λ x. 0 < pairs l s x) (same-is f g h) pair
        is (Some (InSlot t)) h = cc

    cached : slot_entries l s ≡ 0 → (o : Option ℕ) → frame_at l s ≡ o → (k : Key) × IsKeyOf l s k
    cached none None is = absurd (out (is_cached l s) (any-counts (λ (c : Cached). same_slot s c.slot) l.cache) used)
      where
        out : (b : Bool) → b ≡ nat_lt 0 (slots l s) → 0 < slot_entries l s + cond b 1 0 → ⊥
        out true e h = let z = frame_at-none s l.cache is in grind (arith, nat_tests, e, z)
        out false e h = omega (arith, h, none)
    cached none (Some f) is =
        let pair = frame_at-some f s l.cache is in
        let fly : flights l s ≡ 0 = ap (how_many (same_slot s)) landed in
        let has = sound.used s f pair in
        mapped f pair (omega (arith, fly, has, none))

    by : (n : ℕ) → slot_entries l s ≡ n → (k : Key) × IsKeyOf l s k
    by zero is = cached is (frame_at l s) refl
    by (suc n) is = named (omega (arith, is))

-- ---- users stay

-- each user of a slot stays one
abbrev pub Steady : Ledger → Ledger → Type 0
Steady l l' = (s : Slot) (k : Key) → IsKeyOf l s k → IsKeyOf l' s k

-- but for those of one slot
abbrev pub SteadyBut : Slot → Ledger → Ledger → Type 0
SteadyBut t l l' = (s : Slot) (k : Key) → same_slot s t ≡ false → IsKeyOf l s k → IsKeyOf l' s k

-- where entries stay, and those of the keys keep their frames' slots
steady-by : (l l' : Ledger) (s : Slot) (k : Key) → l'.entries ≡ l.entries →
    ((f : ℕ) (seen : Bool) → entry l k ≡ Some (InFrame f seen) → 0 < pairs l s f → 0 < pairs l' s f) → IsKeyOf l s k → IsKeyOf l' s k
steady-by l l' s k same more is = subst (λ es. IsSomeAnd (find key_cmp k es) (IsBehind l' s)) (sym same) (by (entry l k) refl is)
  where
    by : (o : Option Entry) → entry l k ≡ o → IsSomeAnd o (IsBehind l s) → IsSomeAnd o (IsBehind l' s)
    by None at is = is
    by (Some Zero) at is = is
    by (Some (InFrame f seen)) at is = more f seen at is
    by (Some (InSlot t)) at is = is

pub steady-alike : (l l' : Ledger) → Alike l l' → Steady l l'
steady-alike l l' a s k is = steady-by l l' s k a.entries (λ f seen at h. subst (λ n. 0 < n) (sym (a.pairs_same s f)) h) is

pub steady-loaded : (l : Ledger) (t : Slot) (f : ℕ) → Steady l (after_note (Loaded t f) l)
steady-loaded l t f s k is = steady-by l (after_note (Loaded t f) l) s k refl (λ g seen at h. omega (arith, h)) is

steady-put : (l : Ledger) (t : Slot) (f : ℕ) → Steady l (into_cache t f true l)
steady-put l t f s k is = steady-by l (into_cache t f true l) s k refl (λ g seen at h. omega (arith, h)) is

steady-change : (m : Setting) (l : Ledger) (f : ℕ) (t : Slot) → IsSound m l → 0 < pairs l t f → Steady l (change_entries f (λ _. InSlot t) l)
steady-change m l f t sound pair s k is =
    subst (λ o. IsSomeAnd o (IsBehind (change_entries f (λ _. InSlot t) l) s)) (sym (entry-unmap f t l k)) (by (entry l k) is)
  where
    by : (o : Option Entry) → IsSomeAnd o (IsBehind l s) → IsSomeAnd (option_map (to_slot f t) o) (IsBehind (change_entries f (λ _. InSlot t) l) s)
    by None is = is
    by (Some Zero) is = is
    by (Some (InFrame g seen)) is = frame (f == g) refl
      where
        frame : (b : Bool) → (f == g) ≡ b → IsBehind (change_entries f (λ _. InSlot t) l) s (cond b (InSlot t) (InFrame g seen))
        frame false e = is
        frame true e = same (same_slot s t) refl
          where
            same : (b : Bool) → same_slot s t ≡ b → b ≡ true
            same true h = refl
            same false h =
                let two = two_slots s t f l.cache h in
                let once = sound.frames_once f in
                let here = subst (λ x. 0 < pairs l s x) (sym (same-is f g e)) is in
                absurd (omega (arith, two, once, here, pair))
    by (Some (InSlot r)) is = is

steady-when : (m : Setting) (l : Ledger) (f : ℕ) (t : Slot) (b : Bool) → IsSound m l → slot_of l f ≡ Some t →
    Steady l (after_notes l (when b (Unmapped f)))
steady-when m l f t false sound at s k is = is
steady-when m l f t true sound at s k is = subst (λ o. IsKeyOf (if_some o (λ s. change_entries f (λ _. InSlot s)) l) s k) (sym at)
    (steady-change m l f t sound (slot_of-some f t l.cache at) s k is)

steady-unmap_notes : (m : Setting) (sp : Spared) (l : Ledger) (f : ℕ) (t : Slot) → IsSound m l → IsSlotFor m sp l f t → mergings l f ≡ 0 →
    0 < uses l f → Steady l (after_notes l (unmap_notes l f t))
steady-unmap_notes m sp l f t sound for unmerged used s k is = by (slot_of l f) refl for
  where
    by : (o : Option Slot) → slot_of l f ≡ o → MatchOption o (IsTrue (may_give m sp.closing l t)) (λ r. t ≡ r) →
        IsKeyOf (after_notes l (when (is_none (slot_of l f)) (Put f t) ++ when (not (map_count l f == 0)) (Unmapped f))) s k
    by (Some r) at same =
        subst (λ o. IsKeyOf (after_notes l (when (is_none o) (Put f t) ++ when (not (map_count l f == 0)) (Unmapped f))) s k) (sym at)
        (steady-when m l f t (not (map_count l f == 0)) sound (at ∙ ap Some (sym same)) s k is)
    by None at may = subst (λ o. IsKeyOf (after_notes l (when (is_none o) (Put f t) ++ when (not (map_count l f == 0)) (Unmapped f))) s k) (sym at)
        (steady-when m (into_cache t f true l) f t (not (map_count l f == 0)) put (first (f == f) (same-itself f)) s k (steady-put l t f s k is))
      where
        put : IsSound m (into_cache t f true l)
        put =
            let n = given-nowhere m sp.closing l t may in
            let out = slot_of-none f l.cache at in
            put-kept m no_excuse l t f sound n.uncached n.unnamed out unmerged (omega (arith, out, used))

        first : (b : Bool) → b ≡ true → option_map (λ (c : Cached). c.slot)
            (cond b (Some (record { slot = t; frame = f; stale = true })) (cached_by (λ c. f == c.frame) l.cache)) ≡ Some t
        first true h = refl
        first false h = cc

-- what a turn does after that
turn-alike : (l : Ledger) (f : ℕ) (t : Slot) (failed : Bool) → Alike (after_notes l (unmap_notes l f t)) (after_notes l (turn_notes l f t failed))
turn-alike l f t failed = subst (Alike (after_notes l (unmap_notes l f t)))
    (sym (after_notes-append l (unmap_notes l f t) (cond (is_dirty l f t) (Started t ∷ end_note failed t ∷ []) []))) (by (is_dirty l f t))
  where
    by : (d : Bool) → Alike (after_notes l (unmap_notes l f t))
        (after_notes (after_notes l (unmap_notes l f t)) (cond d (Started t ∷ end_note failed t ∷ []) []))
    by false = record { entries = refl; merged = refl; slots_same = λ r. refl; holders_same = λ g. refl; pairs_same = λ r g. refl }
    by true = let l1 = after_notes l (unmap_notes l f t) in
        alike-then l1 (after_note (Started t) l1) _ (alike-started l1 t) (alike-end_note (after_note (Started t) l1) failed t)

pub dropped-other : (l : Ledger) (t : Slot) → SteadyBut t l (after_note (Dropped t) l)
dropped-other l t s k other is = steady-by l (after_note (Dropped t) l) s k (settle-entries (frame_at l t) (off_cache t l))
    (λ f seen at h. subst (λ n. 0 < n) (sym (pairs-dropped l t s f ∙ ap (λ b. cond b 0 (pairs l s f)) other)) h) is

-- a slot is dropped that no mapped frame caches
steady-dropped : (l : Ledger) (t : Slot) → ((f : ℕ) → 0 < map_count l f → pairs l t f ≡ 0) → Steady l (after_note (Dropped t) l)
steady-dropped l t none s k is = by (same_slot s t) refl
  where
    by : (b : Bool) → same_slot s t ≡ b → IsKeyOf (after_note (Dropped t) l) s k
    by false e = dropped-other l t s k e is
    by true e = steady-by l (after_note (Dropped t) l) s k (settle-entries (frame_at l t) (off_cache t l))
        (λ f seen at h. let z = none f (how_many-found (names_frame f) k l.entries (InFrame f seen) at (same-itself f)) in
        let same = ap (λ x. pairs l x f) (slot-is s t e) in absurd (omega (arith, z, same, h))) is

-- ---- in a pass

module _ (m : Setting) (l : Ledger) (f : ℕ) (t : Slot) (failed : Bool) (sp : Spared) (sound : IsSound m l) (grounded : (r : Slot) → flights l r ≡ 0)
    (for : IsSlotFor m sp l f t) (unmerged : mergings l f ≡ 0) (used : 0 < uses l f) where
  steady-turn : Steady l (after_notes l (turn_notes l f t failed))
  steady-turn s k is = steady-alike _ _ (turn-alike l f t failed) s k (steady-unmap_notes m sp l f t sound for unmerged used s k is)

  steady-last : Steady l (after_notes l (turn_notes l f t failed ++ Dropped t ∷ []))
  steady-last s k is = subst (λ x. IsKeyOf x s k) (sym (after_notes-append l (turn_notes l f t failed) (Dropped t ∷ [])))
      (steady-dropped (after_notes l (turn_notes l f t failed)) t alone s k (steady-turn s k is))
    where
      here : TurnKept m l f t (after_notes l (turn_notes l f t failed))
      here = turn-kept m sp l f t failed sound grounded for unmerged used

      unmapped : map_count (after_notes l (turn_notes l f t failed)) f ≡ 0
      unmapped = ap (λ es. map_count (record l { entries = es }) f) ((turn-alike l f t failed).entries)
          ∙ (unmap_notes-kept m sp l f t sound for unmerged used).none

      alone : (g : ℕ) → 0 < map_count (after_notes l (turn_notes l f t failed)) g → pairs (after_notes l (turn_notes l f t failed)) t g ≡ 0
      alone g some = by (g == f) refl
        where
          by : (b : Bool) → (g == f) ≡ b → pairs (after_notes l (turn_notes l f t failed)) t g ≡ 0
          by true e = let z = ap (map_count (after_notes l (turn_notes l f t failed))) (same-is g f e) in absurd (omega (arith, z, unmapped, some))
          by false e =
              let two = two_frames t g f (after_notes l (turn_notes l f t failed)).cache e in
              let once = here.sound.slots_once t in
              let p = here.pair in
              omega (arith, two, once, p)

-- the rest of the frames, from any ledger on
abbrev Again : Setting → Spared → List ℕ → Type 0
Again m sp fs = (l : Ledger) (ns : List Note) → IsSound m l → ((r : Slot) → flights l r ≡ 0) → AreReady l fs → AreUnmerged l fs → Turns m sp l fs ns →
    Steady l (after_notes l ns)

pub steady-turns : (m : Setting) (sp : Spared) (l : Ledger) (fs : List ℕ) (ns : List Note) → IsSound m l → ((r : Slot) → flights l r ≡ 0) →
    AreReady l fs → AreUnmerged l fs → Turns m sp l fs ns → Steady l (after_notes l ns)
steady-turns m sp l [] ns sound grounded ready unmerged turns = λ s k is. subst (λ x. IsKeyOf (after_notes l x) s k) (sym turns) is
steady-turns m sp l (f ∷ fs) ns sound grounded ready unmerged turns =
    stuck (λ l' ns' sound' grounded' ready' unmerged' turns'. steady-turns m sp l' fs ns' sound' grounded' ready' unmerged' turns')
    (is_stuck m sp l f) turns
  where
    stuck : Again m sp fs → (b : Bool) → MatchBool b (Turns m sp l fs ns)
        ((t : Slot) × (failed : Bool) × IsSlotFor m sp l f t × MatchBool (stays_cached l f t failed)
        ((rest : List Note) × (ns ≡ turn_notes l f t failed ++ rest) × Turns m sp (after_notes l (turn_notes l f t failed)) fs rest)
        (ns ≡ turn_notes l f t failed ++ Dropped t ∷ []))
        → Steady l (after_notes l ns)
    stuck again true r = again l ns sound grounded (ready-rest l l f fs (λ g other. refl) ready) (unmerged-rest l l f fs refl unmerged) r
    stuck again false r = goes (stays_cached l f r.0 r.1) r.3
      where
        goes : (b : Bool) → MatchBool b
            ((rest : List Note) × (ns ≡ turn_notes l f r.0 r.1 ++ rest) × Turns m sp (after_notes l (turn_notes l f r.0 r.1)) fs
            rest) (ns ≡ turn_notes l f r.0 r.1 ++ Dropped r.0 ∷ []) → Steady l (after_notes l ns)
        goes true q s k is =
            let here = turn-kept m sp l f r.0 r.1 sound grounded r.2 (unmerged-first l f fs unmerged) (ready-first l f fs ready) in
            let l1 = after_notes l (turn_notes l f r.0 r.1) in
            subst (λ x. IsKeyOf (after_notes l x) s k) (sym q.1)
            (subst (λ x. IsKeyOf x s k) (sym (after_notes-append l (turn_notes l f r.0 r.1) q.0))
            (again l1 q.0 here.sound here.grounded (ready-rest l l1 f fs here.others ready) (unmerged-rest l l1 f fs here.merged_same unmerged) q.2 s k
            (steady-turn m l f r.0 r.1 sp sound grounded r.2 (unmerged-first l f fs unmerged) (ready-first l f fs ready) s k is)))
        goes false q s k is = subst (λ x. IsKeyOf (after_notes l x) s k) (sym q)
            (steady-last m l f r.0 r.1 sp sound grounded r.2 (unmerged-first l f fs unmerged) (ready-first l f fs ready) s k is)

-- with nothing in flight
pub steady-seeks : (m : Setting) (sp : Spared) (l : Ledger) (ns : List Note) → IsSound m l → l.flight ≡ [] → Seeks m sp l ns →
    Steady l (after_notes l ns)
steady-seeks m sp l ns sound landed seeks = by (has_free m l) seeks
  where
    by : (b : Bool) → MatchBool b (ns ≡ []) (IsPass m sp l ns) → Steady l (after_notes l ns)
    by true q s k is = subst (λ x. IsKeyOf (after_notes l x) s k) (sym q) is
    by false q s k is = subst (λ x. IsKeyOf (after_notes l x) s k) (sym (q.2 ∙ ap (λ x. x ++ q.1) none)) (goes (has_free m l)
        (subst (λ x. let now = after_notes l x in MatchBool (has_free m now) (q.1 ≡ []) (Turns m sp now (frames_in_turn sp now) q.1))
        none q.4) s k is)
      where
        none : q.0 ≡ []
        none = subst (λ fs. Completes l fs q.0) landed q.3

        goes : (b : Bool) → MatchBool b (q.1 ≡ []) (Turns m sp l (frames_in_turn sp l) q.1) → Steady l (after_notes l q.1)
        goes true e = λ s k is. subst (λ x. IsKeyOf (after_notes l x) s k) (sym e) is
        goes false turns = steady-turns m sp l (frames_in_turn sp l) q.1 sound (λ r. ap (how_many (same_slot r)) landed)
            (all-ready m sp l sound) (all-unmerged sp l (reverse l.inactive ++ reverse l.active)) turns

-- ---- an entry of a cached slot becomes the frame

pub steady-mapped : (l : Ledger) (t : Slot) (f : ℕ) (q : Key) → entry l q ≡ Some (InSlot t) → 0 < pairs l t f →
    Steady l (set_entry q (InFrame f false) l)
steady-mapped l t f q at pair s k is = subst (λ o. IsSomeAnd o (IsBehind l s)) (sym (entry-set q (InFrame f false) l k)) (by (same_key k q) refl)
  where
    by : (b : Bool) → same_key k q ≡ b → IsSomeAnd (cond b (Some (InFrame f false)) (entry l k)) (IsBehind l s)
    by false e = is
    by true e = subst (λ x. 0 < pairs l x f)
        (sym (slot-is s t (subst (λ o. IsSomeAnd o (IsBehind l s)) (ap (entry l) (same_key-is k q e) ∙ at) is))) pair
