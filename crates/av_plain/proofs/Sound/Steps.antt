-- What the steps of an eviction keep: writes that end, and a frame that goes to its slot.
use Rattle.std.proofs.lemmas.Bool.Decides.{nat_tests}
use Rattle.std.specs.List.{list_any}
use Rattle.std.specs.Prelude.{IsTrue, MatchOption}
use Rattle.std.proofs.Common.{◌≡◌, ℕ, ◌+◌, ◌<◌, ◌≤◌, Bool, true, false, cond, not, ◌&&◌, ◌||◌, if◌then◌else◌, nat_lt, List, [], ◌∷◌, ◌++◌, Option, Some, None, is_none, option_map, refl, sym, ap, subst, ◌∙◌, arith, ◌==◌}
use Rattle.av_base.specs.Keys.{Key}
use Rattle.av_base.specs.Words.{how_many}
use Rattle.av_base.specs.declared.slot.Slot.{Slot}
use Rattle.av_trace.specs.declared.note.Note.{Note}
use Rattle.av_trace.specs.declared.note.Note.TheVariants.{Dropped, Put, Started, Unmapped}
use Rattle.av_plain.specs.Event.{after_note, after_notes, change_entries, if_some, into_cache, off_cache, off_flight, off_lists, settle, to_inactive_tail, when, with_stale}
use Rattle.av_plain.specs.Ledger.{Cached, Entry, InFrame, InSlot, Ledger, Setting, Zero, cached_by, entry, frame_at, has_free_slot, is_free, is_on, is_open, is_orphan, is_unmapped, is_usable, map_count, may_give, same_slot, size_of, slot_count, slot_entries, slot_of}
use Rattle.av_plain.specs.Pass.{Completes, IsSlotFor, Spared, end_note, end_notes, unmap_notes}
use Rattle.av_plain.specs.Sound.{IsSound, IsSoundBut, flights, holders, no_excuse, pairs, slots, uses}
use Rattle.av_plain.proofs.Access.{after_notes-append, note_events-all}
use Rattle.av_plain.proofs.Event.{entry-unmap, how_many-map, how_many-same, to_slot}
use Rattle.av_plain.proofs.Ledger.{how_many-append}
use Rattle.av_plain.proofs.Sound.Cache.{frames_left, put-kept, slots_more, unmapped-kept}
use Rattle.av_plain.proofs.Sound.Changes.{any-counts}
use Rattle.av_plain.proofs.Sound.Counts.{frame_at-none, frame_at-some, holders-off_cache, pair-slot, pairs-off_cache, same-is, same-itself, slot-is, slot_of-none, slot_of-some, slots-off_cache, two_frames}
use Rattle.av_plain.proofs.Sound.Flight.{drops-kept, excuse_of, failed-kept, flights-off_flight, written-kept}
use Rattle.av_plain.specs.Sound.{mergings}
use Rattle.av_plain.proofs.Sound.Changes.{mergings-off_lists}
use Rattle.av_plain.proofs.Sound.Counts.{pair-frame}

-- ---- changes of lists, flight and stale alone

pub record Alike (l l' : Ledger) : Type 0 where
  pub entries : l'.entries ≡ l.entries
  pub merged : l'.merged ≡ l.merged
  pub slots_same : (t : Slot) → slots l' t ≡ slots l t
  pub holders_same : (g : ℕ) → holders l' g ≡ holders l g
  pub pairs_same : (t : Slot) (g : ℕ) → pairs l' t g ≡ pairs l t g

pub alike-then : (l l' l'' : Ledger) → Alike l l' → Alike l' l'' → Alike l l''
alike-then l l' l'' a b = record {
  entries = b.entries ∙ a.entries;
  merged = b.merged ∙ a.merged;
  slots_same = λ t. b.slots_same t ∙ a.slots_same t;
  holders_same = λ g. b.holders_same g ∙ a.holders_same g;
  pairs_same = λ t g. b.pairs_same t g ∙ a.pairs_same t g;
}

pub alike-by : (l l' : Ledger) → l'.entries ≡ l.entries → l'.cache ≡ l.cache → l'.merged ≡ l.merged → Alike l l'
alike-by l l' e c m = record {
  entries = e;
  merged = m;
  slots_same = λ t. ap (how_many (λ (c : Cached). same_slot t c.slot)) c;
  holders_same = λ g. ap (how_many (λ (c : Cached). g == c.frame)) c;
  pairs_same = λ t g. ap (how_many (λ (c : Cached). same_slot t c.slot && g == c.frame)) c;
}

pub alike-with_stale : (l : Ledger) (b : Bool) (t : Slot) → Alike l (with_stale b t l)
alike-with_stale l b t = record {
  entries = refl;
  merged = refl;
  slots_same = λ r. same (λ c. same_slot r c.slot) (λ c. slot_same c r);
  holders_same = λ g. same (λ c. g == c.frame) (λ c. frame_same c g);
  pairs_same = λ r g. same (λ c. same_slot r c.slot && g == c.frame) (λ c i. slot_same c r i && frame_same c g i);
}
  where
    same : (p : Cached → Bool) → ((c : Cached) → p (if same_slot t c.slot then record c { stale = b } else c) ≡ p c) →
        how_many p (with_stale b t l).cache ≡ how_many p l.cache
    same p h = how_many-map p (λ (c : Cached). if same_slot t c.slot then record c { stale = b } else c) l.cache ∙ how_many-same _ _ l.cache h

    slot_same : (c : Cached) (r : Slot) → same_slot r (if same_slot t c.slot then record c { stale = b } else c).slot ≡ same_slot r c.slot
    slot_same c r = elim (same_slot t c.slot) as (λ (v : Bool). same_slot r (if v then record c { stale = b } else c).slot ≡ same_slot r c.slot) [
      | true ↦ refl
      | false ↦ refl
    ]

    frame_same : (c : Cached) (g : ℕ) → (g == (if same_slot t c.slot then record c { stale = b } else c).frame) ≡ (g == c.frame)
    frame_same c g = elim (same_slot t c.slot) as (λ (v : Bool). (g == (if v then record c { stale = b } else c).frame) ≡ (g == c.frame)) [
      | true ↦ refl
      | false ↦ refl
    ]

pub alike-started : (l : Ledger) (t : Slot) → Alike l (after_note (Started t) l)
alike-started l t = alike-then l (record l { flight = l.flight ++ t ∷ [] }) _ (alike-by l _ refl refl refl)
    (alike-with_stale (record l { flight = l.flight ++ t ∷ [] }) false t)

pub alike-end_note : (l : Ledger) (failed : Bool) (t : Slot) → Alike l (after_note (end_note failed t) l)
alike-end_note l true t = alike-then l (off_flight t l) _ (alike-by l _ refl refl refl) (alike-with_stale (off_flight t l) true t)
alike-end_note l false t = by (frame_at l t)
  where
    by : (o : Option ℕ) → Alike l (if_some o to_inactive_tail (off_flight t l))
    by None = alike-by l _ refl refl refl
    by (Some f) = alike-by l _ refl refl refl

pub flights-end_note : (l : Ledger) (failed : Bool) (t r : Slot) → flights (after_note (end_note failed t) l) r ≡ cond (same_slot r t) 0 (flights l r)
flights-end_note l true t r = flights-off_flight t r l.flight
flights-end_note l false t r = by (frame_at l t)
  where
    by : (o : Option ℕ) → flights (if_some o to_inactive_tail (off_flight t l)) r ≡ cond (same_slot r t) 0 (flights l r)
    by None = flights-off_flight t r l.flight
    by (Some f) = flights-off_flight t r l.flight

pub flights-started : (l : Ledger) (t r : Slot) → flights (after_note (Started t) l) r ≡ flights l r + cond (same_slot r t) 1 0
flights-started l t r = how_many-append (same_slot r) l.flight (t ∷ []) ∙ plus_zero _ _
  where
    plus_zero : (a b : ℕ) → a + (b + 0) ≡ a + b
    plus_zero a b = omega arith

-- ---- a drop

pub settle-entries : (o : Option ℕ) (l : Ledger) → (if_some o settle l).entries ≡ l.entries
settle-entries None l = refl
settle-entries (Some f) l = elim (is_free l f) as (λ b. (cond b (off_lists f l) l).entries ≡ l.entries) [ true ↦ refl | false ↦ refl ]

pub settle-cache : (o : Option ℕ) (l : Ledger) → (if_some o settle l).cache ≡ l.cache
settle-cache None l = refl
settle-cache (Some f) l = elim (is_free l f) as (λ b. (cond b (off_lists f l) l).cache ≡ l.cache) [ true ↦ refl | false ↦ refl ]

pub settle-flight : (o : Option ℕ) (l : Ledger) → (if_some o settle l).flight ≡ l.flight
settle-flight None l = refl
settle-flight (Some f) l = elim (is_free l f) as (λ b. (cond b (off_lists f l) l).flight ≡ l.flight) [ true ↦ refl | false ↦ refl ]

pub slots-dropped : (l : Ledger) (t r : Slot) → slots (after_note (Dropped t) l) r ≡ cond (same_slot r t) 0 (slots l r)
slots-dropped l t r = ap (how_many (λ (c : Cached). same_slot r c.slot)) (settle-cache (frame_at l t) (off_cache t l)) ∙ slots-off_cache t r l.cache

pub pairs-dropped : (l : Ledger) (t r : Slot) (g : ℕ) → pairs (after_note (Dropped t) l) r g ≡ cond (same_slot r t) 0 (pairs l r g)
pairs-dropped l t r g = ap (how_many (λ (c : Cached). same_slot r c.slot && g == c.frame)) (settle-cache (frame_at l t) (off_cache t l))
    ∙ pairs-off_cache t r g l.cache

pub holders-dropped : (l : Ledger) (t : Slot) (g : ℕ) → holders (after_note (Dropped t) l) g + pairs l t g ≡ holders l g
holders-dropped l t g = ap (λ cs. how_many (λ (c : Cached). g == c.frame) cs + pairs l t g) (settle-cache (frame_at l t) (off_cache t l))
    ∙ holders-off_cache t g l.cache

-- ---- what a pass keeps of a page that waits for a frame

-- an entry that a pass doesn't change
abbrev pub is_steady : (ℕ → Bool) → Option Entry → Bool
is_steady spared None = true
is_steady spared (Some Zero) = true
is_steady spared (Some (InSlot t)) = true
is_steady spared (Some (InFrame g seen)) = spared g

pub record Keeps (spared : ℕ → Bool) (l l' : Ledger) : Type 0 where
  pub steady : (k : Key) → is_steady spared (entry l k) ≡ true → entry l' k ≡ entry l k
  pub more : (t : Slot) → slot_entries l t ≤ slot_entries l' t
  pub absent : (t : Slot) → slots l t ≡ 0 → 0 < slot_entries l t → slots l' t ≡ 0
  pub mapped_same : (g : ℕ) → spared g ≡ true → map_count l' g ≡ map_count l g
  pub pairs_kept : (t : Slot) (g : ℕ) → spared g ≡ true → 0 < map_count l g → 0 < pairs l t g → 0 < pairs l' t g
  pub merged_same : (g : ℕ) → mergings l' g ≡ mergings l g

pub keeps-then : (spared : ℕ → Bool) (l l' l'' : Ledger) → Keeps spared l l' → Keeps spared l' l'' → Keeps spared l l''
keeps-then spared l l' l'' a b = record {
  steady = λ k h. b.steady k (ap (is_steady spared) (a.steady k h) ∙ h) ∙ a.steady k h;
  more = λ t. let u = a.more t in let v = b.more t in omega (arith, u, v);
  absent = λ t h i. b.absent t (a.absent t h i) (let u = a.more t in omega (arith, u, i));
  mapped_same = λ g h. b.mapped_same g h ∙ a.mapped_same g h;
  pairs_kept = λ t g h i j. b.pairs_kept t g h (let u = a.mapped_same g h in omega (arith, u, i)) (a.pairs_kept t g h i j);
  merged_same = λ g. b.merged_same g ∙ a.merged_same g;
}

pub keeps-alike : (spared : ℕ → Bool) (l l' : Ledger) → Alike l l' → Keeps spared l l'
keeps-alike spared l l' a = record {
  steady = λ k h. ap (λ es. entry (record l { entries = es }) k) a.entries;
  more = λ t. let e = ap (λ es. slot_entries (record l { entries = es }) t) a.entries in omega (arith, e);
  absent = λ t h i. a.slots_same t ∙ h;
  mapped_same = λ g h. ap (λ es. map_count (record l { entries = es }) g) a.entries;
  pairs_kept = λ t g h i j. let e = a.pairs_same t g in omega (arith, e, j);
  merged_same = λ g. ap (how_many (λ x. g == x)) a.merged;
}

-- the frame of a cached slot isn't merged
pub merged-dropped : (l : Ledger) (t : Slot) → ((g : ℕ) → holders l g + mergings l g ≤ 1) → (g : ℕ)
    → mergings (after_note (Dropped t) l) g ≡ mergings l g
merged-dropped l t once g = by (frame_at l t) refl
  where
    by : (o : Option ℕ) → frame_at l t ≡ o → mergings (if_some o settle (off_cache t l)) g ≡ mergings l g
    by None is = refl
    by (Some f) is = free (is_free (off_cache t l) f)
      where
        same : (b : Bool) → (g == f) ≡ b → cond b 0 (mergings l g) ≡ mergings l g
        same true i = let p = frame_at-some f t l.cache is in let q = pair-frame t f l.cache in let o = once f in
            let e = ap (mergings l) (same-is g f i) in omega (arith, p, q, o, e)
        same false i = refl

        free : (b : Bool) → mergings (cond b (off_lists f (off_cache t l)) (off_cache t l)) g ≡ mergings l g
        free true = mergings-off_lists f g (off_cache t l) ∙ same (g == f) refl
        free false = refl

pub keeps-dropped : (spared : ℕ → Bool) (l : Ledger) (t : Slot) → ((g : ℕ) → holders l g + mergings l g ≤ 1)
    → ((g : ℕ) → spared g ≡ true → 0 < map_count l g → pairs l t g ≡ 0) →
    Keeps spared l (after_note (Dropped t) l)
keeps-dropped spared l t once apart = record {
  merged_same = merged-dropped l t once;
  steady = λ k h. ap (λ es. entry (record l { entries = es }) k) same;
  more = λ r. let e = ap (λ es. slot_entries (record l { entries = es }) r) same in omega (arith, e);
  absent = λ r h i. gone (same_slot r t) _ _ (slots-dropped l t r) h;
  mapped_same = λ g h. ap (λ es. map_count (record l { entries = es }) g) same;
  pairs_kept = λ r g h i j. stays_cached (same_slot r t) r g refl _ (pairs-dropped l t r g) (apart g h i) j;
}
  where
    same : (after_note (Dropped t) l).entries ≡ l.entries
    same = settle-entries (frame_at l t) (off_cache t l)

    gone : (b : Bool) (n k : ℕ) → n ≡ cond b 0 k → k ≡ 0 → n ≡ 0
    gone true n k e z = e
    gone false n k e z = e ∙ z

    stays_cached : (b : Bool) (r : Slot) (g : ℕ) → same_slot r t ≡ b → (n : ℕ) → n ≡ cond b 0 (pairs l r g) → pairs l t g ≡ 0
        → 0 < pairs l r g → 0 < n
    stays_cached true r g is n e z h = let h' = subst (λ y. 0 < pairs l y g) (slot-is r t is) h in absurd (omega (arith, z, h'))
    stays_cached false r g is n e z h = omega (arith, e, h)

-- ---- a write in flight ends

pub record Finishes (m : Setting) (l : Ledger) (t : Slot) (l' : Ledger) : Type 0 where
  pub sound : IsSound m l'
  pub flown : (r : Slot) → flights l' r ≡ cond (same_slot r t) 0 (flights l r)
  pub keeps : (spared : ℕ → Bool) → Keeps spared l l'

pub ended : (m : Setting) (l : Ledger) (failed : Bool) (t : Slot) → IsSound m l → IsSoundBut m (excuse_of (Some t)) (after_note (end_note failed t) l)
ended m l true t s = failed-kept m l t s
ended m l false t s = written-kept m l t s

pub end_notes-kept : (m : Setting) (l : Ledger) (t : Slot) (failed : Bool) → IsSound m l → Finishes m l t (after_notes l (end_notes l t failed))
end_notes-kept m l t failed s =
    let l1 = after_note (end_note failed t) l in
    let s1 = ended m l failed t s in
    record {
      sound = subst (IsSound m) (note_events-all l1 (when (is_orphan l1 t) (Dropped t))) (drops-kept m l1 (Some t) s1);
      flown = λ r. by_flights (is_orphan l1 t) r ∙ flights-end_note l failed t r;
      keeps = λ spared. keeps-then spared l l1 _ (keeps-alike spared l l1 (alike-end_note l failed t)) (by_keeps spared s1 (is_orphan l1 t) refl);
    }
  where
    by_flights : (b : Bool) (r : Slot) → flights (after_notes (after_note (end_note failed t) l) (when b (Dropped t))) r ≡ flights
        (after_note (end_note failed t) l) r
    by_flights true r = ap (how_many (same_slot r)) (settle-flight (frame_at (after_note (end_note failed t) l) t)
        (off_cache t (after_note (end_note failed t) l)))
    by_flights false r = refl

    by_keeps : (spared : ℕ → Bool) → IsSoundBut m (excuse_of (Some t)) (after_note (end_note failed t) l) → (b : Bool) →
        is_orphan (after_note (end_note failed t) l) t ≡ b → Keeps spared (after_note (end_note failed t) l)
        (after_notes (after_note (end_note failed t) l) (when b (Dropped t)))
    by_keeps spared s1 true is = keeps-dropped spared (after_note (end_note failed t) l) t s1.frames_once
        (λ g h i. orphan_pairs m (after_note (end_note failed t) l) t g s1.slots_once is i)
      where
        orphan_pairs : (m : Setting) (l : Ledger) (t : Slot) (g : ℕ) → ((r : Slot) → slots l r ≤ 1) → is_orphan l t ≡ true → 0 < map_count l g
            → pairs l t g ≡ 0
        orphan_pairs m l t g once is h = at_frame (frame_at l t) refl (first_true (is_unmapped l (frame_at l t)) _ _ is)
          where
            first_true : (a b c : Bool) → (a && b && c) ≡ true → a ≡ true
            first_true true b c h = refl
            first_true false b c h = cc

            at_frame : (o : Option ℕ) → frame_at l t ≡ o → is_unmapped l (frame_at l t) ≡ true → pairs l t g ≡ 0
            at_frame None if_some un = let z = frame_at-none t l.cache if_some in let p = pair-slot t g l.cache in omega (arith, z, p)
            at_frame (Some f) if_some un = each (g == f) refl
              where
                un' : (map_count l f == 0) ≡ true
                un' = ap (is_unmapped l) (sym if_some) ∙ un

                each : (b : Bool) → (g == f) ≡ b → pairs l t g ≡ 0
                each true e = let z : map_count l f ≡ 0 = grind (arith, nat_tests, un') in let y = ap (map_count l) (same-is g f e) in
                    absurd (omega (arith, z, y, h))
                each false e = let p = frame_at-some f t l.cache if_some in let two = two_frames t g f l.cache e in let o = once t in
                    omega (arith, p, two, o)
    by_keeps spared s1 false is = keeps-alike spared _ _ (alike-by _ _ refl refl refl)

pub record Completed (m : Setting) (l : Ledger) (ts : List Slot) (l' : Ledger) : Type 0 where
  pub sound : IsSound m l'
  pub flown : (r : Slot) → flights l' r ≡ cond (list_any (same_slot r) ts) 0 (flights l r)
  pub keeps : (spared : ℕ → Bool) → Keeps spared l l'

pub completes-kept : (m : Setting) (l : Ledger) (ts : List Slot) (notes : List Note) → IsSound m l → Completes l ts notes →
    Completed m l ts (after_notes l notes)
completes-kept m l [] notes s c = subst (λ ns. Completed m l [] (after_notes l ns)) (sym c)
    (record { sound = s; flown = λ r. refl; keeps = λ spared. keeps-alike spared l l (alike-by l l refl refl refl) })
completes-kept m l (t ∷ ts) notes s c =
    let failed = c.0 in
    let here = end_notes-kept m l t failed s in
    let rest = completes-kept m (after_notes l (end_notes l t failed)) ts c.1 here.sound c.3 in
    subst (λ ns. Completed m l (t ∷ ts) (after_notes l ns)) (sym c.2)
    (subst (Completed m l (t ∷ ts)) (sym (after_notes-append l (end_notes l t failed) c.1))
    (record {
      sound = rest.sound;
      flown = λ r. rest.flown r ∙ ap (cond (list_any (same_slot r) ts) 0) (here.flown r)
          ∙ either (same_slot r t) (list_any (same_slot r) ts) (flights l r);
      keeps = λ spared. keeps-then spared l _ _ (here.keeps spared) (rest.keeps spared);
    }))
  where
    either : (a b : Bool) (n : ℕ) → cond b 0 (cond a 0 n) ≡ cond (a || b) 0 n
    either true true n = refl
    either true false n = refl
    either false b n = refl

-- where all of flight is completed none is left
pub all_landed : (m : Setting) (l l' : Ledger) → Completed m l l.flight l' → (r : Slot) → flights l' r ≡ 0
all_landed m l l' c r = c.flown r ∙ ap (λ b. cond b 0 (flights l r)) (any-counts (same_slot r) l.flight) ∙ none (flights l r)
  where
    none : (n : ℕ) → cond (nat_lt 0 n) 0 n ≡ 0
    none n = by (nat_lt 0 n) refl
      where
        by : (b : Bool) → nat_lt 0 n ≡ b → cond b 0 n ≡ 0
        by true is = refl
        by false is = grind (arith, nat_tests, is)

-- ---- a frame goes to its slot

-- a slot that may be given is nowhere
pub record IsNowhere (l : Ledger) (t : Slot) : Type 0 where
  pub uncached : slots l t ≡ 0
  pub unnamed : slot_entries l t ≡ 0

pub given-nowhere : (m : Setting) (closing : Option ℕ) (l : Ledger) (t : Slot) → may_give m closing l t ≡ true → IsNowhere l t
given-nowhere m closing l t h =
    let zero : (slot_count l t == 0) ≡ true =
    fourth (is_on l t.area) (nat_lt 0 t.page) (nat_lt t.page (size_of m t.area)) (slot_count l t == 0) (is_usable m t)
    (is_open closing t.area) (has_free_slot m l t.area) h in
    record {
      uncached = none (slots l t) (slot_entries l t) (ap (λ b. slot_entries l t + cond b 1 0 == 0)
          (sym (any-counts (λ (c : Cached). same_slot t c.slot) l.cache)) ∙ zero);
      unnamed = grind (arith, nat_tests, zero);
    }
  where
    fourth : (a b c d e f g : Bool) → ((a && b && c && d && e) && f && g) ≡ true → d ≡ true
    fourth true true true true e f g h = refl
    fourth true true true false e f g h = cc
    fourth true true false d e f g h = cc
    fourth true false c d e f g h = cc
    fourth false b c d e f g h = cc

    none : (n k : ℕ) → (k + cond (nat_lt 0 n) 1 0 == 0) ≡ true → n ≡ 0
    none n k h = by (nat_lt 0 n) refl h
      where
        by : (b : Bool) → nat_lt 0 n ≡ b → (k + cond b 1 0 == 0) ≡ true → n ≡ 0
        by true is h = absurd (grind (arith, nat_tests, h))
        by false is h = grind (arith, nat_tests, is)

pub record UnmapKept (m : Setting) (l : Ledger) (f : ℕ) (t : Slot) (l' : Ledger) : Type 0 where
  pub sound : IsSound m l'
  pub pair : 0 < pairs l' t f
  pub none : map_count l' f ≡ 0
  pub flight_same : l'.flight ≡ l.flight
  pub others : (g : ℕ) → (g == f) ≡ false → uses l' g ≡ uses l g
  pub keeps : (spared : ℕ → Bool) → spared f ≡ false → Keeps spared l l'
  pub counts : (r : Slot) → 0 < slots l r + slot_entries l r → 0 < slots l' r + slot_entries l' r
  pub merged_same : l'.merged ≡ l.merged

-- entries that are there become the slot
unmap_one : (m : Setting) (l : Ledger) (f : ℕ) (t : Slot) → IsSound m l → 0 < pairs l t f → UnmapKept m l f t (change_entries f (λ _. InSlot t) l)
unmap_one m l f t s pair = record {
  sound = unmapped-kept m no_excuse l t f s pair;
  pair = pair;
  none = frames_left t f l f true (same-itself f);
  flight_same = refl;
  others = λ g other. ap (λ n. n + holders l g) (frames_left t f l g false other);
  keeps = λ spared apart. record {
    steady = λ k h. entry-unmap f t l k ∙ same spared apart (entry l k) h;
    more = λ r. let e = slots_more t f l r in omega (arith, e);
    absent = λ r h i. h;
    mapped_same = λ g h. frames_left t f l g false (other spared apart g h);
    pairs_kept = λ r g h i j. j;
    merged_same = λ g. refl;
  };
  counts = λ r h. let e = slots_more t f l r in omega (arith, e, h);
  merged_same = refl;
}
  where
    other : (spared : ℕ → Bool) → spared f ≡ false → (g : ℕ) → spared g ≡ true → (g == f) ≡ false
    other spared apart g h = by (g == f) refl
      where
        by : (b : Bool) → (g == f) ≡ b → b ≡ false
        by true is = let e = sym h ∙ ap spared (same-is g f is) ∙ apart in cc
        by false is = refl

    same : (spared : ℕ → Bool) → spared f ≡ false → (o : Option Entry) → is_steady spared o ≡ true → option_map (to_slot f t) o ≡ o
    same spared apart None h = refl
    same spared apart (Some Zero) h = refl
    same spared apart (Some (InSlot r)) h = refl
    same spared apart (Some (InFrame g seen)) h = ap (λ b. Some (cond b (InSlot t) (InFrame g seen))) (turned f g (other spared apart g h))
      where
        turned : (f g : ℕ) → (g == f) ≡ false → (f == g) ≡ false
        turned f g h = grind (arith, nat_tests, h)

unmap_any : (m : Setting) (l : Ledger) (f : ℕ) (t : Slot) → IsSound m l → slot_of l f ≡ Some t → (b : Bool) → (map_count l f == 0) ≡ b →
    UnmapKept m l f t (after_notes l (when (not b) (Unmapped f)))
unmap_any m l f t s cached true is = record {
  sound = s;
  pair = slot_of-some f t l.cache cached;
  none = grind (arith, nat_tests, is);
  flight_same = refl;
  others = λ g other. refl;
  keeps = λ spared apart. keeps-alike spared l l (alike-by l l refl refl refl);
  counts = λ r h. h;
  merged_same = refl;
}
unmap_any m l f t s cached false is = subst (UnmapKept m l f t) (sym (ap (λ o. if_some o (λ s. change_entries f (λ _. InSlot s)) l) cached))
    (unmap_one m l f t s (slot_of-some f t l.cache cached))

pub unmap_notes-kept : (m : Setting) (sp : Spared) (l : Ledger) (f : ℕ) (t : Slot) → IsSound m l → IsSlotFor m sp l f t → mergings l f ≡ 0 →
    0 < uses l f → UnmapKept m l f t (after_notes l (unmap_notes l f t))
unmap_notes-kept m sp l f t s for unmerged in_use = by (slot_of l f) refl for
  where
    by : (o : Option Slot) → slot_of l f ≡ o → MatchOption o (IsTrue (may_give m sp.closing l t)) (λ r. t ≡ r) →
        UnmapKept m l f t (after_notes l (when (is_none (slot_of l f)) (Put f t) ++ when (not (map_count l f == 0)) (Unmapped f)))
    by (Some r) is same =
        subst (UnmapKept m l f t) (sym (ap (λ o. after_notes l (when (is_none o) (Put f t) ++ when (not (map_count l f == 0)) (Unmapped f)))
        is)) (unmap_any m l f t s (is ∙ ap Some (sym same)) (map_count l f == 0) refl)
    by None is may = subst (UnmapKept m l f t)
        (sym (ap (λ o. after_notes l (when (is_none o) (Put f t) ++ when (not (map_count l f == 0)) (Unmapped f))) is))
        put_first
      where
        out : holders l f ≡ 0
        out = slot_of-none f l.cache is

        nowhere : IsNowhere l t
        nowhere = given-nowhere m sp.closing l t may

        l1 : Ledger
        l1 = into_cache t f true l

        put_first : UnmapKept m l f t (after_notes (into_cache t f true l) (when (not (map_count l f == 0)) (Unmapped f)))
        put_first =
            let m1 : 0 < map_count l f = omega (arith, out, in_use) in
            let s1 = put-kept m no_excuse l t f s nowhere.uncached nowhere.unnamed out unmerged m1 in
            let u = unmap_any m (into_cache t f true l) f t s1 (first (f == f) (same-itself f)) (map_count l f == 0) refl in
            record {
              sound = u.sound;
              pair = u.pair;
              none = u.none;
              flight_same = u.flight_same;
              others = λ g other. u.others g other ∙ put_other g (g == f) other;
              keeps = λ spared apart. keeps-then spared l (into_cache t f true l) _ (put_keeps spared) (u.keeps spared apart);
              counts = λ r h. u.counts r (omega (arith, h));
              merged_same = u.merged_same;
            }
          where
            first : (b : Bool) → b ≡ true → option_map (λ (c : Cached). c.slot)
                (cond b (Some (record { slot = t; frame = f; stale = true })) (cached_by (λ c. f == c.frame) l.cache)) ≡ Some t
            first true h = refl
            first false h = cc

            put_other : (g : ℕ) (b : Bool) → b ≡ false → map_count l g + (cond b 1 0 + holders l g) ≡ uses l g
            put_other g true h = cc
            put_other g false h = omega arith

            put_keeps : (spared : ℕ → Bool) → Keeps spared l (into_cache t f true l)
            put_keeps spared = record {
              steady = λ k h. refl;
              more = λ r. omega arith;
              absent = λ r h i. still (same_slot r t) r refl h i;
              mapped_same = λ g h. refl;
              pairs_kept = λ r g h i j. omega (arith, j);
              merged_same = λ g. refl;
            }
              where
                still : (b : Bool) (r : Slot) → same_slot r t ≡ b → slots l r ≡ 0 → 0 < slot_entries l r → cond b 1 0 + slots l r ≡ 0
                still true r is h i = let z = ap (slot_entries l) (slot-is r t is) in let n = nowhere.unnamed in absurd (omega (arith, z, n, i))
                still false r is h i = omega (arith, h)
