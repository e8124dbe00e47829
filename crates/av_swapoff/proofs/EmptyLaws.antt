-- The slots of an area that is closing: none comes into use while others go back, and those in use keep their users.
use Rattle.std.proofs.Common.{◌≡◌, ◌⊎◌, inl, inr, ℕ, zero, suc, ◌+◌, ◌-◌, ◌≤◌, ◌<◌, Bool, true, false, cond, not, ◌&&◌, T, List, [], ◌∷◌, ◌++◌, filter, length, Option, Some, None, refl, sym, ap, subst, ◌∙◌, arith, nat_lt, ◌==◌, append-nil, append_assoc, if◌then◌else◌}
use Rattle.std.specs.FinMap.Entries.{is_sorted}
use Rattle.std.specs.List.{range_with_len}
use Rattle.std.specs.Prelude.{IsSomeAnd, MatchOption, slice_get}
use Rattle.std.proofs.lemmas.Bool.Decides.{nat_tests}
use Rattle.std.proofs.lemmas.Option.{slice_get_past}
use Rattle.av_base.specs.Keys.{Key, key_cmp}
use Rattle.av_base.specs.Page.{address_of}
use Rattle.av_base.specs.Words.{how_many}
use Rattle.av_base.specs.declared.slot.Slot.{Slot}
use Rattle.av_trace.specs.declared.note.Note.{Note}
use Rattle.av_trace.specs.declared.note.Note.TheVariants.{Aged, Copied, Dropped, Failed, Joined, Kept, Loaded, Mapped, Moved, New, Put, Shared, Started, Unmapped, Written, Zeroed}
use Rattle.av_plain.specs.Areas.{Rmap}
use Rattle.av_plain.specs.Event.{after_note, after_notes, note_events, off_cache}
use Rattle.av_plain.specs.Fault.{is_locked}
use Rattle.av_plain.specs.Ledger.{InSlot, Ledger, Setting, frame_at, has_free, has_free_slot, is_free_slot, is_on, is_open, keys_of_slot, may_give, names_slot, same_slot, size_of, slot_count, slot_entries, slots_in_use}
use Rattle.av_plain.specs.Pass.{Completes, Spared, TakesFor, fails, is_fail, out_of}
use Rattle.av_plain.specs.Sound.{IsSound, count, is_there, slots}
use Rattle.av_plain.specs.Swapoff as plain
use Rattle.av_plain.specs.Swapoff.{EndsAt, IsEmptied, IsFetched, NoRoom, map_notes, sparing_area}
use Rattle.av_plain.specs.Load.{with_loads}
use Rattle.av_plain.specs.World.{World}
use Rattle.av_plain.proofs.Access.{after_notes-append}
use Rattle.av_plain.proofs.Ledger.{how_many-append, how_many-found}
use Rattle.av_plain.proofs.Ledger.NoSwap.{has_free-some}
use Rattle.av_plain.proofs.Sound.Pass.{seeks-kept}
use Rattle.av_plain.proofs.Sound.Changes.{drop-sound}
use Rattle.av_plain.proofs.Sound.Counts.{same-is, slot-is, slot-itself}
use Rattle.av_plain.proofs.Sound.Steps.{settle-entries, settle-flight, slots-dropped}
use Rattle.av_plain.proofs.Sound.There.{AreLawful, IsLawful, NoNew, counted-slot, lawful-append, lawful-is, lawful-no_new, lawful-seeks, sorted-note}
use Rattle.av_evict.specs.System.{Gives, Goes, SystemView, spares}
use Rattle.av_evict.proofs.SeekLaws.{completed-landed}
use Rattle.av_evict.proofs.SystemLaws.{goes-then}
use Rattle.av_swapoff.specs.Empty.{EmptiesAllBy, EmptiesEachBy, EmptiesPage, EmptiesPageBy, EmptiesSlotBy, IsStuck, MayEmpty, MayEmptyEach, close_of, failed_by, lost_by}
use Rattle.av_swapoff.specs.Slot.{IsIn, MayFetch, mapped_notes}
use Rattle.av_swapoff.specs.System.{AreUsers, IsUser, MayLoad, slot_at}
use Rattle.av_swapoff.specs.declared.empty.EmptyEnd.{EmptyEnd}
use Rattle.av_swapoff.specs.declared.empty.EmptyEnd.TheVariants.{Empty, NoFrame, NoPage}
use Rattle.av_swapoff.proofs.LockLaws.{TellsLocked, locked-loads, locked-then}
use Rattle.av_swapoff.proofs.SlotLaws.{AllMapped, fetched-in, load-sound, mapped-keys, rose-both, rose-plain, sought-may_load}
use Rattle.av_swapoff.proofs.UserLaws.{IsKeyOf, Steady, SteadyBut, dropped-other, key-user, keys-length, steady-loaded, steady-seeks, used-user, user-key}

-- ---- what is not in use stays so

abbrev pub Idle : ℕ → Ledger → Ledger → Type 0
Idle k l l' = (s : Slot) → s.area ≡ k → count l s ≡ 0 → count l' s ≡ 0

-- a setting in which no slot is there
abbrev bare : Setting → Setting
bare m = record m { headers = Some (λ _. None) }

idle-other : (m : Setting) (k : ℕ) (l : Ledger) (note : Note) → NoNew (bare m) l (after_note note l) → Idle k l (after_note note l)
idle-other m k l note new s at z = by (count (after_note note l) s) refl
  where
    none : (a b c : Bool) → (a && b && c && false) ≡ true → ⊥
    none true true true h = cc
    none true true false h = cc
    none true false c h = cc
    none false b c h = cc

    by : (n : ℕ) → count (after_note note l) s ≡ n → n ≡ 0
    by zero is = refl
    by (suc n) is = case (new.came s (omega (arith, is)))
      where
        case : (0 < count l s) ⊎ (is_there (bare m) l s ≡ true) → suc n ≡ 0
        case (inl h) = absurd (omega (arith, h, z))
        case (inr h) = absurd (none (is_on l s.area) (nat_lt 0 s.page) (nat_lt s.page (size_of m s.area)) h)

idle-put : (m : Setting) (k : ℕ) (l : Ledger) (f : ℕ) (t : Slot) → may_give m (Some k) l t ≡ true → Idle k l (after_note (Put f t) l)
idle-put m k l f t h s at z = by (same_slot s t) refl
  where
    open_area : (a b c : Bool) → (a && b && c) ≡ true → b ≡ true
    open_area true true c h = refl
    open_area true false c h = cc
    open_area false b c h = cc

    other : not (t.area == k) ≡ true
    other = open_area (is_free_slot m l t) (is_open (Some k) t.area) (has_free_slot m l t.area) h

    by : (b : Bool) → same_slot s t ≡ b → (cond b 1 0 + slots l s) + slot_entries l s ≡ 0
    by true is = let e = ap (λ (x : Slot). x.area) (slot-is s t is) in
        absurd (clash (t.area == k) other (let q : t.area ≡ k = sym e ∙ at in grind (arith, nat_tests, q)))
      where
        clash : (b : Bool) → not b ≡ true → b ≡ true → ⊥
        clash true h i = cc
        clash false h i = cc
    by false is = omega (arith, z)

idle-note : (m : Setting) (k : ℕ) (l : Ledger) (note : Note) → T (is_sorted key_cmp l.entries) → IsLawful m (Some k) l note →
    Idle k l (after_note note l)
idle-note m k l (Put f t) sorted h = idle-put m k l f t h
idle-note m k l (Loaded t f) sorted h = idle-other m k l (Loaded t f) (lawful-no_new (bare m) (Some k) l (Loaded t f) sorted h)
idle-note m k l (Zeroed p a) sorted h = idle-other m k l (Zeroed p a) (lawful-no_new (bare m) (Some k) l (Zeroed p a) sorted tt)
idle-note m k l (New p a f) sorted h = idle-other m k l (New p a f) (lawful-no_new (bare m) (Some k) l (New p a f) sorted tt)
idle-note m k l (Copied p a f) sorted h = idle-other m k l (Copied p a f) (lawful-no_new (bare m) (Some k) l (Copied p a f) sorted tt)
idle-note m k l (Mapped p a f) sorted h = idle-other m k l (Mapped p a f) (lawful-no_new (bare m) (Some k) l (Mapped p a f) sorted tt)
idle-note m k l (Unmapped f) sorted h = idle-other m k l (Unmapped f) (lawful-no_new (bare m) (Some k) l (Unmapped f) sorted tt)
idle-note m k l (Started t) sorted h = idle-other m k l (Started t) (lawful-no_new (bare m) (Some k) l (Started t) sorted tt)
idle-note m k l (Written t) sorted h = idle-other m k l (Written t) (lawful-no_new (bare m) (Some k) l (Written t) sorted tt)
idle-note m k l (Failed t) sorted h = idle-other m k l (Failed t) (lawful-no_new (bare m) (Some k) l (Failed t) sorted tt)
idle-note m k l (Dropped t) sorted h = idle-other m k l (Dropped t) (lawful-no_new (bare m) (Some k) l (Dropped t) sorted tt)
idle-note m k l (Kept f cause) sorted h = idle-other m k l (Kept f cause) (lawful-no_new (bare m) (Some k) l (Kept f cause) sorted tt)
idle-note m k l (Aged f) sorted h = idle-other m k l (Aged f) (lawful-no_new (bare m) (Some k) l (Aged f) sorted tt)
idle-note m k l (Shared f) sorted h = idle-other m k l (Shared f) (lawful-no_new (bare m) (Some k) l (Shared f) sorted tt)
idle-note m k l (Joined p a f) sorted h = idle-other m k l (Joined p a f) (lawful-no_new (bare m) (Some k) l (Joined p a f) sorted tt)
idle-note m k l (Moved from to) sorted h = idle-other m k l (Moved from to) (lawful-no_new (bare m) (Some k) l (Moved from to) sorted tt)

pub idle-notes : (m : Setting) (k : ℕ) (l : Ledger) (ns : List Note) → T (is_sorted key_cmp l.entries) → AreLawful m (Some k) l ns →
    Idle k l (after_notes l ns)
idle-notes m k l [] sorted h s at z = z
idle-notes m k l (note ∷ ns) sorted h s at z =
    idle-notes m k (after_note note l) ns (sorted-note l note sorted) h.1 s at (idle-note m k l note sorted h.0 s at z)

-- a count in both words
pub count-zero : (l : Ledger) (s : Slot) → slot_count l s ≡ 0 → count l s ≡ 0
count-zero l s h = let e = counted-slot l s in grind (arith, nat_tests, e, h)

pub zero-count : (l : Ledger) (s : Slot) → count l s ≡ 0 → slot_count l s ≡ 0
zero-count l s h = let e = counted-slot l s in grind (arith, nat_tests, e, h)

-- ---- a slot that goes back is in use no more, no other one comes into use, and their users stay

lawful-maps : (m : Setting) (closing : Option ℕ) (l : Ledger) (f : ℕ) (ks : List Key) (s : Slot) →
    AreLawful m closing l (mapped_notes f ks ++ Dropped s ∷ [])
lawful-maps m closing l f [] s = (tt, tt)
lawful-maps m closing l f (k ∷ ks) s = (tt, lawful-maps m closing (after_note (Mapped k.0 (address_of k.1) f) l) f ks s)

-- what a pass leaves alone while the area is closing, by the frames of locked pages
abbrev pub spares_area : (ℕ → Bool) → ℕ → Spared
spares_area locked k = record { pinned = None; locked = locked; closing = Some k }

-- the page was fetched: what that keeps
pub record FetchKept (m : Setting) (k : ℕ) (s : Slot) (f : ℕ) (l : Ledger) (ns : List Note) : Type 0 where
  pub sound : IsSound m (after_notes l ns)
  pub lawful : AreLawful m (Some k) l ns
  pub at : IsIn s f (after_notes l ns)
  pub steady : Steady l (after_notes l ns)

pub fetch-kept : (m : Setting) (locked : ℕ → Bool) (k : ℕ) (l : Ledger) (s : Slot) (u : Key) (f : ℕ) (ns : List Note) → IsSound m l → MayFetch s u l →
    IsFetched m (spares_area locked k) l s f ns → FetchKept m k s f l ns
fetch-kept m locked k l s u f ns sound may fetches = by (frame_at l s) refl fetches
  where
    at : IsIn s f (after_notes l ns)
    at = fetched-in m (spares_area locked k) l s u f ns sound may fetches

    by : (o : Option ℕ) → frame_at l s ≡ o →
        MatchOption o (TakesFor m (spares_area locked k) l ns (Loaded s) × (frame_at (after_notes l ns) s ≡ Some f)) (λ g. (ns ≡ []) × (f ≡ g)) →
        FetchKept m k s f l ns
    by (Some g) is h = record {
      sound = subst (λ x. IsSound m (after_notes l x)) (sym h.0) sound;
      lawful = lawful-is m (Some k) l ns [] h.0 tt;
      at = at;
      steady = subst (λ x. Steady l (after_notes l x)) (sym h.0) (λ t q i. i);
    }
    by None is h = record {
      sound = subst (IsSound m) (sym whole) (load-sound m l1 s u t.frame p named t.in_range t.free);
      lawful = lawful-is m (Some k) l ns (t.sought ++ Loaded s t.frame ∷ []) t.whole
          (lawful-append m (Some k) l t.sought (Loaded s t.frame ∷ []) (lawful-seeks m (spares_area locked k) l t.sought t.seeks)
          (how_many-found (names_slot s) u l1.entries (InSlot s) named.named (slot-itself s), tt));
      at = at;
      steady = subst (Steady l) (sym whole)
          (λ r q i. steady-loaded l1 s t.frame r q (steady-seeks m (spares_area locked k) l t.sought sound may.landed t.seeks r q i));
    }
      where
        t : TakesFor m (spares_area locked k) l ns (Loaded s)
        t = h.0

        l1 : Ledger
        l1 = after_notes l h.0.sought

        whole : after_notes l ns ≡ after_note (Loaded s h.0.frame) (after_notes l h.0.sought)
        whole = ap (after_notes l) h.0.whole ∙ after_notes-append l h.0.sought (Loaded s h.0.frame ∷ [])

        p : IsSound m (after_notes l h.0.sought)
        p = (seeks-kept m (spares_area locked k) l h.0.sought sound h.0.seeks).sound

        named : MayLoad m s u (after_notes l h.0.sought)
        named = sought-may_load m (spares_area locked k) l s u h.0.sought sound may (record { absent = is; seeks = h.0.seeks })
            (has_free-some m (after_notes l h.0.sought) h.0.frame h.0.in_range h.0.free)

pub record BringKept (m : Setting) (k : ℕ) (s : Slot) (l : Ledger) (ns : List Note) : Type 0 where
  pub gone : count (after_notes l ns) s ≡ 0
  pub idle : Idle k l (after_notes l ns)
  pub landed : (after_notes l ns).flight ≡ []
  pub steady : SteadyBut s l (after_notes l ns)

module _ (m : Setting) (locked : ℕ → Bool) (k : ℕ) (l : Ledger) (s : Slot) (u : Key) (ns : List Note) (sound : IsSound m l) (may : MayFetch s u l)
    (b : IsEmptied m (spares_area locked k) l s ns) where
  kept : FetchKept m k s b.frame l b.fetched
  kept = fetch-kept m locked k l s u b.frame b.fetched sound may b.fetches

  -- after the fetch, and after the entries became the frame
  l1 : Ledger
  l1 = after_notes l b.fetched

  l2 : Ledger
  l2 = after_notes (after_notes l b.fetched) (mapped_notes b.frame (keys_of_slot (after_notes l b.fetched) s))

  all : AllMapped m s (keys_of_slot (after_notes l b.fetched) s) (after_notes l b.fetched)
      (after_notes (after_notes l b.fetched) (mapped_notes b.frame (keys_of_slot (after_notes l b.fetched) s)))
  all = mapped-keys m (after_notes l b.fetched) s b.frame kept.sound kept.at

  none_named : slot_entries (after_notes (after_notes l b.fetched) (mapped_notes b.frame (keys_of_slot (after_notes l b.fetched) s))) s ≡ 0
  none_named = let e = all.fewer in let n = keys-length (after_notes l b.fetched) s in omega (arith, e, n)

  same : after_notes l ns ≡ after_note (Dropped s)
      (after_notes (after_notes l b.fetched) (mapped_notes b.frame (keys_of_slot (after_notes l b.fetched) s)))
  same = ap (after_notes l) b.whole ∙ after_notes-append l b.fetched (map_notes (after_notes l b.fetched) s b.frame)
      ∙ after_notes-append (after_notes l b.fetched) (mapped_notes b.frame (keys_of_slot (after_notes l b.fetched) s)) (Dropped s ∷ [])

  gone_at : (b : Bool) → b ≡ true → (n e c k : ℕ) → n ≡ cond b 0 c → e ≡ k → k ≡ 0 → n + e ≡ 0
  gone_at true h n e c k a d z = omega (arith, a, d, z)
  gone_at false h n e c k a d z = cc

  pub bring-kept : BringKept m k s l ns
  unfolding l2 l1
  bring-kept = record {
    gone = ap (λ x. count x s) same ∙ gone_at (same_slot s s) (slot-itself s) _ _ _ _ (slots-dropped l2 s s)
        (ap (λ es. slot_entries (record l { entries = es }) s) (settle-entries (frame_at l2 s) (off_cache s l2))) none_named;
    idle = idle-notes m k l ns sound.in_order (lawful-is m (Some k) l ns (b.fetched ++ map_notes l1 s b.frame) b.whole
        (lawful-append m (Some k) l b.fetched (map_notes l1 s b.frame) kept.lawful (lawful-maps m (Some k) l1 b.frame (keys_of_slot l1 s) s)));
    landed = ap (λ (x : Ledger). x.flight) same ∙ settle-flight (frame_at l2 s) (off_cache s l2) ∙ all.flight ∙ kept.at.landed;
    steady = λ t q other i. subst (λ x. IsKeyOf x t q) (sym same) (dropped-other l2 s t q other (all.steady t q (kept.steady t q i)));
  }

  pub bring-sound : IsSound m (after_notes l ns)
  unfolding l2
  bring-sound = subst (IsSound m) (sym same) (drop-sound m l2 s all.sound (ap (how_many (same_slot s)) (all.flight ∙ kept.at.landed)))

-- ---- the list of those in use

-- the first that passes
first-of : (p : ℕ → Bool) (page a n : ℕ) → a ≤ page → page < a + n → ((q : ℕ) → a ≤ q → q < page → p q ≡ false) → p page ≡ true →
    (others : List ℕ) × (filter p (range_with_len a n) ≡ page ∷ others)
first-of p page a zero low high none is = absurd (omega (arith, low, high))
first-of p page a (suc n) low high none is = by (a == page) refl
    (λ more. first-of p page (a + 1) n more (omega (arith, high)) (λ q l h. none q (omega (arith, l)) h) is)
  where
    by : (b : Bool) → (a == page) ≡ b → (a + 1 ≤ page → (others : List ℕ) × (filter p (range_with_len (a + 1) n) ≡ page ∷ others)) →
        (others : List ℕ) × (filter p (a ∷ range_with_len (a + 1) n) ≡ page ∷ others)
    by true e rest =
        let same = same-is a page e in (
          filter p (range_with_len (a + 1) n),
          ap (λ b. cond b (a ∷ filter p (range_with_len (a + 1) n)) (filter p (range_with_len (a + 1) n))) (ap p same ∙ is)
              ∙ ap (λ x. x ∷ filter p (range_with_len (a + 1) n)) same,
        )
    by false e rest =
        let more : a < page = (let d : (a ≡ page → ⊥) = grind (arith, nat_tests, e) in grind (arith, nat_tests, d, low)) in
        let later = rest (omega (arith, more)) in (
          later.0,
          ap (λ b. cond b (a ∷ filter p (range_with_len (a + 1) n)) (filter p (range_with_len (a + 1) n)))
              (none a (omega arith) more) ∙ later.1,
        )

none-of : (p : ℕ → Bool) (a n : ℕ) → ((q : ℕ) → p q ≡ false) → filter p (range_with_len a n) ≡ []
none-of p a zero none = refl
none-of p a (suc n) none =
    ap (λ b. cond b (a ∷ filter p (range_with_len (a + 1) n)) (filter p (range_with_len (a + 1) n))) (none a) ∙ none-of p (a + 1) n none

-- no slot of the area below this page is in use, but for the first
abbrev pub NoneBelow : ℕ → ℕ → Ledger → Type 0
NoneBelow area page l = (q : ℕ) → 1 ≤ q → q < page → slot_count l (slot_at area q) ≡ 0

pub first-in_use : (m : Setting) (area page : ℕ) (l : Ledger) → NoneBelow area page l → 0 < slot_count l (slot_at area page) →
    (0 < page) × (page < size_of m area) → (others : List ℕ) × (slots_in_use m l area ≡ page ∷ others)
first-in_use m area page l none used within = first-of (λ q. nat_lt 0 (slot_count l (slot_at area q))) page 1 (size_of m area - 1)
    (omega (arith, within.0)) (let a = within.0 in let b = within.1 in omega (arith, a, b))
    (λ q low less. unused _ (none q low less)) (in_use _ used)
  where
    unused : (n : ℕ) → n ≡ 0 → nat_lt 0 n ≡ false
    unused n z = grind (arith, nat_tests, z)

    in_use : (n : ℕ) → 0 < n → nat_lt 0 n ≡ true
    in_use n z = grind (arith, nat_tests, z)

pub none-in_use : (m : Setting) (area : ℕ) (l : Ledger) → ((q : ℕ) → slot_count l (slot_at area q) ≡ 0) → slots_in_use m l area ≡ []
none-in_use m area l none = none-of (λ q. nat_lt 0 (slot_count l (slot_at area q))) 1 (size_of m area - 1) (λ q. unused _ (none q))
  where
    unused : (n : ℕ) → n ≡ 0 → nat_lt 0 n ≡ false
    unused n z = grind (arith, nat_tests, z)

-- ---- one slot, in use or not

positive : (n : ℕ) → (n ≡ 0 → ⊥) → 0 < n
positive zero h = absurd (h refl)
positive (suc n) h = omega arith

-- where nothing comes into use and users stay, what may be done with the rest may still be
still-may : (m : Setting) (area page : ℕ) (users : List (Option Key)) (l l' : Ledger) → IsSound m l → IsSound m l' →
    slot_count l' (slot_at area page) ≡ 0 → Idle area l l' → l'.flight ≡ [] → SteadyBut (slot_at area page) l l' → MayEmptyEach m area users l →
    MayEmptyEach m area users l'
still-may m area page users l l' s s' gone idle landed steady may = record {
  landed = landed;
  there = λ q used. there q used (same_slot (slot_at area q) (slot_at area page)) refl;
  within = λ q used. may.within q (was q used);
}
  where
    was : (q : ℕ) → 0 < slot_count l' (slot_at area q) → 0 < slot_count l (slot_at area q)
    was q used = positive _
        (λ z. let e = zero-count l' (slot_at area q) (idle (slot_at area q) refl (count-zero l (slot_at area q) z)) in omega (arith, e, used))

    there : (q : ℕ) → 0 < slot_count l' (slot_at area q) → (b : Bool) → same_slot (slot_at area q) (slot_at area page) ≡ b →
        IsSomeAnd (slice_get users q) (λ user. IsSomeAnd user (IsUser l' (slot_at area q)))
    there q used true e =
        let same = ap (slot_count l') (slot-is (slot_at area q) (slot_at area page) e) in absurd (omega (arith, same, gone, used))
    there q used false e = some (slice_get users q) (may.there q (was q used))
      where
        here : (o : Option Key) → IsSomeAnd o (IsUser l (slot_at area q)) → IsSomeAnd o (IsUser l' (slot_at area q))
        here None h = h
        here (Some k) h = key-user m l' (slot_at area q) k s' (steady (slot_at area q) k e (user-key l (slot_at area q) k h))

        some : (o : Option (Option Key)) → IsSomeAnd o (λ user. IsSomeAnd user (IsUser l (slot_at area q))) →
            IsSomeAnd o (λ user. IsSomeAnd user (IsUser l' (slot_at area q)))
        some None h = h
        some (Some o) h = here o h

none-more : (area page : ℕ) (l l' : Ledger) → Idle area l l' → NoneBelow area page l → slot_count l' (slot_at area page) ≡ 0 →
    NoneBelow area (page + 1) l'
none-more area page l l' idle none here q low less = by (q == page) refl
  where
    by : (b : Bool) → (q == page) ≡ b → slot_count l' (slot_at area q) ≡ 0
    by true is = ap (λ x. slot_count l' (slot_at area x)) (same-is q page is) ∙ here
    by false is = zero-count l' (slot_at area q) (idle (slot_at area q) refl (count-zero l (slot_at area q)
        (none q low (let d : (q ≡ page → ⊥) = grind (arith, nat_tests, is) in grind (arith, nat_tests, d, less)))))

-- the notes of the rest, from here on, are those of the whole
abbrev pub Continues : Setting → World → ℕ → Ledger → List Note → Type 0
Continues m w area l ns = (end : plain.Close) (pages : List ℕ) (rest : List Note) →
    plain.Empties m w area (after_notes l ns) pages rest end →
    (all : List ℕ) × plain.Empties m w area l all (ns ++ rest) end

-- a slot was emptied if it was in use, where these were the frames of locked pages
pub record SlotEmptied (m : Setting) (locked : ℕ → Bool) (area page : ℕ) (users : List (Option Key)) (l : Ledger) (ns : List Note) : Type 0 where
  pub none : NoneBelow area (page + 1) (after_notes l ns)
  pub may : MayEmptyEach m area users (after_notes l ns)
  pub more : (w : World) → locked ≡ is_locked w l → Continues m w area l ns

pub emptied-slot : (m : Setting) (locked : ℕ → Bool) (area page : ℕ) (users : List (Option Key)) (user : Option Key) (l : Ledger) (ns : List Note) →
    IsSound m l → MayEmptyEach m area users l → MayEmpty (slot_at area page) user l → NoneBelow area page l →
    EmptiesPage m (spares_area locked area) (slot_at area page) None l ns →
    SlotEmptied m locked area page users l ns
emptied-slot m locked area page users user l ns sound may at none (inl h) = subst (SlotEmptied m locked area page users l) (sym h.1) (record {
  none = none-more area page l l (λ s at z. z) none h.0;
  may = may;
  more = λ w are end pages rest e. (pages, e);
})
emptied-slot m locked area page users user l ns sound may at none (inr h) = by user (at.user h.0)
  where
    by : (o : Option Key) → IsSomeAnd o (IsUser l (slot_at area page)) → SlotEmptied m locked area page users l ns
    by None is = absurd is
    by (Some u) is =
        let s = slot_at area page in
        let fetch : MayFetch s u l = record { landed = may.landed; used = h.0; user = is } in
        let k = bring-kept m locked area l s u ns sound fetch h.1 in
        let gone = zero-count (after_notes l ns) s k.gone in
        let first = first-in_use m area page l none h.0 (may.within page h.0) in
        record {
          none = none-more area page l (after_notes l ns) k.idle none gone;
          may = still-may m area page users l (after_notes l ns) sound (bring-sound m locked area l s u ns sound fetch h.1) gone k.idle
              k.landed k.steady may;
          more = λ w are end pages rest e.
              (page ∷ pages, (first.0, ns, rest, first.1, refl, subst (λ x. IsEmptied m (spares_area x area) l s ns) are h.1, e));
        }

-- ---- in the midst of the area

pub record Emptying (old now : SystemView) (before notes : List Note) (area page : ℕ) (users : List (Option Key)) (l : Ledger) : Type 0 where
  pub gained : List Note
  pub added : notes ≡ before ++ gained
  pub goes : Goes old now l gained
  pub none : NoneBelow area page (after_notes l gained)
  pub may : MayEmptyEach old.setting area users (after_notes l gained)
  pub more : (w : World) (r : Rmap) → old.claims w r l → Continues old.setting w area l gained

abbrev pub AreEmptying : SystemView → SystemView → List Note → List Note → ℕ → ℕ → List (Option Key) → Type 0
AreEmptying old now before notes area page users =
    (l : Ledger) → IsSound old.setting l → old.stands l → MayEmptyEach old.setting area users l → Emptying old now before notes area page users l

-- the user of a page, as the list has it
pub page-may : (m : Setting) (area page : ℕ) (users : List (Option Key)) (user : Option Key) (l : Ledger) → slice_get users page ≡ Some user →
    MayEmptyEach m area users l → MayEmpty (slot_at area page) user l
page-may m area page users user l is may = record {
  landed = may.landed;
  user = λ used. subst (λ o. IsSomeAnd o (λ u. IsSomeAnd u (IsUser l (slot_at area page)))) is (may.there page used);
}

-- the same where the system has the setting and is closing this area
while-closing : (b : SystemView) (m : Setting) (area : ℕ) → b.setting ≡ m → b.closing ≡ Some area → (s : Slot) (end : Option EmptyEnd)
    (l : Ledger) (ns : List Note) → EmptiesPage b.setting (spares b None) s end l ns → EmptiesPage m (spares_area b.locked area) s end l ns
while-closing b m area setting closing s end l ns did =
    subst (λ k. EmptiesPage m (record { pinned = None; locked = b.locked; closing = k }) s end l ns) closing
    (subst (λ m. EmptiesPage m (spares b None) s end l ns) setting did)

pub emptying-step : (a b c : SystemView) (n0 n1 n2 : List Note) (area page : ℕ) (users : List (Option Key)) (user : Option Key) →
    slice_get users page ≡ Some user → a.closing ≡ Some area → TellsLocked b → AreEmptying a b n0 n1 area page users →
    Gives b c n1 n2 (MayEmpty (slot_at area page) user) (EmptiesPageBy b c (slot_at area page) None) → AreEmptying a c n0 n2 area (page + 1) users
emptying-step a b c n0 n1 n2 area page users user is closing tells t gives l sound stands may =
    let i = t l sound stands may in
    let l1 = after_notes l i.gained in
    let stays = i.goes.happened.stays in
    let s1 : IsSound b.setting l1 = subst (λ m. IsSound m l1) (sym stays.setting) i.goes.sound in
    let at = page-may a.setting area page users user l1 is i.may in
    let x = gives l1 s1 i.goes.happened.stands at in
    let did = while-closing b a.setting area stays.setting (stays.closing ∙ closing) (slot_at area page) None l1 x.0 x.2.0 in
    let d = emptied-slot a.setting b.locked area page users user l1 x.0 i.goes.sound i.may at i.none did in
    let same : after_notes l (i.gained ++ x.0) ≡ after_notes l1 x.0 = after_notes-append l i.gained x.0 in
    record {
      gained = i.gained ++ x.0;
      added = x.1 ∙ ap (λ z. z ++ x.0) i.added ∙ append_assoc n0 i.gained x.0;
      goes = goes-then a b c l i.gained x.0 i.goes x.3;
      none = subst (NoneBelow area (page + 1)) (sym same) d.none;
      may = subst (MayEmptyEach a.setting area users) (sym same) d.may;
      more = λ w r claimed end pages rest h.
          let y = d.more w (locked-then a b l i.gained tells i.goes w r claimed) end pages rest
          (subst (λ z. plain.Empties a.setting w area z pages rest end) same h) in
          let whole = i.more w r claimed end y.0 (x.0 ++ rest) y.1 in
          (whole.0, subst (λ z. plain.Empties a.setting w area l whole.0 z end) (sym (append_assoc i.gained x.0 rest)) whole.1);
    }

-- a slot that can't go back
stuck-ends : (m : Setting) (w : World) (area page : ℕ) (end : EmptyEnd) (l : Ledger) (ns : List Note) (others : List ℕ) →
    IsStuck m (sparing_area w area l) (slot_at area page) end l ns → slots_in_use m l area ≡ page ∷ others →
    plain.Empties m w area l [] ns (close_of end)
stuck-ends m w area page end l ns others stuck is = subst (λ ps. EndsAt m (sparing_area w area l) area l ps ns (close_of end)) (sym is) (by end stuck)
  where
    full : (out : _) (b : Bool) → b ≡ false → NoRoom out ≡ (if b then plain.Unread else NoRoom out)
    full out true h = cc
    full out false h = refl

    free : (c : plain.Close) (b : Bool) → b ≡ true → plain.Unread ≡ (if b then plain.Unread else c)
    free c true h = refl
    free c false h = cc

    by : (end : EmptyEnd) → IsStuck m (sparing_area w area l) (slot_at area page) end l ns →
        EndsAt m (sparing_area w area l) area l (page ∷ others) ns (close_of end)
    by Empty h = absurd h
    by (NoFrame out) h = (
      h.0.absent,
      h.0.seeks,
      ap NoRoom h.2 ∙ full (out_of m (sparing_area w area l) (after_notes l ns)) (has_free m (after_notes l ns)) h.1,
    )
    by NoPage h = (
      h.0.absent,
      h.0.seeks,
      free (NoRoom (out_of m (sparing_area w area l) (after_notes l ns))) (has_free m (after_notes l ns)) h.1,
    )

stuck-failed : (m : Setting) (s : Slot) (sp : Spared) (end : EmptyEnd) (l : Ledger) (ns : List Note) → IsStuck m sp s end l ns →
    failed_by end ≤ fails ns
stuck-failed m s sp Empty l ns h = absurd h
stuck-failed m s sp (NoFrame out) l ns h = h.3
stuck-failed m s sp NoPage l ns h = omega arith

more-fails : (ns ms : List Note) (n : ℕ) → n ≤ fails ms → n ≤ fails (ns ++ ms)
more-fails ns ms n h = let e = how_many-append is_fail ns ms in omega (arith, e, h)

pub emptying-stop : (a b c : SystemView) (n0 n1 n2 : List Note) (area page : ℕ) (users : List (Option Key)) (user : Option Key) (end : EmptyEnd) →
    slice_get users page ≡ Some user → a.closing ≡ Some area → TellsLocked b → AreEmptying a b n0 n1 area page users →
    Gives b c n1 n2 (MayEmpty (slot_at area page) user) (EmptiesPageBy b c (slot_at area page) (Some end)) →
    Gives a c n0 n2 (MayEmptyEach a.setting area users) (EmptiesEachBy a c area end)
emptying-stop a b c n0 n1 n2 area page users user end is closing tells t gives l sound stands may =
    let i = t l sound stands may in
    let l1 = after_notes l i.gained in
    let stays = i.goes.happened.stays in
    let s1 : IsSound b.setting l1 = subst (λ m. IsSound m l1) (sym stays.setting) i.goes.sound in
    let at = page-may a.setting area page users user l1 is i.may in
    let x = gives l1 s1 i.goes.happened.stands at in
    let did = while-closing b a.setting area stays.setting (stays.closing ∙ closing) (slot_at area page) (Some end) l1 x.0 x.2.0 in
    let first = first-in_use a.setting area page l1 i.none did.0 (i.may.within page did.0) in (
      i.gained ++ x.0,
      x.1 ∙ ap (λ z. z ++ x.0) i.added ∙ append_assoc n0 i.gained x.0,
      (
        λ w r claimed.
            let stuck = subst (λ z. IsStuck a.setting (spares_area z area) (slot_at area page) end l1 x.0)
            (locked-then a b l i.gained tells i.goes w r claimed) did.1 in
            let whole = i.more w r claimed (close_of end) [] x.0 (stuck-ends a.setting w area page end l1 x.0 first.0 stuck first.1) in
            record { pages = whole.0; empties = whole.1 },
        record {
          failed = more-fails i.gained x.0 (failed_by end) (stuck-failed a.setting (slot_at area page) (spares_area b.locked area) end l1 x.0 did.1);
          rose = rose-both i.gained x.0 (lost_by end) a.failures b.failures c.failures i.goes.happened.failures x.2.1;
        },
      ),
      goes-then a b c l i.gained x.0 i.goes x.3,
    )

-- none is left
pub emptying-end : (a b : SystemView) (n0 n1 : List Note) (area page : ℕ) (users : List (Option Key)) → AreEmptying a b n0 n1 area page users →
    length users ≤ page → Gives a b n0 n1 (MayEmptyEach a.setting area users) (EmptiesEachBy a b area Empty)
emptying-end a b n0 n1 area page users t over l sound stands may =
    let i = t l sound stands may in (
      i.gained,
      i.added,
      (
        λ w r claimed.
            let whole = i.more w r claimed plain.Closed [] [] (ends w (after_notes l i.gained) i.none i.may) in
            record {
              pages = whole.0;
              empties = subst (λ z. plain.Empties a.setting w area l whole.0 z plain.Closed) (append-nil i.gained) whole.1;
            },
        record { failed = omega arith; rose = rose-plain (fails i.gained) a.failures b.failures i.goes.happened.failures },
      ),
      i.goes,
    )
  where
    ends : (w : World) (l : Ledger) → NoneBelow area page l → MayEmptyEach a.setting area users l →
        plain.Empties a.setting w area l [] [] plain.Closed
    ends w l none may = subst (λ ps. EndsAt a.setting (sparing_area w area l) area l ps [] plain.Closed)
        (sym (none-in_use a.setting area l unused)) (refl, refl)
      where
        unused : (q : ℕ) → slot_count l (slot_at area q) ≡ 0
        unused q = by (slot_count l (slot_at area q)) refl
          where
            by : (n : ℕ) → slot_count l (slot_at area q) ≡ n → n ≡ 0
            by zero e = refl
            by (suc n) e =
                let used : 0 < slot_count l (slot_at area q) = omega (arith, e) in
                let low = (may.within q used).0 in
                let below = there (slice_get users q) refl (may.there q used) in
                let z = none q (omega (arith, low)) (omega (arith, below, over)) in
                absurd (omega (arith, z, e))
              where
                there : (o : Option (Option Key)) → slice_get users q ≡ o → IsSomeAnd o (λ user. IsSomeAnd user (IsUser l (slot_at area q))) →
                    q < length users
                there None e h = absurd h
                there (Some u) e h = below (nat_lt q (length users)) refl
                  where
                    below : (b : Bool) → nat_lt q (length users) ≡ b → q < length users
                    below true i = grind (arith, nat_tests, i)
                    below false i = let past = slice_get_past users q (grind (arith, nat_tests, i)) in let c = sym past ∙ e in cc

-- ---- one page, by what was done for it

-- the slot is in use, and this is its user
pub page-fetch : (l : Ledger) (s : Slot) (found : Option Key) (u : Key) → found ≡ Some u → true ≡ nat_lt 0 (slot_count l s) → MayEmpty s found l →
    MayFetch s u l
page-fetch l s found u is h may =
    let used : 0 < slot_count l s = grind (arith, nat_tests, h) in
    record { landed = may.landed; used = used; user = subst (λ o. IsSomeAnd o (IsUser l s)) is (may.user used) }

-- and it has one
pub page-user : (l : Ledger) (s : Slot) (found : Option Key) → found ≡ None → true ≡ nat_lt 0 (slot_count l s) → MayEmpty s found l → ⊥
page-user l s found is h may =
    let used : 0 < slot_count l s = grind (arith, nat_tests, h) in
    subst (λ o. IsSomeAnd o (IsUser l s)) is (may.user used)

pub emptied-page : (a b : SystemView) (l : Ledger) (s : Slot) (end : Option EmptyEnd) (ns : List Note) → 0 < slot_count l s →
    EmptiesSlotBy a b s end l ns → EmptiesPageBy a b s end l ns
emptied-page a b l s None ns used did = (inr (used, did.0), did.1)
emptied-page a b l s (Some end) ns used did = ((used, did.0), did.1)

-- ---- the whole

pub record IsCompleted (a b : SystemView) (area : ℕ) (users : List (Option Key)) (l : Ledger) (ns : List Note) : Type 0 where
  pub completes : Completes l l.flight ns
  pub may : MayEmptyEach b.setting area users (after_notes l ns)
  pub goes : Goes a b l ns

-- over other memories, where the same frames are those of locked pages
empties-over : (m : Setting) (v w : World) → ((l : Ledger) → is_locked v l ≡ is_locked w l) → (k : ℕ) (l : Ledger) (pages : List ℕ)
    (notes : List Note) (end : plain.Close) → plain.Empties m v k l pages notes end → plain.Empties m w k l pages notes end
empties-over m v w same k l [] notes end h = subst (λ x. EndsAt m (spares_area x k) k l (slots_in_use m l k) notes end) (same l) h
empties-over m v w same k l (page ∷ pages) notes end h = (
  h.0,
  h.1,
  h.2,
  h.3,
  h.4,
  subst (λ x. IsEmptied m (spares_area x k) l (slot_at k page) h.1) (same l) h.5,
  empties-over m v w same k (after_notes l h.1) pages h.2 end h.6,
)

pub emptied-all : (a b c : SystemView) (area : ℕ) (users : List (Option Key)) (end : EmptyEnd) (l : Ledger) (ns ms : List Note) →
    IsCompleted a b area users l ns → EmptiesEachBy b c area end (after_notes l ns) ms → EmptiesAllBy a c area end l (ns ++ ms)
emptied-all a b c area users end l ns ms done rest = (
  λ w r claimed.
      let loaded = with_loads a.setting w l (note_events ns) in
      let each = rest.0 loaded _ (done.goes.happened.claims w r claimed) in
      record {
        done = ns;
        pages = each.pages;
        rest = ms;
        whole = refl;
        completes = done.completes;
        empties = empties-over a.setting loaded w (locked-loads a.setting w l (note_events ns)) area (after_notes l ns) each.pages ms
            (close_of end)
            (subst (λ m. plain.Empties m loaded area (after_notes l ns) each.pages ms (close_of end)) done.goes.happened.stays.setting each.empties);
      },
  record {
    failed = more-fails ns ms (failed_by end) rest.1.failed;
    rose = rose-both ns ms (lost_by end) a.failures b.failures c.failures done.goes.happened.failures rest.1.rose;
  },
)

-- the users, as they are found
pub users-may : (m : Setting) (area : ℕ) (users : List (Option Key)) (l : Ledger) → IsSound m l → l.flight ≡ [] → AreUsers m area users l →
    MayEmptyEach m area users l
users-may m area users l sound landed are = record {
  landed = landed;
  there = λ page used. let u = used-user m l (slot_at area page) sound landed used in
      are.there page u.0 (key-user m l (slot_at area page) u.0 sound u.1);
  within = are.within;
}

pub completed : (a b : SystemView) (area : ℕ) (users : List (Option Key)) (l : Ledger) (ns : List Note) → IsSound a.setting l →
    Completes l l.flight ns →
    Goes a b l ns → AreUsers b.setting area users (after_notes l ns) → IsCompleted a b area users l ns
completed a b area users l ns sound completes goes are = record {
  completes = completes;
  may = users-may b.setting area users (after_notes l ns) (subst (λ m. IsSound m (after_notes l ns)) (sym goes.happened.stays.setting) goes.sound)
      (completed-landed a.setting l ns sound completes) are;
  goes = goes;
}
