-- Each slot in use is a slot of an area that is on, and no area has more in use than it has: only a `put` brings one into use.
use Rattle.std.proofs.Common.{◌≡◌, ◌⊎◌, inl, inr, ℕ, ◌+◌, ◌<◌, Bool, true, false, cond, not, ◌&&◌, if◌then◌else◌, T, List, [], ◌∷◌, ◌++◌, Option, Some, None, refl, sym, ap, subst, ◌∙◌, arith, ◌==◌, nat_lt, is_none, length, filter, ◌≤◌, ◌-◌, IfSome, is_some, nat_cmp, zero, suc}
use Rattle.std.proofs.lemmas.Bool.Decides.{nat_tests}
use Rattle.std.specs.Option.{option_map_or}
use Rattle.std.specs.FinMap.Entries.{find, is_sorted}
use Rattle.av_trace.specs.declared.note.Cause.TheVariants.{Locked, NoSlot, Referenced, WriteStarted, Writeback}
use Rattle.av_trace.specs.declared.note.Note.{Note}
use Rattle.av_trace.specs.declared.note.Note.TheVariants.{Aged, Copied, Dropped, Failed, Kept, Loaded, Mapped, New, Put, Started, Unmapped, Written, Zeroed}
use Rattle.std.specs.Prelude.{MatchOption, MatchBool, IsTrue}
use Rattle.av_base.specs.Keys.{Key, key_cmp}
use Rattle.av_base.specs.Page.{address_of}
use Rattle.std.specs.List.{range_with_len}
use Rattle.av_base.specs.declared.slot.Slot.{Slot}
use Rattle.av_trace.specs.declared.reply.OutOf.{OutOf}
use Rattle.av_plain.specs.Access.{Accesses, End, page_events}
use Rattle.av_plain.specs.Event.{Event, Used, after_all, after_note, after_notes, after_use, after_use_of, change_entries, if_some, key_at, note_events, off_cache, off_flight, off_lists, set_entry, settle, to_inactive_tail, when, with_stale}
use Rattle.av_plain.specs.Fault.{ComesIn, CopyOnWrite, Denied, IsMade, Lost, MapCached, Need, NewPage, Ready, RunsOut, Serves, Sparing, Starved, Stop, SwapIn, Takes, Touches, ZeroPage, drop_at, drop_of_entry, drop_of_slot, asks_copy, is_unneeded, need, need_of_slot, pinned_by, sparing, was_slot}
use Rattle.av_plain.specs.Ledger.{is_free_slot, Cached, Entry, InFrame, InSlot, Ledger, Setting, SwapArea, Zero, entry, frame_at, has_free, has_free_slot, is_cached, is_free, is_on, is_open, is_orphan, is_usable, map_count, may_give, names_slot, same_slot, size_of, slot_count, slot_entries, slot_of, slots_in_use}
use Rattle.av_plain.specs.Pass.{Completes, IsPass, IsSlotFor, Seeks, Spared, TakesFor, Turns, end_note, end_notes, frames_in_turn, is_dirty, is_stuck, stays_cached, turn_notes, unmap_notes}
use Rattle.av_plain.specs.Sound.{AreThere, AreasFit, IsSound, count, is_there, slots}
use Rattle.av_plain.specs.World.{World}
use Rattle.av_plain.proofs.Access.{accesses-keep, after_all-append, note_events-all}
use Rattle.av_plain.proofs.Event.{how_many-map, how_many-same, is_sorted-map, slot_entries-unseen, to_slot, to_unseen}
use Rattle.av_plain.proofs.Ledger.{how_many-found, is_sorted-set}
use Rattle.av_plain.proofs.Sound.Access.{page_events-kept, touches-kept}
use Rattle.av_plain.proofs.Sound.Cache.{slots_more}
use Rattle.av_plain.proofs.Sound.Changes.{any-counts}
use Rattle.av_plain.proofs.Sound.Counts.{pair-slot, same-is, slot-is, slot-itself, slot_of-some}
use Rattle.av_plain.proofs.Sound.Entries.{flag, slot_entries-set}
use Rattle.av_plain.proofs.Sound.Pages.{settle-entries}
use Rattle.av_plain.proofs.Sound.Pass.{seeks-kept}
use Rattle.av_plain.proofs.Sound.Steps.{Alike, alike-end_note, alike-started, slots-dropped}
use Rattle.av_base.specs.Words.{renamed}
use Rattle.av_plain.specs.Event.{change_frame, placed_entry}
use Rattle.av_trace.specs.declared.note.Note.TheVariants.{Joined, Moved, Shared}
use Rattle.av_trace.specs.declared.note.Cause.TheVariants.{Ksm, Locked}
use Rattle.av_plain.proofs.Event.{changed-by, slot_entries-renamed}

-- the condition at each note: a `put` names a slot that may be given, a `load` one that an entry names
abbrev pub IsLawful : Setting → Option ℕ → Ledger → Note → Type 0
IsLawful m closing l (Put f s) = may_give m closing l s ≡ true
IsLawful m closing l (Loaded s f) = 0 < slot_entries l s
IsLawful m closing l note = Unit {0}

abbrev pub AreLawful : Setting → Option ℕ → Ledger → List Note → Type 0
AreLawful m closing l [] = Unit {0}
AreLawful m closing l (note ∷ notes) = IsLawful m closing l note × AreLawful m closing (after_note note l) notes

-- ---- how many slots of an area are in use

pub counted-slot : (l : Ledger) (s : Slot) → nat_lt 0 (slot_count l s) ≡ nat_lt 0 (count l s)
counted-slot l s = by (is_cached l s) (slots l s) (slot_entries l s) (any-counts (λ (c : Cached). same_slot s c.slot) l.cache)
  where
    by : (b : Bool) (n e : ℕ) → b ≡ nat_lt 0 n → nat_lt 0 (e + cond b 1 0) ≡ nat_lt 0 (n + e)
    by true n e h = grind (arith, nat_tests, h)
    by false n e h = grind (arith, nat_tests, h)

fewer-pass : (p q : ℕ → Bool) (a n : ℕ) → ((x : ℕ) → p x ≡ true → q x ≡ true)
    → length (filter p (range_with_len a n)) ≤ length (filter q (range_with_len a n))
fewer-pass p q a zero h = omega arith
fewer-pass p q a (suc n) h = by (p a) (q a) refl refl (fewer-pass p q (a + 1) n h)
  where
    by : (b c : Bool) → p a ≡ b → q a ≡ c → length (filter p (range_with_len (a + 1) n)) ≤ length (filter q (range_with_len (a + 1) n))
        → length (cond b (a ∷ filter p (range_with_len (a + 1) n)) (filter p (range_with_len (a + 1) n))) ≤ length
        (cond c (a ∷ filter q (range_with_len (a + 1) n)) (filter q (range_with_len (a + 1) n)))
    by true true is is' k = omega (arith, k)
    by true false is is' k = let e = sym is' ∙ h a is in cc
    by false true is is' k = omega (arith, k)
    by false false is is' k = k

-- one number more passes, at most once
above-pass : (p q : ℕ → Bool) (t a n : ℕ) → t < a → ((x : ℕ) → p x ≡ true → (x == t) ≡ false → q x ≡ true) →
    length (filter p (range_with_len a n)) ≤ length (filter q (range_with_len a n))
above-pass p q t a zero less h = omega arith
above-pass p q t a (suc n) less h = by (p a) (q a) refl refl (above-pass p q t (a + 1) n (omega (arith, less)) h)
  where
    by : (b c : Bool) → p a ≡ b → q a ≡ c → length (filter p (range_with_len (a + 1) n)) ≤ length (filter q (range_with_len (a + 1) n))
        → length (cond b (a ∷ filter p (range_with_len (a + 1) n)) (filter p (range_with_len (a + 1) n))) ≤ length
        (cond c (a ∷ filter q (range_with_len (a + 1) n)) (filter q (range_with_len (a + 1) n)))
    by true true is is' k = omega (arith, k)
    by true false is is' k = let e = sym is' ∙ h a is (grind (arith, nat_tests, less)) in cc
    by false true is is' k = omega (arith, k)
    by false false is is' k = k

one-more-passes : (p q : ℕ → Bool) (t a n : ℕ) → ((x : ℕ) → p x ≡ true → (x == t) ≡ false → q x ≡ true) →
    length (filter p (range_with_len a n)) ≤ 1 + length (filter q (range_with_len a n))
one-more-passes p q t a zero h = omega arith
one-more-passes p q t a (suc n) h = at (a == t) refl (one-more-passes p q t (a + 1) n h)
  where
    more : (b c : Bool) (k k' : ℕ) (xs ys : List ℕ) → length xs ≡ k → length ys ≡ k' → k ≤ k'
        → length (cond b (a ∷ xs) xs) ≤ 1 + length (cond c (a ∷ ys) ys)
    more true true k k' xs ys e f less = omega (arith, e, f, less)
    more true false k k' xs ys e f less = omega (arith, e, f, less)
    more false true k k' xs ys e f less = omega (arith, e, f, less)
    more false false k k' xs ys e f less = omega (arith, e, f, less)

    by : (b c : Bool) → p a ≡ b → q a ≡ c → (a == t) ≡ false
        → length (filter p (range_with_len (a + 1) n)) ≤ 1 + length (filter q (range_with_len (a + 1) n))
        → length (cond b (a ∷ filter p (range_with_len (a + 1) n)) (filter p (range_with_len (a + 1) n))) ≤ 1 + length
        (cond c (a ∷ filter q (range_with_len (a + 1) n)) (filter q (range_with_len (a + 1) n)))
    by true true is is' other k = omega (arith, k)
    by true false is is' other k = let e = sym is' ∙ h a is other in cc
    by false true is is' other k = omega (arith, k)
    by false false is is' other k = k

    at : (b : Bool) → (a == t) ≡ b → length (filter p (range_with_len (a + 1) n)) ≤ 1 + length (filter q (range_with_len (a + 1) n)) →
        length (filter p (range_with_len a (suc n))) ≤ 1 + length (filter q (range_with_len a (suc n)))
    at true is k = more (p a) (q a) _ _ (filter p (range_with_len (a + 1) n)) (filter q (range_with_len (a + 1) n)) refl refl
        (above-pass p q t (a + 1) n (grind (arith, nat_tests, is)) h)
    at false is k = by (p a) (q a) refl refl is k

-- fewer slots come into use
fits-less : (m : Setting) (l l' : Ledger) → l'.on ≡ l.on → ((s : Slot) → 0 < count l' s → 0 < count l s) → AreasFit m l → AreasFit m l'
fits-less m l l' on h f = record {
  rising = subst (λ o. T (is_sorted nat_cmp o)) (sym on) f.rising;
  attached = λ k is. f.attached k (ap (λ o. is_some (find nat_cmp k o)) (sym on) ∙ is);
  fit = λ k. subst (λ o. IfSome (find nat_cmp k o) (λ area. length (slots_in_use m l' k) ≤ area.slots)) (sym on)
      (by k (find nat_cmp k l.on) (f.fit k));
}
  where
    fewer : (k : ℕ) → length (slots_in_use m l' k) ≤ length (slots_in_use m l k)
    fewer k = fewer-pass (λ page. nat_lt 0 (slot_count l' (record { area = k; page = page })))
        (λ page. nat_lt 0 (slot_count l (record { area = k; page = page }))) 1 (size_of m k - 1)
        (λ page is. let s : Slot = record { area = k; page = page } in let pos : 0 < count l' s = positive _ (sym (counted-slot l' s) ∙ is) in
        counted-slot l s ∙ is-positive _ (h s pos))
      where
        positive : (n : ℕ) → nat_lt 0 n ≡ true → 0 < n
        positive n e = grind (arith, nat_tests, e)

        is-positive : (n : ℕ) → 0 < n → nat_lt 0 n ≡ true
        is-positive n e = grind (arith, nat_tests, e)

    by : (k : ℕ) (o : Option SwapArea) → IfSome o (λ area. length (slots_in_use m l k) ≤ area.slots) →
        IfSome o (λ area. length (slots_in_use m l' k) ≤ area.slots)
    by k None i = i
    by k (Some area) i = let e = fewer k in omega (arith, i, e)

-- one slot more comes into use, of an area that has a free one
fits-put : (m : Setting) (l : Ledger) (f : ℕ) (t : Slot) → has_free_slot m l t.area ≡ true → AreasFit m l → AreasFit m (after_note (Put f t) l)
fits-put m l f t free fits = record {
  rising = fits.rising;
  attached = fits.attached;
  fit = λ k. by k (k == t.area) refl (find nat_cmp k l.on) refl
      (fits.fit k);
}
  where
    l' : Ledger
    l' = after_note (Put f t) l

    positive : (n : ℕ) → nat_lt 0 n ≡ true → 0 < n
    positive n e = grind (arith, nat_tests, e)

    is-positive : (n : ℕ) → 0 < n → nat_lt 0 n ≡ true
    is-positive n e = grind (arith, nat_tests, e)

    others : (s : Slot) → same_slot s t ≡ false → nat_lt 0 (slot_count (after_note (Put f t) l) s) ≡ true → nat_lt 0 (slot_count l s) ≡ true
    others s apart is = counted-slot l s
        ∙ is-positive _ (same (same_slot s t) apart (positive _ (sym (counted-slot (after_note (Put f t) l) s) ∙ is)))
      where
        same : (b : Bool) → b ≡ false → 0 < (cond b 1 0 + slots l s) + slot_entries l s → 0 < count l s
        same true e i = cc
        same false e i = omega (arith, i)

    more : (k : ℕ) → length (slots_in_use m (after_note (Put f t) l) k) ≤ 1 + length (slots_in_use m l k)
    more k = one-more-passes (λ page. nat_lt 0 (slot_count (after_note (Put f t) l) (record { area = k; page = page })))
        (λ page. nat_lt 0 (slot_count l (record { area = k; page = page }))) t.page 1 (size_of m k - 1)
        (λ page is other. others (record { area = k; page = page }) (apart (k == t.area) (page == t.page) other) is)
      where
        apart : (a b : Bool) → b ≡ false → (a && b) ≡ false
        apart true b e = e
        apart false b e = refl

    still : (k : ℕ) → (k == t.area) ≡ false → length (slots_in_use m (after_note (Put f t) l) k) ≤ length (slots_in_use m l k)
    still k other = fewer-pass (λ page. nat_lt 0 (slot_count (after_note (Put f t) l) (record { area = k; page = page })))
        (λ page. nat_lt 0 (slot_count l (record { area = k; page = page }))) 1 (size_of m k - 1)
        (λ page is. others (record { area = k; page = page }) (ap (λ b. b && page == t.page) other) is)

    by : (k : ℕ) (b : Bool) → (k == t.area) ≡ b → (o : Option SwapArea) → find nat_cmp k l.on ≡ o →
        IfSome o (λ area. length (slots_in_use m l k) ≤ area.slots)
        → IfSome o (λ area. length (slots_in_use m (after_note (Put f t) l) k) ≤ area.slots)
    by k b is None at i = tt
    by k false is (Some area) at i = let e = still k is in omega (arith, i, e)
    by k true is (Some area) at i =
        let e = more k in
        let same = same-is k t.area is in
        let room : nat_lt 0 (area.slots - length (slots_in_use m l k)) ≡ true =
        ap (λ o. option_map_or (λ (a : SwapArea). nat_lt 0 (a.slots - length (slots_in_use m l k))) o false) (sym at)
        ∙ ap (has_free_slot m l) same ∙ free in
        some area.slots (length (slots_in_use m l k)) _ room e
      where
        some : (s n k : ℕ) → nat_lt 0 (s - n) ≡ true → k ≤ 1 + n → k ≤ s
        some s n k r e = let p : 0 < s - n = grind (arith, nat_tests, r) in omega (arith, p, e)

-- the same areas are on, and a slot in use afterwards was so before or is one of theirs
pub record NoNew (m : Setting) (l l' : Ledger) : Type 0 where
  pub on_same : l'.on ≡ l.on
  pub fits : AreasFit m l → AreasFit m l'
  pub came : (s : Slot) → 0 < count l' s → (0 < count l s) ⊎ (is_there m l s ≡ true)

pub no_new-then : (m : Setting) (l l' l'' : Ledger) → NoNew m l l' → NoNew m l' l'' → NoNew m l l''
no_new-then m l l' l'' a b = record { on_same = b.on_same ∙ a.on_same; fits = λ f. b.fits (a.fits f); came = λ s h. by s (b.came s h) }
  where
    by : (s : Slot) → (0 < count l' s) ⊎ (is_there m l' s ≡ true) → (0 < count l s) ⊎ (is_there m l s ≡ true)
    by s (inl h) = a.came s h
    by s (inr h) = inr (ap (λ o. is_there m (record l { on = o }) s) (sym a.on_same) ∙ h)

pub less : (m : Setting) (l l' : Ledger) → l'.on ≡ l.on → ((s : Slot) → 0 < count l' s → 0 < count l s) → NoNew m l l'
less m l l' on h = record { on_same = on; fits = fits-less m l l' on h; came = λ s i. inl (h s i) }

-- notes leave `on`
pub settle-on : (o : Option ℕ) (l : Ledger) → (if_some o settle l).on ≡ l.on
settle-on None l = refl
settle-on (Some f) l = elim (is_free l f) as (λ b. (cond b (off_lists f l) l).on ≡ l.on) [ true ↦ refl | false ↦ refl ]

pub lawful-no_new : (m : Setting) (closing : Option ℕ) (l : Ledger) (note : Note) → T (is_sorted key_cmp l.entries) → IsLawful m closing l note →
    NoNew m l (after_note note l)
lawful-no_new m closing l note sorted lawful = go note lawful
  where
    fewer : (k : Key) (e : Entry) → ((s : Slot) → names_slot s e ≡ false) → NoNew m l (set_entry k e l)
    fewer k e none = less m l (set_entry k e l) refl
        (λ s h. let a = slot_entries-set k e l s sorted in let z = flag _ _ (none s) in omega (arith, a, z, h))

    changed : (k : Key) (f : ℕ) → NoNew m l (change_frame k f l)
    changed k f = less m l (change_frame k f l) (changed-by (λ l. l.on) (λ g l. refl) k f l)
        (λ s h. let a = slot_entries-set k (InFrame f false) l s sorted in let c = changed-by (λ l. count l s) (λ g l. refl) k f l in
        omega (arith, a, c, h))

    alike : (l' : Ledger) → l'.on ≡ l.on → Alike l l' → NoNew m l l'
    alike l' on a = less m l l' on (λ s i. let c = a.slots_same s in let e = ap (λ es. slot_entries (record l { entries = es }) s) a.entries in
        omega (arith, c, e, i))

    on_kept : (t : Slot) (o : Option ℕ) → (if_some o to_inactive_tail (off_flight t l)).on ≡ l.on
    on_kept t None = refl
    on_kept t (Some f) = refl

    go : (note : Note) → IsLawful m closing l note → NoNew m l (after_note note l)
    go (Zeroed p a) h = fewer (key_at p a) Zero (λ s. refl)
    go (New p a f) h = let r = fewer (key_at p a) (InFrame f false) (λ s. refl) in
        record {
          on_same = r.on_same;
          fits = λ x. record { rising = (r.fits x).rising; attached = (r.fits x).attached; fit = (r.fits x).fit };
          came = r.came;
        }
    go (Copied p a f) h = let r = changed (key_at p a) f in
        record {
          on_same = r.on_same;
          fits = λ x. record { rising = (r.fits x).rising; attached = (r.fits x).attached; fit = (r.fits x).fit };
          came = r.came;
        }
    go (Mapped p a f) h = fewer (key_at p a) (InFrame f false) (λ s. refl)
    go (Loaded t f) h = less m l (after_note (Loaded t f) l) refl (λ s i. by s (same_slot s t) refl i)
      where
        by : (s : Slot) (b : Bool) → same_slot s t ≡ b → 0 < (cond b 1 0 + slots l s) + slot_entries l s → 0 < count l s
        by s true is i = let n = subst (λ y. 0 < slot_entries l y) (sym (slot-is s t is)) h in omega (arith, n)
        by s false is i = omega (arith, i)
    go (Put f t) h = record {
      on_same = refl;
      fits = fits-put m l f t (last_of (is_free_slot m l t) (is_open closing t.area) (has_free_slot m l t.area) h);
      came = λ s i. by s (same_slot s t) refl i;
    }
      where
        last_of : (a b c : Bool) → (a && b && c) ≡ true → c ≡ true
        last_of true true c h = h
        last_of true false c h = cc
        last_of false b c h = cc

        all_of : (a b c d e o r : Bool) → ((a && b && c && d && e) && o && r) ≡ true → (a && b && c && e) ≡ true
        all_of true true true true true o r h = refl
        all_of true true true true false o r h = cc
        all_of true true true false e o r h = cc
        all_of true true false d e o r h = cc
        all_of true false c d e o r h = cc
        all_of false b c d e o r h = cc

        given : is_there m l t ≡ true
        given = all_of (is_on l t.area) (nat_lt 0 t.page) (nat_lt t.page (size_of m t.area)) (slot_count l t == 0) (is_usable m t)
            (is_open closing t.area) (has_free_slot m l t.area) h

        by : (s : Slot) (b : Bool) → same_slot s t ≡ b → 0 < (cond b 1 0 + slots l s) + slot_entries l s → (0 < count l s) ⊎ (is_there m l s ≡ true)
        by s true is i = inr (subst (λ y. is_there m l y ≡ true) (sym (slot-is s t is)) given)
        by s false is i = inl (omega (arith, i))
    go (Unmapped f) h = by (slot_of l f) refl
      where
        by : (o : Option Slot) → slot_of l f ≡ o → NoNew m l (if_some o (λ s. change_entries f (λ _. InSlot s)) l)
        by None is = less m l l refl (λ s i. i)
        by (Some t) is = less m l (change_entries f (λ _. InSlot t) l) refl (λ s i. more s (same_slot s t) refl (slots_more t f l s) i)
          where
            more : (s : Slot) (b : Bool) → same_slot s t ≡ b → {n : ℕ} → n ≡ slot_entries l s + cond b (map_count l f) 0 → 0 < slots l s + n
                → 0 < count l s
            more s true e a i = let p = slot_of-some f t l.cache is in let q = pair-slot t f l.cache in
                let c = subst (λ y. 0 < slots l y) (sym (slot-is s t e)) (omega (arith, p, q)) in omega (arith, c)
            more s false e a i = omega (arith, a, i)
    go (Started t) h = alike (after_note (Started t) l) refl (alike-started l t)
    go (Written t) h = alike (after_note (Written t) l) (on_kept t (frame_at l t)) (alike-end_note l false t)
    go (Failed t) h = alike (after_note (Failed t) l) refl (alike-end_note l true t)
    go (Dropped t) h = less m l (after_note (Dropped t) l) (settle-on (frame_at l t) (off_cache t l))
        (λ s i. by s (same_slot s t) (slots-dropped l t s) (ap (λ es. slot_entries (record l { entries = es }) s)
        (settle-entries (frame_at l t) (off_cache t l))) i)
      where
        by : (s : Slot) (b : Bool) → {n e : ℕ} → n ≡ cond b 0 (slots l s) → e ≡ slot_entries l s → 0 < n + e → 0 < count l s
        by s true a c i = omega (arith, a, c, i)
        by s false a c i = omega (arith, a, c, i)
    go (Kept f Writeback) h = less m l (after_note (Kept f Writeback) l) refl (λ s i. i)
    go (Kept f WriteStarted) h = less m l (after_note (Kept f WriteStarted) l) refl (λ s i. i)
    go (Kept f Referenced) h = less m l (after_note (Kept f Referenced) l) refl (λ s i. let e = slot_entries-unseen f l s in omega (arith, e, i))
    go (Kept f NoSlot) h = less m l (after_note (Kept f NoSlot) l) refl (λ s i. i)
    go (Kept f Locked) h = less m l (after_note (Kept f Locked) l) refl (λ s i. i)
    go (Kept f Ksm) h = less m l (after_note (Kept f Ksm) l) refl (λ s i. i)
    go (Aged f) h = less m l (after_note (Aged f) l) refl (λ s i. let e = slot_entries-unseen f l s in omega (arith, e, i))
    go (Shared f) h = less m l (after_note (Shared f) l) refl (λ s i. i)
    go (Joined p a f) h = changed (key_at p a) f
    go (Moved from to) h = less m l (after_note (Moved from to) l) refl (λ s i. let e = slot_entries-renamed from to l s in
        let c = how_many-map (λ (c : Cached). same_slot s c.slot) (λ (c : Cached). record c { frame = renamed from to c.frame }) l.cache in
        omega (arith, e, c, i))

-- ---- entries stay in order

sorted-changed : (l : Ledger) (k : Key) (f : ℕ) → T (is_sorted key_cmp l.entries) → T (is_sorted key_cmp (change_frame k f l).entries)
sorted-changed l k f h = subst (λ es. T (is_sorted key_cmp es)) (sym (changed-by (λ l. l.entries) (λ g l. refl) k f l))
    (is_sorted-set k (InFrame f false) l h)

pub sorted-note : (l : Ledger) (note : Note) → T (is_sorted key_cmp l.entries) → T (is_sorted key_cmp (after_note note l).entries)
sorted-note l (Zeroed p a) h = is_sorted-set (key_at p a) Zero l h
sorted-note l (New p a f) h = is_sorted-set (key_at p a) (InFrame f false) l h
sorted-note l (Copied p a f) h = sorted-changed l (key_at p a) f h
sorted-note l (Mapped p a f) h = is_sorted-set (key_at p a) (InFrame f false) l h
sorted-note l (Loaded t f) h = h
sorted-note l (Put f t) h = h
sorted-note l (Unmapped f) h = by (slot_of l f)
  where
    by : (o : Option Slot) → T (is_sorted key_cmp (if_some o (λ s. change_entries f (λ _. InSlot s)) l).entries)
    by None = h
    by (Some t) = subst T (sym (is_sorted-map key_cmp (to_slot f t) l.entries)) h
sorted-note l (Started t) h = h
sorted-note l (Written t) h = subst (λ es. T (is_sorted key_cmp es)) (sym (alike-end_note l false t).entries) h
sorted-note l (Failed t) h = h
sorted-note l (Dropped t) h = subst (λ es. T (is_sorted key_cmp es)) (sym (settle-entries (frame_at l t) (off_cache t l))) h
sorted-note l (Kept f Writeback) h = h
sorted-note l (Kept f WriteStarted) h = h
sorted-note l (Kept f Referenced) h = subst T (sym (is_sorted-map key_cmp (to_unseen f) l.entries)) h
sorted-note l (Kept f NoSlot) h = h
sorted-note l (Kept f Locked) h = h
sorted-note l (Kept f Ksm) h = h
sorted-note l (Aged f) h = subst T (sym (is_sorted-map key_cmp (to_unseen f) l.entries)) h
sorted-note l (Shared f) h = h
sorted-note l (Joined p a f) h = sorted-changed l (key_at p a) f h
sorted-note l (Moved from to) h = subst T (sym (is_sorted-map key_cmp (placed_entry (renamed from to)) l.entries)) h

pub all_lawful-no_new : (m : Setting) (closing : Option ℕ) (l : Ledger) (notes : List Note) → T (is_sorted key_cmp l.entries)
    → AreLawful m closing l notes →
    NoNew m l (after_notes l notes)
all_lawful-no_new m closing l [] sorted h = less m l l refl (λ s i. i)
all_lawful-no_new m closing l (note ∷ notes) sorted h =
    no_new-then m l (after_note note l) (after_notes (after_note note l) notes) (lawful-no_new m closing l note sorted h.0)
    (all_lawful-no_new m closing (after_note note l) notes (sorted-note l note sorted) h.1)

-- ---- the notes of a pass are lawful

pub lawful-append : (m : Setting) (closing : Option ℕ) (l : Ledger) (a b : List Note) → AreLawful m closing l a
    → AreLawful m closing (after_notes l a) b →
    AreLawful m closing l (a ++ b)
lawful-append m closing l [] b x y = y
lawful-append m closing l (note ∷ a) b x y = (x.0, lawful-append m closing (after_note note l) a b x.1 y)

pub lawful-is : (m : Setting) (closing : Option ℕ) (l : Ledger) (a b : List Note) → a ≡ b → AreLawful m closing l b → AreLawful m closing l a
lawful-is m closing l a b e h = subst (AreLawful m closing l) (sym e) h

pub lawful-drop : (m : Setting) (closing : Option ℕ) (l : Ledger) (t : Slot) (b : Bool) → AreLawful m closing l (when b (Dropped t))
lawful-drop m closing l t true = (tt, tt)
lawful-drop m closing l t false = tt

lawful-end : (m : Setting) (sp : Spared) (l : Ledger) (failed : Bool) (t : Slot) → IsLawful m sp.closing l (end_note failed t)
lawful-end m sp l true t = tt
lawful-end m sp l false t = tt

pub lawful-completes : (m : Setting) (sp : Spared) (l : Ledger) (ts : List Slot) (notes : List Note) → Completes l ts notes
    → AreLawful m sp.closing l notes
lawful-completes m sp l [] notes c = lawful-is m sp.closing l notes [] c tt
lawful-completes m sp l (t ∷ ts) notes c = lawful-is m sp.closing l notes (end_notes l t c.0 ++ c.1) c.2
    (lawful-append m sp.closing l (end_notes l t c.0) c.1 (
      lawful-end m sp l c.0 t,
      lawful-drop m sp.closing (after_note (end_note c.0 t) l) t
          (is_orphan (after_note (end_note c.0 t) l) t),
    ) (lawful-completes m sp (after_notes l (end_notes l t c.0)) ts c.1 c.3))

pub lawful-unmap : (m : Setting) (sp : Spared) (l : Ledger) (f : ℕ) (t : Slot) → IsSlotFor m sp l f t → AreLawful m sp.closing l (unmap_notes l f t)
lawful-unmap m sp l f t for = lawful-append m sp.closing l (when (is_none (slot_of l f)) (Put f t)) (when (not (map_count l f == 0)) (Unmapped f))
    (by (slot_of l f) for) (unmaps _ (not (map_count l f == 0)))
  where
    by : (o : Option Slot) → MatchOption o (IsTrue (may_give m sp.closing l t)) (λ r. t ≡ r) → AreLawful m sp.closing l (when (is_none o) (Put f t))
    by None may = (may, tt)
    by (Some r) same = tt

    unmaps : (l' : Ledger) (b : Bool) → AreLawful m sp.closing l' (when b (Unmapped f))
    unmaps l' true = (tt, tt)
    unmaps l' false = tt

lawful-turn : (m : Setting) (sp : Spared) (l : Ledger) (f : ℕ) (t : Slot) (failed : Bool) → IsSlotFor m sp l f t →
    AreLawful m sp.closing l (turn_notes l f t failed)
lawful-turn m sp l f t failed for =
    lawful-append m sp.closing l (unmap_notes l f t) (if is_dirty l f t then Started t ∷ end_note failed t ∷ [] else [])
    (lawful-unmap m sp l f t for) (by (after_notes l (unmap_notes l f t)) (is_dirty l f t))
  where
    by : (l' : Ledger) (b : Bool) → AreLawful m sp.closing l' (if b then Started t ∷ end_note failed t ∷ [] else [])
    by l' true = (tt, (lawful-end m sp (after_note (Started t) l') failed t, tt))
    by l' false = tt

abbrev pub AgainLawful : Setting → Spared → List ℕ → Type 0
AgainLawful m sp fs = (l' : Ledger) (ns : List Note) → Turns m sp l' fs ns → AreLawful m sp.closing l' ns

lawful-turns : (m : Setting) (sp : Spared) (l : Ledger) (fs : List ℕ) (notes : List Note) → Turns m sp l fs notes → AreLawful m sp.closing l notes
lawful-turns m sp l [] notes r = lawful-is m sp.closing l notes [] r tt
lawful-turns m sp l (f ∷ fs) notes r = stuck (λ l' ns q. lawful-turns m sp l' fs ns q) (is_stuck m sp l f) r
  where
    stuck : AgainLawful m sp fs → (b : Bool) → MatchBool b (Turns m sp l fs notes)
        ((t : Slot) × (failed : Bool) × IsSlotFor m sp l f t × MatchBool (stays_cached l f t failed)
        ((rest : List Note) × (notes ≡ turn_notes l f t failed ++ rest) × Turns m sp (after_notes l (turn_notes l f t failed)) fs rest)
        (notes ≡ turn_notes l f t failed ++ Dropped t ∷ []))
        → AreLawful m sp.closing l notes
    stuck again true r = again l notes r
    stuck again false r = goes (stays_cached l f r.0 r.1) r.3
      where
        goes : (b : Bool) → MatchBool b
            ((rest : List Note) × (notes ≡ turn_notes l f r.0 r.1 ++ rest) × Turns m sp (after_notes l (turn_notes l f r.0 r.1)) fs
            rest) (notes ≡ turn_notes l f r.0 r.1 ++ Dropped r.0 ∷ []) → AreLawful m sp.closing l notes
        goes true q = lawful-is m sp.closing l notes (turn_notes l f r.0 r.1 ++ q.0) q.1
            (lawful-append m sp.closing l (turn_notes l f r.0 r.1) q.0 (lawful-turn m sp l f r.0 r.1 r.2)
            (again (after_notes l (turn_notes l f r.0 r.1)) q.0 q.2))
        goes false q = lawful-is m sp.closing l notes (turn_notes l f r.0 r.1 ++ Dropped r.0 ∷ []) q
            (lawful-append m sp.closing l (turn_notes l f r.0 r.1) (Dropped r.0 ∷ []) (lawful-turn m sp l f r.0 r.1 r.2) (tt, tt))

pub lawful-seeks : (m : Setting) (sp : Spared) (l : Ledger) (notes : List Note) → Seeks m sp l notes → AreLawful m sp.closing l notes
lawful-seeks m sp l notes r = by (has_free m l) r
  where
    pass : (b : Bool) (now : Ledger) (fs : List ℕ) (ns : List Note) → MatchBool b (ns ≡ []) (Turns m sp now fs ns) → AreLawful m sp.closing now ns
    pass true now fs ns q = lawful-is m sp.closing now ns [] q tt
    pass false now fs ns q = lawful-turns m sp now fs ns q

    by : (b : Bool) → MatchBool b (notes ≡ []) (IsPass m sp l notes) → AreLawful m sp.closing l notes
    by true q = lawful-is m sp.closing l notes [] q tt
    by false q = lawful-is m sp.closing l notes (q.0 ++ q.1) q.2 (lawful-append m sp.closing l q.0 q.1 (lawful-completes m sp l l.flight q.0 q.3)
        (pass (has_free m (after_notes l q.0)) (after_notes l q.0) (frames_in_turn sp (after_notes l q.0)) q.1 q.4))

pub there-by : (m : Setting) (l l' : Ledger) → NoNew m l l' → AreThere m l → AreThere m l'
there-by m l l' n all s h = ap (λ o. is_there m (record l { on = o }) s) n.on_same ∙ by (n.came s h)
  where
    by : (0 < count l s) ⊎ (is_there m l s ≡ true) → is_there m l s ≡ true
    by (inl i) = all s i
    by (inr i) = i

pub fits-notes : (m : Setting) (closing : Option ℕ) (l : Ledger) (notes : List Note) → IsSound m l → AreLawful m closing l notes → AreasFit m l →
    AreasFit m (after_notes l notes)
fits-notes m closing l notes s h = (all_lawful-no_new m closing l notes s.in_order h).fits

pub there-notes : (m : Setting) (closing : Option ℕ) (l : Ledger) (notes : List Note) → IsSound m l → AreLawful m closing l notes → AreThere m l →
    AreThere m (after_notes l notes)
there-notes m closing l notes s h = there-by m l (after_notes l notes) (all_lawful-no_new m closing l notes s.in_order h)

-- ---- the notes of a page: an access closes no area

abbrev pub Opens : Sparing → Type 0
Opens sp = (l : Ledger) (pinned : Option ℕ) → (sp l pinned).closing ≡ None

pub lawful-takes : (m : Setting) (sp : Spared) (l : Ledger) (notes : List Note) (note : ℕ → Note) → (takes : TakesFor m sp l notes note) →
    IsLawful m sp.closing (after_notes l takes.sought) (note takes.frame) → AreLawful m sp.closing l notes
lawful-takes m sp l notes note takes h = lawful-is m sp.closing l notes _ takes.whole
    (lawful-append m sp.closing l takes.sought (note takes.frame ∷ []) (lawful-seeks m sp l takes.sought takes.seeks) (h, tt))

-- and so where no area is closing
lawful-opens : (m : Setting) (sp : Sparing) (pinned : Option ℕ) (l : Ledger) (notes : List Note) → Opens sp
    → AreLawful m (sp l pinned).closing l notes →
    AreLawful m None l notes
lawful-opens m sp pinned l notes none h = subst (λ c. AreLawful m c l notes) (none l pinned) h

lawful-loaded : (m : Setting) (sp : Sparing) (l : Ledger) (t : Slot) (notes : List Note) → Opens sp → IsSound m l → 0 < slot_entries l t →
    Takes m sp l None notes (Loaded t) → AreLawful m None l notes
lawful-loaded m sp l t notes none s named takes = lawful-opens m sp None l notes none
    (lawful-takes m (sp l None) l notes (Loaded t) takes (let k = (seeks-kept m (sp l None) l takes.sought s takes.seeks).keeps.more t in
    omega (arith, k, named)))

pub lawful-comes : (m : Setting) (sp : Sparing) (l : Ledger) (write : Bool) (k : Key) (notes : List Note) → Opens sp → IsSound m l →
    ComesIn m sp l k (need write l (entry l k)) notes → AreLawful m None l notes
lawful-comes m sp l write k notes open_ s h = by write (entry l k) refl h
  where
    none : notes ≡ [] → AreLawful m None l notes
    none e = lawful-is m None l notes [] e tt

    slot_in : (t : Slot) → entry l k ≡ Some (InSlot t) → (o : Option ℕ) → ComesIn m sp l k (need_of_slot t o) notes → AreLawful m None l notes
    slot_in t is None q = lawful-is m None l notes (q.0 ++ Mapped k.0 (address_of k.1) q.1 ∷ []) q.4
        (lawful-append m None l q.0 (Mapped k.0 (address_of k.1) q.1 ∷ [])
        (lawful-loaded m sp l t q.0 open_ s (how_many-found (names_slot t) k l.entries (InSlot t) is (slot-itself t)) q.2) (tt, tt))
    slot_in t is (Some f) q = lawful-is m None l notes (Mapped k.0 (address_of k.1) f ∷ []) q (tt, tt)

    ready : (b : Bool) (g : ℕ) → ComesIn m sp l k (cond b (CopyOnWrite g) Ready) notes → notes ≡ []
    ready true g q = q
    ready false g q = q

    by : (write : Bool) (o : Option Entry) → entry l k ≡ o → ComesIn m sp l k (need write l o) notes → AreLawful m None l notes
    by false None is q = none q
    by true None is q = none q
    by false (Some Zero) is q = none q
    by true (Some Zero) is q = none q
    by false (Some (InFrame g seen)) is q = none q
    by true (Some (InFrame g seen)) is q = none (ready (asks_copy l g) g q)
    by false (Some (InSlot t)) is q = slot_in t is (frame_at l t) q
    by true (Some (InSlot t)) is q = slot_in t is (frame_at l t) q

pub lawful-made : (m : Setting) (sp : Sparing) (l : Ledger) (k : Key) (n : Need) (notes : List Note) → Opens sp →
    IsMade m sp l k n notes → AreLawful m None l notes
lawful-made m sp l k Ready notes none q = lawful-is m None l notes [] q tt
lawful-made m sp l k ZeroPage notes none q = lawful-is m None l notes (Zeroed k.0 (address_of k.1) ∷ []) q (tt, tt)
lawful-made m sp l k NewPage notes none q = lawful-opens m sp None l notes none (lawful-takes m (sp l None) l notes (New k.0 (address_of k.1)) q tt)
lawful-made m sp l k (CopyOnWrite g) notes none q = lawful-opens m sp (Some g) l notes none
    (lawful-takes m (sp l (Some g)) l notes (Copied k.0 (address_of k.1)) q tt)
lawful-made m sp l k (SwapIn t) notes none q = absurd q
lawful-made m sp l k (MapCached f) notes none q = absurd q

lawful-drop_at : (m : Setting) (l : Ledger) (write came : Bool) (k : Key) → AreLawful m None l (drop_at m write came l k)
lawful-drop_at m l write came k = by (entry l k)
  where
    one : (o : Option Slot) → AreLawful m None l (drop_of_slot m write came l o)
    one None = tt
    one (Some t) = lawful-drop m None l t (is_unneeded m write came l t)

    by : (o : Option Entry) → AreLawful m None l (drop_of_entry m write came l o)
    by None = tt
    by (Some Zero) = tt
    by (Some (InFrame f seen)) = one (slot_of l f)
    by (Some (InSlot t)) = tt

lawful-serves : (m : Setting) (sp : Sparing) (l : Ledger) (write : Bool) (k : Key) (notes : List Note) → Opens sp → IsSound m l →
    Serves m sp l write k notes → AreLawful m None l notes
lawful-serves m sp l write k notes none s h =
    let l1 = after_notes l h.coming in
    let l2 = after_notes l (h.coming ++ h.making) in
    let last = drop_at m write (was_slot (need write l (entry l k))) l2 k in
    lawful-is m None l notes (h.coming ++ h.making ++ last) h.whole (lawful-append m None l (h.coming ++ h.making) last
    (lawful-append m None l h.coming h.making (lawful-comes m sp l write k h.coming none s h.comes_in)
    (lawful-made m sp l1 k (need write l1 (entry l1 k)) h.making none h.made))
    (lawful-drop_at m l2 write (was_slot (need write l (entry l k))) k))

lawful-runs_out : (m : Setting) (sp : Sparing) (l : Ledger) (write : Bool) (k : Key) (notes : List Note) (out : OutOf) → Opens sp → IsSound m l →
    RunsOut m sp l write k notes out → AreLawful m None l notes
lawful-runs_out m sp l write k notes out none s h =
    let l1 = after_notes l h.coming in
    let pinned = pinned_by (need write l1 (entry l1 k)) in
    lawful-is m None l notes (h.coming ++ h.sought) h.whole (lawful-append m None l h.coming h.sought (by h.before)
    (lawful-opens m sp pinned l1 h.sought none (lawful-seeks m (sp l1 pinned) l1 h.sought h.finds.seeks)))
  where
    by : (h.coming ≡ []) ⊎ ComesIn m sp l k (need write l (entry l k)) h.coming → AreLawful m None l h.coming
    by (inl e) = lawful-is m None l h.coming [] e tt
    by (inr x) = lawful-comes m sp l write k h.coming none s x

pub lawful-touches : (m : Setting) (w : World) (l : Ledger) (write : Bool) (k : Key) (notes : List Note) (end : Option Stop) → IsSound m l →
    Touches m w l write k notes end → AreLawful m None l notes
lawful-touches m w l write k notes None s q = lawful-serves m (sparing w) l write k notes (λ l' pinned. refl) s q.1
lawful-touches m w l write k notes (Some Denied) s q = lawful-is m None l notes [] q.1 tt
lawful-touches m w l write k notes (Some (Starved out)) s q = lawful-runs_out m (sparing w) l write k notes out (λ l' pinned. refl) s q.1
lawful-touches m w l write k notes (Some Lost) s q = lawful-seeks m (sparing w l None) l notes q.1.seeks

slots-marked : (l : Ledger) (t r : Slot) → slots (with_stale true t l) r ≡ slots l r
slots-marked l t r =
    how_many-map (λ (c : Cached). same_slot r c.slot) (λ (c : Cached). if same_slot t c.slot then record c { stale = true } else c) l.cache
    ∙ how_many-same _ _ l.cache
    (λ c. elim (same_slot t c.slot) as (λ (v : Bool). same_slot r (if v then record c { stale = true } else c).slot ≡ same_slot r
    c.slot) [ true ↦ refl | false ↦ refl ])

pub used-no_new : (m : Setting) (l : Ledger) (write : Bool) (k : Key) → T (is_sorted key_cmp l.entries) → NoNew m l (after_use write k l)
used-no_new m l write k sorted = by write (entry l k)
  where
    set : (f : ℕ) → NoNew m l (set_entry k (InFrame f true) l)
    set f = less m l (set_entry k (InFrame f true) l) refl (λ t h. let a = slot_entries-set k (InFrame f true) l t sorted in omega (arith, a, h))

    stale : (o : Option Slot) (l' : Ledger) → NoNew m l l' → NoNew m l (if_some o (with_stale true) l')
    stale None l' n = n
    stale (Some t) l' n = no_new-then m l l' (with_stale true t l') n
        (less m l' (with_stale true t l') refl (λ r h. let a = slots-marked l' t r in omega (arith, a, h)))

    by : (write : Bool) (o : Option Entry) → NoNew m l (after_use_of write k l o)
    by write None = less m l l refl (λ t h. h)
    by write (Some Zero) = less m l l refl (λ t h. h)
    by write (Some (InSlot t)) = less m l l refl (λ t h. h)
    by false (Some (InFrame f seen)) = set f
    by true (Some (InFrame f seen)) = stale (slot_of l f) (set_entry k (InFrame f true) l) (set f)

-- what a page of an access brings into use
touches-no_new : (m : Setting) (w : World) (l : Ledger) (write : Bool) (k : Key) (notes : List Note) (end : Option Stop) → IsSound m l →
    Touches m w l write k notes end → NoNew m l (after_all l (page_events write k notes end))
touches-no_new m w l write k notes end s t = by end (all_lawful-no_new m None l notes s.in_order (lawful-touches m w l write k notes end s t))
    (touches-kept m w l write k notes end s t)
  where
    by : (end : Option Stop) → NoNew m l (after_notes l notes) → IsSound m (after_notes l notes)
        → NoNew m l (after_all l (page_events write k notes end))
    by None n s' = subst (NoNew m l)
        (sym (after_all-append l (note_events notes) (Used write k ∷ []) ∙ ap (after_use write k) (note_events-all l notes)))
        (no_new-then m l (after_notes l notes) (after_use write k (after_notes l notes)) n (used-no_new m (after_notes l notes) write k s'.in_order))
    by (Some stop) n s' = subst (NoNew m l) (sym (note_events-all l notes)) n

-- an access
pub record InAreas (m : Setting) (l : Ledger) : Type 0 where
  pub sound : IsSound m l
  pub there : AreThere m l
  pub fits : AreasFit m l

pub accesses-in : (m : Setting) (w : World) (l : Ledger) (p : ℕ) (ps : List (Bool × ℕ)) (events : List Event) (end : End) → InAreas m l →
    Accesses m w l p ps events end → InAreas m (after_all l events)
accesses-in m w l p ps events end s h = accesses-keep (InAreas m) m w p each l ps events end s h
  where
    each : (l : Ledger) (write : Bool) (page : ℕ) (notes : List Note) (end : Option Stop) → InAreas m l → Touches m w l write (p, page) notes end →
        InAreas m (after_all l (page_events write (p, page) notes end))
    each l write page notes end s t =
        let n = touches-no_new m w l write (p, page) notes end s.sound t in
        record {
          sound = page_events-kept m l write (p, page) notes end (touches-kept m w l write (p, page) notes end s.sound t);
          there = there-by m l (after_all l (page_events write (p, page) notes end)) n s.there;
          fits = n.fits s.fits;
        }
