-- What single steps keep, and what they are with their notes.
use Rattle.std.proofs.Common.{slice_get, Bool, List, None, Option, Some, [], ap, arith, cond, false, is_none, nat_lt, not, option_map, refl, subst, sym, true, ℕ, ◌&&◌, ◌++◌, ◌+◌, ◌<◌, ◌==◌, ◌||◌, ◌∙◌, ◌∷◌, ◌≡◌}
use Rattle.std.proofs.lemmas.Bool.Decides.{nat_tests}
use Rattle.av_base.specs.declared.slot.Slot.{Slot}
use Rattle.av_trace.specs.declared.note.Note.{Note}
use Rattle.av_trace.specs.declared.note.Note.TheVariants.{Aged, Dropped, Kept, Put, Started, Unmapped}
use Rattle.av_plain.specs.Event.{after_note, after_notes, change_entries, if_some, when, without_seen}
use Rattle.av_plain.specs.Ledger.{Cached, InSlot, Ledger, Setting, SwapArea, frame_at, free_slots, has_free_slot, in_flight, is_free_slot, is_merged, is_open, is_orphan, is_stale, is_unmapped, map_count, may_give, no_slot, same_slot, slot_entries, slot_of}
use Rattle.av_plain.specs.Pass.{end_note, end_notes}
use Rattle.av_plain.specs.Sound.{IsSound, IsSoundBut, flights, holders, mergings, no_excuse, pairs, uses}
use Rattle.av_plain.proofs.Sound.Changes.{any-counts, drop-sound}
use Rattle.av_plain.proofs.Sound.Counts.{frame_at-none, frame_at-some, pair-frame, pair-slot, same-is, same-itself, same-turned, slot-is, slot-turned, slot_of-none, slot_of-some, two_frames, two_slots}
use Rattle.av_plain.proofs.Sound.Flight.{orphan-landed, started-kept}
use Rattle.av_plain.proofs.Sound.Steps.{alike-end_note, end_notes-kept, ended, given-nowhere}
use Rattle.std.specs.Prelude.{IsTrue, MatchOption}
use Rattle.std.specs.FinMap.Entries.{find as find_area}
use Rattle.std.specs.Option.{option_map_or}
use Rattle.std.specs.Ordering.{eq_by_cmp, nat_cmp}
use Rattle.std.specs.List.{list_all}
use Rattle.av_plain.proofs.Sound.Cache.{active-kept, head-kept, put-kept, unmapped-kept}
use Rattle.av_trace.specs.declared.note.Cause.{Cause}
use Rattle.av_trace.specs.declared.note.Cause.TheVariants.{Ksm, Locked, NoSlot, Referenced, WriteStarted, Writeback}
use Rattle.av_evict.specs.Steps.{EndsFirst, GetsSlot, IsCachedAt, IsFirst, IsSent, IsUnmapped, IsUsed, MayDrop, MayPut, MaySend, MayStart, MayUnmap}
use Rattle.av_evict.specs.System.{HasHappened, Goes, SystemView, any_slot}
use Rattle.av_evict.specs.declared.system.WriteEnd.{WriteEnd}
use Rattle.av_evict.proofs.SystemLaws.{loose}
use Rattle.av_plain.proofs.Event.{map_count-unseen}
use Rattle.av_plain.proofs.Sound.Reclaim.{unseen-kept}

-- ---- counts

above : (n : ℕ) → nat_lt 0 n ≡ true → 0 < n
above n h = grind (arith, nat_tests, h)

none : (n : ℕ) → nat_lt 0 n ≡ false → n ≡ 0
none n h = grind (arith, nat_tests, h)

pub still-landed : (l : Ledger) (s : Slot) → flights l s ≡ 0 → in_flight l s ≡ false
still-landed l s h = any-counts (same_slot s) l.flight ∙ none (flights l s) h
  where
    none : (n : ℕ) → n ≡ 0 → nat_lt 0 n ≡ false
    none n h = grind (arith, nat_tests, h)

pub landed-flights : (l : Ledger) (s : Slot) → in_flight l s ≡ false → flights l s ≡ 0
landed-flights l s h = none (flights l s) (sym (any-counts (same_slot s) l.flight) ∙ h)

pub pair-frame_at : (m : Setting) (l : Ledger) (s : Slot) (f : ℕ) → IsSound m l → 0 < pairs l s f → frame_at l s ≡ Some f
pair-frame_at m l s f sound pair = by (frame_at l s) refl
  where
    by : (o : Option ℕ) → frame_at l s ≡ o → o ≡ Some f
    by None is = let z = frame_at-none s l.cache is in let p = pair-slot s f l.cache in absurd (omega (arith, z, p, pair))
    by (Some g) is = each (g == f) refl
      where
        each : (b : Bool) → (g == f) ≡ b → Some g ≡ Some f
        each true e = ap Some (same-is g f e)
        each false e = let p = frame_at-some g s l.cache is in let two = two_frames s f g l.cache (same-turned f g ∙ e) in
            let once = sound.slots_once s in
            absurd (omega (arith, p, two, once, pair))

pub pair-slot_of : (m : Setting) {x : Slot → ℕ} (l : Ledger) (s : Slot) (f : ℕ) → IsSoundBut m x l → 0 < pairs l s f → slot_of l f ≡ Some s
pair-slot_of m l s f sound pair = by (slot_of l f) refl
  where
    by : (o : Option Slot) → slot_of l f ≡ o → o ≡ Some s
    by None is = let z = slot_of-none f l.cache is in let p = pair-frame s f l.cache in absurd (omega (arith, z, p, pair))
    by (Some t) is = each (same_slot t s) refl
      where
        each : (b : Bool) → same_slot t s ≡ b → Some t ≡ Some s
        each true e = ap Some (slot-is t s e)
        each false e = let p = slot_of-some f t l.cache is in let two = two_slots s t f l.cache (slot-turned s t ∙ e) in
            let once = sound.frames_once f in
            absurd (omega (arith, p, two, once, pair))

-- a frame that is cached is one of the machine's
pub cached-below : (m : Setting) (l : Ledger) (f : ℕ) (s : Slot) → IsSound m l → IsCachedAt f s l → f < m.frames
cached-below m l f s sound at = sound.in_range f (let p = slot_of-some f s l.cache at in let q = pair-frame s f l.cache in omega (arith, p, q))

-- a frame that isn't merged stands nowhere among those that are
pub unmerged-count : (l : Ledger) (f : ℕ) → is_merged l f ≡ false → mergings l f ≡ 0
unmerged-count l f h = none (mergings l f) (sym (any-counts (λ g. f == g) l.merged) ∙ h)

-- ---- each step keeps soundness

pub start-sound : (m : Setting) (l : Ledger) (f : ℕ) (s : Slot) → IsSound m l → MayStart f s l → IsSound m (after_note (Started s) l)
start-sound m l f s sound may = started-kept m no_excuse l s sound
    (let p = slot_of-some f s l.cache may.cached in let q = pair-slot s f l.cache in omega (arith, p, q)) (landed-flights l s may.landed)

pub drop-may : (m : Setting) (l : Ledger) (f : ℕ) (s : Slot) → IsSound m l → MayDrop f s l → IsSound m (after_note (Dropped s) l)
drop-may m l f s sound may = drop-sound m l s sound (landed-flights l s may.landed)

pub put-sound : (m : Setting) (closing : Option ℕ) (l : Ledger) (f : ℕ) (s : Slot) → IsSound m l → MayPut f l → may_give m closing l s ≡ true →
    IsSound m (after_note (Put f s) l)
put-sound m closing l f s sound may gives = let n = given-nowhere m closing l s gives in
    put-kept m no_excuse l s f sound n.uncached n.unnamed (slot_of-none f l.cache may.uncached) (unmerged-count l f may.unmerged) may.mapped

pub unmap-sound : (m : Setting) (l : Ledger) (f : ℕ) (s : Slot) → IsSound m l → IsCachedAt f s l → IsSound m (after_note (Unmapped f) l)
unmap-sound m l f s sound at = subst (λ o. IsSound m (if_some o (λ s. change_entries f (λ _. InSlot s)) l)) (sym at)
    (unmapped-kept m no_excuse l s f sound (slot_of-some f s l.cache at))

-- ---- moves between the lists

unseen-uses : (l : Ledger) (f g : ℕ) → uses (change_entries f without_seen l) g ≡ uses l g
unseen-uses l f g = ap (λ n. n + holders l g) (map_count-unseen f l g)

pub keep-sound : (m : Setting) (l : Ledger) (f : ℕ) (cause : Cause) → IsSound m l → IsUsed f l → IsSound m (after_note (Kept f cause) l)
keep-sound m l f Writeback sound used = head-kept m no_excuse l f sound used
keep-sound m l f WriteStarted sound used = head-kept m no_excuse l f sound used
keep-sound m l f Referenced sound used = active-kept m no_excuse (change_entries f without_seen l) f (unseen-kept m no_excuse l f sound)
    (let e = unseen-uses l f f in omega (arith, e, used))
keep-sound m l f NoSlot sound used = active-kept m no_excuse l f sound used
keep-sound m l f Locked sound used = active-kept m no_excuse l f sound used
keep-sound m l f Ksm sound used = active-kept m no_excuse l f sound used

pub age-sound : (m : Setting) (l : Ledger) (f : ℕ) → IsSound m l → IsUsed f l → IsSound m (after_note (Aged f) l)
age-sound m l f sound used = head-kept m no_excuse (change_entries f without_seen l) f (unseen-kept m no_excuse l f sound)
    (let e = unseen-uses l f f in omega (arith, e, used))

-- ---- the slot of a frame

-- where an open area has a free slot there is one that may be given
pub open-gives : (m : Setting) (closing : Option ℕ) (l : Ledger) (k : ℕ) → is_open closing k ≡ true → has_free_slot m l k ≡ true →
    no_slot m closing l ≡ false
open-gives m closing l k open_is = each l.on
  where
    free : Option SwapArea → Bool
    free o = option_map_or (λ area. nat_lt 0 (free_slots m l (k, area))) o false

    test : ℕ × SwapArea → Bool
    test a = not (is_open closing a.0) || free_slots m l a == 0

    here : (b : Bool) (n : ℕ) → b ≡ true → nat_lt 0 n ≡ true → (not b || n == 0) ≡ false
    here true n is h = grind (arith, nat_tests, h)
    here false n is h = cc

    each : (areas : List (ℕ × SwapArea)) → free (find_area nat_cmp k areas) ≡ true → list_all test areas ≡ false
    each [] h = cc
    each (a ∷ areas) h = by (eq_by_cmp nat_cmp k a.0) refl (each areas) h
      where
        by : (b : Bool) → eq_by_cmp nat_cmp k a.0 ≡ b → (free (find_area nat_cmp k areas) ≡ true → list_all test areas ≡ false) →
            free (cond b (Some a.1) (find_area nat_cmp k areas)) ≡ true → (test a && list_all test areas) ≡ false
        by true is others h = ap (λ b. b && list_all test areas) (here (is_open closing a.0) (free_slots m l a)
            (ap (is_open closing) (sym same) ∙ open_is) (ap (λ j. nat_lt 0 (free_slots m l (j, a.1))) (sym same) ∙ h))
          where
            same : k ≡ a.0
            same = grind (arith, nat_tests, is)
        by false is others h = ap (λ b. test a && b) (others h) ∙ none (test a)
          where
            none : (b : Bool) → (b && false) ≡ false
            none true = refl
            none false = refl

-- so there is where one may be given
gives-slot : (m : Setting) (closing : Option ℕ) (l : Ledger) (s : Slot) → may_give m closing l s ≡ true → no_slot m closing l ≡ false
gives-slot m closing l s gives = open-gives m closing l s.area (mid (is_free_slot m l s) (is_open closing s.area) (has_free_slot m l s.area) gives)
    (last (is_free_slot m l s) (is_open closing s.area) (has_free_slot m l s.area) gives)
  where
    mid : (a b c : Bool) → (a && b && c) ≡ true → b ≡ true
    mid true true c h = refl
    mid true false c h = cc
    mid false b c h = cc

    last : (a b c : Bool) → (a && b && c) ≡ true → c ≡ true
    last true true c h = h
    last true false c h = cc
    last false b c h = cc

-- a frame in use that is not cached has an entry
pub send-may_put : (l : Ledger) (f : ℕ) → MaySend f l → None ≡ slot_of l f → MayPut f l
send-may_put l f may is = record {
  uncached = sym is;
  mapped = let z = slot_of-none f l.cache (sym is) in let u = may.used in omega (arith, z, u);
  unmerged = may.unmerged;
}

-- it is cached now
pub put-now : (m : Setting) (closing : Option ℕ) (l : Ledger) (f : ℕ) (s : Slot) → None ≡ slot_of l f → may_give m closing l s ≡ true →
    GetsSlot m closing f (Some s) l (Put f s ∷ [])
put-now m closing l f s is gives = (
  ap (λ o. is_none o && no_slot m closing l) (sym is) ∙ gives-slot m closing l s gives,
  subst (λ o. MatchOption o (IsTrue (may_give m closing l s)) (λ t. s ≡ t)) is gives,
  ap (λ o. when (is_none o) (Put f s)) is,
)

-- there is no slot
pub put-never : (m : Setting) (closing : Option ℕ) (l : Ledger) (f : ℕ) → None ≡ slot_of l f → no_slot m closing l ≡ true →
    GetsSlot m closing f None l []
put-never m closing l f is slot = (ap (λ o. is_none o && no_slot m closing l) (sym is) ∙ slot, refl)

-- afterwards it is cached there
pub put-cached : (m : Setting) (closing : Option ℕ) (l : Ledger) (f : ℕ) (s : Slot) (ns : List Note) → GetsSlot m closing f (Some s) l ns →
    slot_of (after_notes l ns) f ≡ Some s
put-cached m closing l f s ns put = subst (λ x. slot_of (after_notes l x) f ≡ Some s) (sym put.2) (by (slot_of l f) refl put.1)
  where
    here : (b : Bool) → b ≡ true → (o : Option Cached) →
        option_map (λ (c : Cached). c.slot) (cond b (Some (record { slot = s; frame = f; stale = true })) o) ≡ Some s
    here true h o = refl
    here false h o = cc

    by : (o : Option Slot) → slot_of l f ≡ o → MatchOption o (IsTrue (may_give m closing l s)) (λ t. s ≡ t) →
        slot_of (after_notes l (when (is_none (slot_of l f)) (Put f s))) f ≡ Some s
    by None is h = subst (λ o. slot_of (after_notes l (when (is_none o) (Put f s))) f ≡ Some s) (sym is) (here (f == f) (same-itself f) _)
    by (Some t) is h = subst (λ o. slot_of (after_notes l (when (is_none o) (Put f s))) f ≡ Some s) (sym is) (is ∙ ap Some (sym h))

-- ---- sent to it

-- an entry names the frame, as a test says
pub test-mapped : (l : Ledger) (f : ℕ) (b : Bool) → b ≡ not (map_count l f == 0) → b ≡ true → 0 < map_count l f
test-mapped l f b is h = grind (arith, nat_tests, is, h)

pub mapped-unmap : (l : Ledger) (f : ℕ) (s : Slot) (b : Bool) → b ≡ not (map_count l f == 0) → b ≡ true → IsCachedAt f s l → MayUnmap f s l
mapped-unmap l f s b is h at = record { cached = at; mapped = test-mapped l f b is h }

pub unmap-notes : (l : Ledger) (f : ℕ) (b : Bool) (ns : List Note) → b ≡ not (map_count l f == 0) → ns ≡ when b (Unmapped f) → IsUnmapped f l ns
unmap-notes l f b ns is h = h ∙ ap (λ c. when c (Unmapped f)) is

pub sent-both : (m : Setting) (closing : Option ℕ) (l : Ledger) (f : ℕ) (s : Slot) (ns ms : List Note) → GetsSlot m closing f (Some s) l ns →
    IsUnmapped f (after_notes l ns) ms → IsSent m closing f (Some s) l (ns ++ ms)
sent-both m closing l f s ns ms put un = (put.0, put.1, (λ i. put.2 i ++ (un ∙ ap (λ n. when (not (n == 0)) (Unmapped f)) same) i))
  where
    same : map_count (after_notes l ns) f ≡ map_count l f
    same = subst (λ x. map_count (after_notes l x) f ≡ map_count l f) (sym put.2) (by (is_none (slot_of l f)))
      where
        by : (b : Bool) → map_count (after_notes l (when b (Put f s))) f ≡ map_count l f
        by true = refl
        by false = refl

-- ---- a slot is dropped

pub orphan-may_drop : (l : Ledger) (f : ℕ) (s : Slot) → IsCachedAt f s l → is_orphan l s ≡ true → MayDrop f s l
orphan-may_drop l f s at is = record {
  cached = at;
  landed = still-landed l s (orphan-landed l s is);
  kept = λ named. let z = last (is_unmapped l (frame_at l s)) (not (in_flight l s)) (slot_entries l s == 0) is in
      absurd (clash (slot_entries l s == 0) z named);
}
  where
    last : (a b c : Bool) → (a && b && c) ≡ true → c ≡ true
    last true true c h = h
    last true false c h = cc
    last false b c h = cc

    clash : (b : Bool) → b ≡ true → b ≡ false → ⊥
    clash b h i = cc

-- a clean slot whose frame has no entries may be dropped
pub clean-may_drop : (l : Ledger) (f : ℕ) (s : Slot) → IsCachedAt f s l → map_count l f ≡ 0 → flights l s ≡ 0 → is_stale l s ≡ false → MayDrop f s l
clean-may_drop l f s at unmapped landed clean = record { cached = at; landed = still-landed l s landed; kept = λ named. (unmapped, clean) }

-- ---- the first write in flight ends

pub first-some : (s : Slot) (fs : List Slot) → Some s ≡ slice_get fs 0 → (rest : List Slot) × (fs ≡ s ∷ rest)
first-some s [] h = cc
first-some s (t ∷ fs) h = (fs, ap (λ x. x ∷ fs) (some_is t s (sym h)))
  where
    some_is : (t s : Slot) → Some t ≡ Some s → t ≡ s
    some_is t s h = cc

-- within a step the ledger is sound enough
pub ended-loose : (a b : SystemView) (l : Ledger) (s : Slot) (failed : Bool) → IsSound a.setting l → HasHappened a b l (end_note failed s ∷ []) →
    IsSoundBut b.setting any_slot (after_note (end_note failed s) l)
ended-loose a b l s failed sound d = subst (λ m. IsSoundBut m any_slot (after_note (end_note failed s) l)) (sym d.stays.setting)
    (loose a.setting _ _ (ended a.setting l failed s sound))

-- the frame still caches it
pub ended-cached : (m : Setting) (l : Ledger) (f : ℕ) (s : Slot) (failed : Bool) → IsSound m l → IsCachedAt f s l →
    IsCachedAt f s (after_note (end_note failed s) l)
ended-cached m l f s failed sound at = pair-slot_of m _ s f (ended m l failed s sound)
    (let p = slot_of-some f s l.cache at in let e = (alike-end_note l failed s).pairs_same s f in omega (arith, p, e))

-- and so it goes, whether the slot is an orphan then or not
pub ends-first : (a b : SystemView) (before now : List Note) (l : Ledger) (end : WriteEnd) (ns : List Note) → IsSound a.setting l →
    IsFirst (Some end) l → now ≡ before ++ ns → ns ≡ end_notes l end.slot end.failed → HasHappened a b l ns →
    (gained : List Note) × (now ≡ before ++ gained) × EndsFirst (Some end) l gained × Goes a b l gained
ends-first a b before now l end ns sound first whole is happened = (
  ns,
  whole,
  (first, is),
  record {
    sound = subst (λ x. IsSound a.setting (after_notes l x)) (sym is) (end_notes-kept a.setting l end.slot end.failed sound).sound;
    happened = happened;
  },
)

pub orphan-notes : (l : Ledger) (s : Slot) (failed b : Bool) → b ≡ is_orphan (after_note (end_note failed s) l) s →
    end_note failed s ∷ when b (Dropped s) ≡ end_notes l s failed
orphan-notes l s failed b is = ap (λ b. end_note failed s ∷ when b (Dropped s)) is
