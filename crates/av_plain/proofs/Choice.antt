-- Which frames an event makes free, and so the order of the free ones after it.
pub mod Giving
use Rattle.std.proofs.Common.{◌≡◌, ℕ, zero, suc, ◌+◌, ◌-◌, ◌<◌, ◌≤◌, Bool, true, false, cond, not, ◌&&◌, T, List, [], ◌∷◌, ◌++◌, filter, Option, Some, None, refl, sym, ap, subst, ◌∙◌, arith, ◌==◌, nat_lt}
use Rattle.std.proofs.lemmas.Bool.Decides.{nat_tests}
use Rattle.std.specs.Prelude.{MatchOption, fold, unwrap_or}
use Rattle.std.specs.FinMap.Entries.{is_sorted}
use Rattle.av_base.specs.Keys.{Key, key_cmp}
use Rattle.av_base.specs.Words.{how_many}
use Rattle.std.specs.List.{range_with_len}
use Rattle.av_plain.specs.Ledger.{Ledger, Setting, Cached, Entry, InFrame, entry, names_frame, is_free, slot_count}
use Rattle.av_plain.specs.Event.{Event, set_entry, after, after_all, after_zap}
use Rattle.av_clusters.specs.Clusters.{give_slot}
use Rattle.av_base.specs.declared.slot.Slot.{Slot}
use Rattle.av_plain.specs.Choice.{AreaSlots, Chooses, ChoosesAll, ChoosesFrame, ChoosesSlot, Free, IsGiven, SwitchesArea, frame_in, new_free, slot_in}
use Rattle.av_plain.specs.Sound.{uses}
use Rattle.av_plain.proofs.Ledger.Order.{weight}
use Rattle.av_plain.proofs.Ledger.{map_count-set}
use Rattle.av_plain.proofs.Zap.{map_count-after_zap, same_swap-after_zap}
use Rattle.av_plain.proofs.Sound.Counts.{same-is, same-itself}
use Rattle.av_plain.proofs.Sound.Changes.{free-is}
use Rattle.av_plain.specs.Choice.{TakesFrame, TakesOut, sorts_free, takes_any}
use Rattle.av_plain.specs.Ledger.{free_frames}
use Rattle.std.specs.Prelude.{MatchBool}

-- ---- filters of a range

none-passes : (test : ℕ → Bool) (a n : ℕ) → ((f : ℕ) → f < a + n → test f ≡ false) → filter test (range_with_len a n) ≡ []
none-passes test a zero h = refl
none-passes test a (suc n) h = by (test a) (h a (omega arith)) (none-passes test (a + 1) n (λ f less. h f (omega (arith, less))))
  where
    by : (b : Bool) → b ≡ false → filter test (range_with_len (a + 1) n) ≡ [] → cond b (a ∷ filter test (range_with_len (a + 1) n))
        (filter test (range_with_len (a + 1) n)) ≡ []
    by true is rest = cc
    by false is rest = rest

passes-above : (test : ℕ → Bool) (f a n : ℕ) → f < a → ((g : ℕ) → (g == f) ≡ false → test g ≡ false) → filter test (range_with_len a n) ≡ []
passes-above test f a zero less h = refl
passes-above test f a (suc n) less h = by (test a) (h a (grind (arith, nat_tests, less))) (passes-above test f (a + 1) n (omega (arith, less)) h)
  where
    by : (b : Bool) → b ≡ false → filter test (range_with_len (a + 1) n) ≡ [] → cond b (a ∷ filter test (range_with_len (a + 1) n))
        (filter test (range_with_len (a + 1) n)) ≡ []
    by true is rest = cc
    by false is rest = rest

one-passes : (test : ℕ → Bool) (f a n : ℕ) → a ≤ f → f < a + n → test f ≡ true → ((g : ℕ) → (g == f) ≡ false → test g ≡ false) →
    filter test (range_with_len a n) ≡ f ∷ []
one-passes test f a zero low high is others = absurd (omega (arith, low, high))
one-passes test f a (suc n) low high is others = by (a == f) refl (λ low'. one-passes test f (a + 1) n low' (omega (arith, high)) is others)
  where
    here : (b : Bool) → b ≡ true → a ≡ f → filter test (range_with_len (a + 1) n) ≡ [] →
        cond b (a ∷ filter test (range_with_len (a + 1) n)) (filter test (range_with_len (a + 1) n)) ≡ f ∷ []
    here true is same rest = λ i. same i ∷ rest i
    here false is same rest = cc

    later : (b : Bool) → b ≡ false → filter test (range_with_len (a + 1) n) ≡ f ∷ [] →
        cond b (a ∷ filter test (range_with_len (a + 1) n)) (filter test (range_with_len (a + 1) n)) ≡ f ∷ []
    later true is rest = cc
    later false is rest = rest

    by : (b : Bool) → (a == f) ≡ b → (a + 1 ≤ f → filter test (range_with_len (a + 1) n) ≡ f ∷ []) → filter test (range_with_len a (suc n)) ≡ f ∷ []
    by true e rest = here (test a) (ap test (same-is a f e) ∙ is) (same-is a f e)
        (passes-above test f (a + 1) n (let s = same-is a f e in omega (arith, s)) others)
    by false e rest = later (test a) (others a e) (rest (grind (arith, nat_tests, e, low)))

-- ---- what becomes free, by the uses of the frames

-- no frame does whose uses don't become fewer
pub new_free-none : (m : Setting) (l l' : Ledger) → ((f : ℕ) → f < m.frames → uses l f ≤ uses l' f) → new_free m l l' ≡ []
new_free-none m l l' more = none-passes (λ f. is_free l' f && not (is_free l f)) 0 m.frames
    (λ f less. by (is_free l' f) (is_free l f) (uses l f) (uses l' f) (free-is l' f) (free-is l f) (more f (omega (arith, less))))
  where
    by : (a b : Bool) (n n' : ℕ) → a ≡ (n' == 0) → b ≡ (n == 0) → n ≤ n' → (a && not b) ≡ false
    by true true n n' h i less = refl
    by true false n n' h i less = grind (arith, nat_tests, h, i, less)
    by false b n n' h i less = refl

-- one does whose last use has gone, where the others keep theirs
pub new_free-one : (m : Setting) (l l' : Ledger) (f : ℕ) → f < m.frames → 0 < uses l f → uses l' f ≡ 0
    → ((g : ℕ) → (g == f) ≡ false → uses l g ≤ uses l' g) →
    new_free m l l' ≡ f ∷ []
new_free-one m l l' f below had gone others = one-passes (λ f. is_free l' f && not (is_free l f)) f 0 m.frames (omega arith) (omega (arith, below))
    (here (is_free l' f) (is_free l f) (uses l f) (uses l' f) (free-is l' f) (free-is l f) had gone)
    (λ g other. by (is_free l' g) (is_free l g) (uses l g) (uses l' g) (free-is l' g) (free-is l g) (others g other))
  where
    here : (a b : Bool) (n n' : ℕ) → a ≡ (n' == 0) → b ≡ (n == 0) → 0 < n → n' ≡ 0 → (a && not b) ≡ true
    here true true n n' h i some z = grind (arith, nat_tests, i, some)
    here true false n n' h i some z = refl
    here false b n n' h i some z = grind (arith, nat_tests, h, z)

    by : (a b : Bool) (n n' : ℕ) → a ≡ (n' == 0) → b ≡ (n == 0) → n ≤ n' → (a && not b) ≡ false
    by true true n n' h i less = refl
    by true false n n' h i less = grind (arith, nat_tests, h, i, less)
    by false b n n' h i less = refl

-- ---- an event that makes none free

-- where no slot is in use, an event that neither takes a slot nor turns an area leaves the slots
pub no-slot-chosen : (m : Setting) (closing : Option ℕ) (l : Ledger) (e : Event) (slots : AreaSlots) → ((s : Slot) → slot_count l s ≡ 0) →
    SwitchesArea m e slots slots → slot_in e ≡ None → ChoosesSlot m closing l e slots slots
no-slot-chosen m closing l e slots none turns takes = (
  slots,
  slots,
  turns,
  subst (λ o. MatchOption o (slots ≡ slots) (λ s. IsGiven m closing l s slots slots)) (sym takes) refl,
  λ i k. sym (given k) i,
)
  where
    unused : (k page : ℕ) → (let s : Slot = record { area = k; page = page } in slot_count (after l e) s == 0 && nat_lt 0 (slot_count l s)) ≡ false
    unused k page = ap (λ n. slot_count (after l e) (record { area = k; page = page }) == 0 && nat_lt 0 n) (none (record { area = k; page = page }))
        ∙ by (slot_count (after l e) (record { area = k; page = page }) == 0)
      where
        by : (b : Bool) → (b && false) ≡ false
        by true = refl
        by false = refl

    given : (k : ℕ) → fold give_slot (slots k)
        (filter (λ page. let s : Slot = record { area = k; page = page } in slot_count (after l e) s == 0 && nat_lt 0 (slot_count l s))
        (range_with_len 1 (unwrap_or (m.sizes k) 0 - 1))) ≡ slots k
    given k = ap (fold give_slot (slots k)) (none-passes _ 1 (unwrap_or (m.sizes k) 0 - 1) (λ page below. unused k page))

-- an event that neither moves a frame nor puts the list in order takes the first
pub record IsPlainChoice (e : Event) : Type 0 where
  pub first : takes_any e ≡ false
  pub sorts : sorts_free e ≡ false

pub takes-first : (m : Setting) (l : Ledger) (e : Event) (free free' : List ℕ) → IsPlainChoice e
    → (rest : List ℕ) × MatchOption (frame_in e) (free ≡ rest) (λ f. free ≡ f ∷ rest) × (free' ≡ new_free m l (after l e) ++ rest)
    → ChoosesFrame m l e free free'
takes-first m l e free free' plain h =
    subst (λ b. MatchBool b (free' ≡ free_frames m (after l e)) (TakesFrame m l e free free')) (sym plain.sorts)
    (subst (λ b. (rest : List ℕ) × MatchOption (frame_in e) (free ≡ rest) (λ f. MatchBool b (TakesOut f free rest) (free ≡ f ∷ rest))
    × (free' ≡ new_free m l (after l e) ++ rest)) (sym plain.first) h)

-- nothing is taken and nothing becomes free
pub chooses-kept : (m : Setting) (closing : Option ℕ) (l : Ledger) (e : Event) (free : Free) → ChoosesSlot m closing l e free.slots free.slots →
    IsPlainChoice e → frame_in e ≡ None → new_free m l (after l e) ≡ [] → Chooses m closing l e free free
chooses-kept m closing l e free slots sorts takes none = record {
  frames = takes-first m l e free.frames free.frames sorts (
    free.frames,
    subst (λ o. MatchOption o (free.frames ≡ free.frames) (λ f. free.frames ≡ f ∷ free.frames)) (sym takes) refl,
    ap (λ fs. fs ++ free.frames) (sym none),
  );
  slots = slots;
}

-- a frame is taken
pub chooses-taken : (m : Setting) (closing : Option ℕ) (l : Ledger) (e : Event) (f : ℕ) (rest : List ℕ) (slots : AreaSlots) →
    ChoosesSlot m closing l e slots slots → IsPlainChoice e → frame_in e ≡ Some f → new_free m l (after l e) ≡ []
    → Chooses m closing l e (record { frames = f ∷ rest; slots = slots }) (record { frames = rest; slots = slots })
chooses-taken m closing l e f rest slots kept sorts takes none = record {
  frames = takes-first m l e (f ∷ rest) rest sorts
      (rest, subst (λ o. MatchOption o ((f ∷ rest) ≡ rest) (λ g. (f ∷ rest) ≡ g ∷ rest)) (sym takes) refl, ap (λ fs. fs ++ rest) (sym none));
  slots = kept;
}

-- an entry is set where there was none that names a frame, or one of the same frame
pub new_free-set : (m : Setting) (k : Key) (e : Entry) (l : Ledger) → T (is_sorted key_cmp l.entries) →
    ((f : ℕ) → weight (names_frame f) (entry l k) ≤ cond (names_frame f e) 1 0) → new_free m l (set_entry k e l) ≡ []
new_free-set m k e l h less =
    new_free-none m l (set_entry k e l) (λ f below. let a = map_count-set k e l f h in let b = less f in omega (arith, a, b))

-- ---- an entry is taken away

zap-uses : (k : Key) (l : Ledger) (f : ℕ) → T (is_sorted key_cmp l.entries) → uses l f ≡ uses (after_zap k l) f + weight (names_frame f) (entry l k)
zap-uses k l f h =
    let a = map_count-after_zap k l f h in
    let b = ap (how_many (λ (c : Cached). f == c.frame)) (same_swap-after_zap k l).cache in
    omega (arith, a, b)

-- it names no frame
pub new_free-zap_none : (m : Setting) (k : Key) (l : Ledger) → T (is_sorted key_cmp l.entries) → ((f : ℕ) → weight (names_frame f) (entry l k) ≡ 0) →
    new_free m l (after_zap k l) ≡ []
new_free-zap_none m k l h none = new_free-none m l (after_zap k l) (λ f below. let a = zap-uses k l f h in let b = none f in omega (arith, a, b))

-- its frame has another use
pub new_free-zap_more : (m : Setting) (k : Key) (l : Ledger) (f : ℕ) (seen : Bool) → T (is_sorted key_cmp l.entries)
    → entry l k ≡ Some (InFrame f seen) →
    1 < uses l f → new_free m l (after_zap k l) ≡ []
new_free-zap_more m k l f seen h at more = empty
  where
    same-uses : (g : ℕ) → uses l g ≡ uses (after_zap k l) g + cond (g == f) 1 0
    same-uses g = zap-uses k l g h ∙ ap (λ o. uses (after_zap k l) g + weight (names_frame g) o) at

    by : (a b : Bool) (n n' : ℕ) (c : Bool) → (c ≡ true → 1 < n) → n ≡ n' + cond c 1 0 → a ≡ (n' == 0) → b ≡ (n == 0) → (a && not b) ≡ false
    by true true n n' c some e h i = refl
    by true false n n' true some e h i = let s = some refl in grind (arith, nat_tests, h, e, s)
    by true false n n' false some e h i = grind (arith, nat_tests, h, i, e)
    by false b n n' c some e h i = refl

    empty : new_free m l (after_zap k l) ≡ []
    empty = none-passes (λ g. is_free (after_zap k l) g && not (is_free l g)) 0 m.frames
        (λ g below. by (is_free (after_zap k l) g) (is_free l g) (uses l g) (uses (after_zap k l) g) (g == f)
        (λ is. subst (λ y. 1 < uses l y) (sym (same-is g f is)) more) (same-uses g) (free-is (after_zap k l) g) (free-is l g))

-- it was the last use of its frame
pub new_free-zap_last : (m : Setting) (k : Key) (l : Ledger) (f : ℕ) (seen : Bool) → T (is_sorted key_cmp l.entries)
    → entry l k ≡ Some (InFrame f seen) →
    f < m.frames → uses l f ≡ 1 → new_free m l (after_zap k l) ≡ f ∷ []
new_free-zap_last m k l f seen h at below one = new_free-one m l (after_zap k l) f below (omega (arith, one))
    (let a = same-uses f in let b = flag_is (f == f) (same-itself f) in omega (arith, a, b, one))
    (λ g other. let a = same-uses g in let b = flag_not (g == f) other in omega (arith, a, b))
  where
    same-uses : (g : ℕ) → uses l g ≡ uses (after_zap k l) g + cond (g == f) 1 0
    same-uses g = zap-uses k l g h ∙ ap (λ o. uses (after_zap k l) g + weight (names_frame g) o) at

    flag_is : (b : Bool) → b ≡ true → ◌≡◌ {A = ℕ} (cond b 1 0) 1
    flag_is true e = refl
    flag_is false e = cc

    flag_not : (b : Bool) → b ≡ false → ◌≡◌ {A = ℕ} (cond b 1 0) 0
    flag_not true e = cc
    flag_not false e = refl

-- ---- the frames alone, at several events

-- the free frames before and after several events
abbrev pub ChoosesFrames : Setting → Ledger → List Event → List ℕ → List ℕ → Type 0
ChoosesFrames m l [] free free' = free' ≡ free
ChoosesFrames m l (e ∷ es) free free' =
    (mid : List ℕ) × ChoosesFrame m l e free mid × ChoosesFrames m (after l e) es mid free'

pub frames-chosen : (m : Setting) (closing : Option ℕ) (l : Ledger) (es : List Event)
    (free free' : Free)
    → ChoosesAll m closing l es free free' → ChoosesFrames m l es free.frames free'.frames
frames-chosen m closing l [] free free' h = ap (λ (f : Free). f.frames) h
frames-chosen m closing l (e ∷ es) free free' h =
    (h.0.frames, h.1.frames, frames-chosen m closing (after l e) es h.0 free' h.2)

pub frames-first : (m : Setting) (l : Ledger) (es fs : List Event) (free free' : List ℕ)
    → ChoosesFrames m l (es ++ fs) free free'
    → (mid : List ℕ) × ChoosesFrames m l es free mid × ChoosesFrames m (after_all l es) fs mid free'
frames-first m l [] fs free free' h = (free, refl, h)
frames-first m l (e ∷ es) fs free free' h =
    let rest = frames-first m (after l e) es fs h.0 free' h.2 in
    (rest.0, (h.0, h.1, rest.1), rest.2)

-- and so it is of frames and slots
pub chosen-first : (m : Setting) (closing : Option ℕ) (l : Ledger) (es fs : List Event)
    (free free' : Free) → ChoosesAll m closing l (es ++ fs) free free'
    → (mid : Free) × ChoosesAll m closing l es free mid
    × ChoosesAll m closing (after_all l es) fs mid free'
chosen-first m closing l [] fs free free' h = (free, refl, h)
chosen-first m closing l (e ∷ es) fs free free' h = let rest = chosen-first m closing (after l e) es
    fs h.0 free' h.2 in (rest.0, (h.0, h.1, rest.1), rest.2)
