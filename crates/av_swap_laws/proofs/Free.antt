-- What an event makes free: the frames and slots that nothing names any more.
use Rattle.std.proofs.Common.{◌≡◌, ℕ, zero, suc, ◌+◌, ◌-◌, ◌<◌, ◌≤◌, Bool, true, false, cond, not, ◌&&◌, nat_lt, List, [], ◌∷◌, ◌++◌, filter, Option, Some, None, refl, sym, ap, subst, ◌∙◌, arith, ◌==◌}
use Rattle.std.proofs.lemmas.Bool.Decides.{nat_tests}
use Rattle.std.proofs.lemmas.Bool.{false≢true}
use Rattle.std.specs.List.{range_with_len}
use Rattle.std.specs.Prelude.{MatchBool, MatchOption, fold}
use Rattle.av_base.specs.Words.{with_at}
use Rattle.av_base.specs.declared.slot.Slot.{Slot}
use Rattle.av_clusters.specs.Clusters.{give_slot}
use Rattle.av_trace.specs.declared.note.Note.{Note}
use Rattle.av_plain.specs.Choice.{AreaSlots, Chooses, Free, IsGiven, SwitchesArea, TakesFrame, TakesOut, frame_in, frame_in_note, is_move, new_free, new_free_slots, slot_in, sorts_free, takes_any, slot_in_note, with_given_back}
use Rattle.av_plain.specs.Event.{Event, Noted, after, after_note}
use Rattle.av_plain.specs.Ledger.{Cached, Ledger, Setting, free_frames, is_free, is_on, is_usable, same_slot, size_of, slot_count, slot_entries}
use Rattle.av_plain.specs.Sound.{count, is_there, slots, uses}
use Rattle.av_plain.proofs.Sound.Changes.{any-counts, free-is}
use Rattle.av_plain.proofs.Sound.Counts.{same-is}
use Rattle.av_plain.proofs.Sound.Swap.Area.{none-left}

-- ---- filters of a range

-- none from one on does, where the only one that does is below
none-above : (test : ℕ → Bool) (x a n : ℕ) → x < a → ((y : ℕ) → (y == x) ≡ false → test y ≡ false) → filter test (range_with_len a n) ≡ []
none-above test x a zero less h = refl
none-above test x a (suc n) less h =
    ap (λ b. cond b (a ∷ filter test (range_with_len (a + 1) n)) (filter test (range_with_len (a + 1) n))) (h a (grind (arith, nat_tests, less)))
    ∙ none-above test x (a + 1) n (omega (arith, less)) h

one-passes : (test : ℕ → Bool) (x a n : ℕ) → a ≤ x → x < a + n → test x ≡ true → ((y : ℕ) → (y == x) ≡ false → test y ≡ false)
    → filter test (range_with_len a n) ≡ x ∷ []
one-passes test x a zero low high is others = absurd (omega (arith, low, high))
one-passes test x a (suc n) low high is others = by (a == x) refl
    (λ e. none-above test x (a + 1) n (omega (arith, e)) others) (λ low'. one-passes test x (a + 1) n low' (omega (arith, high)) is others)
  where
    by : (b : Bool) → (a == x) ≡ b → (a ≡ x → filter test (range_with_len (a + 1) n) ≡ [])
        → (a + 1 ≤ x → filter test (range_with_len (a + 1) n) ≡ x ∷ [])
        → filter test (range_with_len a (suc n)) ≡ x ∷ []
    by true e here later = let same = same-is a x e in
        ap (λ b. cond b (a ∷ filter test (range_with_len (a + 1) n)) (filter test (range_with_len (a + 1) n))) (ap test same ∙ is)
        ∙ (λ i. same i ∷ here same i)
    by false e here later =
        ap (λ b. cond b (a ∷ filter test (range_with_len (a + 1) n)) (filter test (range_with_len (a + 1) n))) (others a e)
        ∙ later (grind (arith, nat_tests, e, low))

-- ---- frames

-- a frame in use stays so
pub frames-none : (m : Setting) (l l' : Ledger) → ((g : ℕ) → 0 < uses l g → 0 < uses l' g) → new_free m l l' ≡ []
frames-none m l l' more = none-left (λ f. is_free l' f && not (is_free l f)) (range_with_len 0 m.frames)
    (λ f. by (is_free l' f) (is_free l f) (uses l f) (uses l' f) (free-is l' f) (free-is l f) (more f))
  where
    by : (a b : Bool) (n n' : ℕ) → a ≡ (n' == 0) → b ≡ (n == 0) → (0 < n → 0 < n') → (a && not b) ≡ false
    by true true n n' h i more = refl
    by true false n n' h i more = let some : 0 < n = grind (arith, nat_tests, i) in let p = more some in grind (arith, nat_tests, h, p)
    by false b n n' h i more = refl

-- but for this one
pub frames-one : (m : Setting) (l l' : Ledger) (f : ℕ) → f < m.frames → 0 < uses l f → uses l' f ≡ 0
    → ((g : ℕ) → (g == f) ≡ false → 0 < uses l g → 0 < uses l' g) → new_free m l l' ≡ f ∷ []
frames-one m l l' f below had gone more = one-passes (λ f. is_free l' f && not (is_free l f)) f 0 m.frames (omega arith) (omega (arith, below))
    (here (is_free l' f) (is_free l f) (uses l f) (uses l' f) (free-is l' f) (free-is l f) had gone)
    (λ g other. by (is_free l' g) (is_free l g) (uses l g) (uses l' g) (free-is l' g) (free-is l g) (more g other))
  where
    here : (a b : Bool) (n n' : ℕ) → a ≡ (n' == 0) → b ≡ (n == 0) → 0 < n → n' ≡ 0 → (a && not b) ≡ true
    here true true n n' h i some z = grind (arith, nat_tests, i, some)
    here true false n n' h i some z = refl
    here false b n n' h i some z = grind (arith, nat_tests, h, z)

    by : (a b : Bool) (n n' : ℕ) → a ≡ (n' == 0) → b ≡ (n == 0) → (0 < n → 0 < n') → (a && not b) ≡ false
    by true true n n' h i more = refl
    by true false n n' h i more = let some : 0 < n = grind (arith, nat_tests, i) in let p = more some in grind (arith, nat_tests, h, p)
    by false b n n' h i more = refl

-- ---- slots

-- a slot that nothing names has a count of 0, either way of counting
count-zero : (l : Ledger) (s : Slot) → (slot_count l s == 0) ≡ (count l s == 0)
count-zero l s = ap (λ b. slot_entries l s + cond b 1 0 == 0) (any-counts (λ (c : Cached). same_slot s c.slot) l.cache)
    ∙ both (slots l s) (slot_entries l s)
  where
    both : (n k : ℕ) → (k + cond (nat_lt 0 n) 1 0 == 0) ≡ (n + k == 0)
    both n k = by (nat_lt 0 n) refl
      where
        by : (b : Bool) → nat_lt 0 n ≡ b → (k + cond b 1 0 == 0) ≡ (n + k == 0)
        by true e = grind (arith, nat_tests, e)
        by false e = grind (arith, nat_tests, e)

not_zero : (n : ℕ) → nat_lt 0 n ≡ not (n == 0)
not_zero n = by (n == 0) refl
  where
    by : (b : Bool) → (n == 0) ≡ b → nat_lt 0 n ≡ not b
    by true e = grind (arith, nat_tests, e)
    by false e = grind (arith, nat_tests, e)

-- whether the slot has come free
has_come : (l l' : Ledger) (s : Slot) → (slot_count l' s == 0 && nat_lt 0 (slot_count l s)) ≡ (count l' s == 0 && not (count l s == 0))
has_come l l' s = λ i. count-zero l' s i && (not_zero (slot_count l s) ∙ ap not (count-zero l s)) i

pub slots-none : (m : Setting) (l l' : Ledger) (k : ℕ) → ((t : Slot) → 0 < count l t → 0 < count l' t) → new_free_slots m l l' k ≡ []
slots-none m l l' k more = none-left _ (range_with_len 1 (size_of m k - 1))
    (λ page. has_come l l' (record { area = k; page = page }) ∙ by _ _ (more (record { area = k; page = page })))
  where
    by : (n n' : ℕ) → (0 < n → 0 < n') → (n' == 0 && not (n == 0)) ≡ false
    by n n' more = each (n' == 0) (n == 0) refl refl
      where
        each : (a b : Bool) → (n' == 0) ≡ a → (n == 0) ≡ b → (a && not b) ≡ false
        each true true h i = refl
        each true false h i = let some : 0 < n = grind (arith, nat_tests, i) in let p = more some in grind (arith, nat_tests, h, p)
        each false b h i = refl

-- this one alone comes free
pub slots-one : (m : Setting) (l l' : Ledger) (s : Slot) → is_there m l s ≡ true → 0 < count l s → count l' s ≡ 0
    → ((t : Slot) → same_slot t s ≡ false → 0 < count l t → 0 < count l' t)
    → (k : ℕ) → new_free_slots m l l' k ≡ cond (k == s.area) (s.page ∷ []) []
slots-one m l l' s there had gone more k = by (k == s.area) refl
  where
    parts : (a b c d : Bool) → (a && b && c && d) ≡ true → (b ≡ true) × (c ≡ true)
    parts true true true d h = (refl, refl)
    parts true true false d h = absurd (false≢true h)
    parts true false c d h = absurd (false≢true h)
    parts false b c d h = absurd (false≢true h)

    bounds : (nat_lt 0 s.page ≡ true) × (nat_lt s.page (size_of m s.area) ≡ true)
    bounds = parts (is_on l s.area) (nat_lt 0 s.page) (nat_lt s.page (size_of m s.area)) (is_usable m s) there

    low : 1 ≤ s.page
    low = grind (arith, nat_tests, bounds.0)

    high : (n : ℕ) → nat_lt s.page n ≡ true → s.page < 1 + (n - 1)
    high n h = let l = low in grind (arith, nat_tests, h, l)

    still : (n n' : ℕ) → (0 < n → 0 < n') → (n' == 0 && not (n == 0)) ≡ false
    still n n' more = each (n' == 0) (n == 0) refl refl
      where
        each : (a b : Bool) → (n' == 0) ≡ a → (n == 0) ≡ b → (a && not b) ≡ false
        each true true h i = refl
        each true false h i = let some : 0 < n = grind (arith, nat_tests, i) in let p = more some in grind (arith, nat_tests, h, p)
        each false b h i = refl

    came : (n n' : ℕ) → 0 < n → n' ≡ 0 → (n' == 0 && not (n == 0)) ≡ true
    came n n' h i = each (n' == 0) (n == 0) refl refl
      where
        each : (a b : Bool) → (n' == 0) ≡ a → (n == 0) ≡ b → (a && not b) ≡ true
        each true true e f = grind (arith, nat_tests, f, h)
        each true false e f = refl
        each false b e f = grind (arith, nat_tests, e, i)

    apart : (page : ℕ) → (page == s.page) ≡ false → (s.area == s.area && page == s.page) ≡ false
    apart page h = grind (arith, nat_tests, h)

    by : (b : Bool) → (k == s.area) ≡ b → new_free_slots m l l' k ≡ cond b (s.page ∷ []) []
    by true e = ap (new_free_slots m l l') (same-is k s.area e)
        ∙ one-passes _ s.page 1 (size_of m s.area - 1) low (high (size_of m s.area) bounds.1)
        (has_come l l' s ∙ came (count l s) (count l' s) had gone)
        (λ page other. has_come l l' (record { area = s.area; page = page })
        ∙ still _ _ (more (record { area = s.area; page = page }) (apart page other)))
    by false e = none-left _ (range_with_len 1 (size_of m k - 1)) (λ page. has_come l l' (record { area = k; page = page })
        ∙ still _ _ (more (record { area = k; page = page }) (ap (λ b. b && page == s.page) e)))

-- ---- what is given back

pub given-none : (m : Setting) (l l' : Ledger) (free : AreaSlots) → ((t : Slot) → 0 < count l t → 0 < count l' t) → with_given_back m l l' free ≡ free
given-none m l l' free more = λ i k. ap (fold give_slot (free k)) (slots-none m l l' k more) i

pub given-one : (m : Setting) (l l' : Ledger) (s : Slot) (free : AreaSlots) → is_there m l s ≡ true → 0 < count l s → count l' s ≡ 0
    → ((t : Slot) → same_slot t s ≡ false → 0 < count l t → 0 < count l' t)
    → with_given_back m l l' free ≡ with_at s.area (give_slot (free s.area) s.page) free
given-one m l l' s free there had gone more = λ i k. each k i
  where
    each : (k : ℕ) → fold give_slot (free k) (new_free_slots m l l' k) ≡ cond (k == s.area) (give_slot (free s.area) s.page) (free k)
    each k = ap (fold give_slot (free k)) (slots-one m l l' s there had gone more k) ∙ by (k == s.area) refl
      where
        by : (b : Bool) → (k == s.area) ≡ b → fold give_slot (free k) (cond b (s.page ∷ []) []) ≡ cond b (give_slot (free s.area) s.page) (free k)
        by true e = ap (λ k. give_slot (free k) s.page) (same-is k s.area e)
        by false e = refl

-- ---- what is chosen

-- what is in use stays so
pub record FreesNone (l l' : Ledger) : Type 0 where
  pub frames : (g : ℕ) → 0 < uses l g → 0 < uses l' g
  pub slots : (t : Slot) → 0 < count l t → 0 < count l' t

-- frames are taken as by an event that doesn't put the free ones in order
takes-frames : (m : Setting) (l : Ledger) (e : Event) (free free' : List ℕ) → sorts_free e ≡ false → TakesFrame m l e free free'
    → MatchBool (sorts_free e) (free' ≡ free_frames m (after l e)) (TakesFrame m l e free free')
takes-frames m l e free free' unsorted h =
    subst (λ b. MatchBool b (free' ≡ free_frames m (after l e)) (TakesFrame m l e free free')) (sym unsorted) h

-- an event that takes neither a frame nor a slot, and turns no area
pub chooses-nothing : (m : Setting) (closing : Option ℕ) (l : Ledger) (e : Event) (free : Free) → FreesNone l (after l e) → frame_in e ≡ None
    → sorts_free e ≡ false → slot_in e ≡ None → SwitchesArea m e free.slots free.slots → Chooses m closing l e free free
chooses-nothing m closing l e free none no_frame no_order no_slot turns = record {
  frames = takes-frames m l e free.frames free.frames no_order (
    free.frames,
    subst (λ o. MatchOption o (free.frames ≡ free.frames) (λ f. MatchBool (takes_any e) (TakesOut f free.frames free.frames)
        (free.frames ≡ f ∷ free.frames))) (sym no_frame) refl,
    ap (λ fs. fs ++ free.frames) (sym (frames-none m l (after l e) none.frames)),
  );
  slots = (
    free.slots,
    free.slots,
    turns,
    subst (λ o. MatchOption o (free.slots ≡ free.slots) (λ s. IsGiven m closing l s free.slots free.slots)) (sym no_slot) refl,
    sym (given-none m l (after l e) free.slots none.slots),
  );
}

module _ (m : Setting) (closing : Option ℕ) (l : Ledger) (note : Note) (none : FreesNone l (after_note note l)) where
  -- a note that takes neither a frame nor a slot
  pub chooses-none : (free : Free) → frame_in_note note ≡ None → slot_in_note note ≡ None → Chooses m closing l (Noted note) free free
  chooses-none free no_frame no_slot = chooses-nothing m closing l (Noted note) free none no_frame refl no_slot refl

  -- one that takes a frame
  pub chooses-frame : (f : ℕ) (left : List ℕ) (free : AreaSlots) → frame_in_note note ≡ Some f → is_move note ≡ false → slot_in_note note ≡ None
      → Chooses m closing l (Noted note) (record { frames = f ∷ left; slots = free }) (record { frames = left; slots = free })
  chooses-frame f left free takes first no_slot = record {
    frames = (
      left,
      subst (λ o. MatchOption o ((f ∷ left) ≡ left) (λ g. MatchBool (is_move note) (TakesOut g (f ∷ left) left) ((f ∷ left) ≡ g ∷ left)))
          (sym takes) (subst (λ b. MatchBool b (TakesOut f (f ∷ left) left) ((f ∷ left) ≡ f ∷ left)) (sym first) refl),
      ap (λ fs. fs ++ left) (sym (frames-none m l (after_note note l) none.frames)),
    );
    slots = (
      free,
      free,
      refl,
      subst (λ o. MatchOption o (free ≡ free) (λ s. IsGiven m closing l s free free)) (sym no_slot) refl,
      sym (given-none m l (after_note note l) free none.slots),
    );
  }

  -- one that takes a slot
  pub chooses-slot : (s : Slot) (frames : List ℕ) (old left : AreaSlots) → frame_in_note note ≡ None → slot_in_note note ≡ Some s
      → IsGiven m closing l s old left
      → Chooses m closing l (Noted note) (record { frames = frames; slots = old }) (record { frames = frames; slots = left })
  chooses-slot s frames old left no_frame takes given = record {
    frames = (
      frames,
      subst (λ o. MatchOption o (frames ≡ frames) (λ f. MatchBool (is_move note) (TakesOut f frames frames) (frames ≡ f ∷ frames)))
          (sym no_frame) refl,
      ap (λ fs. fs ++ frames) (sym (frames-none m l (after_note note l) none.frames)),
    );
    slots = (
      old,
      left,
      refl,
      subst (λ o. MatchOption o (left ≡ old) (λ s. IsGiven m closing l s old left)) (sym takes) given,
      sym (given-none m l (after_note note l) left none.slots),
    );
  }

-- a note that takes a frame and leaves another one free
pub chooses-frame-for : (m : Setting) (closing : Option ℕ) (l : Ledger) (note : Note) (f g : ℕ) (left : List ℕ) (free : AreaSlots)
    → frame_in_note note ≡ Some f → is_move note ≡ false → slot_in_note note ≡ None → g < m.frames → 0 < uses l g → uses (after_note note l) g ≡ 0
    → ((j : ℕ) → (j == g) ≡ false → 0 < uses l j → 0 < uses (after_note note l) j)
    → ((t : Slot) → 0 < count l t → 0 < count (after_note note l) t)
    → Chooses m closing l (Noted note) (record { frames = f ∷ left; slots = free }) (record { frames = g ∷ left; slots = free })
chooses-frame-for m closing l note f g left free takes first no_slot below had gone more kept = record {
  frames = (
    left,
    subst (λ o. MatchOption o ((f ∷ left) ≡ left) (λ j. MatchBool (is_move note) (TakesOut j (f ∷ left) left) ((f ∷ left) ≡ j ∷ left)))
        (sym takes) (subst (λ b. MatchBool b (TakesOut f (f ∷ left) left) ((f ∷ left) ≡ f ∷ left)) (sym first) refl),
    ap (λ fs. fs ++ left) (sym (frames-one m l (after_note note l) g below had gone more)),
  );
  slots = (
    free,
    free,
    refl,
    subst (λ o. MatchOption o (free ≡ free) (λ s. IsGiven m closing l s free free)) (sym no_slot) refl,
    sym (given-none m l (after_note note l) free kept),
  );
}
