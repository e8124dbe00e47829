-- What stands before a frame is taken is determined, where no write fails: the order of the free frames and the
-- clusters of the swap areas leave no choice.
use Rattle.std.proofs.Common.{◌≡◌, ℕ, ◌+◌, ◌≤◌, Bool, true, false, cond, not, ◌&&◌, if◌then◌else◌, List, [], ◌∷◌, ◌++◌, Option, Some, None, is_none, is_some, refl, sym, ap, subst, ◌∙◌, arith, ◌==◌}
use Rattle.std.specs.Prelude.{min, IsSomeAnd, MatchBool, MatchOption, count_by}
use Rattle.av_base.specs.Words.{how_many, with_at}
use Rattle.av_base.specs.declared.slot.Slot.{Slot}
use Rattle.av_clusters.specs.Clusters.{Slots, fresh, take_slot, is_free as is_free_page}
use Rattle.av_swapdev.specs.Device.{most_pages}
use Rattle.av_swapdev.specs.Header.{Layout}
use Rattle.av_trace.specs.declared.note.Note.{Note}
use Rattle.av_trace.specs.declared.note.Note.TheVariants.{Zeroed, New, Copied, Loaded, Mapped, Put, Unmapped, Started, Written, Failed, Dropped, Kept, Aged, Joined, Moved, Shared}
use Rattle.av_plain.specs.Ledger.{HasNumbers, Ledger, Setting, SwapArea, free_frames, map_count, slot_of, has_free, size_of}
use Rattle.av_plain.specs.Event.{Event, FlagSet, Forked, FreeSorted, EntriesMoved, Noted, TurnedOff, TurnedOn, Used, Zapped, after, after_notes, when, note_events}
use Rattle.av_plain.specs.Pass.{Spared, end_note, end_notes, Completes, is_fail, fails, IsSlotFor, is_stuck, is_dirty, turn_notes, stays_cached, Turns as TakesTurns, frames_in_turn, IsPass, Seeks, TakesFor}
use Rattle.av_plain.specs.Choice.{AreFresh, AreaSlots, Chooses, ChoosesAll, ChoosesFrame, ChoosesSlot, Free, IsGiven, SwitchesArea, TakesFrame, TakesOut, frame_in, frame_in_note, is_move, new_free, slot_in, sorts_free, takes_any, with_given_back}
use Rattle.av_laws.specs.Determined.{Tells}
use Rattle.av_plain.proofs.Access.{note_events-append, note_events-all}
use Rattle.av_plain.proofs.Ledger.NoSwap.{has_free-some}
use Rattle.av_plain.proofs.Choice.{chosen-first}

-- ---- notes without a failed write

-- no write fails
abbrev pub IsDone : Note → Type 0
IsDone (Failed t) = ⊥
IsDone note = Unit {0}

abbrev pub AreDone : List Note → Type 0
AreDone [] = Unit {0}
AreDone (note ∷ notes) = IsDone note × AreDone notes

pub done-is : (notes : List Note) → fails notes ≡ 0 → AreDone notes
done-is [] none = tt
done-is (note ∷ notes) none = (first note none, done-is notes (rest (is_fail note) none))
  where
    rest : (b : Bool) → cond b 1 0 + how_many is_fail notes ≡ 0 → how_many is_fail notes ≡ 0
    rest b h = omega (arith, h)

    first : (note : Note) → cond (is_fail note) 1 0 + how_many is_fail notes ≡ 0 → IsDone note
    first (Zeroed p a) h = tt
    first (New p a g) h = tt
    first (Copied p a g) h = tt
    first (Loaded s g) h = tt
    first (Mapped p a g) h = tt
    first (Put g s) h = tt
    first (Unmapped g) h = tt
    first (Started s) h = tt
    first (Written s) h = tt
    first (Failed s) h = absurd (omega (arith, h))
    first (Dropped s) h = tt
    first (Kept g c) h = tt
    first (Aged g) h = tt
    first (Shared g) h = tt
    first (Joined p a g) h = tt
    first (Moved g k) h = tt

pub done-append : (a b : List Note) → AreDone (a ++ b) → AreDone a × AreDone b
done-append [] b h = (tt, h)
done-append (note ∷ a) b h = let rest = done-append a b h.1 in ((h.0, rest.0), rest.1)

-- ---- the frames that are free after an event

abbrev rest_of : List ℕ → List ℕ
rest_of [] = []
rest_of (f ∷ fs) = fs

abbrev first_of : List ℕ → ℕ
first_of [] = 0
first_of (f ∷ fs) = f

frames-same : (m : Setting) (l : Ledger) (e : Event) (free a b : List ℕ) → ChoosesFrame m l e free a
    → ChoosesFrame m l e free b → a ≡ b
frames-same m l e free a b h g = sorts (sorts_free e) h g
  where
    by : (o : Option ℕ) (any : Bool) (r q : List ℕ) → MatchOption o (free ≡ r) (λ f. MatchBool any (TakesOut f free r) (free ≡ f ∷ r))
        → MatchOption o (free ≡ q) (λ f. MatchBool any (TakesOut f free q) (free ≡ f ∷ q)) → r ≡ q
    by None any r q x y = sym x ∙ y
    by (Some f) true r q x y = x.1 ∙ sym y.1
    by (Some f) false r q x y = ap rest_of (sym x ∙ y)

    sorts : (s : Bool) → MatchBool s (a ≡ free_frames m (after l e)) (TakesFrame m l e free a)
        → MatchBool s (b ≡ free_frames m (after l e)) (TakesFrame m l e free b) → a ≡ b
    sorts true h g = h ∙ sym g
    sorts false h g = h.2 ∙ ap (λ rest. new_free m l (after l e) ++ rest) (by (frame_in e) (takes_any e) h.0 g.0 h.1 g.1) ∙ sym g.2

-- ---- the slots

-- the clusters of an area that is turned on follow from its header
fresh-same : (m : Setting) (k : ℕ) (area : SwapArea) (made made' : Slots) → Tells m
    → AreFresh m k area made → AreFresh m k area made' → made ≡ made'
fresh-same m k area made made' told h g = by m.headers told h g
  where
    of_layout : (o : Option Layout)
        → IsSomeAnd o (λ (h : Layout). HasNumbers area h × (made ≡ fresh h.pages h.bad))
        → IsSomeAnd o (λ (h : Layout). HasNumbers area h × (made' ≡ fresh h.pages h.bad))
        → made ≡ made'
    of_layout None h g = absurd h
    of_layout (Some layout) h g = h.1 ∙ sym g.1

    by : (o : Option (ℕ → Option Layout)) → is_some o ≡ true
        → MatchOption o ((pages : ℕ) × (bad : List ℕ) × (pages ≤ min (size_of m k) most_pages)
        × (1 + area.slots + area.bad ≡ pages) × (made ≡ fresh pages bad)
        × (count_by is_free_page made.pages ≡ area.slots))
        (λ headers. IsSomeAnd (headers k)
        (λ (h : Layout). HasNumbers area h × (made ≡ fresh h.pages h.bad)))
        → MatchOption o ((pages : ℕ) × (bad : List ℕ) × (pages ≤ min (size_of m k) most_pages)
        × (1 + area.slots + area.bad ≡ pages) × (made' ≡ fresh pages bad)
        × (count_by is_free_page made'.pages ≡ area.slots))
        (λ headers. IsSomeAnd (headers k)
        (λ (h : Layout). HasNumbers area h × (made' ≡ fresh h.pages h.bad)))
        → made ≡ made'
    by None told h g = cc
    by (Some headers) told h g = of_layout (headers k) h g

turns-same : (m : Setting) (e : Event) (old a b : AreaSlots) → Tells m → SwitchesArea m e old a
    → SwitchesArea m e old b → a ≡ b
turns-same m (Noted note) old a b told h g = h ∙ sym g
turns-same m (Zapped k) old a b told h g = h ∙ sym g
turns-same m (Used write k) old a b told h g = h ∙ sym g
turns-same m (Forked p c pages) old a b told h g = h ∙ sym g
turns-same m (EntriesMoved p n from to) old a b told h g = h ∙ sym g
turns-same m (FlagSet p from n flag set) old a b told h g = h ∙ sym g
turns-same m (TurnedOn k area) old a b told h g =
    h.2 ∙ ap (λ made. with_at k made old) (fresh-same m k area h.0 g.0 told h.1 g.1) ∙ sym g.2
turns-same m (TurnedOff k) old a b told h g = h ∙ sym g
turns-same m FreeSorted old a b told h g = h ∙ sym g

-- what is left when a slot is given
given-same : (m : Setting) (closing : Option ℕ) (l : Ledger) (s : Slot) (slots a b : AreaSlots)
    → IsGiven m closing l s slots a → IsGiven m closing l s slots b → a ≡ b
given-same m closing l s slots a b h g = by (take_slot (slots s.area)) h.1 g.1
  where
    by : (o : Option (ℕ × Slots))
        → IsSomeAnd o (λ t. (t.0 ≡ s.page) × (a ≡ with_at s.area t.1 slots))
        → IsSomeAnd o (λ t. (t.0 ≡ s.page) × (b ≡ with_at s.area t.1 slots)) → a ≡ b
    by None h g = absurd h
    by (Some t) h g = h.1 ∙ sym g.1

-- which slot is given
pub slot-same : (m : Setting) (closing : Option ℕ) (l : Ledger) (s s' : Slot)
    (slots a b : AreaSlots) → IsGiven m closing l s slots a → IsGiven m closing l s' slots b
    → s ≡ s'
slot-same m closing l s s' slots a b h g =
    let area : s.area ≡ s'.area = inner (sym h.0 ∙ g.0) in
    let page = by (take_slot (slots s.area)) h.1
    (subst (λ k. IsSomeAnd (take_slot (slots k))
    (λ t. (t.0 ≡ s'.page) × (b ≡ with_at k t.1 slots))) (sym area) g.1) in
    λ i. record { area = area i; page = page i }
  where
    inner : {x y : ℕ} → Some x ≡ Some y → x ≡ y
    inner e = cc

    by : (o : Option (ℕ × Slots))
        → IsSomeAnd o (λ t. (t.0 ≡ s.page) × (a ≡ with_at s.area t.1 slots))
        → IsSomeAnd o (λ t. (t.0 ≡ s'.page) × (b ≡ with_at s.area t.1 slots)) → s.page ≡ s'.page
    by None h g = absurd h
    by (Some t) h g = sym h.0 ∙ g.0

slots-same : (m : Setting) (closing : Option ℕ) (l : Ledger) (e : Event) (slots a b : AreaSlots)
    → Tells m → ChoosesSlot m closing l e slots a → ChoosesSlot m closing l e slots b → a ≡ b
slots-same m closing l e slots a b told h g =
    let on = turns-same m e slots h.0 g.0 told h.2 g.2 in
    let there = subst (λ on. MatchOption (slot_in e) (g.1 ≡ on) (λ s. IsGiven m closing l s on g.1))
    (sym on) g.3 in
    h.4 ∙ ap (with_given_back m l (after l e)) (by (slot_in e) h.3 there) ∙ sym g.4
  where
    by : (o : Option Slot) → MatchOption o (h.1 ≡ h.0) (λ s. IsGiven m closing l s h.0 h.1)
        → MatchOption o (g.1 ≡ h.0) (λ s. IsGiven m closing l s h.0 g.1) → h.1 ≡ g.1
    by None x y = x ∙ sym y
    by (Some s) x y = given-same m closing l s h.0 h.1 g.1 x y

-- ---- what is free

pub chooses-same : (m : Setting) (closing : Option ℕ) (l : Ledger) (e : Event) (free a b : Free)
    → Tells m → Chooses m closing l e free a → Chooses m closing l e free b → a ≡ b
chooses-same m closing l e free a b told h g =
    let frames = frames-same m l e free.frames a.frames b.frames h.frames g.frames in
    let slots = slots-same m closing l e free.slots a.slots b.slots told h.slots g.slots in
    λ i. record { frames = frames i; slots = slots i }

pub chooses-one : (m : Setting) (closing : Option ℕ) (l : Ledger) (es : List Event)
    (free a b : Free) → Tells m → ChoosesAll m closing l es free a
    → ChoosesAll m closing l es free b → a ≡ b
chooses-one m closing l [] free a b told h i = h ∙ sym i
chooses-one m closing l (e ∷ es) free a b told h i =
    chooses-one m closing (after l e) es i.0 a b told
    (subst (λ x. ChoosesAll m closing (after l e) es x a)
    (chooses-same m closing l e free h.0 i.0 told h.1 i.1) h.2) i.2

-- ---- notes whose frames and slots are chosen exactly, and no write of which fails

pub record Given (m : Setting) (closing : Option ℕ) (l : Ledger) (free : Free)
    (notes : List Note) : Type 0 where
  pub done : AreDone notes
  pub left : Free
  pub chosen : ChoosesAll m closing l (note_events notes) free left

pub given-is : (m : Setting) (closing : Option ℕ) (l : Ledger) (free : Free) (a b : List Note)
    → a ≡ b → Given m closing l free a → Given m closing l free b
given-is m closing l free a b e g = subst (Given m closing l free) e g

pub given-parts : (m : Setting) (closing : Option ℕ) (l : Ledger) (free : Free) (a b : List Note)
    → Given m closing l free (a ++ b)
    → (mid : Free) × Given m closing l free a × ChoosesAll m closing l (note_events a) free mid
    × Given m closing (after_notes l a) mid b
given-parts m closing l free a b g =
    let x = done-append a b g.done in
    let c = chosen-first m closing l (note_events a) (note_events b) free g.left
    (subst (λ es. ChoosesAll m closing l es free g.left) (note_events-append a b) g.chosen) in (
      c.0,
      record { done = x.0; left = c.0; chosen = c.1 },
      c.1,
      record {
        done = x.1;
        left = g.left;
        chosen = subst
            (λ l'. ChoosesAll m closing l' (note_events b) c.0 g.left) (note_events-all l a) c.2;
      },
    )

-- after the same notes the same is free
pub left-one : (m : Setting) (closing : Option ℕ) (l : Ledger) (a b : List Note)
    (free left left' : Free) → Tells m → a ≡ b → ChoosesAll m closing l (note_events a) free left
    → ChoosesAll m closing l (note_events b) free left' → left' ≡ left
left-one m closing l a b free left left' told e h g =
    chooses-one m closing l (note_events a) free left' left told
    (subst (λ s. ChoosesAll m closing l (note_events s) free left') (sym e) g) h

-- ---- writes in flight

ends-well : (l : Ledger) (t : Slot) (failed : Bool) (rest : List Note)
    → AreDone (end_notes l t failed ++ rest) → failed ≡ false
ends-well l t true rest h = absurd h.0
ends-well l t false rest h = refl

pub completes-one : (l : Ledger) (ts : List Slot) (a b : List Note) → Completes l ts a
    → Completes l ts b → AreDone a → AreDone b → a ≡ b
completes-one l [] a b c d x y = c ∙ sym d
completes-one l (t ∷ ts) a b c d x y =
    let xs = subst AreDone c.2 x in
    let ys = subst AreDone d.2 y in
    let f = ends-well l t c.0 c.1 xs in
    let g = ends-well l t d.0 d.1 ys in
    let x' = done-append (end_notes l t false) c.1
    (subst (λ v. AreDone (end_notes l t v ++ c.1)) f xs) in
    let y' = done-append (end_notes l t false) d.1
    (subst (λ v. AreDone (end_notes l t v ++ d.1)) g ys) in
    let same = completes-one (after_notes l (end_notes l t false)) ts c.1 d.1
    (subst (λ v. Completes (after_notes l (end_notes l t v)) ts c.1) f c.3)
    (subst (λ v. Completes (after_notes l (end_notes l t v)) ts d.1) g d.3) x'.1 y'.1 in
    c.2 ∙ (λ i. end_notes l t (f i) ++ c.1) ∙ ap (λ r. end_notes l t false ++ r) same ∙ sym (λ i. end_notes l t (g i) ++ d.1) ∙ sym d.2

-- ---- turns

-- a turn that doesn't fail ends the pass
turn-is : (f : ℕ) (s : Slot) (d a b failed : Bool) (notes : List Note) (X : List Note → Type 0)
    → MatchBool (d && failed) ((rest : List Note) × (notes ≡ ((when a (Put f s) ++ when b (Unmapped f))
    ++ (if d then Started s ∷ end_note failed s ∷ [] else [])) ++ rest) × X rest)
    (notes ≡ ((when a (Put f s) ++ when b (Unmapped f)) ++ (if d then Started s ∷ end_note failed s ∷ [] else [])) ++ Dropped s ∷ [])
    → AreDone notes → notes ≡ ((when a (Put f s) ++ when b (Unmapped f))
    ++ (if d then Started s ∷ end_note false s ∷ [] else [])) ++ Dropped s ∷ []
turn-is f s false a b failed notes X h x = h
turn-is f s true a b false notes X h x = h
turn-is f s true a b true notes X h x = absurd (fails_there a b (subst AreDone h.1 x))
  where
    fails_there : (a b : Bool)
        → AreDone (((when a (Put f s) ++ when b (Unmapped f)) ++ Started s ∷ Failed s ∷ []) ++ h.0)
        → ⊥
    fails_there true true y = y.1.1.1.0
    fails_there true false y = y.1.1.0
    fails_there false true y = y.1.1.0
    fails_there false false y = y.1.0

-- the slot that a first note puts a frame at is given
put-given : (m : Setting) (closing : Option ℕ) (l : Ledger) (free : Free) (f : ℕ) (s : Slot)
    (notes : List Note) → Given m closing l free (Put f s ∷ notes) → (left : AreaSlots)
    × IsGiven m closing l s free.slots left
put-given m closing l free f s notes
    g = let c = g.chosen.1.slots in (c.1, subst (λ on. IsGiven m closing l s on c.1) c.2 c.3)

-- the slot is the frame's, or the one that is given
pub slot-one : (m : Setting) (closing : Option ℕ) (l : Ledger) (free : Free) (f : ℕ) (s s' : Slot)
    (o : Option Slot) (P P' : Type 0) (x x' y y' z z' : List Note) → MatchOption o P (λ t. s ≡ t)
    → MatchOption o P' (λ t. s' ≡ t)
    → Given m closing l free (((when (is_none o) (Put f s) ++ x) ++ y) ++ z)
    → Given m closing l free (((when (is_none o) (Put f s') ++ x') ++ y') ++ z') → s ≡ s'
slot-one m closing l free f s s' (Some t) P P' x x' y y' z z' h h' e e' = h ∙ sym h'
slot-one m closing l free f s s' None P P' x x' y y' z z' h h' e e' =
    let a = put-given m closing l free f s ((x ++ y) ++ z) e in
    let b = put-given m closing l free f s' ((x' ++ y') ++ z') e' in
    slot-same m closing l s s' free.slots a.0 b.0 a.1 b.1

turns-one : (m : Setting) (closing : Option ℕ) (sp : Spared) (l : Ledger) (free : Free)
    (fs : List ℕ) (a b : List Note) → TakesTurns m sp l fs a → TakesTurns m sp l fs b
    → Given m closing l free a → Given m closing l free b → a ≡ b
turns-one m closing sp l free [] a b t u x y = t ∙ sym u
turns-one m closing sp l free (f ∷ fs) a b t u x y = by (is_stuck m sp l f)
    (turns-one m closing sp l free fs a b) t u
  where
    by : (b' : Bool) → (TakesTurns m sp l fs a → TakesTurns m sp l fs b → Given m closing l free a
        → Given m closing l free b → a ≡ b)
        → MatchBool b' (TakesTurns m sp l fs a)
        ((s : Slot) × (failed : Bool) × IsSlotFor m sp l f s
        × MatchBool (stays_cached l f s failed)
        ((rest : List Note) × (a ≡ turn_notes l f s failed ++ rest)
        × TakesTurns m sp (after_notes l (turn_notes l f s failed)) fs rest)
        (a ≡ turn_notes l f s failed ++ Dropped s ∷ []))
        → MatchBool b' (TakesTurns m sp l fs b)
        ((s : Slot) × (failed : Bool) × IsSlotFor m sp l f s
        × MatchBool (stays_cached l f s failed)
        ((rest : List Note) × (b ≡ turn_notes l f s failed ++ rest)
        × TakesTurns m sp (after_notes l (turn_notes l f s failed)) fs rest)
        (b ≡ turn_notes l f s failed ++ Dropped s ∷ [])) → a ≡ b
    by true again t u = again t u x y
    by false again t u =
        let is = turn-is f t.0 (is_dirty l f t.0) (is_none (slot_of l f)) (not (map_count l f == 0))
        t.1 a (λ rest. TakesTurns m sp (after_notes l (turn_notes l f t.0 t.1)) fs rest) t.3
        x.done in
        let is' = turn-is f u.0 (is_dirty l f u.0) (is_none (slot_of l f))
        (not (map_count l f == 0)) u.1 b
        (λ rest. TakesTurns m sp (after_notes l (turn_notes l f u.0 u.1)) fs rest) u.3 y.done in
        let same = slot-one m closing l free f t.0 u.0 (slot_of l f) _ _ _ _ _ _ _ _ t.2 u.2
        (subst (Given m closing l free) is x) (subst (Given m closing l free) is' y) in
        is ∙ ap (λ s. turn_notes l f s false ++ Dropped s ∷ []) same ∙ sym is'

-- ---- a pass, if there is one

pub seeks-one : (m : Setting) (closing : Option ℕ) (told : Tells m) (sp : Spared) (l : Ledger)
    (free : Free) (a b : List Note) → Seeks m sp l a → Seeks m sp l b → Given m closing l free a
    → Given m closing l free b → a ≡ b
seeks-one m closing told sp l free a b s t x y = by (has_free m l) s t
  where
    turned : (v : Bool) (now : Ledger) (mid : Free) (p q : List Note)
        → MatchBool v (p ≡ []) (TakesTurns m sp now (frames_in_turn sp now) p)
        → MatchBool v (q ≡ []) (TakesTurns m sp now (frames_in_turn sp now) q)
        → Given m closing now mid p → Given m closing now mid q → p ≡ q
    turned true now mid p q h g x y = h ∙ sym g
    turned false now mid p q h g x y = turns-one m closing sp now mid (frames_in_turn sp now) p q h
        g x y

    by : (v : Bool) → MatchBool v (a ≡ []) (IsPass m sp l a) → MatchBool v (b ≡ []) (IsPass m sp l b) → a ≡ b
    by true s t = s ∙ sym t
    by false s t =
        let xs = given-parts m closing l free s.0 s.1 (given-is m closing l free a _ s.2 x) in
        let ys = given-parts m closing l free t.0 t.1 (given-is m closing l free b _ t.2 y) in
        let done = completes-one l l.flight s.0 t.0 s.3 t.3 xs.1.done ys.1.done in
        let mids = left-one m closing l s.0 t.0 free xs.0 ys.0 told done xs.2 ys.2 in
        let there = subst (λ d. MatchBool (has_free m (after_notes l d)) (t.1 ≡ [])
        (TakesTurns m sp (after_notes l d) (frames_in_turn sp (after_notes l d)) t.1))
        (sym done) t.4 in
        let given = subst (λ mid. Given m closing (after_notes l s.0) mid t.1) mids
        (subst (λ d. Given m closing (after_notes l d) ys.0 t.1) (sym done) ys.3) in
        let rest = turned (has_free m (after_notes l s.0)) (after_notes l s.0) xs.0 s.1 t.1 s.4
        there xs.3 given in
        s.2 ∙ (λ i. done i ++ rest i) ∙ sym t.2

-- a note that takes a frame
pub takes-one : (m : Setting) (closing : Option ℕ) (told : Tells m) (sp : Spared) (l : Ledger)
    (free : Free) (a b : List Note) (note : ℕ → Note) → ((f : ℕ) → (frame_in_note (note f) ≡ Some f) × (is_move (note f) ≡ false))
    → TakesFor m sp l a note → TakesFor m sp l b note → Given m closing l free a
    → Given m closing l free b → a ≡ b
takes-one m closing told sp l free a b note takes h g x y =
    let xs = given-parts m closing l free h.sought (note h.frame ∷ [])
    (given-is m closing l free a _ h.whole x) in
    let ys = given-parts m closing l free g.sought (note g.frame ∷ [])
    (given-is m closing l free b _ g.whole y) in
    let same = seeks-one m closing told sp l free h.sought g.sought h.seeks g.seeks xs.1 ys.1 in
    let mids = left-one m closing l h.sought g.sought free xs.0 ys.0 told same xs.2 ys.2 in
    let one = head (frame_in_note (note h.frame)) (is_move (note h.frame)) (takes h.frame).0 (takes h.frame).1 xs.3.chosen.1.frames.1 in
    let other = head (frame_in_note (note g.frame)) (is_move (note g.frame)) (takes g.frame).0 (takes g.frame).1 ys.3.chosen.1.frames.1 in
    let frame : h.frame ≡ g.frame = ap first_of
    (sym one ∙ ap (λ (f : Free). f.frames) (sym mids) ∙ other) in
    h.whole ∙ (λ i. same i ++ note (frame i) ∷ []) ∙ sym g.whole
  where
    head : {mid rest : List ℕ} {f : ℕ} (o : Option ℕ) (any : Bool) → o ≡ Some f → any ≡ false
        → MatchOption o (mid ≡ rest) (λ f. MatchBool any (TakesOut f mid rest) (mid ≡ f ∷ rest)) → mid ≡ f ∷ rest
    head {mid} {rest} {f} o any e n h = subst (λ b. MatchBool b (TakesOut f mid rest) (mid ≡ f ∷ rest)) n
        (subst (λ o. MatchOption o (mid ≡ rest) (λ f. MatchBool any (TakesOut f mid rest) (mid ≡ f ∷ rest))) e h)

-- where a frame is taken, the same pass does not leave none
pub none-taken : (m : Setting) (closing : Option ℕ) (told : Tells m) (sp : Spared) (l : Ledger)
    (free : Free) (a b : List Note) (note : ℕ → Note) → TakesFor m sp l a note → Seeks m sp l b
    → has_free m (after_notes l b) ≡ false
    → Given m closing l free a → Given m closing l free b → ⊥
none-taken m closing told sp l free a b note h seeks none x y =
    let xs = given-parts m closing l free h.sought (note h.frame ∷ [])
    (given-is m closing l free a _ h.whole x) in
    let same = seeks-one m closing told sp l free h.sought b h.seeks seeks xs.1 y in
    differ (has_free m (after_notes l b)) (ap (λ s. has_free m (after_notes l s)) (sym same)
    ∙ has_free-some m (after_notes l h.sought) h.frame h.in_range h.free) none
  where
    differ : (b : Bool) → b ≡ true → b ≡ false → ⊥
    differ b h g = cc
