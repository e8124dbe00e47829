-- Soundness after a read or write.
use Rattle.std.proofs.Common.{◌≡◌, ◌⊎◌, inl, inr, ℕ, ◌<◌, Bool, true, false, cond, not, ◌&&◌, ◌||◌, nat_lt, List, [], ◌∷◌, ◌++◌, Option, Some, None, refl, sym, ap, subst, ◌∙◌, arith, ◌==◌}
use Rattle.std.proofs.lemmas.Bool.Decides.{nat_tests}
use Rattle.av_base.specs.Keys.{Key}
use Rattle.av_base.specs.Page.{address_of}
use Rattle.av_base.specs.declared.slot.Slot.{Slot}
use Rattle.av_trace.specs.declared.note.Note.{Note}
use Rattle.av_trace.specs.declared.note.Note.TheVariants.{Copied, Dropped, Loaded, Mapped, New}
use Rattle.av_trace.specs.declared.reply.OutOf.{OutOf}
use Rattle.av_plain.specs.Access.{Accesses, End, page_events}
use Rattle.av_plain.specs.Event.{Event, Used, after_all, after_note, after_notes, after_use, note_events, set_entry, to_inactive_head, when}
use Rattle.av_plain.specs.Fault.{ComesIn, CopyOnWrite, Denied, IsMade, Lost, Ready, RunsOut, Serves, Sparing, Starved, Stop, Takes, Touches, drop_at, drop_of_entry, drop_of_slot, is_named, asks_copy, need, need_of_slot, pinned_by, sparing, was_slot}
use Rattle.av_plain.specs.Ledger.{IsBlank, Entry, InFrame, InSlot, Ledger, Setting, Zero, entry, frame_at, in_flight, is_free, is_full, map_count, names_frame, names_slot, same_slot, slot_entries, slot_of}
use Rattle.av_plain.specs.Sound.{IsSound, flights, no_excuse, uses}
use Rattle.av_plain.specs.World.{World, pages}
use Rattle.av_plain.proofs.Access.{accesses-keep, after_all-append, after_notes-append, note_events-all}
use Rattle.av_plain.proofs.Ledger.{how_many-found}
use Rattle.av_plain.proofs.Ledger.NoSwap.{key_at-address, zero_is}
use Rattle.av_plain.proofs.Sound.Changes.{after_use-kept, any-counts, drop-sound, free-is, loaded-kept}
use Rattle.av_plain.proofs.Sound.Counts.{frame_at-none, frame_at-some, same-itself, slot-itself, slot_of-some}
use Rattle.av_plain.proofs.Sound.Entries.{mapped-kept, new-kept, zeroed-kept}
use Rattle.av_plain.proofs.Sound.Pass.{seeks-kept}
use Rattle.av_plain.proofs.Sound.Steps.{Keeps, is_steady}
use Rattle.av_plain.specs.Fault.{is_locked}
use Rattle.av_plain.specs.Pass.{is_spared}
use Rattle.av_plain.specs.Ledger.{is_merged}
use Rattle.av_plain.specs.Event.{change_frame}
use Rattle.av_plain.proofs.Sound.Sharing.{ByFrame, ByMerge, BySlot, IsSharedBy, copied-kept, free-apart}

pub unused : (l : Ledger) (f : ℕ) → is_free l f ≡ true → uses l f ≡ 0
unused l f h = zero_is (uses l f) (sym (free-is l f) ∙ h)

-- a pass for a copy leaves the frame alone that is copied
abbrev pub Pins : Sparing → Type 0
Pins sp = (l : Ledger) (g : ℕ) → is_spared (sp l (Some g)) g ≡ true

pub sparing-pins : (w : World) → Pins (sparing w)
sparing-pins w l g = ap (λ b. b || is_locked w l g) (same-itself g)

-- ---- a page comes in

-- a frame takes the page of a slot that isn't cached and that an entry names
pub record LoadKept (m : Setting) (l : Ledger) (t : Slot) (l' : Ledger) : Type 0 where
  pub sound : IsSound m l'
  pub steady : (k : Key) (r : Slot) → entry l k ≡ Some (InSlot r) → entry l' k ≡ Some (InSlot r)

pub load-kept : (m : Setting) (sp : Sparing) (l : Ledger) (t : Slot) (notes : List Note) → IsSound m l → frame_at l t ≡ None → 0 < slot_entries l t →
    Takes m sp l None notes (Loaded t) → LoadKept m l t (after_notes l notes)
load-kept m sp l t notes s out named takes =
    let passed = seeks-kept m (sp l None) l takes.sought s takes.seeks in
    let l1 = after_notes l takes.sought in
    subst (λ ns. LoadKept m l t (after_notes l ns)) (sym takes.whole)
    (subst (LoadKept m l t) (sym (after_notes-append l takes.sought (Loaded t takes.frame ∷ [])))
    (record {
      sound = loaded-kept m no_excuse l1 t takes.frame passed.sound (passed.keeps.absent t (frame_at-none t l.cache out) named)
          (let a = passed.keeps.more t in
          omega (arith, a, named)) takes.in_range (unused l1 takes.frame takes.free);
      steady = λ k r h. passed.keeps.steady k (ap (is_steady (is_spared (sp l None))) h) ∙ h;
    }))

map-kept : (m : Setting) (l : Ledger) (k : Key) (f : ℕ) (t : Slot) → IsSound m l → entry l k ≡ Some (InSlot t) → frame_at l t ≡ Some f →
    IsSound m (after_notes l (Mapped k.0 (address_of k.1) f ∷ []))
map-kept m l k f t s at is = subst (λ q. IsSound m (set_entry q (InFrame f false) l)) (sym (key_at-address k))
    (mapped-kept m no_excuse l k f t s at (frame_at-some f t l.cache is))

pub comes-kept : (m : Setting) (sp : Sparing) (l : Ledger) (write : Bool) (k : Key) (notes : List Note) → IsSound m l →
    ComesIn m sp l k (need write l (entry l k)) notes → IsSound m (after_notes l notes)
comes-kept m sp l write k notes s h = by write (entry l k) refl h
  where
    none : notes ≡ [] → IsSound m (after_notes l notes)
    none e = subst (λ ns. IsSound m (after_notes l ns)) (sym e) s

    slot : (t : Slot) → entry l k ≡ Some (InSlot t) → (o : Option ℕ) → frame_at l t ≡ o → ComesIn m sp l k (need_of_slot t o) notes →
        IsSound m (after_notes l notes)
    slot t at None out q =
        let named = how_many-found (names_slot t) k l.entries (InSlot t) at (slot-itself t) in
        let load = load-kept m sp l t q.0 s out named q.2 in
        subst (λ ns. IsSound m (after_notes l ns)) (sym q.4)
        (subst (IsSound m) (sym (after_notes-append l q.0 (Mapped k.0 (address_of k.1) q.1 ∷ [])))
        (map-kept m (after_notes l q.0) k q.1 t load.sound (load.steady k t at) q.3))
    slot t at (Some f) is q = subst (λ ns. IsSound m (after_notes l ns)) (sym q) (map-kept m l k f t s at is)

    ready : (b : Bool) (g : ℕ) → ComesIn m sp l k (cond b (CopyOnWrite g) Ready) notes → notes ≡ []
    ready true g q = q
    ready false g q = q

    by : (write : Bool) (o : Option Entry) → entry l k ≡ o → ComesIn m sp l k (need write l o) notes → IsSound m (after_notes l notes)
    by false None is q = none q
    by true None is q = none q
    by false (Some Zero) is q = none q
    by true (Some Zero) is q = none q
    by false (Some (InFrame g seen)) is q = none q
    by true (Some (InFrame g seen)) is q = none (ready (asks_copy l g) g q)
    by false (Some (InSlot t)) is q = slot t is (frame_at l t) refl q
    by true (Some (InSlot t)) is q = slot t is (frame_at l t) refl q

-- ---- a page is made
pub shared-is : (l : Ledger) (g : ℕ) → asks_copy l g ≡ true → IsSharedBy l g
shared-is l g h = by (nat_lt 1 (map_count l g)) refl (slot_of l g) refl h
  where
    by : (b : Bool) → nat_lt 1 (map_count l g) ≡ b → (o : Option Slot) → slot_of l g ≡ o → (b || is_named l o || is_merged l g) ≡ true → IsSharedBy l g
    by true is o at h = ByFrame (grind (arith, nat_tests, is))
    by false is None at h = ByMerge (some _ (sym (any-counts (λ y. g == y) l.merged) ∙ h))
      where
        some : (n : ℕ) → nat_lt 0 n ≡ true → 0 < n
        some n e = grind (arith, nat_tests, e)
    by false is (Some t) at h = named (nat_lt 0 (slot_entries l t)) refl h
      where
        some : (n : ℕ) → nat_lt 0 n ≡ true → 0 < n
        some n e = grind (arith, nat_tests, e)

        named : (c : Bool) → nat_lt 0 (slot_entries l t) ≡ c → (c || is_merged l g) ≡ true → IsSharedBy l g
        named true i h = BySlot t (slot_of-some g t l.cache at) (some _ i)
        named false i h = ByMerge (some _ (sym (any-counts (λ y. g == y) l.merged) ∙ h))

-- what shares the frame does so after a pass that leaves the frame alone
pub shared-stays : (spared : ℕ → Bool) (l l' : Ledger) (g : ℕ) → spared g ≡ true → Keeps spared l l' → 0 < map_count l g → IsSharedBy l g
    → IsSharedBy l' g
shared-stays spared l l' g alone keeps in_use (ByFrame two) = ByFrame (let e = keeps.mapped_same g alone in omega (arith, e, two))
shared-stays spared l l' g alone keeps in_use (BySlot t pair named) =
    BySlot t (keeps.pairs_kept t g alone in_use pair) (let a = keeps.more t in omega (arith, a, named))
shared-stays spared l l' g alone keeps in_use (ByMerge merged) = ByMerge (let e = keeps.merged_same g in omega (arith, e, merged))

pub blank-steady : (spared : ℕ → Bool) (o : Option Entry) → IsBlank o → is_steady spared o ≡ true
blank-steady spared None h = refl
blank-steady spared (Some Zero) h = refl
blank-steady spared (Some (InFrame g seen)) h = absurd h
blank-steady spared (Some (InSlot t)) h = absurd h

pub made-kept : (m : Setting) (sp : Sparing) (l : Ledger) (write : Bool) (k : Key) (notes : List Note) → Pins sp → IsSound m l →
    IsMade m sp l k (need write l (entry l k)) notes → IsSound m (after_notes l notes)
made-kept m sp l write k notes pins s h = by write (entry l k) refl h
  where
    none : notes ≡ [] → IsSound m (after_notes l notes)
    none e = subst (λ ns. IsSound m (after_notes l ns)) (sym e) s

    fresh : IsBlank (entry l k) → Takes m sp l None notes (New k.0 (address_of k.1)) → IsSound m (after_notes l notes)
    fresh blank takes =
        let passed = seeks-kept m (sp l None) l takes.sought s takes.seeks in
        let l1 = after_notes l takes.sought in
        let same = passed.keeps.steady k (blank-steady (is_spared (sp l None)) (entry l k) blank) in
        subst (λ ns. IsSound m (after_notes l ns)) (sym takes.whole)
        (subst (IsSound m) (sym (after_notes-append l takes.sought (New k.0 (address_of k.1) takes.frame ∷ [])))
        (subst (λ q. IsSound m (to_inactive_head takes.frame (set_entry q (InFrame takes.frame false) l1))) (sym (key_at-address k))
        (new-kept m no_excuse l1 k takes.frame passed.sound (subst IsBlank (sym same) blank) takes.in_range (unused l1 takes.frame takes.free))))

    split : (g : ℕ) (seen : Bool) → entry l k ≡ Some (InFrame g seen) → IsSharedBy l g → Takes m sp l (Some g) notes (Copied k.0 (address_of k.1)) →
        IsSound m (after_notes l notes)
    split g seen at shared takes =
        let passed = seeks-kept m (sp l (Some g)) l takes.sought s takes.seeks in
        let l1 = after_notes l takes.sought in
        let alone = pins l g in
        let same = passed.keeps.steady k (ap (is_steady (is_spared (sp l (Some g)))) at ∙ alone) ∙ at in
        let found = how_many-found (names_frame g) k l.entries (InFrame g seen) at (same-itself g) in
        subst (λ ns. IsSound m (after_notes l ns)) (sym takes.whole)
        (subst (IsSound m) (sym (after_notes-append l takes.sought (Copied k.0 (address_of k.1) takes.frame ∷ [])))
        (subst (λ q. IsSound m (to_inactive_head takes.frame (change_frame q takes.frame l1))) (sym (key_at-address k))
        (copied-kept m no_excuse l1 k takes.frame g seen passed.sound same
        (free-apart l1 k takes.frame g seen same (unused l1 takes.frame takes.free))
        (shared-stays (is_spared (sp l (Some g))) l l1 g alone passed.keeps found shared)
        takes.in_range (unused l1 takes.frame takes.free))))

    maybe : (g : ℕ) (seen : Bool) → entry l k ≡ Some (InFrame g seen) → (b : Bool) → asks_copy l g ≡ b
        → IsMade m sp l k (cond b (CopyOnWrite g) Ready) notes →
        IsSound m (after_notes l notes)
    maybe g seen at true is q = split g seen at (shared-is l g is) q
    maybe g seen at false is q = none q

    never : (t : Slot) (o : Option ℕ) → IsMade m sp l k (need_of_slot t o) notes → ⊥
    never t None q = q
    never t (Some f) q = q

    by : (write : Bool) (o : Option Entry) → entry l k ≡ o → IsMade m sp l k (need write l o) notes → IsSound m (after_notes l notes)
    by false None is q = subst (λ ns. IsSound m (after_notes l ns)) (sym q)
        (subst (λ x. IsSound m (set_entry x Zero l)) (sym (key_at-address k)) (zeroed-kept m no_excuse l k s (subst IsBlank (sym is) tt)))
    by true None is q = fresh (subst IsBlank (sym is) tt) q
    by false (Some Zero) is q = none q
    by true (Some Zero) is q = fresh (subst IsBlank (sym is) tt) q
    by false (Some (InFrame g seen)) is q = none q
    by true (Some (InFrame g seen)) is q = maybe g seen is (asks_copy l g) refl q
    by false (Some (InSlot t)) is q = absurd (never t (frame_at l t) q)
    by true (Some (InSlot t)) is q = absurd (never t (frame_at l t) q)

-- ---- the slot that is needed no more
pub drop_at-kept : (m : Setting) (l : Ledger) (write came : Bool) (k : Key) → IsSound m l → IsSound m (after_notes l (drop_at m write came l k))
drop_at-kept m l write came k s = by (entry l k)
  where
    dropped : (t : Slot) (b c : Bool) → (not (in_flight l t) && b && c) ≡ true → IsSound m (after_note (Dropped t) l)
    dropped t b c h = drop-sound m l t s (still (flights l t) b c (ap (λ y. not y && b && c) (sym (any-counts (same_slot t) l.flight)) ∙ h))
      where
        still : (n : ℕ) (b c : Bool) → (not (nat_lt 0 n) && b && c) ≡ true → n ≡ 0
        still n b c h = first (nat_lt 0 n) refl h
          where
            first : (a : Bool) → nat_lt 0 n ≡ a → (not a && b && c) ≡ true → n ≡ 0
            first true is h = cc
            first false is h = grind (arith, nat_tests, is)

    when_kept : (t : Slot) (a : Bool) → ((a ≡ true) → IsSound m (after_note (Dropped t) l)) → IsSound m (after_notes l (when a (Dropped t)))
    when_kept t true h = h refl
    when_kept t false h = s

    slot : (o : Option Slot) → IsSound m (after_notes l (drop_of_slot m write came l o))
    slot None = s
    slot (Some t) = when_kept t (not (in_flight l t) && slot_entries l t == 0 && (write || came && is_full m l))
        (λ h. dropped t (slot_entries l t == 0) (write || came && is_full m l) h)

    by : (o : Option Entry) → IsSound m (after_notes l (drop_of_entry m write came l o))
    by None = s
    by (Some Zero) = s
    by (Some (InFrame f seen)) = slot (slot_of l f)
    by (Some (InSlot t)) = s

-- ---- a page
pub serves-kept : (m : Setting) (sp : Sparing) (l : Ledger) (write : Bool) (k : Key) (notes : List Note) → Pins sp → IsSound m l
    → Serves m sp l write k notes →
    IsSound m (after_notes l notes)
serves-kept m sp l write k notes pins s h =
    let l1 = after_notes l h.coming in
    let s1 = comes-kept m sp l write k h.coming s h.comes_in in
    let s2 = subst (IsSound m) (sym (after_notes-append l h.coming h.making)) (made-kept m sp l1 write k h.making pins s1 h.made) in
    let now = after_notes l (h.coming ++ h.making) in
    let last = drop_at m write (was_slot (need write l (entry l k))) now k in
    subst (λ ns. IsSound m (after_notes l ns)) (sym h.whole)
    (subst (IsSound m) (sym (after_notes-append l (h.coming ++ h.making) last))
    (drop_at-kept m now write (was_slot (need write l (entry l k))) k s2))

pub runs_out-kept : (m : Setting) (sp : Sparing) (l : Ledger) (write : Bool) (k : Key) (notes : List Note) (out : OutOf) → IsSound m l →
    RunsOut m sp l write k notes out → IsSound m (after_notes l notes)
runs_out-kept m sp l write k notes out s h =
    let l1 = after_notes l h.coming in
    subst (λ ns. IsSound m (after_notes l ns)) (sym h.whole) (subst (IsSound m) (sym (after_notes-append l h.coming h.sought))
    (seeks-kept m (sp l1 (pinned_by (need write l1 (entry l1 k)))) l1 h.sought (before h.before) h.finds.seeks).sound)
  where
    before : (h.coming ≡ []) ⊎ ComesIn m sp l k (need write l (entry l k)) h.coming → IsSound m (after_notes l h.coming)
    before (inl e) = subst (λ ns. IsSound m (after_notes l ns)) (sym e) s
    before (inr q) = comes-kept m sp l write k h.coming s q

pub touches-kept : (m : Setting) (w : World) (l : Ledger) (write : Bool) (k : Key) (notes : List Note) (end : Option Stop) → IsSound m l →
    Touches m w l write k notes end → IsSound m (after_notes l notes)
touches-kept m w l write k notes None s h = serves-kept m (sparing w) l write k notes (sparing-pins w) s h.1
touches-kept m w l write k notes (Some Denied) s h = subst (λ ns. IsSound m (after_notes l ns)) (sym h.1) s
touches-kept m w l write k notes (Some (Starved out)) s h = runs_out-kept m (sparing w) l write k notes out s h.1
touches-kept m w l write k notes (Some Lost) s h = (seeks-kept m (sparing w l None) l notes s h.1.seeks).sound

pub page_events-kept : (m : Setting) (l : Ledger) (write : Bool) (k : Key) (notes : List Note) (end : Option Stop) → IsSound m (after_notes l notes) →
    IsSound m (after_all l (page_events write k notes end))
page_events-kept m l write k notes None s =
    subst (IsSound m) (sym (after_all-append l (note_events notes) (Used write k ∷ []) ∙ ap (after_use write k)
    (note_events-all l notes))) (after_use-kept m no_excuse (after_notes l notes) write k s)
page_events-kept m l write k notes (Some stop) s = subst (IsSound m) (sym (note_events-all l notes)) s

pub accesses-kept : (m : Setting) (w : World) (l : Ledger) (p : ℕ) (pages : List (Bool × ℕ)) (events : List Event) (end : End) → IsSound m l →
    Accesses m w l p pages events end → IsSound m (after_all l events)
accesses-kept m w l p pages events end s h = accesses-keep (IsSound m) m w p
    (λ l write page notes end s t. page_events-kept m l write (p, page) notes end (touches-kept m w l write (p, page) notes end s t)) l
    pages events end s h
