-- Which frame or slot comes free as an entry goes.
use Rattle.std.proofs.Common.{◌≡◌, ℕ, ◌+◌, ◌-◌, ◌<◌, Bool, true, false, cond, ◌&&◌, [], ◌∷◌, ◌++◌, Option, Some, None, is_none, refl, sym, ap, subst, ◌∙◌, arith, ◌==◌, T}
use Rattle.std.proofs.lemmas.Bool.Decides.{nat_tests}
use Rattle.std.proofs.lemmas.Bool.{false≢true}
use Rattle.std.specs.FinMap.Entries.{is_sorted}
use Rattle.av_base.specs.Keys.{key_cmp}
use Rattle.av_base.specs.Words.{how_many, with_at}
use Rattle.av_base.specs.declared.slot.Slot.{Slot}
use Rattle.av_clusters.specs.Clusters.{give_slot}
use Rattle.av_plain.specs.Choice.{Chooses, new_free, with_given_back}
use Rattle.av_plain.specs.Event.{Zapped, after_zap}
use Rattle.av_plain.specs.Ledger.{Cached, InFrame, InSlot, Ledger, Setting, Zero, entry, map_count, names_frame, names_slot, same_slot, slot_entries}
use Rattle.av_plain.specs.Sound.{count, holders, is_there, slots, uses}
use Rattle.av_plain.specs.Stands.{LedgerStands, View, free_of}
use Rattle.av_plain.proofs.Ledger.Order.{weight}
use Rattle.av_plain.proofs.Sound.Counts.{frame_at-none, frame_at-some, pair-frame, pair-slot, same-is, same-itself, slot-is, slot_of-none, slot_of-some}
use Rattle.av_plain.proofs.Zap.{map_count-after_zap, same_swap-after_zap, slot_entries-after_zap}
use Rattle.av_swap_laws.specs.Steps.{view_cleared, view_freed, view_given_back, view_zap_frame, view_zap_slot, with_at_slot}
use Rattle.av_swap_laws.proofs.Free.{frames-none, frames-one, given-none, given-one}

module _ (m : Setting) (closing : Option ℕ) (v : View) (l : Ledger) (p page : ℕ) (sorted : T (is_sorted key_cmp l.entries))
    (h : LedgerStands m v l) where
  abbrev now : Ledger
  now = after_zap (p, page) l

  uses-left : (g : ℕ) → uses l g ≡ uses now g + weight (names_frame g) (entry l (p, page))
  uses-left g =
      let a = map_count-after_zap (p, page) l g sorted in
      let b = ap (how_many (λ (c : Cached). g == c.frame)) (same_swap-after_zap (p, page) l).cache in
      omega (arith, a, b)

  count-left : (t : Slot) → count l t ≡ count now t + weight (names_slot t) (entry l (p, page))
  count-left t =
      let a = slot_entries-after_zap (p, page) l t sorted in
      let b = ap (how_many (λ (c : Cached). same_slot t c.slot)) (same_swap-after_zap (p, page) l).cache in
      omega (arith, a, b)

  uses-same : (g : ℕ) → weight (names_frame g) (entry l (p, page)) ≡ 0 → 0 < uses l g → 0 < uses now g
  uses-same g none some = let e = uses-left g in omega (arith, e, none, some)

  count-same : (t : Slot) → weight (names_slot t) (entry l (p, page)) ≡ 0 → 0 < count l t → 0 < count now t
  count-same t none some = let e = count-left t in omega (arith, e, none, some)

  flag : (b : Bool) → b ≡ false → ◌≡◌ {A = ℕ} (cond b 1 0) 0
  flag true e = absurd (false≢true (sym e))
  flag false e = refl

  lit : (b : Bool) → b ≡ true → ◌≡◌ {A = ℕ} (cond b 1 0) 1
  lit true e = refl
  lit false e = absurd (false≢true e)

  -- ---- the page of zeros: nothing

  pub zap-zero-chosen : entry l (p, page) ≡ Some Zero → Chooses m closing l (Zapped (p, page)) (free_of v) (free_of (view_cleared p page v))
  zap-zero-chosen is = record {
    frames = (v.free, refl, ap (λ fs. fs ++ v.free) (sym (frames-none m l now (λ g. uses-same g (ap (weight (names_frame g)) is)))));
    slots = (v.slots, v.slots, refl, refl, sym (given-none m l now v.slots (λ t. count-same t (ap (weight (names_slot t)) is))));
  }

  -- ---- a slot, where that was its last name and it is not cached

  module _ (s : Slot) (is : entry l (p, page) ≡ Some (InSlot s)) (there : is_there m l s ≡ true) where
    itself : (s : Slot) → same_slot s s ≡ true
    itself s = grind (arith, nat_tests)

    one-fewer : count l s ≡ count now s + 1
    one-fewer = count-left s ∙ ap (λ n. count now s + n) (ap (weight (names_slot s)) is ∙ lit (same_slot s s) (itself s))

    others : (t : Slot) → same_slot t s ≡ false → 0 < count l t → 0 < count now t
    others t other = count-same t (ap (weight (names_slot t)) is ∙ flag (same_slot t s) other)

    uncached : (b : Bool) → is_none (v.find s) ≡ b → slots l s ≡ (cond b 0 (slots l s))
    uncached true e = frame_at-none s l.cache (sym (h.swap.finds s) ∙ none (v.find s) e)
      where
        none : (o : Option ℕ) → is_none o ≡ true → o ≡ None
        none None e = refl
        none (Some g) e = absurd (false≢true e)
    uncached false e = refl

    cached : is_none (v.find s) ≡ false → 0 < slots l s
    cached e = by (v.find s) refl e
      where
        by : (o : Option ℕ) → v.find s ≡ o → is_none o ≡ false → 0 < slots l s
        by None i e = absurd (false≢true (sym e))
        by (Some g) i e = let pair = frame_at-some g s l.cache (sym (h.swap.finds s) ∙ i) in let held = pair-slot s g l.cache in
            omega (arith, pair, held)

    gives : (b : Bool) → (v.entries s == 1 && is_none (v.find s)) ≡ b
        → with_given_back m l now v.slots ≡ cond b (with_at s.area (give_slot (v.slots s.area) s.page) v.slots) v.slots
    gives true e = given-one m l now s v.slots there (let k = one-fewer in omega (arith, k)) gone others
      where
        first : (a b : Bool) → (a && b) ≡ true → (a ≡ true) × (b ≡ true)
        first true b e = (refl, e)
        first false b e = absurd (false≢true e)

        gone : count now s ≡ 0
        gone =
            let parts = first (v.entries s == 1) (is_none (v.find s)) e in
            let one : v.entries s ≡ 1 = grind (arith, nat_tests, parts.0) in
            let free = uncached true parts.1 in
            let c = h.swap.counts s in
            let k = one-fewer in
            omega (arith, one, free, c, k)
    gives false e = given-none m l now v.slots (λ t some. by t (same_slot t s) refl some)
      where
        left : 0 < count now s
        left = cases (v.entries s == 1) (is_none (v.find s)) refl refl e
          where
            cases : (a b : Bool) → (v.entries s == 1) ≡ a → is_none (v.find s) ≡ b → (a && b) ≡ false → 0 < count now s
            cases true true i j e = absurd (false≢true (sym e))
            cases true false i j e = let c = cached j in let k = one-fewer in let one : v.entries s ≡ 1 = grind (arith, nat_tests, i) in
                let n = h.swap.counts s in omega (arith, c, k, one, n)
            cases false b i j e = let k = one-fewer in let n = h.swap.counts s in let more = two (v.entries s) i (subst (λ n. 0 < n) (sym n) named) in
                omega (arith, k, n, more)
              where
                two : (n : ℕ) → (n == 1) ≡ false → 0 < n → 1 < n
                two n e h = grind (arith, nat_tests, e, h)

                named : 0 < slot_entries l s
                named =
                    let a = slot_entries-after_zap (p, page) l s sorted in
                    let w = ap (weight (names_slot s)) is ∙ lit (same_slot s s) (itself s) in
                    omega (arith, a, w)

        by : (t : Slot) (b : Bool) → same_slot t s ≡ b → 0 < count l t → 0 < count now t
        by t true i some = subst (λ t. 0 < count now t) (sym (slot-is t s i)) left
        by t false i some = others t i some

    pub zap-slot-chosen : Chooses m closing l (Zapped (p, page)) (free_of v) (free_of (view_zap_slot p page s v))
    zap-slot-chosen = record {
      frames = (
        v.free,
        refl,
        kept (v.entries s == 1 && is_none (v.find s))
            ∙ ap (λ fs. fs ++ v.free) (sym (frames-none m l now (λ g. uses-same g (ap (weight (names_frame g)) is)))),
      );
      slots = (
        v.slots,
        v.slots,
        refl,
        refl,
        left (v.entries s == 1 && is_none (v.find s))
            ∙ sym (gives (v.entries s == 1 && is_none (v.find s)) refl),
      );
    }
      where
        kept : (b : Bool) → (cond b (view_given_back s (record (view_cleared p page v) { entries = with_at_slot s (v.entries s - 1) v.entries }))
            (record (view_cleared p page v) { entries = with_at_slot s (v.entries s - 1) v.entries })).free ≡ v.free
        kept true = refl
        kept false = refl

        left : (b : Bool) → (cond b (view_given_back s (record (view_cleared p page v) { entries = with_at_slot s (v.entries s - 1) v.entries }))
            (record (view_cleared p page v) { entries = with_at_slot s (v.entries s - 1) v.entries })).slots
            ≡ cond b (with_at s.area (give_slot (v.slots s.area) s.page) v.slots) v.slots
        left true = refl
        left false = refl

  -- ---- a frame, where that was its last entry and it is not cached

  module _ (f : ℕ) (seen : Bool) (is : entry l (p, page) ≡ Some (InFrame f seen)) (in_range : f < m.frames) where
    one-less : uses l f ≡ uses now f + 1
    one-less = uses-left f ∙ ap (λ n. uses now f + n) (ap (weight (names_frame f)) is ∙ lit (f == f) (same-itself f))

    others_of : (g : ℕ) → (g == f) ≡ false → 0 < uses l g → 0 < uses now g
    others_of g other = uses-same g (ap (weight (names_frame g)) is ∙ flag (g == f) other)

    frees : (b : Bool) → (v.maps f == 1 && is_none (v.slot f)) ≡ b → new_free m l now ≡ cond b (f ∷ []) []
    frees true e = frames-one m l now f in_range (let k = one-less in omega (arith, k)) gone others_of
      where
        first : (a b : Bool) → (a && b) ≡ true → (a ≡ true) × (b ≡ true)
        first true b e = (refl, e)
        first false b e = absurd (false≢true e)

        none : (o : Option Slot) → is_none o ≡ true → o ≡ None
        none None e = refl
        none (Some t) e = absurd (false≢true e)

        gone : uses now f ≡ 0
        gone =
            let parts = first (v.maps f == 1) (is_none (v.slot f)) e in
            let one : v.maps f ≡ 1 = grind (arith, nat_tests, parts.0) in
            let free = slot_of-none f l.cache (sym (h.frames.slots f) ∙ none (v.slot f) parts.1) in
            let c = h.frames.maps f in
            let k = one-less in
            omega (arith, one, free, c, k)
    frees false e = frames-none m l now (λ g some. by g (g == f) refl some)
      where
        held : (o : Option Slot) → v.slot f ≡ o → is_none o ≡ false → 0 < holders l f
        held None i e = absurd (false≢true (sym e))
        held (Some t) i e = let pair = slot_of-some f t l.cache (sym (h.frames.slots f) ∙ i) in let k = pair-frame t f l.cache in
            omega (arith, pair, k)

        two : (n : ℕ) → (n == 1) ≡ false → 0 < n → 1 < n
        two n e h = grind (arith, nat_tests, e, h)

        named : 0 < map_count l f
        named =
            let a = map_count-after_zap (p, page) l f sorted in
            let w = ap (weight (names_frame f)) is ∙ lit (f == f) (same-itself f) in
            omega (arith, a, w)

        left : 0 < uses now f
        left = cases (v.maps f == 1) (is_none (v.slot f)) refl refl e
          where
            cases : (a b : Bool) → (v.maps f == 1) ≡ a → is_none (v.slot f) ≡ b → (a && b) ≡ false → 0 < uses now f
            cases true true i j e = absurd (false≢true (sym e))
            cases true false i j e = let c = held (v.slot f) refl j in let k = one-less in let one : v.maps f ≡ 1 = grind (arith, nat_tests, i) in
                let n = h.frames.maps f in omega (arith, c, k, one, n)
            cases false b i j e = let k = one-less in let n = h.frames.maps f in let more = two (v.maps f) i (subst (λ n. 0 < n) (sym n) named) in
                omega (arith, k, n, more)

        by : (g : ℕ) (b : Bool) → (g == f) ≡ b → 0 < uses l g → 0 < uses now g
        by g true i some = subst (λ g. 0 < uses now g) (sym (same-is g f i)) left
        by g false i some = others_of g i some

    pub zap-frame-chosen : Chooses m closing l (Zapped (p, page)) (free_of v) (free_of (view_zap_frame p page f v))
    zap-frame-chosen = record {
      frames = (
        v.free,
        refl,
        left (v.maps f == 1 && is_none (v.slot f))
            ∙ sym (ap (λ fs. fs ++ v.free) (frees (v.maps f == 1 && is_none (v.slot f)) refl) ∙ front (v.maps f == 1 && is_none (v.slot f))),
      );
      slots = (
        v.slots,
        v.slots,
        refl,
        refl,
        kept (v.maps f == 1 && is_none (v.slot f))
            ∙ sym (given-none m l now v.slots (λ t. count-same t (ap (weight (names_slot t)) is))),
      );
    }
      where
        front : (b : Bool) → (cond b (f ∷ []) [] ++ v.free) ≡ cond b (f ∷ v.free) v.free
        front true = refl
        front false = refl

        left : (b : Bool) → (cond b (view_freed f (record (view_cleared p page v) { maps = with_at f (v.maps f - 1) v.maps }))
            (record (view_cleared p page v) { maps = with_at f (v.maps f - 1) v.maps })).free ≡ cond b (f ∷ v.free) v.free
        left true = refl
        left false = refl

        kept : (b : Bool) → (cond b (view_freed f (record (view_cleared p page v) { maps = with_at f (v.maps f - 1) v.maps }))
            (record (view_cleared p page v) { maps = with_at f (v.maps f - 1) v.maps })).slots ≡ v.slots
        kept true = refl
        kept false = refl
