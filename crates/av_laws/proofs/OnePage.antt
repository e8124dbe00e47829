-- What a page gets is determined: by its entry, and by the order in which frames and slots are given.
use Rattle.std.proofs.Common.{◌≡◌, ◌⊎◌, inl, inr, ℕ, Bool, true, false, List, [], ◌∷◌, ◌++◌, Option, Some, None, refl, sym, ap, subst, ◌∙◌}
use Rattle.av_base.specs.Keys.{Key}
use Rattle.av_base.specs.Page.{address_of}
use Rattle.av_trace.specs.declared.reply.OutOf.{OutOf}
use Rattle.av_trace.specs.declared.note.Note.{Note}
use Rattle.av_trace.specs.declared.note.Note.TheVariants.{New, Copied, Loaded, Mapped}
use Rattle.av_plain.specs.World.{World}
use Rattle.av_plain.specs.Ledger.{Ledger, Setting, entry, frame_at, has_free}
use Rattle.av_plain.specs.Event.{after_notes, note_events}
use Rattle.av_plain.specs.Pass.{Seeks, out_of}
use Rattle.av_plain.specs.Fault.{Need, Ready, ZeroPage, NewPage, CopyOnWrite, SwapIn, MapCached, need, Sparing, sparing, ComesIn, IsMade, drop_at, was_slot, Serves, pinned_by, wants_frame, FindsNone, RunsOut, is_allowed, Stop, Denied, Starved, Lost, Touches}
use Rattle.av_plain.specs.Choice.{ChoosesAll, Free}
use Rattle.av_laws.specs.Determined.{Tells}
use Rattle.av_laws.proofs.OnePass.{Given, given-is, given-parts, left-one, seeks-one, takes-one, none-taken}

module _ (m : Setting) (closing : Option ℕ) (told : Tells m) (sp : Sparing) where
  -- what comes in
  pub comes-one : (l : Ledger) (k : Key) (free : Free) (n : Need) (a b : List Note)
      → ComesIn m sp l k n a → ComesIn m sp l k n b → Given m closing l free a
      → Given m closing l free b → a ≡ b
  comes-one l k free (SwapIn s) a b h g x y =
      let xs = given-parts m closing l free h.0 (Mapped k.0 (address_of k.1) h.1 ∷ [])
      (given-is m closing l free a _ h.4 x) in
      let ys = given-parts m closing l free g.0 (Mapped k.0 (address_of k.1) g.1 ∷ [])
      (given-is m closing l free b _ g.4 y) in
      let same = takes-one m closing told (sp l None) l free h.0 g.0 (Loaded s) (λ f. (refl, refl)) h.2 g.2
      xs.1 ys.1 in
      let frame : h.1 ≡ g.1 = inner (sym h.3 ∙ ap (λ ns. frame_at (after_notes l ns) s) same ∙ g.3) in
      h.4 ∙ (λ i. same i ++ Mapped k.0 (address_of k.1) (frame i) ∷ []) ∙ sym g.4
    where
      inner : {x y : ℕ} → Some x ≡ Some y → x ≡ y
      inner e = cc
  comes-one l k free (MapCached f) a b h g x y = h ∙ sym g
  comes-one l k free Ready a b h g x y = h ∙ sym g
  comes-one l k free ZeroPage a b h g x y = h ∙ sym g
  comes-one l k free NewPage a b h g x y = h ∙ sym g
  comes-one l k free (CopyOnWrite f) a b h g x y = h ∙ sym g

  -- what is made
  made-one : (l : Ledger) (k : Key) (free : Free) (n : Need) (a b : List Note) → IsMade m sp l k n a
      → IsMade m sp l k n b → Given m closing l free a → Given m closing l free b → a ≡ b
  made-one l k free Ready a b h g x y = h ∙ sym g
  made-one l k free ZeroPage a b h g x y = h ∙ sym g
  made-one l k free NewPage a b h g x y = takes-one m closing told (sp l None) l free a b
      (New k.0 (address_of k.1)) (λ f. (refl, refl)) h g x y
  made-one l k free (CopyOnWrite f) a b h g x y = takes-one m closing told (sp l (Some f)) l free a
      b (Copied k.0 (address_of k.1)) (λ f. (refl, refl)) h g x y
  made-one l k free (SwapIn s) a b h g x y = absurd h
  made-one l k free (MapCached f) a b h g x y = absurd h

  -- where something is made that wants a frame, none is not found
  made-never : (l : Ledger) (k : Key) (free : Free) (n : Need) (a b : List Note)
      → wants_frame n ≡ true → IsMade m sp l k n a → Seeks m (sp l (pinned_by n)) l b
      → has_free m (after_notes l b) ≡ false → Given m closing l free a → Given m closing l free b
      → ⊥
  made-never l k free Ready a b wants h s none x y = cc
  made-never l k free ZeroPage a b wants h s none x y = cc
  made-never l k free NewPage a b wants h s none x y = none-taken m closing told (sp l None) l free
      a b (New k.0 (address_of k.1)) h s none x y
  made-never l k free (CopyOnWrite f) a b wants h s none x y = none-taken m closing told
      (sp l (Some f)) l free a b (Copied k.0 (address_of k.1)) h s none x y
  made-never l k free (SwapIn s') a b wants h s none x y = absurd h
  made-never l k free (MapCached f) a b wants h s none x y = cc

  -- and so where the page comes in: or nothing does
  comes-never : (l : Ledger) (k : Key) (free : Free) (n : Need) (a b : List Note)
      → wants_frame n ≡ true → ComesIn m sp l k n a → Seeks m (sp l (pinned_by n)) l b
      → has_free m (after_notes l b) ≡ false → Given m closing l free a → Given m closing l free b
      → a ≡ []
  comes-never l k free (SwapIn s) a b wants h seeks none x y =
      absurd (none-taken m closing told (sp l None) l free h.0 b (Loaded s) h.2 seeks none
      (given-parts m closing l free h.0 (Mapped k.0 (address_of k.1) h.1 ∷ [])
      (given-is m closing l free a _ h.4 x)).1 y)
  comes-never l k free (MapCached f) a b wants h s none x y = cc
  comes-never l k free Ready a b wants h s none x y = cc
  comes-never l k free ZeroPage a b wants h s none x y = cc
  comes-never l k free NewPage a b wants h s none x y = h
  comes-never l k free (CopyOnWrite f) a b wants h s none x y = h

-- ---- a page that is served

abbrev need_at : Bool → Ledger → Key → Need
need_at write l k = need write l (entry l k)

serves-one : (m : Setting) (closing : Option ℕ) (told : Tells m) (sp : Sparing) (l : Ledger)
    (write : Bool) (k : Key) (free : Free) (a b : List Note) → Serves m sp l write k a
    → Serves m sp l write k b
    → Given m closing l free a → Given m closing l free b → a ≡ b
serves-one m closing told sp l write k free a b h g x y =
    let dh = drop_at m write (was_slot (need_at write l k)) (after_notes l (h.coming ++ h.making)) k in
    let dg = drop_at m write (was_slot (need_at write l k)) (after_notes l (g.coming ++ g.making)) k in
    let xs = given-parts m closing l free h.coming h.making
    (given-parts m closing l free (h.coming ++ h.making) dh
    (given-is m closing l free a _ h.whole x)).1 in
    let ys = given-parts m closing l free g.coming g.making
    (given-parts m closing l free (g.coming ++ g.making) dg
    (given-is m closing l free b _ g.whole y)).1 in
    let c = comes-one m closing told sp l k free (need_at write l k) h.coming g.coming h.comes_in
    g.comes_in xs.1 ys.1 in
    let now = after_notes l h.coming in
    let mids = left-one m closing l h.coming g.coming free xs.0 ys.0 told c xs.2 ys.2 in
    let there : Given m closing now ys.0 g.making = subst
    (λ s. Given m closing (after_notes l s) ys.0 g.making) (sym c) ys.3 in
    let made = subst (λ s. IsMade m sp (after_notes l s) k (need_at write (after_notes l s) k) g.making) (sym c) g.made in
    let n = made-one m closing told sp now k xs.0 (need_at write now k) h.making g.making h.made
    made xs.3 (subst (λ f. Given m closing now f g.making) mids there) in
    h.whole ∙ (λ i. (c i ++ n i) ++ drop_at m write (was_slot (need_at write l k)) (after_notes l (c i ++ n i)) k) ∙ sym g.whole

-- ---- a page that is served is not without a frame

behind-nothing : (m : Setting) (closing : Option ℕ) (l : Ledger) (coming sought : List Note)
    (free mid : Free) → coming ≡ [] → ChoosesAll m closing l (note_events coming) free mid
    → Given m closing (after_notes l coming) mid sought → Given m closing l free sought
behind-nothing m closing l [] sought free mid e chosen g = subst (λ f. Given m closing l f sought)
    chosen g
behind-nothing m closing l (note ∷ notes) sought free mid e chosen g = cc

serves-never : (m : Setting) (closing : Option ℕ) (told : Tells m) (sp : Sparing) (l : Ledger)
    (write : Bool) (k : Key) (free : Free) (a b : List Note) (out : OutOf) → Serves m sp l write k a
    → RunsOut m sp l write k b out
    → Given m closing l free a → Given m closing l free b → ⊥
serves-never m closing told sp l write k free a b out h r x y =
    finds (by r.before)
  where
    dh : List Note
    dh = drop_at m write (was_slot (need_at write l k)) (after_notes l (h.coming ++ h.making)) k

    xs : (mid : Free) × Given m closing l free h.coming
        × ChoosesAll m closing l (note_events h.coming) free mid
        × Given m closing (after_notes l h.coming) mid h.making
    xs = given-parts m closing l free h.coming h.making
        (given-parts m closing l free (h.coming ++ h.making) dh
        (given-is m closing l free a _ h.whole x)).1

    ys : (mid : Free) × Given m closing l free r.coming
        × ChoosesAll m closing l (note_events r.coming) free mid
        × Given m closing (after_notes l r.coming) mid r.sought
    ys = given-parts m closing l free r.coming r.sought (given-is m closing l free b _ r.whole y)

    none : has_free m (after_notes (after_notes l r.coming) r.sought) ≡ false
    none = r.finds.none

    by : (r.coming ≡ []) ⊎ ComesIn m sp l k (need_at write l k) r.coming → h.coming ≡ r.coming
    by (inr q) = comes-one m closing told sp l k free (need_at write l k) h.coming r.coming
        h.comes_in q xs.1 ys.1
    by (inl e) =
        comes-never m closing told sp l k free (need_at write l k) h.coming r.sought
        (subst (λ s. wants_frame (need_at write (after_notes l s) k) ≡ true) e r.finds.wants) h.comes_in
        (subst (λ s. Seeks m (sp (after_notes l s) (pinned_by (need_at write (after_notes l s) k))) (after_notes l s) r.sought) e r.finds.seeks)
        (subst (λ s. has_free m (after_notes (after_notes l s) r.sought) ≡ false) e r.finds.none)
        xs.1 (behind-nothing m closing l r.coming r.sought free ys.0 e ys.2 ys.3) ∙ sym e

    finds : h.coming ≡ r.coming → ⊥
    finds c =
        let made = subst (λ s. IsMade m sp (after_notes l s) k (need_at write (after_notes l s) k) h.making) c h.made in
        let mids = left-one m closing l h.coming r.coming free xs.0 ys.0 told c xs.2 ys.2 in
        let there = subst (λ mid. Given m closing (after_notes l r.coming) mid h.making) (sym mids)
        (subst (λ s. Given m closing (after_notes l s) xs.0 h.making) c xs.3) in
        made-never m closing told sp (after_notes l r.coming) k ys.0
        (need_at write (after_notes l r.coming) k) h.making r.sought r.finds.wants made
        r.finds.seeks none
        there ys.3

-- ---- two that are without a frame

record Alone (m : Setting) (closing : Option ℕ) (sp : Sparing) (l : Ledger) (write : Bool) (k : Key)
    (free : Free) (coming sought : List Note) (out : OutOf) : Type 0 where
  finds : FindsNone m sp (after_notes l coming) (need_at write (after_notes l coming) k) sought out
  first : Given m closing l free coming
  mid : Free
  chosen : ChoosesAll m closing l (note_events coming) free mid
  second : Given m closing (after_notes l coming) mid sought

alone : (m : Setting) (closing : Option ℕ) (sp : Sparing) (l : Ledger) (write : Bool) (k : Key)
    (free : Free) (a : List Note) (out : OutOf) (r : RunsOut m sp l write k a out)
    → Given m closing l free a
    → Alone m closing sp l write k free r.coming r.sought out
alone m closing sp l write k free a out r x =
    let xs = given-parts m closing l free r.coming r.sought
    (given-is m closing l free a _ r.whole x) in
    record { finds = r.finds; first = xs.1; mid = xs.0; chosen = xs.2; second = xs.3 }

alone-one : (m : Setting) (closing : Option ℕ) (told : Tells m) (sp : Sparing) (l : Ledger)
    (write : Bool) (k : Key) (free : Free) (coming sought sought' : List Note) (out out' : OutOf)
    → Alone m closing sp l write k free coming sought out
    → Alone m closing sp l write k free coming sought' out' → (sought ≡ sought') × (out ≡ out')
alone-one m closing told sp l write k free coming sought sought' out out' h g =
    let now = after_notes l coming in
    let pinned = pinned_by (need_at write now k) in
    let mids = left-one m closing l coming coming free h.mid g.mid told refl h.chosen g.chosen in
    let same = seeks-one m closing told (sp now pinned) now h.mid sought sought' h.finds.seeks
    g.finds.seeks h.second (subst (λ mid. Given m closing now mid sought') mids g.second) in
    (same, h.finds.numbers ∙ ap (λ s. out_of m (sp now pinned) (after_notes now s)) same ∙ sym g.finds.numbers)

-- nothing came in for one: then nothing did for the other
comes-nothing : (m : Setting) (closing : Option ℕ) (told : Tells m) (sp : Sparing) (l : Ledger)
    (write : Bool) (k : Key) (free : Free) (coming sought coming' sought' : List Note)
    (out out' : OutOf)
    → coming ≡ [] → Alone m closing sp l write k free coming sought out
    → ComesIn m sp l k (need_at write l k) coming'
    → Alone m closing sp l write k free coming' sought' out' → coming' ≡ []
comes-nothing m closing told sp l write k free coming sought coming' sought' out out' e h q g =
    let h' = subst (λ c. FindsNone m sp (after_notes l c) (need_at write (after_notes l c) k) sought
    out) e h.finds in
    comes-never m closing told sp l k free (need_at write l k) coming' sought h'.wants q h'.seeks
    h'.none g.first (behind-nothing m closing l coming sought free h.mid e h.chosen h.second)

runs_out-one : (m : Setting) (closing : Option ℕ) (told : Tells m) (sp : Sparing) (l : Ledger)
    (write : Bool) (k : Key) (free : Free) (a b : List Note) (out out' : OutOf)
    → RunsOut m sp l write k a out → RunsOut m sp l write k b out'
    → Given m closing l free a → Given m closing l free b → (a ≡ b) × (out ≡ out')
runs_out-one m closing told sp l write k free a b out out' r q x y =
    let h = alone m closing sp l write k free a out r x in
    let g = alone m closing sp l write k free b out' q y in
    let c = both h g r.before q.before in
    let rest = alone-one m closing told sp l write k free r.coming r.sought q.sought out out' h
    (subst (λ s. Alone m closing sp l write k free s q.sought out') (sym c) g) in
    (r.whole ∙ (λ i. c i ++ rest.0 i) ∙ sym q.whole, rest.1)
  where
    both : Alone m closing sp l write k free r.coming r.sought out
        → Alone m closing sp l write k free q.coming q.sought out'
        → (r.coming ≡ []) ⊎ ComesIn m sp l k (need_at write l k) r.coming → (q.coming ≡ []) ⊎ ComesIn m sp l k (need_at write l k) q.coming →
        r.coming ≡ q.coming
    both h g (inl e) (inl f) = e ∙ sym f
    both h g (inl e) (inr f) = e
        ∙ sym (comes-nothing m closing told sp l write k free r.coming r.sought q.coming q.sought
        out out' e h f g)
    both h g (inr e) (inl f) = comes-nothing m closing told sp l write k free q.coming q.sought
        r.coming r.sought out' out f g e h ∙ sym f
    both h g (inr e) (inr f) = comes-one m closing told sp l k free (need_at write l k) r.coming
        q.coming e f h.first g.first

-- ---- a page, served or not

abbrev pub is_lost : Option Stop → Bool
is_lost None = false
is_lost (Some Denied) = false
is_lost (Some (Starved out)) = false
is_lost (Some Lost) = true

pub touches-one : (m : Setting) (closing : Option ℕ) (told : Tells m) (w : World) (l : Ledger)
    (write : Bool) (k : Key) (free : Free) (a b : List Note) (end end' : Option Stop)
    → Touches m w l write k a end → Touches m w l write k b end'
    → Given m closing l free a → Given m closing l free b → is_lost end ≡ false
    → is_lost end' ≡ false → (a ≡ b) × (end ≡ end')
touches-one m closing told w l write k free a b None None h g x y kept
    kept' = (serves-one m closing told (sparing w) l write k free a b h.1 g.1 x y, refl)
touches-one m closing told w l write k free a b None (Some Denied) h g x y kept kept' = absurd
    (differ (is_allowed w write k) h.0 g.0)
  where
    differ : (b : Bool) → b ≡ true → b ≡ false → ⊥
    differ b h g = cc
touches-one m closing told w l write k free a b None (Some (Starved out)) h g x y kept
    kept' = absurd (serves-never m closing told (sparing w) l write k free a b out h.1 g.1 x y)
touches-one m closing told w l write k free a b None (Some Lost) h g x y kept kept' = cc
touches-one m closing told w l write k free a b (Some Denied) None h g x y kept kept' = absurd
    (differ (is_allowed w write k) g.0 h.0)
  where
    differ : (b : Bool) → b ≡ true → b ≡ false → ⊥
    differ b h g = cc
touches-one m closing told w l write k free a b (Some Denied) (Some Denied) h g x y kept
    kept' = (h.1 ∙ sym g.1, refl)
touches-one m closing told w l write k free a b (Some Denied) (Some (Starved out)) h g x y kept
    kept' = absurd (differ (is_allowed w write k) g.0 h.0)
  where
    differ : (b : Bool) → b ≡ true → b ≡ false → ⊥
    differ b h g = cc
touches-one m closing told w l write k free a b (Some Denied) (Some Lost) h g x y kept kept' = cc
touches-one m closing told w l write k free a b (Some (Starved out)) None h g x y kept
    kept' = absurd (serves-never m closing told (sparing w) l write k free b a out g.1 h.1 y x)
touches-one m closing told w l write k free a b (Some (Starved out)) (Some Denied) h g x y kept
    kept' = absurd (differ (is_allowed w write k) h.0 g.0)
  where
    differ : (b : Bool) → b ≡ true → b ≡ false → ⊥
    differ b h g = cc
touches-one m closing told w l write k free a b (Some (Starved out)) (Some (Starved out')) h g x y
    kept kept' =
    let same = runs_out-one m closing told (sparing w) l write k free a b out out' h.1 g.1 x
    y in (same.0, ap (λ o. Some (Starved o)) same.1)
touches-one m closing told w l write k free a b (Some (Starved out)) (Some Lost) h g x y kept
    kept' = cc
touches-one m closing told w l write k free a b (Some Lost) end' h g x y kept kept' = cc
