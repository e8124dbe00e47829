-- Notes tell what a page got: of two lists of notes that a page may have, and that go on so that they are one, the
-- page's own are one, and so is whether it was served.
use Rattle.std.proofs.Common.{◌≡◌, ◌⊎◌, inl, inr, ℕ, Bool, true, false, List, [], ◌∷◌, ◌++◌, Option, Some, None, refl, sym, ap, subst, ◌∙◌}
use Rattle.std.proofs.lemmas.List.{append_assoc, append_cancel_left}
use Rattle.av_base.specs.Page.{address_of}
use Rattle.av_base.specs.declared.slot.Slot.{Slot}
use Rattle.av_trace.specs.declared.reply.OutOf.{OutOf}
use Rattle.av_trace.specs.declared.note.Note.{Note}
use Rattle.av_trace.specs.declared.note.Note.TheVariants.{New, Copied, Loaded, Mapped}
use Rattle.av_plain.specs.World.{World}
use Rattle.av_base.specs.Keys.{Key}
use Rattle.av_plain.specs.Ledger.{Ledger, Setting, entry, frame_at, has_free}
use Rattle.av_plain.specs.Event.{after_notes}
use Rattle.av_plain.specs.Pass.{Seeks, out_of}
use Rattle.av_plain.specs.Fault.{Need, Ready, ZeroPage, NewPage, CopyOnWrite, SwapIn, MapCached, need, Sparing, sparing, ComesIn, IsMade, drop_at, was_slot, Serves, pinned_by, wants_frame, FindsNone, RunsOut, IsLost, Stop, Denied, Starved, Lost, Touches}
use Rattle.av_audit_laws.proofs.ToldPass.{with-lists, takes-told, taken-told, taken-goes-on}

abbrev need_at : Bool → Ledger → Key → Need
need_at write l k = need write l (entry l k)

-- two lists in three parts
front-of : (a b c x : List Note) → ((a ++ b) ++ c) ++ x ≡ a ++ (b ++ (c ++ x))
front-of a b c x = append_assoc (a ++ b) c x ∙ append_assoc a b (c ++ x)

module _ (m : Setting) (sp : Sparing) where
  -- what comes in
  pub comes-told : (l : Ledger) (k : Key) (n : Need) (a b x y : List Note) → ComesIn m sp l k n a
      → ComesIn m sp l k n b → a ++ x ≡ b ++ y → a ≡ b
  comes-told l k (SwapIn s) a b x y h g e =
      let whole = with-lists x y h.4 g.4 e in
      let split : h.0 ++ (Mapped k.0 (address_of k.1) h.1 ∷ x) ≡ g.0 ++ (Mapped k.0 (address_of k.1) g.1 ∷ y) =
      sym (append_assoc h.0 (Mapped k.0 (address_of k.1) h.1 ∷ []) x) ∙ whole
      ∙ append_assoc g.0 (Mapped k.0 (address_of k.1) g.1 ∷ []) y in
      let same = takes-told m (sp l None) l h.0 g.0 (Mapped k.0 (address_of k.1) h.1 ∷ x)
      (Mapped k.0 (address_of k.1) g.1 ∷ y) (Loaded s) h.2 g.2 split in
      let frame : h.1 ≡ g.1 = inner (sym h.3 ∙ ap (λ ns. frame_at (after_notes l ns) s) same ∙ g.3) in
      h.4 ∙ (λ i. same i ++ Mapped k.0 (address_of k.1) (frame i) ∷ []) ∙ sym g.4
    where
      inner : {x y : ℕ} → Some x ≡ Some y → x ≡ y
      inner e = cc
  comes-told l k (MapCached f) a b x y h g e = h ∙ sym g
  comes-told l k Ready a b x y h g e = h ∙ sym g
  comes-told l k ZeroPage a b x y h g e = h ∙ sym g
  comes-told l k NewPage a b x y h g e = h ∙ sym g
  comes-told l k (CopyOnWrite f) a b x y h g e = h ∙ sym g

  -- what is made
  pub made-told : (l : Ledger) (k : Key) (n : Need) (a b x y : List Note) → IsMade m sp l k n a
      → IsMade m sp l k n b → a ++ x ≡ b ++ y → a ≡ b
  made-told l k Ready a b x y h g e = h ∙ sym g
  made-told l k ZeroPage a b x y h g e = h ∙ sym g
  made-told l k NewPage a b x y h g e = takes-told m (sp l None) l a b x y (New k.0 (address_of k.1)) h g e
  made-told l k (CopyOnWrite f) a b x y h g e =
      takes-told m (sp l (Some f)) l a b x y (Copied k.0 (address_of k.1)) h g e
  made-told l k (SwapIn s) a b x y h g e = absurd h
  made-told l k (MapCached f) a b x y h g e = absurd h

  -- where something is made that wants a frame, none is not found
  made-never : (l : Ledger) (k : Key) (n : Need) (a b x y : List Note) → wants_frame n ≡ true
      → IsMade m sp l k n a → Seeks m (sp l (pinned_by n)) l b → has_free m (after_notes l b) ≡ false
      → a ++ x ≡ b ++ y → ⊥
  made-never l k Ready a b x y wants h s none e = cc
  made-never l k ZeroPage a b x y wants h s none e = cc
  made-never l k NewPage a b x y wants h s none e =
      taken-told m (sp l None) l a b x y (New k.0 (address_of k.1)) h s none e
  made-never l k (CopyOnWrite f) a b x y wants h s none e =
      taken-told m (sp l (Some f)) l a b x y (Copied k.0 (address_of k.1)) h s none e
  made-never l k (SwapIn s') a b x y wants h s none e = absurd h
  made-never l k (MapCached f) a b x y wants h s none e = absurd h

  -- and so where the page comes in: or nothing does
  comes-never : (l : Ledger) (k : Key) (n : Need) (a b x y : List Note) → wants_frame n ≡ true
      → ComesIn m sp l k n a → Seeks m (sp l (pinned_by n)) l b → has_free m (after_notes l b) ≡ false
      → a ++ x ≡ b ++ y → a ≡ []
  comes-never l k (SwapIn s) a b x y wants h seeks none e =
      let mapped = Mapped k.0 (address_of k.1) h.1 in
      absurd (taken-told m (sp l None) l h.0 b (mapped ∷ x) y (Loaded s) h.2 seeks none
      (sym (append_assoc h.0 (mapped ∷ []) x) ∙ (λ i. sym h.4 i ++ x) ∙ e))
  comes-never l k (MapCached f) a b x y wants h s none e = cc
  comes-never l k Ready a b x y wants h s none e = cc
  comes-never l k ZeroPage a b x y wants h s none e = cc
  comes-never l k NewPage a b x y wants h s none e = h
  comes-never l k (CopyOnWrite f) a b x y wants h s none e = h

  -- ---- a page that is served

  serves-told : (l : Ledger) (write : Bool) (k : Key) (a b x y : List Note) → Serves m sp l write k a
      → Serves m sp l write k b → a ++ x ≡ b ++ y → a ≡ b
  serves-told l write k a b x y h g e =
      let dh = drop_at m write (was_slot (need_at write l k)) (after_notes l (h.coming ++ h.making)) k in
      let dg = drop_at m write (was_slot (need_at write l k)) (after_notes l (g.coming ++ g.making)) k in
      let whole = with-lists x y h.whole g.whole e in
      let split : h.coming ++ (h.making ++ (dh ++ x)) ≡ g.coming ++ (g.making ++ (dg ++ y)) =
      sym (front-of h.coming h.making dh x) ∙ whole ∙ front-of g.coming g.making dg y in
      let c = comes-told l k (need_at write l k) h.coming g.coming (h.making ++ (dh ++ x))
      (g.making ++ (dg ++ y)) h.comes_in g.comes_in split in
      let now = after_notes l h.coming in
      let rest : h.making ++ (dh ++ x) ≡ g.making ++ (dg ++ y) = append_cancel_left h.coming
      (h.making ++ (dh ++ x)) (g.making ++ (dg ++ y))
      (subst (λ s. h.coming ++ (h.making ++ (dh ++ x)) ≡ s ++ (g.making ++ (dg ++ y))) (sym c) split) in
      let made = subst (λ s. IsMade m sp (after_notes l s) k (need_at write (after_notes l s) k) g.making) (sym c) g.made in
      let n = made-told now k (need_at write now k) h.making g.making (dh ++ x) (dg ++ y) h.made made rest in
      h.whole ∙ (λ i. (c i ++ n i) ++ drop_at m write (was_slot (need_at write l k)) (after_notes l (c i ++ n i)) k)
      ∙ sym g.whole

  -- ---- a page that is served is not without a frame

  serves-never : (l : Ledger) (write : Bool) (k : Key) (a b x y : List Note) (out : OutOf)
      → Serves m sp l write k a → RunsOut m sp l write k b out → a ++ x ≡ b ++ y → ⊥
  serves-never l write k a b x y out h r e = finds (by r.before)
    where
      dh : List Note
      dh = drop_at m write (was_slot (need_at write l k)) (after_notes l (h.coming ++ h.making)) k

      split : h.coming ++ (h.making ++ (dh ++ x)) ≡ r.coming ++ (r.sought ++ y)
      split = sym (front-of h.coming h.making dh x) ∙ with-lists x y h.whole r.whole e
          ∙ append_assoc r.coming r.sought y

      by : (r.coming ≡ []) ⊎ ComesIn m sp l k (need_at write l k) r.coming → h.coming ≡ r.coming
      by (inr q) = comes-told l k (need_at write l k) h.coming r.coming (h.making ++ (dh ++ x))
          (r.sought ++ y) h.comes_in q split
      by (inl e) =
          comes-never l k (need_at write l k) h.coming r.sought (h.making ++ (dh ++ x)) y
          (subst (λ s. wants_frame (need_at write (after_notes l s) k) ≡ true) e r.finds.wants) h.comes_in
          (subst (λ s. Seeks m (sp (after_notes l s) (pinned_by (need_at write (after_notes l s) k))) (after_notes l s) r.sought) e r.finds.seeks)
          (subst (λ s. has_free m (after_notes (after_notes l s) r.sought) ≡ false) e r.finds.none)
          (subst (λ c. h.coming ++ (h.making ++ (dh ++ x)) ≡ c ++ (r.sought ++ y)) e split) ∙ sym e

      finds : h.coming ≡ r.coming → ⊥
      finds c =
          let made = subst (λ s. IsMade m sp (after_notes l s) k (need_at write (after_notes l s) k) h.making) c h.made in
          made-never (after_notes l r.coming) k (need_at write (after_notes l r.coming) k) h.making r.sought
          (dh ++ x) y r.finds.wants made r.finds.seeks r.finds.none
          (append_cancel_left r.coming (h.making ++ (dh ++ x)) (r.sought ++ y)
          (subst (λ s. s ++ (h.making ++ (dh ++ x)) ≡ r.coming ++ (r.sought ++ y)) c split))

  -- ---- nor is it lost

  is-swap-in : (l : Ledger) (k : Key) (n : Need) (s : Slot) (a : List Note) → n ≡ SwapIn s
      → ComesIn m sp l k n a → ComesIn m sp l k (SwapIn s) a
  is-swap-in l k n s a e h = subst (λ n. ComesIn m sp l k n a) e h

  -- a page that comes in isn't the front of a pass
  pub comes-goes-on : (l : Ledger) (k : Key) (s : Slot) (a b x : List Note) → ComesIn m sp l k (SwapIn s) a
      → Seeks m (sp l None) l b → a ++ x ≡ b → ⊥
  comes-goes-on l k s a b x h seeks e =
      let mapped = Mapped k.0 (address_of k.1) h.1 in
      taken-goes-on m (sp l None) l h.0 b (mapped ∷ x) (Loaded s) h.2 seeks
      (sym (append_assoc h.0 (mapped ∷ []) x) ∙ (λ i. sym h.4 i ++ x) ∙ e)

  serves-not-lost : (l : Ledger) (write : Bool) (k : Key) (a b x : List Note) → Serves m sp l write k a
      → IsLost m sp l write k b → a ++ x ≡ b → ⊥
  serves-not-lost l write k a b x h g e =
      let dh = drop_at m write (was_slot (need_at write l k)) (after_notes l (h.coming ++ h.making)) k in
      comes-goes-on l k g.slot h.coming b (h.making ++ (dh ++ x))
      (is-swap-in l k (need_at write l k) g.slot h.coming g.absent h.comes_in) g.seeks
      (sym (front-of h.coming h.making dh x) ∙ (λ i. sym h.whole i ++ x) ∙ e)

  lost-not-out : (l : Ledger) (write : Bool) (k : Key) (a b : List Note) (out : OutOf)
      → IsLost m sp l write k a → RunsOut m sp l write k b out → a ≡ b → ⊥
  lost-not-out l write k a b out h r e = by r.before
    where
      split : r.coming ++ r.sought ≡ a
      split = sym r.whole ∙ sym e

      by : (r.coming ≡ []) ⊎ ComesIn m sp l k (need_at write l k) r.coming → ⊥
      by (inr q) = comes-goes-on l k h.slot r.coming a r.sought
          (is-swap-in l k (need_at write l k) h.slot r.coming h.absent q) h.seeks split
      by (inl e) =
          let same : a ≡ r.sought = sym split ∙ ap (λ c. c ++ r.sought) e in
          differ (has_free m (after_notes l r.sought))
          (subst (λ s. has_free m (after_notes l s) ≡ true) same h.frame)
          (subst (λ s. has_free m (after_notes (after_notes l s) r.sought) ≡ false) e r.finds.none)
        where
          differ : (b : Bool) → b ≡ true → b ≡ false → ⊥
          differ b h g = cc

  lost-told : (l : Ledger) (write : Bool) (k : Key) (a b : List Note) → IsLost m sp l write k a
      → IsLost m sp l write k b → a ≡ b → a ≡ b
  lost-told l write k a b h g e = e

  -- ---- two that are without a frame

  numbers-told : (l : Ledger) (write : Bool) (k : Key) (coming coming' sought sought' : List Note)
      (out out' : OutOf) → coming ≡ coming' → sought ≡ sought'
      → FindsNone m sp (after_notes l coming) (need_at write (after_notes l coming) k) sought out
      → FindsNone m sp (after_notes l coming') (need_at write (after_notes l coming') k) sought' out' → out ≡ out'
  numbers-told l write k coming coming' sought sought' out out' c s h g =
      h.numbers ∙ (λ i. let now = after_notes l (c i) in let pinned = pinned_by (need_at write now k) in
      out_of m (sp now pinned) (after_notes now (s i))) ∙ sym g.numbers

  runs_out-told : (l : Ledger) (write : Bool) (k : Key) (a b : List Note) (out out' : OutOf)
      → RunsOut m sp l write k a out → RunsOut m sp l write k b out' → a ≡ b → out ≡ out'
  runs_out-told l write k a b out out' r q e =
      let c = both r.before q.before in
      let s = append_cancel_left r.coming r.sought q.sought
      (subst (λ c. r.coming ++ r.sought ≡ c ++ q.sought) (sym c) whole) in
      numbers-told l write k r.coming q.coming r.sought q.sought out out' c s r.finds q.finds
    where
      whole : r.coming ++ r.sought ≡ q.coming ++ q.sought
      whole = sym r.whole ∙ e ∙ q.whole

      nothing : (c s c' s' : List Note) (o : OutOf) → c ≡ []
          → FindsNone m sp (after_notes l c) (need_at write (after_notes l c) k) s o
          → ComesIn m sp l k (need_at write l k) c' → c' ++ s' ≡ c ++ s → c' ≡ []
      nothing c s c' s' o e h q g =
          let h' = subst (λ c. FindsNone m sp (after_notes l c) (need_at write (after_notes l c) k) s o) e h in
          comes-never l k (need_at write l k) c' s s' [] h'.wants q h'.seeks h'.none
          (subst (λ c. c' ++ s' ≡ c ++ s) e g ∙ sym (append-nil s))
        where
          append-nil : (s : List Note) → s ++ [] ≡ s
          append-nil [] = refl
          append-nil (n ∷ s) = ap (λ r. n ∷ r) (append-nil s)

      both : (r.coming ≡ []) ⊎ ComesIn m sp l k (need_at write l k) r.coming
          → (q.coming ≡ []) ⊎ ComesIn m sp l k (need_at write l k) q.coming → r.coming ≡ q.coming
      both (inl e) (inl f) = e ∙ sym f
      both (inl e) (inr f) = e
          ∙ sym (nothing r.coming r.sought q.coming q.sought out e r.finds f (sym whole))
      both (inr e) (inl f) = nothing q.coming q.sought r.coming r.sought out' f q.finds e whole ∙ sym f
      both (inr e) (inr f) = comes-told l k (need_at write l k) r.coming q.coming r.sought q.sought e f whole

-- ---- a page, served or not

-- notes may follow those of a page that was served
abbrev pub GoesOn : Option Stop → List Note → Type 0
GoesOn None x = Unit {0}
GoesOn (Some stop) x = x ≡ []

whole-is : (a b x y : List Note) → x ≡ [] → y ≡ [] → a ++ x ≡ b ++ y → a ≡ b
whole-is a b x y e f g = sym (ap (λ x. a ++ x) e ∙ append-nil a) ∙ g ∙ (ap (λ y. b ++ y) f ∙ append-nil b)
  where
    append-nil : (s : List Note) → s ++ [] ≡ s
    append-nil [] = refl
    append-nil (n ∷ s) = ap (λ r. n ∷ r) (append-nil s)

end-is : (a b x y : List Note) → y ≡ [] → a ++ x ≡ b ++ y → a ++ x ≡ b
end-is a b x y f g = g ∙ (ap (λ y. b ++ y) f ∙ append-nil b)
  where
    append-nil : (s : List Note) → s ++ [] ≡ s
    append-nil [] = refl
    append-nil (n ∷ s) = ap (λ r. n ∷ r) (append-nil s)

refuses : (b : Bool) → b ≡ true → b ≡ false → ⊥
refuses b h g = cc

pub touches-told : (m : Setting) (w : World) (l : Ledger) (write : Bool) (k : Key) (a b x y : List Note)
    (end end' : Option Stop) → Touches m w l write k a end → Touches m w l write k b end'
    → GoesOn end x → GoesOn end' y → a ++ x ≡ b ++ y → (a ≡ b) × (end ≡ end')
touches-told m w l write k a b x y None None h g i j e =
    (serves-told m (sparing w) l write k a b x y h.1 g.1 e, refl)
touches-told m w l write k a b x y None (Some Denied) h g i j e = absurd (refuses _ h.0 g.0)
touches-told m w l write k a b x y None (Some (Starved out)) h g i j e =
    absurd (serves-never m (sparing w) l write k a b x y out h.1 g.1 e)
touches-told m w l write k a b x y None (Some Lost) h g i j e =
    absurd (serves-not-lost m (sparing w) l write k a b x h.1 g.1 (end-is a b x y j e))
touches-told m w l write k a b x y (Some Denied) None h g i j e = absurd (refuses _ g.0 h.0)
touches-told m w l write k a b x y (Some Denied) (Some Denied) h g i j e = (h.1 ∙ sym g.1, refl)
touches-told m w l write k a b x y (Some Denied) (Some (Starved out)) h g i j e = absurd (refuses _ g.0 h.0)
touches-told m w l write k a b x y (Some Denied) (Some Lost) h g i j e = absurd (refuses _ g.0 h.0)
touches-told m w l write k a b x y (Some (Starved out)) None h g i j e =
    absurd (serves-never m (sparing w) l write k b a y x out g.1 h.1 (sym e))
touches-told m w l write k a b x y (Some (Starved out)) (Some Denied) h g i j e = absurd (refuses _ h.0 g.0)
touches-told m w l write k a b x y (Some (Starved out)) (Some (Starved out')) h g i j e =
    let same = whole-is a b x y i j e in
    (same, ap (λ o. Some (Starved o)) (runs_out-told m (sparing w) l write k a b out out' h.1 g.1 same))
touches-told m w l write k a b x y (Some (Starved out)) (Some Lost) h g i j e =
    absurd (lost-not-out m (sparing w) l write k b a out g.1 h.1 (sym (whole-is a b x y i j e)))
touches-told m w l write k a b x y (Some Lost) None h g i j e =
    absurd (serves-not-lost m (sparing w) l write k b a y g.1 h.1 (end-is b a y x i (sym e)))
touches-told m w l write k a b x y (Some Lost) (Some Denied) h g i j e = absurd (refuses _ h.0 g.0)
touches-told m w l write k a b x y (Some Lost) (Some (Starved out)) h g i j e =
    absurd (lost-not-out m (sparing w) l write k a b out h.1 g.1 (whole-is a b x y i j e))
touches-told m w l write k a b x y (Some Lost) (Some Lost) h g i j e = (whole-is a b x y i j e, refl)
