-- After an mremap each entry is covered: it carries its home with it.
use Rattle.std.proofs.Common.{◌≡◌, ◌⊎◌, inl, inr, ℕ, ◌+◌, ◌-◌, min, Bool, true, false, cond, not, ◌&&◌, List, [], ◌∷◌, ◌++◌, map, Option, Some, None, option_map, refl, sym, ap, subst, ◌∙◌, arith, ◌==◌, T}
use Rattle.std.proofs.lemmas.Bool.Decides.{nat_tests}
use Rattle.std.specs.FinMap.Entries.{is_sorted}
use Rattle.std.specs.Prelude.{IsSomeAnd, if◌then◌else◌}
use Rattle.av_base.specs.Keys.{Key, key_cmp}
use Rattle.av_base.specs.declared.slot.Slot.{Slot}
use Rattle.av_trace.specs.declared.note.Note.TheVariants.{Dropped}
use Rattle.av_base.specs.Words.{with_at, within}
use Rattle.av_vma.specs.Pages.{AreLaid, Pages, home_of}
use Rattle.av_vma.proofs.Mremap.{in_range as range_bounds}
use Rattle.av_plain.specs.Areas.{AreLeft, Areas, Rmap, chain_length}
use Rattle.av_plain.specs.Covered.{AreMergedCovered, AreSlotsCovered, IsRmapSound}
use Rattle.av_plain.specs.Event.{Event, EntriesMoved, after_all, after_move, after_note, after_zap, entries_where, note_events, off_cache, when}
use Rattle.av_plain.specs.Ledger.{Cached, Entry, Ledger, cached_by, entry, frame_at, is_merged, is_orphan, names_frame, names_slot, same_slot}
use Rattle.av_plain.specs.Mremap.{after_mremap, range_zaps, remap_events}
use Rattle.av_plain.specs.Zap.{keys_in, orphan_drop, slot_behind_key, zap_of, zaps_of}
use Rattle.av_plain.proofs.Access.{after_all-append}
use Rattle.av_plain.proofs.Covered.{Owns, sound-carried, stay-left}
use Rattle.av_plain.proofs.Covered.Slots.{frame_at-off, merged-carried, slots-carried}
use Rattle.av_plain.proofs.Covered.Zaps.{IsNamed, MergedLeft, left-then, left-zaps}
use Rattle.av_plain.proofs.Event.{put_all-only}
use Rattle.av_plain.proofs.Mremap.{after-elsewhere, after-in_place, entry-came, in_order-zaps, remap-came, target_free, then_tail, then_target}
use Rattle.av_plain.proofs.Mremap.Areas.{IsRemap, home_elsewhere, home_in_place, home_outside, owns_remapped}
use Rattle.av_plain.proofs.Sound.Steps.{settle-cache}
use Rattle.av_plain.proofs.Zap.{entry-range, in_range, same_swap-after_zap}

-- an entry of which this holds
record IsNaming (P : Entry → Type 0) (o : Option Entry) : Type 0 where
  entry : Entry
  is : o ≡ Some entry
  names : P entry

naming : (P : Entry → Type 0) (o : Option Entry) → IsSomeAnd o P → IsNaming P o
naming P None h = absurd h
naming P (Some e) h = record { entry = e; is = refl; names = h }

-- it came from a page with such an entry, and the home of that page is its page's now
record Came (l : Ledger) (r next : Rmap) (P : Entry → Type 0) (k : Key) : Type 0 where
  was : Key
  names : IsSomeAnd (entry l was) P
  home : (h : ℕ × ℕ) → home_of was.1 (r.areas was.0 was.1) ≡ Some h → home_of k.1 (next.areas k.0 k.1) ≡ Some h

-- ---- what is cached then was

-- each slot that is cached was so at the same frame
abbrev CachesFewer : Ledger → Ledger → Type 0
CachesFewer l l' = (t : Slot) (f : ℕ) → frame_at l' t ≡ Some f → frame_at l t ≡ Some f

fewer-same : (l l' : Ledger) → l'.cache ≡ l.cache → CachesFewer l l'
fewer-same l l' same t f at = ap (λ cs. option_map (λ (c : Cached). c.frame) (cached_by (λ c. same_slot t c.slot) cs)) (sym same) ∙ at

fewer-orphan : (x l : Ledger) (o : Option Slot) → CachesFewer l (after_all l (orphan_drop x o))
fewer-orphan x l None t f at = at
fewer-orphan x l (Some u) t f at = by (is_orphan x u) at
  where
    was : (b : Bool) → cond b None (frame_at l t) ≡ Some f → frame_at l t ≡ Some f
    was true e = cc
    was false e = e

    by : (b : Bool) → frame_at (after_all l (note_events (when b (Dropped u)))) t ≡ Some f → frame_at l t ≡ Some f
    by true at = was (same_slot t u) (sym (frame_at-off u t l.cache)
        ∙ fewer-same (off_cache u l) (after_note (Dropped u) l) (settle-cache (frame_at l u) (off_cache u l)) t f at)
    by false at = at

fewer-zaps : (l : Ledger) (ks : List Key) → CachesFewer l (after_all l (zaps_of l ks))
fewer-zaps l [] t f at = at
fewer-zaps l (k ∷ ks) t f at =
    fewer-same l (after_zap k l) (same_swap-after_zap k l).cache t f
    (fewer-orphan (after_zap k l) (after_zap k l) (slot_behind_key l (entry l k)) t f
    (fewer-zaps (after_all l (zap_of l k)) ks t f
    (subst (λ x. frame_at x t ≡ Some f) (after_all-append l (zap_of l k) (zaps_of (after_all l (zap_of l k)) ks)) at)))

fewer-remap : (l : Ledger) (p from n to m : ℕ) → CachesFewer l (after_all l (remap_events l p from n to m))
fewer-remap l p from n to m t f = by (to == from)
  where
    target : List Event
    target = range_zaps l p to m

    tail : List Event
    tail = range_zaps (after_all l (range_zaps l p to m)) p (from + m) (n - m)

    moved : (x : Ledger) → CachesFewer x (after_move p (min n m) from to x)
    moved x = fewer-same x (after_move p (min n m) from to x) (ap (λ (y : Ledger). y.cache)
        (put_all-only (map (λ e. ((p, e.0.1 - from + to), e.1)) (entries_where (λ k. k.0 == p && within from (min n m) k.1) x))
        (record x { entries = entries_where (λ k. not (k.0 == p && within from (min n m) k.1)) x })))

    by : (b : Bool) → frame_at (after_all l (if b then range_zaps l p (from + m) (n - m)
        else range_zaps l p to m ++ range_zaps (after_all l (range_zaps l p to m)) p (from + m) (n - m)
        ++ EntriesMoved p (min n m) from to ∷ [])) t ≡ Some f
        → frame_at l t ≡ Some f
    by true at = fewer-zaps l (keys_in l p (from + m) (n - m)) t f at
    by false at =
        let l1 = after_all l target in
        let l2 = after_all l1 tail in
        fewer-zaps l (keys_in l p to m) t f (fewer-zaps l1 (keys_in l1 p (from + m) (n - m)) t f (moved l2 t f
        (subst (λ x. frame_at x t ≡ Some f) (after_all-append l (target ++ tail) (EntriesMoved p (min n m) from to ∷ [])
        ∙ ap (after_move p (min n m) from to) (after_all-append l target tail)) at)))

-- ---- each entry has its home

module _ (l : Ledger) (p from n to k : ℕ) (left : Bool) (r next : Rmap) (sorted : T (is_sorted key_cmp l.entries)) (laid : AreLaid (r.areas p))
    (may : IsRemap from n to k (r.areas p))
    (is : next.areas ≡ with_at p (after_mremap (chain_length r.anons) p from n to k left (r.areas p)) r.areas) where
  abbrev on : Pages
  on = r.areas p

  abbrev here : Pages
  here = after_mremap (chain_length r.anons) p from n to k left on

  abbrev later : Ledger
  later = after_all l (remap_events l p from n to k)

  at_p : (q : ℕ) → (q == p) ≡ true → next.areas q ≡ here
  at_p q e = ap (λ (x : Areas). x q) is ∙ ap (λ b. cond b here (r.areas q)) e

  at_other : (q : ℕ) → (q == p) ≡ false → next.areas q ≡ r.areas q
  at_other q e = ap (λ (x : Areas). x q) is ∙ ap (λ b. cond b here (r.areas q)) e

  same : (q : ℕ) → (q == p) ≡ true → q ≡ p
  same q e = grind (arith, nat_tests, e)

  named : (P : Entry → Type 0) (key : Key) (e : Entry) → entry l key ≡ Some e → P e → IsSomeAnd (entry l key) P
  named P key e at names = subst (λ o. IsSomeAnd o P) (sym at) names

  -- the home of a page of the process then, from one that it had
  carry : (P : Entry → Type 0) (q was page : ℕ) (e : Entry) → (q == p) ≡ true → entry l (q, was) ≡ Some e → P e
      → ((home : ℕ × ℕ) → home_of was (on was) ≡ Some home → home_of page (here page) ≡ Some home) → Came l r next P (q, page)
  carry P q was page e of_p at names goes = record {
    was = (q, was);
    names = named P (q, was) e at names;
    home = λ home had. ap (λ (x : Pages). home_of page (x page)) (at_p q of_p)
        ∙ goes home (ap (λ x. home_of was (r.areas x was)) (sym (same q of_p)) ∙ had);
  }

  -- a page of another process stays
  stay : (P : Entry → Type 0) (q page : ℕ) (e : Entry) → (q == p) ≡ false → entry l (q, page) ≡ Some e → P e → Came l r next P (q, page)
  stay P q page e other at names = record {
    was = (q, page);
    names = named P (q, page) e at names;
    home = λ home had. ap (λ (x : Pages). home_of page (x page)) (at_other q other) ∙ had;
  }

  stays_out : (q page : ℕ) (e : Entry) → cond (in_range p (from + k) (n - k) (q, page)) None (entry l (q, page)) ≡ Some e
      → (in_range p (from + k) (n - k) (q, page) ≡ false) × (entry l (q, page) ≡ Some e)
  stays_out q page e at = by (in_range p (from + k) (n - k) (q, page)) at
    where
      by : (b : Bool) → cond b None (entry l (q, page)) ≡ Some e → (b ≡ false) × (entry l (q, page) ≡ Some e)
      by true h = cc
      by false h = (refl, h)

  of_range : (a m q page : ℕ) → (q == p) ≡ true → in_range p a m (q, page) ≡ false → within a m page ≡ false
  of_range a m q page e h = grind (arith, nat_tests, e, h)

  in_place : (to == from) ≡ true → (P : Entry → Type 0) (q page : ℕ) (e : Entry) → entry later (q, page) ≡ Some e → P e → Came l r next P (q, page)
  in_place there P q page e at names =
      let was = stays_out q page e (sym (ap (λ l. entry l (q, page)) (after-in_place l p from n to k there) ∙ entry-range l p (from + k)
      (n - k) q page) ∙ at) in
      by (q == p) refl was.0 was.1
    where
      by : (b : Bool) → (q == p) ≡ b → in_range p (from + k) (n - k) (q, page) ≡ false → entry l (q, page) ≡ Some e → Came l r next P (q, page)
      by true of_p out had = carry P q page page e of_p had names
          (home_in_place (chain_length r.anons) p from n to k left on laid may there page (of_range (from + k) (n - k) q page of_p out))
      by false other out had = stay P q page e other had names

  elsewhere : (to == from) ≡ false → (P : Entry → Type 0) (q page : ℕ) (e : Entry) → entry later (q, page) ≡ Some e → P e → Came l r next P (q, page)
  elsewhere apart P q page e at names = let c = remap-came l p from n to k sorted apart q page e at in by c.was c.here c.moves
    where
      turned : (a : ℕ) → a - to + from ≡ from + (a - to)
      turned a = omega arith

      stays : (b : Bool) → (q == p) ≡ b → in_range p from n (q, page) ≡ false → in_range p to k (q, page) ≡ false → entry l (q, page) ≡ Some e
          → Came l r next P (q, page)
      stays true of_p gone out had = carry P q page page e of_p had names
          (home_outside (chain_length r.anons) p from n to k left on laid may apart page (of_range to k q page of_p out)
          (of_range from n q page of_p gone))
      stays false other gone out had = stay P q page e other had names

      by : (was : ℕ) → entry l (q, was) ≡ Some e
          → ((q == p) ≡ true) × (within to (min n k) page ≡ true) × (was ≡ page - to + from)
          ⊎ (in_range p from n (q, page) ≡ false) × (in_range p to k (q, page) ≡ false) × (was ≡ page)
          → Came l r next P (q, page)
      by was had (inl m) =
          let ends = range_bounds to (min n k) page m.1 in
          carry P q (from + (page - to)) page e m.0 (ap (λ x. entry l (q, x)) (sym (m.2 ∙ turned page)) ∙ had) names
          (home_elsewhere (chain_length r.anons) p from n to k left on laid may apart page ends.0 ends.1)
      by was had (inr s) = stays (q == p) refl s.0 s.1 (ap (λ x. entry l (q, x)) (sym s.2) ∙ had)

  came : (P : Entry → Type 0) (key : Key) → IsSomeAnd (entry later key) P → Came l r next P key
  came P key names = let e = naming P (entry later key) names in by (to == from) refl e.entry e.is e.names
    where
      by : (b : Bool) → (to == from) ≡ b → (e : Entry) → entry later key ≡ Some e → P e → Came l r next P key
      by true here = in_place here P key.0 key.1
      by false apart = elsewhere apart P key.0 key.1

  -- what is merged then
  moved-left : (to == from) ≡ false → MergedLeft (then_tail l p from n to k) (after_move p (min n k) from to (then_tail l p from n to k))
  moved-left apart = record { named = λ f is. ((was f is).0, merged f); fewer = λ f is. sym (merged f) ∙ is }
    where
      tail : Ledger
      tail = then_tail l p from n to k

      in_order : T (is_sorted key_cmp (then_tail l p from n to k).entries)
      in_order = in_order-zaps (keys_in (then_target l p from n to k) p (from + k) (n - k)) (then_target l p from n to k)
          (in_order-zaps (keys_in l p to k) l sorted)

      merged : (f : ℕ) → is_merged (after_move p (min n k) from to (then_tail l p from n to k)) f ≡ is_merged (then_tail l p from n to k) f
      merged f = ap (λ (x : Ledger). is_merged x f)
          (put_all-only (map (λ e. ((p, e.0.1 - from + to), e.1)) (entries_where (λ k'. k'.0 == p && within from (min n k) k'.1) tail))
          (record tail { entries = entries_where (λ k'. not (k'.0 == p && within from (min n k) k'.1)) tail }))

      was : (f : ℕ) (is : IsNamed (after_move p (min n k) from to (then_tail l p from n to k)) f) → IsNamed (then_tail l p from n to k) f × Unit {0}
      was f is =
          let e = naming (λ e. names_frame f e ≡ true) (entry (after_move p (min n k) from to tail) is.0) is.1 in
          let c = entry-came tail p (min n k) from to in_order (λ page inside _. target_free l p from n to k page inside) is.0.0 is.0.1 e.entry e.is in
          (((is.0.0, c.was), subst (λ o. IsSomeAnd o (λ e. names_frame f e ≡ true)) (sym c.here) e.names), tt)

  remap-left : MergedLeft l later
  remap-left = by (to == from) refl
    where
      by : (b : Bool) → (to == from) ≡ b → MergedLeft l later
      by true here = subst (MergedLeft l) (sym (after-in_place l p from n to k here)) (left-zaps l (keys_in l p (from + k) (n - k)))
      by false apart = subst (MergedLeft l) (sym (after-elsewhere l p from n to k apart))
          (left-then l (then_tail l p from n to k) _
          (left-then l (then_target l p from n to k) (then_tail l p from n to k) (left-zaps l (keys_in l p to k))
          (left-zaps (then_target l p from n to k) (keys_in (then_target l p from n to k) p (from + k) (n - k)))) (moved-left apart))

  -- no own anon_vma is new
  owns : (q page v : ℕ) → Owns next q page v → (x : ℕ) × (other : ℕ) × Owns r x other v
  owns q page v has = by (q == p) refl
    where
      by : (b : Bool) → (q == p) ≡ b → (x : ℕ) × (other : ℕ) × Owns r x other v
      by true e =
          let was = owns_remapped (chain_length r.anons) p from n to k left on laid may page v
          (subst (λ (x : Pages). IsSomeAnd (x page) (λ area. area.anon ≡ Some v)) (at_p q e) has) in
          (p, was.0, was.1)
      by false e = (q, page, subst (λ (x : Pages). IsSomeAnd (x page) (λ area. area.anon ≡ Some v)) (at_other q e) has)

  pub sound-remapped : AreLeft r.anons next.areas next.anons → next.homes ≡ r.homes → IsRmapSound l r → IsRmapSound later next
  sound-remapped left_is = sound-carried l later r next (λ key f names.
      let c = came (λ e. names_frame f e ≡ true) key names in record { was = c.was; names = c.names; home = c.home }) owns
      (λ key f names own. sym (remap-left.named f (key, names)).1 ∙ own)
      (stay-left r.anons next.areas next.anons left_is)

  pub slots-remapped : AreLeft r.anons next.areas next.anons → next.homes ≡ r.homes → IsRmapSound l r → AreSlotsCovered l r
      → AreSlotsCovered later next
  slots-remapped left homes sound slots = slots-carried l r next owns (stay-left r.anons next.areas next.anons left) sound slots later (λ t key names.
      let c = came (λ e. names_slot t e ≡ true) key names in record { was = c.was; names = c.names; home = c.home })
      (fewer-remap l p from n to k) homes

  pub merged-remapped : AreLeft r.anons next.areas next.anons → next.homes ≡ r.homes → next.items ≡ r.items → IsRmapSound l r → AreSlotsCovered l r
      → AreMergedCovered l r → AreMergedCovered later next
  merged-remapped left homes items sound slots = merged-carried l r next owns (stay-left r.anons next.areas next.anons left) sound slots later (λ key f names.
      let c = came (λ e. names_frame f e ≡ true) key names in record { was = c.was; names = c.names; home = c.home })
      remap-left.fewer homes items
