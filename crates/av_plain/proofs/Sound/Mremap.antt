-- Soundness after a move of entries, and after the events of an mremap.
use Rattle.std.proofs.Common.{◌<◌, ◌≡◌, ◌⊎◌, inl, inr, ℕ, ◌+◌, ◌-◌, min, nat_lt, Bool, true, false, cond, not, ◌&&◌, T, Option, Some, None, is_some, option_map, refl, sym, ap, subst, ◌∙◌, arith, ◌==◌}
use Rattle.std.proofs.lemmas.Bool.{false≢true}
use Rattle.std.proofs.lemmas.Bool.Decides.{nat_tests}
use Rattle.std.specs.FinMap.Entries.{is_sorted, is_sorted-where_key}
use Rattle.av_base.specs.Keys.{key_cmp}
use Rattle.av_base.specs.Words.{within}
use Rattle.av_base.specs.declared.slot.Slot.{Slot}
use Rattle.av_plain.specs.Event.{after_all, after_move, put_all}
use Rattle.av_plain.specs.Ledger.{Entry, Ledger, Setting, entry, map_count, names_frame, names_slot, slot_entries}
use Rattle.av_plain.specs.Mremap.{left_behind, remap_events, process_after_mremap}
use Rattle.av_plain.specs.Sound.{AtPages, IsSound}
use Rattle.av_plain.specs.World.{Page, Process, World, pages, wiped}
use Rattle.av_plain.specs.Zap.{keys_in}
use Rattle.av_plain.proofs.Event.{count-put_all, is_sorted-put_all, put_all-only}
use Rattle.av_plain.proofs.Mremap.{Came, after-elsewhere, after-in_place, count-shifted, entry-came, fresh, is_sorted-shifted, others_of, remap-came, shifted, target_free, then_tail, then_target}
use Rattle.av_plain.proofs.Sound.There.{NoNew, less, no_new-then}
use Rattle.av_plain.proofs.Sound.Zap.{zaps_of-kept, zaps_of-no_new}
use Rattle.av_plain.proofs.Zap.{entry-range, in_range}

-- ---- a move: the new range has no entries before, but those that move

module _ (m : Setting) (l : Ledger) (p n from to : ℕ) (s : IsSound m l)
    (free : (page : ℕ) → within to n page ≡ true → within from n page ≡ false → entry l (p, page) ≡ None) where
  -- the ledger without the range, and with it at its new place
  abbrev others : Ledger
  others = record l { entries = others_of p from n l.entries }

  abbrev then : Ledger
  then = put_all (shifted p n from to l.entries) others

  sorted : T (is_sorted key_cmp (shifted p n from to l.entries))
  sorted = is_sorted-shifted p n from to l.entries s.in_order

  others_sorted : T (is_sorted key_cmp others.entries)
  others_sorted = is_sorted-where_key key_cmp (λ k. not (in_range p from n k)) l.entries s.in_order

  pub frames-stay : (g : ℕ) → map_count then g ≡ map_count l g
  frames-stay g = count-put_all (names_frame g) (shifted p n from to l.entries) others sorted others_sorted (fresh l p n from to s.in_order free)
      ∙ count-shifted p n from to (names_frame g) l.entries

  pub slots-stay : (r : Slot) → slot_entries then r ≡ slot_entries l r
  slots-stay r = count-put_all (names_slot r) (shifted p n from to l.entries) others sorted others_sorted (fresh l p n from to s.in_order free)
      ∙ count-shifted p n from to (names_slot r) l.entries

  -- two entries that were at one page are at one page
  one_page : (r a b : ℕ) {d e : Entry} (u : Came p n from to l r a d) (v : Came p n from to l r b e) → u.was ≡ v.was → a ≡ b
  one_page r a b u v same = by u.moves v.moves
    where
      shifts : (a b c d : ℕ) → within to n a ≡ true → within to n b ≡ true → c ≡ a - to + from → d ≡ b - to + from → c ≡ d → a ≡ b
      shifts a b c d h i j k e = grind (arith, nat_tests, h, i, j, k, e)

      crossed : (a b c d : ℕ) → (r == p) ≡ true → within to n a ≡ true → c ≡ a - to + from → in_range p from n (r, b) ≡ false → d ≡ b → c ≡ d → ⊥
      crossed a b c d h i j k e g = grind (arith, nat_tests, h, i, j, k, e, g)

      by : ((r == p) ≡ true) × (within to n a ≡ true) × (u.was ≡ a - to + from) ⊎ (in_range p from n (r, a) ≡ false) × (u.was ≡ a)
          → ((r == p) ≡ true) × (within to n b ≡ true) × (v.was ≡ b - to + from) ⊎ (in_range p from n (r, b) ≡ false) × (v.was ≡ b) → a ≡ b
      by (inl x) (inl y) = shifts a b u.was v.was x.1 y.1 x.2 y.2 same
      by (inl x) (inr y) = absurd (crossed a b u.was v.was x.0 x.1 x.2 y.0 y.1 same)
      by (inr x) (inl y) = absurd (crossed b a v.was u.was y.0 y.1 y.2 x.0 x.1 (sym same))
      by (inr x) (inr y) = sym x.1 ∙ same ∙ y.1

  came : (r a : ℕ) (d : Entry) → entry then (r, a) ≡ Some d → Came p n from to l r a d
  came r a d at = entry-came l p n from to s.in_order free r a d at

  sound-then : IsSound m (record l { entries = then.entries })
  sound-then = record {
    in_order = is_sorted-put_all (shifted p n from to l.entries) others others_sorted;
    slots_once = s.slots_once;
    frames_once = s.frames_once;
    in_range = λ g h. s.in_range g (let a = frames-stay g in omega (arith, a, h));
    listed = λ g. s.listed g ∙ (let a = frames-stay g in omega (arith, a));
    flying = s.flying;
    used = λ r g h. let u = s.used r g h in let a = frames-stay g in let b = slots-stay r in omega (arith, u, a, b);
    one = λ r a b d e at at' related.
        let u = came r a d at in
        let v = came r b e at' in
        one_page r a b u v (s.one r u.was v.was d e u.here v.here related);
    merged = λ g. let a = frames-stay g in let h = s.merged g in omega (arith, a, h);
  }

  pub moved-kept : IsSound m (after_move p n from to l)
  moved-kept = subst (IsSound m) (sym (put_all-only (shifted p n from to l.entries) others)) sound-then

  pub moved-no_new : NoNew m l (after_move p n from to l)
  moved-no_new = subst (NoNew m l) (sym (put_all-only (shifted p n from to l.entries) others))
      (less m l (record l { entries = then.entries }) refl (λ r h. let a = slots-stay r in omega (arith, a, h)))

-- ---- the events of an mremap

module _ (m : Setting) (l : Ledger) (p from n to k : ℕ) (s : IsSound m l) where
  pub target-kept : IsSound m (then_target l p from n to k)
  target-kept = zaps_of-kept m l (keys_in l p to k) s

  pub tail-kept : IsSound m (then_tail l p from n to k)
  tail-kept = zaps_of-kept m (then_target l p from n to k) (keys_in (then_target l p from n to k) p (from + k) (n - k)) target-kept

  tail-no_new : NoNew m l (then_tail l p from n to k)
  tail-no_new = no_new-then m l (then_target l p from n to k) (then_tail l p from n to k) (zaps_of-no_new m l (keys_in l p to k) s)
      (zaps_of-no_new m (then_target l p from n to k) (keys_in (then_target l p from n to k) p (from + k) (n - k)) target-kept)

  pub free_target : (page : ℕ) → within to (min n k) page ≡ true → within from (min n k) page ≡ false
      → entry (then_tail l p from n to k) (p, page) ≡ None
  free_target page inside _ = target_free l p from n to k page inside

  pub remap-kept : IsSound m (after_all l (remap_events l p from n to k))
  remap-kept = by (to == from) refl
    where
      by : (b : Bool) → (to == from) ≡ b → IsSound m (after_all l (remap_events l p from n to k))
      by true here = subst (IsSound m) (sym (after-in_place l p from n to k here)) (zaps_of-kept m l (keys_in l p (from + k) (n - k)) s)
      by false there = subst (IsSound m) (sym (after-elsewhere l p from n to k there))
          (moved-kept m (then_tail l p from n to k) p (min n k) from to tail-kept free_target)

  -- a slot in use was so before
  pub remap-no_new : NoNew m l (after_all l (remap_events l p from n to k))
  remap-no_new = by (to == from) refl
    where
      by : (b : Bool) → (to == from) ≡ b → NoNew m l (after_all l (remap_events l p from n to k))
      by true here = subst (NoNew m l) (sym (after-in_place l p from n to k here)) (zaps_of-no_new m l (keys_in l p (from + k) (n - k)) s)
      by false there = subst (NoNew m l) (sym (after-elsewhere l p from n to k there))
          (no_new-then m l (then_tail l p from n to k) (after_move p (min n k) from to (then_tail l p from n to k)) tail-no_new
          (moved-no_new m (then_tail l p from n to k) p (min n k) from to tail-kept free_target))

-- ---- each entry is at a mapped page

module _ (q : Process) (from n to k : ℕ) (left : Bool) (last : n < k → is_some (q (from + n - 1)) ≡ true) where
  -- a page that keeps or gets an entry
  pub remapped-some : (page : ℕ) → (within to k page ≡ true → nat_lt (page - to) n ≡ true → is_some (q (from + (page - to))) ≡ true)
      → (within to k page ≡ false → (within from n page ≡ false) × (is_some (q page) ≡ true))
      → is_some (process_after_mremap from n to k left q page) ≡ true
  remapped-some page moves stays = by (within to k page) refl
    where
      grown : (o : Option Page) → is_some o ≡ true → is_some (option_map wiped o) ≡ true
      grown None h = h
      grown (Some x) h = refl

      more : nat_lt (page - to) n ≡ false → within to k page ≡ true → n < k
      more is i = grind (arith, nat_tests, is, i)

      inside : (b : Bool) → nat_lt (page - to) n ≡ b → within to k page ≡ true
          → is_some (cond b (q (from + (page - to))) (option_map wiped (q (from + n - 1)))) ≡ true
      inside true is i = moves i is
      inside false is i = grown (q (from + n - 1)) (last (more is i))

      by : (b : Bool) → within to k page ≡ b
          → is_some (cond b (cond (nat_lt (page - to) n) (q (from + (page - to))) (option_map wiped (q (from + n - 1))))
          (cond (within from n page) (left_behind left (q page)) (q page))) ≡ true
      by true is = inside (nat_lt (page - to) n) refl is
      by false is = ap (λ b. is_some (cond b (left_behind left (q page)) (q page))) (stays is).0 ∙ (stays is).1

module _ (w : World) (l : Ledger) (p from n to k : ℕ) (left : Bool) (sorted : T (is_sorted key_cmp l.entries)) (all : AtPages w l)
    (last : n < k → is_some (pages w p (from + n - 1)) ≡ true) where
  -- an entry of the process is at a page that it has then
  pub remap-here : (page : ℕ) → is_some (entry (after_all l (remap_events l p from n to k)) (p, page)) ≡ true
      → is_some (process_after_mremap from n to k left (pages w p) page) ≡ true
  remap-here page h = by (to == from) refl
    where
      q : Process
      q = pages w p

      back : (page : ℕ) → (to == from) ≡ true → within to k page ≡ true → page ≡ from + (page - to)
      back page h i = grind (arith, nat_tests, h, i)

      not_tail : (to == from) ≡ true → (p == p && within (from + k) (n - k) page) ≡ false → within to k page ≡ false → within from n page ≡ false
      not_tail h i j = grind (arith, nat_tests, h, i, j)

      kept : (b : Bool) (o : Option Entry) → is_some (cond b None o) ≡ true → (b ≡ false) × (is_some o ≡ true)
      kept true o h = cc
      kept false o h = (refl, h)

      in_place : (to == from) ≡ true → is_some (process_after_mremap from n to k left q page) ≡ true
      in_place here =
          let was = kept (p == p && within (from + k) (n - k) page) (entry l (p, page))
          (ap is_some (sym (ap (λ l. entry l (p, page)) (after-in_place l p from n to k here) ∙ entry-range l p (from + k) (n - k) p page)) ∙ h) in
          let mapped = all p page was.1 in
          remapped-some q from n to k left last page (λ i _. subst (λ x. is_some (q x) ≡ true) (back page here i) mapped)
          (λ i. (not_tail here was.0 i, mapped))

      some_is : {A : Type 0} (o : Option A) → is_some o ≡ true → (x : A) × (o ≡ Some x)
      some_is None h = cc
      some_is (Some x) h = (x, refl)

      turned : (a b : ℕ) → a + b ≡ b + a
      turned a b = omega arith

      whole : within to (min n k) page ≡ true → within to k page ≡ false → ⊥
      whole h i = grind (arith, nat_tests, h, i)

      of_p : (b : Bool) → (p == p && b) ≡ false → b ≡ false
      of_p b h = grind (arith, nat_tests, h)

      elsewhere : (to == from) ≡ false → is_some (process_after_mremap from n to k left q page) ≡ true
      elsewhere there =
          let e = some_is (entry (after_all l (remap_events l p from n to k)) (p, page)) h in
          let c = remap-came l p from n to k sorted there p page e.0 e.1 in
          moves c.was (all p c.was (ap is_some c.here)) c.moves
        where
          moves : (was : ℕ) → is_some (q was) ≡ true
              → ((p == p) ≡ true) × (within to (min n k) page ≡ true) × (was ≡ page - to + from)
              ⊎ (in_range p from n (p, page) ≡ false) × (in_range p to k (p, page) ≡ false) × (was ≡ page)
              → is_some (process_after_mremap from n to k left q page) ≡ true
          moves was mapped (inl x) = remapped-some q from n to k left last page
              (λ _ _. subst (λ y. is_some (q y) ≡ true) (x.2 ∙ turned (page - to) from) mapped) (λ i. absurd (whole x.1 i))
          moves was mapped (inr x) = remapped-some q from n to k left last page
              (λ i _. absurd (false≢true (sym (of_p (within to k page) x.1) ∙ i)))
              (λ i. (of_p (within from n page) x.0, subst (λ y. is_some (q y) ≡ true) x.2 mapped))

      by : (b : Bool) → (to == from) ≡ b → is_some (process_after_mremap from n to k left q page) ≡ true
      by true here = in_place here
      by false there = elsewhere there

  -- and an entry of another process at one that it had
  pub remap-others : (r page : ℕ) → (r == p) ≡ false → is_some (entry (after_all l (remap_events l p from n to k)) (r, page)) ≡ true
      → is_some (pages w r page) ≡ true
  remap-others r page other h = by (to == from) refl
    where
      kept : (b : Bool) (o : Option Entry) → is_some (cond b None o) ≡ true → is_some o ≡ true
      kept true o h = cc
      kept false o h = h

      some_is : {A : Type 0} (o : Option A) → is_some o ≡ true → (x : A) × (o ≡ Some x)
      some_is None h = cc
      some_is (Some x) h = (x, refl)

      moves : (was : ℕ) → is_some (pages w r was) ≡ true
          → ((r == p) ≡ true) × (within to (min n k) page ≡ true) × (was ≡ page - to + from)
          ⊎ (in_range p from n (r, page) ≡ false) × (in_range p to k (r, page) ≡ false) × (was ≡ page)
          → is_some (pages w r page) ≡ true
      moves was mapped (inl x) = absurd (false≢true (sym other ∙ x.0))
      moves was mapped (inr x) = subst (λ y. is_some (pages w r y) ≡ true) x.2 mapped

      by : (b : Bool) → (to == from) ≡ b → is_some (pages w r page) ≡ true
      by true here = all r page (kept (r == p && within (from + k) (n - k) page) (entry l (r, page))
          (ap is_some (sym (ap (λ l. entry l (r, page)) (after-in_place l p from n to k here) ∙ entry-range l p (from + k) (n - k) r page)) ∙ h))
      by false there =
          let e = some_is (entry (after_all l (remap_events l p from n to k)) (r, page)) h in
          let c = remap-came l p from n to k sorted there r page e.0 e.1 in
          moves c.was (all r c.was (ap is_some c.here)) c.moves
