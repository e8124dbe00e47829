-- The slots in flight and their frames go together, after each call.
use Rattle.std.proofs.Common.{◌≡◌, ℕ, suc, ◌+◌, ◌^◌, ◌<◌, ◌≤◌, Bool, true, false, cond, ◌||◌, ◌==◌, List, [], ◌∷◌, ◌++◌, length, get_or, set, Option, Some, None, is_some, refl, sym, ap, subst, ◌∙◌, arith, length-set, length-append, get_or-set_same, get_or-set_other}
use Rattle.std.proofs.lemmas.Bool.{false≢true}
use Rattle.std.proofs.lemmas.Bool.Decides.{nat_tests}
use Rattle.std.specs.List.{list_any}
use Rattle.av_base.proofs.Counted.{count-set}
use Rattle.av_base.specs.Words.{how_many}
use Rattle.av_base.specs.declared.slot.Slot.{Slot}
use Rattle.av_frames.proofs.Free.{any_default}
use Rattle.av_swapcache.specs.Swap.{IsWhole, is_writing, itself, same_slot, with_slot}
use Rattle.av_swapcache.proofs.SlotLaws.{slot-is, slot-itself, slot-other}

some_same : {X : Type 0} {x y : X} → Some x ≡ Some y → x ≡ y
some_same e = cc

no_some : {X : Type 0} {x : X} → None ≡ Some x → ⊥
no_some e = cc

-- a slot is in the list where it stands there at least once
pub not_listed : (s : Slot) (q : List Slot) → list_any (same_slot s) q ≡ false → how_many (same_slot s) q ≡ 0
not_listed s [] h = refl
not_listed s (t ∷ q) h = elim (same_slot s t) as (λ b. b || list_any (same_slot s) q ≡ false → cond b 1 0 + how_many (same_slot s) q ≡ 0) [
  | true ↦ λ e. absurd (false≢true (sym e))
  | false ↦ λ e. let rest = not_listed s q e in omega (arith, rest)
] h

pub is_listed : (s : Slot) (q : List Slot) (b : Bool) → how_many (same_slot s) q ≡ cond b 1 0 → list_any (same_slot s) q ≡ b
is_listed s q b h = by (list_any (same_slot s) q) refl b h
  where
    some : (q : List Slot) → list_any (same_slot s) q ≡ true → 0 < how_many (same_slot s) q
    some [] e = absurd (false≢true e)
    some (t ∷ q) e = elim (same_slot s t) as (λ b. b || list_any (same_slot s) q ≡ true → 0 < cond b 1 0 + how_many (same_slot s) q) [
      | true ↦ λ e. omega arith
      | false ↦ λ e. let rest = some q e in omega (arith, rest)
    ] e

    by : (a : Bool) → list_any (same_slot s) q ≡ a → (b : Bool) → how_many (same_slot s) q ≡ cond b 1 0 → list_any (same_slot s) q ≡ b
    by true e true h = e
    by true e false h = absurd (let more = some q e in omega (arith, more, h))
    by false e true h = absurd (let none = not_listed s q e in omega (arith, none, h))
    by false e false h = e

many-append : (test : Slot → Bool) (q : List Slot) (s : Slot) → how_many test (q ++ s ∷ []) ≡ how_many test q + cond (test s) 1 0
many-append test [] s = omega arith
many-append test (t ∷ q) s = let rest = many-append test q s in omega (arith, rest)

-- how many flags stand, after one is set
flags-set : (flags : List Bool) (f : ℕ) (b : Bool) → f < length flags → how_many itself (set flags f b) + cond (get_or flags f false) 1 0
    ≡ how_many itself flags + cond b 1 0
flags-set flags f b below = count-set itself flags f b false below

-- no more flags stand than there are, and fewer where one doesn't
flags_within : (flags : List Bool) → how_many itself flags ≤ length flags
flags_within [] = omega arith
flags_within (true ∷ flags) = let rest = flags_within flags in omega (arith, rest)
flags_within (false ∷ flags) = let rest = flags_within flags in omega (arith, rest)

module _ (n : ℕ) (find : Slot → Option ℕ) (q : List Slot) (ql qr : ℕ) (flags : List Bool) where
  -- the same by another function that is the same
  pub whole_same : (find' : Slot → Option ℕ) → find' ≡ find → IsWhole n find q ql qr flags → IsWhole n find' q ql qr flags
  whole_same find' e w = subst (λ g. IsWhole n g q ql qr flags) (sym e) w

  -- where a slot has another frame, its flag is that of the frame
  writing_at : (find' : Slot → Option ℕ) (s t : Slot) (x : Option ℕ) → (b : Bool) → same_slot t s ≡ b
      → is_writing flags (with_slot s x find t) ≡ cond b (is_writing flags x) (is_writing flags (find t))
  writing_at find' s t x true e = ap (λ b. is_writing flags (cond b x (find t))) e
  writing_at find' s t x false e = ap (λ b. is_writing flags (cond b x (find t))) e

  not_owned : (f : ℕ) → IsWhole n find q ql qr flags → ((t : Slot) → find t ≡ Some f → ⊥) → get_or flags f false ≡ false
  not_owned f w none = by (get_or flags f false) refl
    where
      by : (b : Bool) → get_or flags f false ≡ b → get_or flags f false ≡ false
      by true e = let o = w.owned f e in absurd (none o.0 o.1)
      by false e = e

  pub whole_put : (s : Slot) (f : ℕ) → IsWhole n find q ql qr flags → find s ≡ None → ((t : Slot) → find t ≡ Some f → ⊥) → f < length flags
      → IsWhole n (with_slot s (Some f) find) q ql qr flags
  whole_put s f w none free below = record {
    eight = w.eight;
    len = w.len;
    room = w.room;
    few = w.few;
    total = w.total;
    in_range = λ t g e. range t g (same_slot t s) refl e;
    apart = λ t u g e h. one t u g (same_slot t s) (same_slot u s) refl refl e h;
    flying = λ t. w.flying t ∙ flies t (same_slot t s) refl;
    owned = λ g e. owns g e (w.owned g e);
  }
    where
      at : (t : Slot) (b : Bool) → same_slot t s ≡ b → with_slot s (Some f) find t ≡ cond b (Some f) (find t)
      at t b e = ap (λ c. cond c (Some f) (find t)) e

      range : (t : Slot) (g : ℕ) (b : Bool) → same_slot t s ≡ b → with_slot s (Some f) find t ≡ Some g → g < length flags
      range t g true e h = subst (λ m. m < length flags) (some_same (sym (at t true e) ∙ h)) below
      range t g false e h = w.in_range t g (sym (at t false e) ∙ h)

      one : (t u : Slot) (g : ℕ) (b c : Bool) → same_slot t s ≡ b → same_slot u s ≡ c → with_slot s (Some f) find t ≡ Some g →
          with_slot s (Some f) find u ≡ Some g → t ≡ u
      one t u g true true a b h k = slot-is t s a ∙ sym (slot-is u s b)
      one t u g true false a b h k = absurd (free u (sym (at u false b) ∙ k ∙ ap Some (sym (some_same (sym (at t true a) ∙ h)))))
      one t u g false true a b h k = absurd (free t (sym (at t false a) ∙ h ∙ ap Some (sym (some_same (sym (at u true b) ∙ k)))))
      one t u g false false a b h k = w.apart t u g (sym (at t false a) ∙ h) (sym (at u false b) ∙ k)

      flies : (t : Slot) (b : Bool) → same_slot t s ≡ b
          → ◌≡◌ {A = ℕ} (cond (is_writing flags (find t)) 1 0) (cond (is_writing flags (with_slot s (Some f) find t)) 1 0)
      flies t true e = ap (λ o. cond (is_writing flags o) 1 0) (ap find (slot-is t s e) ∙ none)
          ∙ sym (ap (λ o. cond (is_writing flags o) 1 0) (at t true e) ∙ ap (λ b. cond b 1 0) (not_owned f w free))
      flies t false e = sym (ap (λ o. cond (is_writing flags o) 1 0) (at t false e))

      owns : (g : ℕ) → get_or flags g false ≡ true → (t : Slot) × (find t ≡ Some g) → (t : Slot) × (with_slot s (Some f) find t ≡ Some g)
      owns g e o = (o.0, still (same_slot o.0 s) refl)
        where
          still : (b : Bool) → same_slot o.0 s ≡ b → with_slot s (Some f) find o.0 ≡ Some g
          still true h = absurd (no_some (sym none ∙ ap find (sym (slot-is o.0 s h)) ∙ o.1))
          still false h = at o.0 false h ∙ o.1

  -- a slot that isn't in flight has no flag
  unflagged : (s : Slot) (f : ℕ) → IsWhole n find q ql qr flags → find s ≡ Some f → list_any (same_slot s) q ≡ false → get_or flags f false ≡ false
  unflagged s f w is none = by (get_or flags f false) (sym (not_listed s q none) ∙ w.flying s ∙ ap (λ o. cond (is_writing flags o) 1 0) is)
    where
      by : (b : Bool) → ◌≡◌ {A = ℕ} 0 (cond b 1 0) → b ≡ false
      by true e = absurd (omega (arith, e))
      by false e = refl

  pub whole_drop : (s : Slot) (f : ℕ) → IsWhole n find q ql qr flags → find s ≡ Some f → list_any (same_slot s) q ≡ false
      → IsWhole n (with_slot s None find) q ql qr flags
  whole_drop s f w is none = record {
    eight = w.eight;
    len = w.len;
    room = w.room;
    few = w.few;
    total = w.total;
    in_range = λ t g e. w.in_range t g (was t g (same_slot t s) refl e);
    apart = λ t u g e h. w.apart t u g (was t g (same_slot t s) refl e) (was u g (same_slot u s) refl h);
    flying = λ t. w.flying t ∙ flies t (same_slot t s) refl;
    owned = λ g e. owns g e (w.owned g e);
  }
    where
      at : (t : Slot) (b : Bool) → same_slot t s ≡ b → with_slot s None find t ≡ cond b None (find t)
      at t b e = ap (λ c. cond c None (find t)) e

      was : (t : Slot) (g : ℕ) (b : Bool) → same_slot t s ≡ b → with_slot s None find t ≡ Some g → find t ≡ Some g
      was t g true e h = absurd (no_some (sym (at t true e) ∙ h))
      was t g false e h = sym (at t false e) ∙ h

      flies : (t : Slot) (b : Bool) → same_slot t s ≡ b
          → ◌≡◌ {A = ℕ} (cond (is_writing flags (find t)) 1 0) (cond (is_writing flags (with_slot s None find t)) 1 0)
      flies t true e = ap (λ o. cond (is_writing flags o) 1 0) (ap find (slot-is t s e) ∙ is) ∙ ap (λ b. cond b 1 0) (unflagged s f w is none)
          ∙ sym (ap (λ o. cond (is_writing flags o) 1 0) (at t true e))
      flies t false e = sym (ap (λ o. cond (is_writing flags o) 1 0) (at t false e))

      owns : (g : ℕ) → get_or flags g false ≡ true → (t : Slot) × (find t ≡ Some g) → (t : Slot) × (with_slot s None find t ≡ Some g)
      owns g e o = (o.0, still (same_slot o.0 s) refl)
        where
          still : (b : Bool) → same_slot o.0 s ≡ b → with_slot s None find o.0 ≡ Some g
          still true h = absurd (false≢true (sym (unflagged s f w is none) ∙ ap (λ m. get_or flags m false)
              (some_same (sym is ∙ ap find (sym (slot-is o.0 s h)) ∙ o.1)) ∙ e))
          still false h = at o.0 false h ∙ o.1

  -- a slot goes over to a frame that caches none, with its flag
  pub whole_renamed : (s : Slot) (f g : ℕ) (b : Bool) → IsWhole n find q ql qr flags → find s ≡ Some f → ((t : Slot) → find t ≡ Some g → ⊥)
      → g < length flags → b ≡ get_or flags f b → IsWhole n (with_slot s (Some g) find) q ql qr (set (set flags g b) f false)
  whole_renamed s f g b w is free below reads = record {
    eight = w.eight;
    len = w.len;
    room = subst (λ m. m ≤ qr) (sym size) w.room;
    few = subst (λ m. m < 2 ^ 32) (sym size) w.few;
    total = sum _ _ _ _ w.total (flags-set flags g b below) (ap (λ x. cond x 1 0) (not_owned g w free))
        (flags-set (set flags g b) f false from_below) (ap (λ x. cond x 1 0) (get_or-set_other flags g f b false differ ∙ flag));
    in_range = λ t h e. subst (λ m. h < m) (sym size) (range t h (same_slot t s) refl e);
    apart = λ t u h d e. one t u h (same_slot t s) (same_slot u s) refl refl d e;
    flying = λ t. w.flying t ∙ flies t (same_slot t s) refl;
    owned = λ h e. owns h (h == f) (h == g) refl refl e;
  }
    where
      differ : f ≡ g → ⊥
      differ e = free s (is ∙ ap Some e)

      size : length (set (set flags g b) f false) ≡ length flags
      size = length-set (set flags g b) f false ∙ length-set flags g b

      from_below : f < length (set flags g b)
      from_below = subst (λ m. f < m) (sym (length-set flags g b)) (w.in_range s f is)

      flag : get_or flags f false ≡ b
      flag = any_default flags f false b (w.in_range s f is) ∙ sym reads

      flag_there : get_or (set (set flags g b) f false) g false ≡ b
      flag_there = get_or-set_other (set flags g b) f g false false (λ e. differ (sym e)) ∙ get_or-set_same flags g b false below

      flag_here : get_or (set (set flags g b) f false) f false ≡ false
      flag_here = get_or-set_same (set flags g b) f false false from_below

      flag_else : (h : ℕ) → (h ≡ f → ⊥) → (h ≡ g → ⊥) → get_or (set (set flags g b) f false) h false ≡ get_or flags h false
      flag_else h ne other = get_or-set_other (set flags g b) f h false false ne ∙ get_or-set_other flags g h b false other

      sum : (m c k d : ℕ) → length q ≡ how_many itself flags → m + c ≡ how_many itself flags + cond b 1 0 → c ≡ 0
          → k + d ≡ m + 0 → d ≡ cond b 1 0 → length q ≡ k
      sum m c k d x y z u v = omega (arith, x, y, z, u, v)

      at : (t : Slot) (c : Bool) → same_slot t s ≡ c → with_slot s (Some g) find t ≡ cond c (Some g) (find t)
      at t c e = ap (λ x. cond x (Some g) (find t)) e

      range : (t : Slot) (h : ℕ) (c : Bool) → same_slot t s ≡ c → with_slot s (Some g) find t ≡ Some h → h < length flags
      range t h true e d = subst (λ m. m < length flags) (some_same (sym (at t true e) ∙ d)) below
      range t h false e d = w.in_range t h (sym (at t false e) ∙ d)

      one : (t u : Slot) (h : ℕ) (c d : Bool) → same_slot t s ≡ c → same_slot u s ≡ d → with_slot s (Some g) find t ≡ Some h →
          with_slot s (Some g) find u ≡ Some h → t ≡ u
      one t u h true true x y d e = slot-is t s x ∙ sym (slot-is u s y)
      one t u h true false x y d e = absurd (free u (sym (at u false y) ∙ e ∙ ap Some (sym (some_same (sym (at t true x) ∙ d)))))
      one t u h false true x y d e = absurd (free t (sym (at t false x) ∙ d ∙ ap Some (sym (some_same (sym (at u true y) ∙ e)))))
      one t u h false false x y d e = w.apart t u h (sym (at t false x) ∙ d) (sym (at u false y) ∙ e)

      flies : (t : Slot) (c : Bool) → same_slot t s ≡ c
          → ◌≡◌ {A = ℕ} (cond (is_writing flags (find t)) 1 0)
          (cond (is_writing (set (set flags g b) f false) (with_slot s (Some g) find t)) 1 0)
      flies t true e = ap (λ x. cond {A = ℕ} x 1 0) (ap (is_writing flags) (ap find (slot-is t s e) ∙ is) ∙ flag
          ∙ sym (ap (is_writing (set (set flags g b) f false)) (at t true e) ∙ flag_there))
      flies t false e = ap (λ x. cond {A = ℕ} x 1 0) (stays (find t) refl ∙ sym (ap (is_writing (set (set flags g b) f false)) (at t false e)))
        where
          stays : (o : Option ℕ) → find t ≡ o → is_writing flags (find t) ≡ is_writing (set (set flags g b) f false) (find t)
          stays None h = ap (is_writing flags) h ∙ sym (ap (is_writing (set (set flags g b) f false)) h)
          stays (Some x) h =
              ap (is_writing flags) h ∙ sym (flag_else x (λ e'. slot-other t s e (w.apart t s f (h ∙ ap Some e') is)) (λ e'. free t (h ∙ ap Some e')))
              ∙ sym (ap (is_writing (set (set flags g b) f false)) h)

      owns : (h : ℕ) (c d : Bool) → (h == f) ≡ c → (h == g) ≡ d → get_or (set (set flags g b) f false) h false ≡ true
          → (t : Slot) × (with_slot s (Some g) find t ≡ Some h)
      owns h true d x y e =
          let same : h ≡ f = grind (arith, nat_tests, x) in
          absurd (false≢true (sym (ap (λ m. get_or (set (set flags g b) f false) m false) same ∙ flag_here) ∙ e))
      owns h false true x y e =
          let same : h ≡ g = grind (arith, nat_tests, y) in (s, at s true (slot-itself s) ∙ ap Some (sym same))
      owns h false false x y e =
          let ne : h ≡ f → ⊥ = grind (arith, nat_tests, x) in
          let other : h ≡ g → ⊥ = grind (arith, nat_tests, y) in
          let o = w.owned h (sym (flag_else h ne other) ∙ e) in
          (o.0, still o.0 o.1 ne (same_slot o.0 s) refl)
        where
          still : (t : Slot) → find t ≡ Some h → (h ≡ f → ⊥) → (c : Bool) → same_slot t s ≡ c → with_slot s (Some g) find t ≡ Some h
          still t found ne true k = absurd (ne (sym (some_same (sym is ∙ ap find (sym (slot-is t s k)) ∙ found))))
          still t found ne false k = at t false k ∙ found

  -- the flag of a slot after that of a frame is set
  flag_at : (s t : Slot) (f : ℕ) (b : Bool) → IsWhole n find q ql qr flags → find s ≡ Some f → (c : Bool) → same_slot t s ≡ c
      → is_writing (set flags f b) (find t) ≡ cond c b (is_writing flags (find t))
  flag_at s t f b w is true e = ap (λ o. is_writing (set flags f b) o) (ap find (slot-is t s e) ∙ is)
      ∙ get_or-set_same flags f b false (w.in_range s f is)
  flag_at s t f b w is false e = by (find t) refl
    where
      by : (o : Option ℕ) → find t ≡ o → is_writing (set flags f b) (find t) ≡ is_writing flags (find t)
      by None h = ap (λ o. is_writing (set flags f b) o) h ∙ sym (ap (λ o. is_writing flags o) h)
      by (Some g) h =
          let ne : g ≡ f → ⊥ = λ same. slot-other t s e (w.apart t s f (h ∙ ap Some same) is) in
          ap (λ o. is_writing (set flags f b) o) h ∙ get_or-set_other flags f g b false ne ∙ sym (ap (λ o. is_writing flags o) h)

  -- there is room for one more
  pub has_room : (s : Slot) (f : ℕ) → IsWhole n find q ql qr flags → find s ≡ Some f → list_any (same_slot s) q ≡ false → ql < qr
  has_room s f w is none = fits _ _ _ (flags-set flags f true (w.in_range s f is)) (ap (λ b. cond b 1 0) (unflagged s f w is none))
      (flags_within (set flags f true)) (length-set flags f true) w.total w.len w.room
    where
      fits : (m c k : ℕ) → m + c ≡ how_many itself flags + 1 → c ≡ 0 → m ≤ k → k ≡ length flags → length q ≡ how_many itself flags → ql ≡ length q
          → length flags ≤ qr → ql < qr
      fits m c k a b d e g h i = omega arith

  pub whole_start : (s : Slot) (f ql' qr' : ℕ) → IsWhole n find q ql qr flags → find s ≡ Some f → list_any (same_slot s) q ≡ false → ql' ≡ ql + 1 →
      qr' ≡ qr → IsWhole n find (q ++ s ∷ []) ql' qr' (set flags f true)
  whole_start s f ql' qr' w is none more same = record {
    eight = w.eight;
    len = grown ql ql' _ more w.len (length-append q (s ∷ []));
    room = fits _ (length-set flags f true) w.room same;
    few = subst (λ m. m < 2 ^ 32) (sym (length-set flags f true)) w.few;
    total = sum _ _ _ (flags-set flags f true (w.in_range s f is)) (ap (λ b. cond b 1 0) (unflagged s f w is none)) w.total
        (length-append q (s ∷ []));
    in_range = λ t g e. subst (λ m. g < m) (sym (length-set flags f true)) (w.in_range t g e);
    apart = w.apart;
    flying = λ t. many-append (same_slot t) q s ∙ ap (λ m. m + cond (same_slot t s) 1 0) (w.flying t)
        ∙ flies t (same_slot t s) refl;
    owned = λ g e. owns g (g == f) refl e;
  }
    where
      grown : (a b k : ℕ) → b ≡ a + 1 → a ≡ length q → k ≡ length q + 1 → b ≡ k
      grown a b k x y z = omega arith

      fits : (a : ℕ) → a ≡ length flags → length flags ≤ qr → qr' ≡ qr → a ≤ qr'
      fits a x y z = omega arith

      sum : (m c l : ℕ) → m + c ≡ how_many itself flags + 1 → c ≡ 0 → length q ≡ how_many itself flags → l ≡ length q + 1 → l ≡ m
      sum m c l x y z u = omega arith

      flies : (t : Slot) (b : Bool) → same_slot t s ≡ b → cond (is_writing flags (find t)) 1 0 + cond (same_slot t s) 1 0
          ≡ cond (is_writing (set flags f true) (find t)) 1 0
      flies t true e = ap (λ b. cond (is_writing flags (find t)) 1 0 + cond b 1 0) e
          ∙ ap (λ b. cond b 1 0 + 1) (ap (λ o. is_writing flags o) (ap find (slot-is t s e) ∙ is) ∙ unflagged s f w is none)
          ∙ sym (ap (λ b. cond b 1 0) (flag_at s t f true w is true e))
      flies t false e = ap (λ b. cond (is_writing flags (find t)) 1 0 + cond b 1 0) e ∙ plus_zero _
          ∙ sym (ap (λ b. cond b 1 0) (flag_at s t f true w is false e))
        where
          plus_zero : (m : ℕ) → m + 0 ≡ m
          plus_zero m = omega arith

      owns : (g : ℕ) (b : Bool) → (g == f) ≡ b → get_or (set flags f true) g false ≡ true → (t : Slot) × (find t ≡ Some g)
      owns g true e h = let same : g ≡ f = grind (arith, nat_tests) in (s, is ∙ ap Some (sym same))
      owns g false e h = let ne : g ≡ f → ⊥ = grind (arith, nat_tests) in w.owned g (sym (get_or-set_other flags f g true false ne) ∙ h)

  -- the first in flight is cached
  pub first_is : (s : Slot) (rest : List Slot) → IsWhole n find q ql qr flags → q ≡ s ∷ rest → is_some (find s) ≡ true
  first_is s rest w e = by (find s) (more _ (w.flying s) (ap (how_many (same_slot s)) e) (ap (λ b. cond b 1 0) (slot-itself s)))
    where
      more : (b : Bool) → how_many (same_slot s) q ≡ cond b 1 0 → how_many (same_slot s) q ≡ cond (same_slot s s) 1 0 + how_many (same_slot s) rest →
          ◌≡◌ {A = ℕ} (cond (same_slot s s) 1 0) 1 → b ≡ true
      more true x y z = refl
      more false x y z = absurd (omega (arith, x, y, z))

      by : (o : Option ℕ) → is_writing flags o ≡ true → is_some o ≡ true
      by None h = absurd (false≢true h)
      by (Some f) h = refl

  -- and has a flag
  first_flag : (s : Slot) (f : ℕ) (rest : List Slot) → IsWhole n find q ql qr flags → q ≡ s ∷ rest → find s ≡ Some f →
      (get_or flags f false ≡ true) × (how_many (same_slot s) rest ≡ 0)
  first_flag s f rest w e is =
      by (get_or flags f false) (sym (ap (how_many (same_slot s)) e) ∙ w.flying s ∙ ap (λ o. cond (is_writing flags o) 1 0) is)
      (ap (λ b. cond b 1 0) (slot-itself s))
    where
      by : (b : Bool) → cond (same_slot s s) 1 0 + how_many (same_slot s) rest ≡ cond b 1 0 → ◌≡◌ {A = ℕ} (cond (same_slot s s) 1 0) 1
          → (b ≡ true) × (how_many (same_slot s) rest ≡ 0)
      by true h k = (refl, omega (arith, h, k))
      by false h k = absurd (omega (arith, h, k))

  pub whole_finish : (s : Slot) (f ql' qr' : ℕ) (rest : List Slot) → IsWhole n find q ql qr flags → q ≡ s ∷ rest → find s ≡ Some f → ql' + 1 ≡ ql →
      qr' ≡ qr → IsWhole n find rest ql' qr' (set flags f false)
  whole_finish s f ql' qr' rest w e is fewer same = record {
    eight = w.eight;
    len = shrunk _ _ fewer w.len (ap length e);
    room = fits _ (length-set flags f false) w.room same;
    few = subst (λ m. m < 2 ^ 32) (sym (length-set flags f false)) w.few;
    total = sum _ _ _ (flags-set flags f false (w.in_range s f is)) (ap (λ b. cond b 1 0) (first_flag s f rest w e is).0) w.total (ap length e);
    in_range = λ t g h. subst (λ m. g < m) (sym (length-set flags f false)) (w.in_range t g h);
    apart = w.apart;
    flying = λ t. flies t (same_slot t s) refl (sym (ap (how_many (same_slot t)) e) ∙ w.flying t);
    owned = λ g h. owns g (g == f) refl h;
  }
    where
      shrunk : (k l : ℕ) → ql' + 1 ≡ ql → ql ≡ k → k ≡ suc l → ql' ≡ l
      shrunk k l x y z = omega arith

      fits : (a : ℕ) → a ≡ length flags → length flags ≤ qr → qr' ≡ qr → a ≤ qr'
      fits a x y z = omega arith

      sum : (m c l : ℕ) → m + c ≡ how_many itself flags + 0 → c ≡ 1 → length q ≡ how_many itself flags → length q ≡ suc l → l ≡ m
      sum m c l x y z u = omega arith

      flies : (t : Slot) (b : Bool) → same_slot t s ≡ b
          → cond (same_slot t s) 1 0 + how_many (same_slot t) rest ≡ cond (is_writing flags (find t)) 1 0
          → how_many (same_slot t) rest ≡ cond (is_writing (set flags f false) (find t)) 1 0
      flies t true a h = ap (λ u. how_many (same_slot u) rest) (slot-is t s a) ∙ (first_flag s f rest w e is).1
          ∙ sym (ap (λ b. cond b 1 0) (flag_at s t f false w is true a))
      flies t false a h = sym (ap (λ b. cond b 1 0 + how_many (same_slot t) rest) a ∙ zero_plus _) ∙ h
          ∙ sym (ap (λ b. cond b 1 0) (flag_at s t f false w is false a))
        where
          zero_plus : (m : ℕ) → 0 + m ≡ m
          zero_plus m = omega arith

      owns : (g : ℕ) (b : Bool) → (g == f) ≡ b → get_or (set flags f false) g false ≡ true → (t : Slot) × (find t ≡ Some g)
      owns g true a h = let same : g ≡ f = grind (arith, nat_tests) in
          absurd (false≢true (sym (ap (λ m. get_or (set flags f false) m false) same ∙ get_or-set_same flags f false false (w.in_range s f is)) ∙ h))
      owns g false a h = let ne : g ≡ f → ⊥ = grind (arith, nat_tests) in w.owned g (sym (get_or-set_other flags f g false false ne) ∙ h)

  pub few_flying : IsWhole n find q ql qr flags → ql < 2 ^ 32
  few_flying w = fits _ w.total w.len w.few (flags_within flags)
    where
      fits : (m : ℕ) → length q ≡ m → ql ≡ length q → length flags < 2 ^ 32 → m ≤ length flags → ql < 2 ^ 32
      fits m a b d e = omega arith
