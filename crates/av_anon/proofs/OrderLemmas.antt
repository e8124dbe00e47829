-- Chain order through the calls that link an area without anon_vma.
use Rattle.std.proofs.Common.{◌≡◌, ℕ, zero, suc, ◌+◌, ◌<◌, ◌≤◌, Bool, true, false, cond, ◌||◌, ◌==◌, IsSome, Option, Some, None, List, [], ◌∷◌, ◌++◌, refl, sym, ap, ◌∙◌, subst, arith, inl, inr, eq-eqb, ne_eqb}
use Rattle.std.specs.Prelude.{option_map}
use Rattle.std.proofs.lemmas.Bool.{cases_eq}
use Rattle.av_base.specs.Words.{is_in, how_many, with_at}
use Rattle.std.specs.List.{range_with_len, AllByRecursion}
use Rattle.av_chain.specs.Links.{one_if, users_with, AreMutual}
use Rattle.av_interval.specs.declared.span.Span.{Span}
use Rattle.av_vma.specs.declared.area.Area.{Area}
use Rattle.av_anon.specs.declared.infos.Info.{Info}
use Rattle.av_anon.specs.Anons.{give_own, with_links, own_of, with_own, Family, IsRising}
use Rattle.av_anon.specs.Order.{IsArea, IsChain, IsCounted, IsInOrder, owns}
use Rattle.av_anon.specs.Spans.{GoWithLinks}
use Rattle.av_anon.proofs.Words.{with_at-here, with_at-other, how_many-more}

pub some_of : {X : Type 0} (o : Option X) → IsSome o → (x : X) × (o ≡ Some x)
some_of None h = absurd (no h)
  where
    no : false ≡ true → ⊥
    no e = cc
some_of (Some x) h = (x, refl)

pub some_is : {X : Type 0} {x y : X} → ◌≡◌ {A = Option X} (Some x) (Some y) → x ≡ y
some_is e = cc

-- ---- anon_vmas stay there, with their roots and parents

pub record Extends (info info' : ℕ → Option Info) : Type 0 where
  pub same : (u : ℕ) (i : Info) → info u ≡ Some i → (j : Info) × (info' u ≡ Some j) × (j.root ≡ i.root) × (j.parent ≡ i.parent)

pub extends_trans : (a b c : ℕ → Option Info) → Extends a b → Extends b c → Extends a c
extends_trans a b c x y = record {
  same = λ u i e. let j = x.same u i e in let k = y.same u j.0 j.1 in (k.0, k.1, k.2 ∙ j.2, k.3 ∙ j.3);
}

pub changed_extends : (v : ℕ) (change : Info → Info) (info : ℕ → Option Info) → ((i : Info) → (change i).root ≡ i.root) → ((i : Info)
    → (change i).parent ≡ i.parent)
    → Extends info (with_at v (option_map change (info v)) info)
changed_extends v change info root parent = record {
  same = λ u i e. elim (cases_eq u v) [
    | inl h ↦ (
      change i,
      ap (λ b. cond b (option_map change (info v)) (info u)) (eq-eqb u v h) ∙ ap (λ w. option_map change (info w)) (sym h)
          ∙ ap (option_map change) e,
      root i,
      parent i,
    )
    | inr ne ↦ (i, with_at-other v (option_map change (info v)) info u ne ∙ e, refl, refl)
  ];
}

pub made_extends : (n : ℕ) (new : Info) (info : ℕ → Option Info) → ((u : ℕ) → IsSome (info u) → u < n) → Extends info (with_at n (Some new) info)
made_extends n new info below = record {
  same = λ u i e.
      let lt : u < n = below u (subst IsSome (sym e) refl) in
      (i, with_at-other n (Some new) info u (λ h. absurd (omega arith)) ∙ e, refl, refl);
}

-- the members of one chain stay
pub chain_kept_on : (info info' : ℕ → Option Info) (next next' : ℕ) (own : Option ℕ) (chain : List ℕ)
    → ((u : ℕ) (i : Info) → is_in u chain ≡ true → info u ≡ Some i → (j : Info) × (info' u ≡ Some j) × (j.root ≡ i.root) × (j.parent ≡ i.parent))
    → next ≤ next' → IsChain info next own chain → IsChain info' next' own chain
chain_kept_on info info' next next' own chain same le k = record {
  none = k.none;
  own_in = k.own_in;
  there = λ u h. subst IsSome (sym (new u h).1) refl;
  made = λ u h. let lt = k.made u h in omega arith;
  rising = k.rising;
  parents = λ u j h e. subst (λ p. is_in p chain ≡ true) (sym (ap (λ (i : Info). i.parent) (is u h j e)
      ∙ (new u h).3)) (k.parents u (old u h).0 h (old u h).1);
  roots = λ u j h e. subst (λ p. is_in p chain ≡ true) (sym (ap (λ (i : Info). i.root) (is u h j e) ∙ (new u h).2))
      (k.roots u (old u h).0 h (old u h).1);
  one_root = λ u w i j h h' e e'.
      ap (λ (i : Info). i.root) (is u h i e) ∙ (new u h).2 ∙ k.one_root u w (old u h).0 (old w h').0 h h' (old u h).1 (old w h').1
      ∙ sym (ap (λ (i : Info). i.root) (is w h' j e') ∙ (new w h').2);
}
  where
    old : (u : ℕ) → is_in u chain ≡ true → (i : Info) × (info u ≡ Some i)
    old u h = some_of (info u) (k.there u h)

    new : (u : ℕ) (h : is_in u chain ≡ true)
        → (j : Info) × (info' u ≡ Some j) × (j.root ≡ (some_of (info u) (k.there u h)).0.root)
        × (j.parent ≡ (some_of (info u) (k.there u h)).0.parent)
    new u h = same u (some_of (info u) (k.there u h)).0 h (some_of (info u) (k.there u h)).1

    is : (u : ℕ) (h : is_in u chain ≡ true) (j : Info) → info' u ≡ Some j
        → j ≡ (same u (some_of (info u) (k.there u h)).0 h (some_of (info u) (k.there u h)).1).0
    is u h j e = some_is (sym e ∙ (same u (some_of (info u) (k.there u h)).0 h (some_of (info u) (k.there u h)).1).1)

pub chain_kept : (info info' : ℕ → Option Info) (next next' : ℕ) (own : Option ℕ) (chain : List ℕ) → Extends info info' → next ≤ next'
    → IsChain info next own chain → IsChain info' next' own chain
chain_kept info info' next next' own chain x le k = chain_kept_on info info' next next' own chain (λ u i h e. x.same u i e) le k

-- ---- counting

pub numbers_more : (a n : ℕ) → range_with_len a (suc n) ≡ range_with_len a n ++ (a + n) ∷ []
numbers_more a zero = let e : a ≡ a + 0 = omega arith in ap (λ k. k ∷ []) e
numbers_more a (suc n) = let e : (a + 1) + n ≡ a + suc n = omega arith in ap (λ xs. a ∷ xs)
    (numbers_more (a + 1) n ∙ ap (λ k. range_with_len (a + 1) n ++ k ∷ []) e)

pub how_many-below : (t t' : ℕ → Bool) (a n : ℕ) → ((w : ℕ) → w < a + n → t w ≡ t' w)
    → how_many t (range_with_len a n) ≡ how_many t' (range_with_len a n)
how_many-below t t' a zero h = refl
how_many-below t t' a (suc n) h =
    ap (λ b. cond b 1 0 + how_many t (range_with_len (a + 1) n)) (h a (omega arith))
    ∙ ap (λ k. cond (t' a) 1 0 + k) (how_many-below t t' (a + 1) n (λ w lt. h w (omega arith)))

or_parts : (a b : Bool) → (a || b) ≡ false → (a ≡ false) × (b ≡ false)
or_parts false b h = (refl, h)
or_parts true b h = absurd (no h)
  where
    no : true ≡ false → ⊥
    no e = cc

pub how_many-others : (t t' : ℕ → Bool) (a : ℕ) (xs : List ℕ) → is_in a xs ≡ false → ((b : ℕ) → (b ≡ a → ⊥) → t b ≡ t' b)
    → how_many t xs ≡ how_many t' xs
how_many-others t t' a [] absent h = refl
how_many-others t t' a (x ∷ xs) absent h =
    let parts = or_parts (a == x) (is_in a xs) absent in
    ap (λ b. cond b 1 0 + how_many t xs) (h x (λ e. clash (sym (eq-eqb a x (sym e)) ∙ parts.0)))
    ∙ ap (λ k. cond (t' x) 1 0 + k) (how_many-others t t' a xs parts.1 h)
  where
    clash : true ≡ false → ⊥
    clash e = cc

pub none_in : (a : ℕ) (xs : List ℕ) → how_many (λ b. a == b) xs ≡ 0 → is_in a xs ≡ false
none_in a [] h = refl
none_in a (x ∷ xs) h = by (a == x) (none_in a xs) h
  where
    by : (b : Bool) → (how_many (λ b. a == b) xs ≡ 0 → is_in a xs ≡ false) → cond b 1 0 + how_many (λ b. a == b) xs ≡ 0 → (b || is_in a xs) ≡ false
    by true r h = absurd (omega arith)
    by false r h = let e : how_many (λ b. a == b) xs ≡ 0 = omega arith in r e

pub not_a_user : (chain users : ℕ → List ℕ) → AreMutual chain users → (a u : ℕ) → chain a ≡ [] → is_in a (users u) ≡ false
not_a_user chain users m a u empty = none_in a (users u) (m.inverse a u ∙ ap (λ vs. one_if (is_in u vs)) empty)

above_absent : (x : ℕ) (xs : List ℕ) → AllByRecursion (λ y. x < y) xs → is_in x xs ≡ false
above_absent x [] all = refl
above_absent x (y ∷ ys) all = let lt = all.0 in ap (λ b. b || is_in x ys) (ne_eqb x y (λ e. absurd (omega arith))) ∙ above_absent x ys all.1

pub rising_absent : (x : ℕ) (xs : List ℕ) → IsRising (x ∷ xs) → is_in x xs ≡ false
rising_absent x xs rising = above_absent x xs rising.0

pub rising_once : (u : ℕ) (xs : List ℕ) → IsRising xs → how_many (λ v. u == v) xs ≡ one_if (is_in u xs)
rising_once u [] rising = refl
rising_once u (x ∷ xs) rising =
    let rest = rising_once u xs rising.1 in
    elim (cases_eq u x) [
      | inl e ↦
          let none : how_many (λ v. u == v) xs ≡ 0 = rest ∙ ap one_if (ap (λ w. is_in w xs) e ∙ above_absent x xs rising.0) in
          let one : 1 + how_many (λ v. u == v) xs ≡ 1 = omega (arith, none) in
          ap (λ b. cond b 1 0 + how_many (λ v. u == v) xs) (eq-eqb u x e) ∙ one ∙ sym (ap (λ b. one_if (b || is_in u xs)) (eq-eqb u x e))
      | inr ne ↦
          let same : 0 + how_many (λ v. u == v) xs ≡ how_many (λ v. u == v) xs = omega arith in
          ap (λ b. cond b 1 0 + how_many (λ v. u == v) xs) (ne_eqb u x ne) ∙ same ∙ rest ∙ sym (ap (λ b. one_if (b || is_in u xs)) (ne_eqb u x ne))
    ]

-- ---- an area without anon_vma is linked to anon_vmas, one of them its own

module _ (areas : ℕ → Option Area) (f : Family) (spans : ℕ
    → List Span) (o : IsInOrder areas f spans) (a : ℕ) (A : Area) (isA : areas a ≡ Some A) (none : A.anon ≡ None) where
  pub bare : f.chain a ≡ []
  bare = (o.chains a).none (ap own_of isA ∙ none)

  not_user : (u : ℕ) → is_in a (f.users u) ≡ false
  not_user u = not_a_user f.chain f.users o.inverse a u bare

  module _ (v : ℕ) (vs : List ℕ) where
    own_here : own_of (give_own a (Some v) areas a) ≡ Some v
    own_here = ap own_of (with_at-here a (with_own (Some v) (areas a)) areas) ∙ ap (λ m. own_of (with_own (Some v) m)) isA

    own_there : (b : ℕ) → (b ≡ a → ⊥) → own_of (give_own a (Some v) areas b) ≡ own_of (areas b)
    own_there b ne = ap own_of (with_at-other a (with_own (Some v) (areas a)) areas b ne)

    -- its users have one more as their own, where the anon_vma is v
    pub active_of : (u : ℕ) → is_in v vs ≡ true
        → how_many (λ b. owns u (own_of (give_own a (Some v) areas b))) (users_with a vs f.users u) ≡ how_many (λ b. owns u (own_of (areas b)))
        (f.users u) + cond (v == u) 1 0
    active_of u v_in = by (is_in u vs) refl
      where
        same : how_many (λ b. owns u (own_of (give_own a (Some v) areas b))) (f.users u) ≡ how_many (λ b. owns u (own_of (areas b))) (f.users u)
        same = how_many-others (λ b. owns u (own_of (give_own a (Some v) areas b))) (λ b. owns u (own_of (areas b))) a (f.users u) (not_user u)
            (λ b ne. ap (owns u) (own_there b ne))

        no : true ≡ false → ⊥
        no e = cc

        by : (t : Bool) → is_in u vs ≡ t → how_many (λ b. owns u (own_of (give_own a (Some v) areas b))) (cond t (f.users u ++ a ∷ [])
            (f.users u)) ≡ how_many (λ b. owns u (own_of (areas b))) (f.users u) + cond (v == u) 1 0
        by true h =
            how_many-more (λ b. owns u (own_of (give_own a (Some v) areas b))) (f.users u) a
            ∙ ap (λ t. how_many (λ b. owns u (own_of (give_own a (Some v) areas b))) (f.users u) + cond t 1 0) (ap (owns u) own_here)
            ∙ ap (λ k. k + cond (v == u) 1 0) same
        by false h =
            let other : (v == u) ≡ false = ne_eqb v u (λ e. no (sym v_in ∙ ap (λ w. is_in w vs) e ∙ h)) in
            let plus : how_many (λ b. owns u (own_of (areas b))) (f.users u) ≡ how_many (λ b. owns u (own_of (areas b))) (f.users u) +
            0 = omega arith in
            same ∙ plus ∙ sym (ap (λ t. how_many (λ b. owns u (own_of (areas b))) (f.users u) + cond t 1 0) other)

    module _ (rising : IsRising vs) where
      pub inverse_joined : AreMutual (with_at a vs f.chain) (users_with a vs f.users)
      inverse_joined = record {
        inverse = λ b u. by b u (is_in u vs) refl;
        once = λ b u. elim (cases_eq b a) [
          | inl e ↦ subst (λ c. how_many (λ w. u == w) c ≡ one_if (is_in u c)) (sym (ap (λ m. with_at a vs f.chain m) e
              ∙ with_at-here a vs f.chain)) (rising_once u vs rising)
          | inr ne ↦ subst (λ c. how_many (λ w. u == w) c ≡ one_if (is_in u c)) (sym (with_at-other a vs f.chain b ne)) (o.inverse.once b u)
        ];
      }
        where
          zero_right : (k : ℕ) → k + 0 ≡ k
          zero_right k = omega arith

          by : (b u : ℕ) (t : Bool) → is_in u vs ≡ t
              → how_many (λ c. b == c) (cond t (f.users u ++ a ∷ []) (f.users u)) ≡ one_if (is_in u (with_at a vs f.chain b))
          by b u true h = how_many-more (λ c. b == c) (f.users u) a ∙ elim (cases_eq b a) [
            | inl e ↦
                let old : how_many (λ c. b == c) (f.users u) ≡ 0 = o.inverse.inverse b u ∙ ap (λ m. one_if (is_in u (f.chain m))) e
                ∙ ap (λ c. one_if (is_in u c)) bare in
                let one : how_many (λ c. b == c) (f.users u) + 1 ≡ 1 = omega (arith, old) in
                ap (λ t. how_many (λ c. b == c) (f.users u) + cond t 1 0) (eq-eqb b a e) ∙ one
                ∙ sym (ap (λ m. one_if (is_in u (with_at a vs f.chain m))) e ∙ ap (λ c. one_if (is_in u c)) (with_at-here a vs f.chain) ∙ ap one_if h)
            | inr ne ↦
                ap (λ t. how_many (λ c. b == c) (f.users u) + cond t 1 0) (ne_eqb b a ne) ∙ zero_right (how_many (λ c. b == c) (f.users u))
                ∙ o.inverse.inverse b u ∙ sym (ap (λ c. one_if (is_in u c)) (with_at-other a vs f.chain b ne))
          ]
          by b u false h = o.inverse.inverse b u ∙ elim (cases_eq b a) [
            | inl e ↦ ap (λ m. one_if (is_in u (f.chain m))) e ∙ ap (λ c. one_if (is_in u c)) bare
                ∙ sym (ap (λ m. one_if (is_in u (with_at a vs f.chain m))) e ∙ ap (λ c. one_if (is_in u c)) (with_at-here a vs f.chain) ∙ ap one_if h)
            | inr ne ↦ sym (ap (λ c. one_if (is_in u c)) (with_at-other a vs f.chain b ne))
          ]

    pub joined_keeps : (next' : ℕ) (info' : ℕ → Option Info) (spans' : ℕ → List Span) → Extends f.info info' → f.next ≤ next'
        → IsChain info' next' (Some v) vs
        → ((b : ℕ) → own_of (areas b) ≡ Some v → f.chain b ≡ vs)
        → ((u : ℕ) (i : Info) → info' u ≡ Some i
        → IsCounted (give_own a (Some v) areas) (with_links a vs (record { next = next'; info = info'; chain = f.chain; users = f.users })) u i)
        → ((u : ℕ) → IsSome (info' u) → is_in u vs ≡ false → IsSome (f.info u))
        → ((u : ℕ) → IsSome (info' u) → u < next')
        → GoWithLinks (give_own a (Some v) areas) (with_at a vs f.chain) spans'
        → IsInOrder (give_own a (Some v) areas) (with_links a vs (record { next = next'; info = info'; chain = f.chain; users = f.users })) spans'
    joined_keeps next' info' spans' x le mine alike counted live below spanned = record {
      chains = λ b. elim (cases_eq b a) [
        | inl e ↦ subst (λ m. IsChain info' next' (own_of (give_own a (Some v) areas m)) (with_at a vs f.chain m)) (sym e)
            (subst (λ w. IsChain info' next' w (with_at a vs f.chain a)) (sym own_here) (subst (λ c. IsChain info' next' (Some v) c) (sym
            (with_at-here a vs f.chain)) mine))
        | inr ne ↦ subst (λ w. IsChain info' next' w (with_at a vs f.chain b)) (sym (own_there b ne))
            (subst (λ c. IsChain info' next' (own_of (areas b)) c) (sym (with_at-other a vs f.chain b ne)) (chain_kept f.info info' f.next next'
            (own_of (areas b)) (f.chain b) x le (o.chains b)))
      ];
      alike = λ b d u eb ed. elim (cases_eq b a) [
        | inl hb ↦ ap (λ m. with_at a vs f.chain m) hb ∙ with_at-here a vs f.chain ∙ sym (elim (cases_eq d a) [
          | inl hd ↦ ap (λ m. with_at a vs f.chain m) hd ∙ with_at-here a vs f.chain
          | inr nd ↦ with_at-other a vs f.chain d nd ∙ alike d (sym (own_there d nd) ∙ ed ∙ own_is b hb u eb)
        ])
        | inr nb ↦ elim (cases_eq d a) [
          | inl hd ↦ with_at-other a vs f.chain b nb ∙ alike b (sym (own_there b nb) ∙ eb ∙ own_is d hd u ed)
              ∙ sym (ap (λ m. with_at a vs f.chain m) hd ∙ with_at-here a vs f.chain)
          | inr nd ↦ with_at-other a vs f.chain b nb ∙ o.alike b d u (sym (own_there b nb) ∙ eb) (sym (own_there d nd) ∙ ed)
              ∙ sym (with_at-other a vs f.chain d nd)
        ]
      ];
      counted = counted;
      inverse = inverse_joined mine.rising;
      linked = λ u h. by u h (is_in u vs) refl;
      spanned = spanned;
      areas_fit = λ b B e. elim (cases_eq b a) [
        | inl hb ↦
            let same : Some B ≡ Some (record A { anon = Some v }) = sym e ∙ ap (λ m. give_own a (Some v) areas m) hb
            ∙ with_at-here a (with_own (Some v) (areas a)) areas ∙ ap (with_own (Some v)) isA in
            subst IsArea (sym (some_is same)) (record { forward = (o.areas_fit a A isA).forward; small = (o.areas_fit a A isA).small })
        | inr nb ↦ o.areas_fit b B (sym (with_at-other a (with_own (Some v) (areas a)) areas b nb) ∙ e)
      ];
      below = below;
    }
      where
        own_is : (b : ℕ) → b ≡ a → (u : ℕ) → own_of (give_own a (Some v) areas b) ≡ Some u → Some u ≡ Some v
        own_is b e u h = sym h ∙ ap (λ m. own_of (give_own a (Some v) areas m)) e ∙ own_here

        no_end : (xs : List ℕ) → xs ++ a ∷ [] ≡ [] → ⊥
        no_end [] e = cc
        no_end (y ∷ ys) e = cc

        by : (u : ℕ) → IsSome (info' u) → (t : Bool) → is_in u vs ≡ t → cond t (f.users u ++ a ∷ []) (f.users u) ≡ [] → ⊥
        by u h true e gone = no_end (f.users u) gone
        by u h false e gone = o.linked u (live u h e) gone

-- ---- an area changes, and keeps its own anon_vma

pub changed_keeps : (areas : ℕ → Option Area) (f : Family) (spans spans' : ℕ → List Span) (a : ℕ) (new : Option Area)
    → IsInOrder areas f spans → own_of new ≡ own_of (areas a) → ((A : Area) → new ≡ Some A → IsArea A)
    → GoWithLinks (with_at a new areas) f.chain spans' → IsInOrder (with_at a new areas) f spans'
changed_keeps areas f spans spans' a new o same fits g = record {
  chains = λ b. subst (λ w. IsChain f.info f.next w (f.chain b)) (sym (own b)) (o.chains b);
  alike = λ b d v eb ed. o.alike b d v (sym (own b) ∙ eb) (sym (own d) ∙ ed);
  counted = λ v i e. record {
    children = (o.counted v i e).children;
    active = (o.counted v i e).active ∙ (λ k. how_many (λ b. owns v (sym (own b) k)) (f.users v));
  };
  inverse = o.inverse;
  below = o.below;
  linked = o.linked;
  spanned = g;
  areas_fit = λ b D e. elim (cases_eq b a) [
    | inl h ↦ fits D (sym (with_at-here a new areas) ∙ ap (λ m. with_at a new areas m) (sym h) ∙ e)
    | inr ne ↦ o.areas_fit b D (sym (with_at-other a new areas b ne) ∙ e)
  ];
}
  where
    own : (b : ℕ) → own_of (with_at a new areas b) ≡ own_of (areas b)
    own b = elim (cases_eq b a) [
      | inl e ↦ ap (λ m. own_of (with_at a new areas m)) e ∙ ap own_of (with_at-here a new areas) ∙ same ∙ ap (λ m. own_of (areas m)) (sym e)
      | inr ne ↦ ap own_of (with_at-other a new areas b ne)
    ]
