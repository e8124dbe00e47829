-- Chain order where an area leaves its anon_vmas.
use Rattle.std.proofs.Common.{◌≡◌, ℕ, zero, suc, ◌+◌, ◌-◌, ◌<◌, Bool, true, false, cond, ◌&&◌, ◌||◌, ◌==◌, IsSome, Option, Some, None, List, [], ◌∷◌, refl, sym, ap, ◌∙◌, subst, arith, inl, inr, eq-eqb, ne_eqb, not}
use Rattle.std.specs.Prelude.{option_map}
use Rattle.std.proofs.lemmas.Bool.{cases_eq, eqb-true}
use Rattle.av_base.proofs.Without.{count-without}
use Rattle.av_base.specs.Words.{how_many, is_in, with_at, without}
use Rattle.std.specs.List.{range_with_len}
use Rattle.av_chain.specs.Links.{left_by_all, one_if}
use Rattle.av_interval.specs.declared.span.Span.{Span}
use Rattle.av_vma.specs.declared.area.Area.{Area}
use Rattle.av_anon.specs.declared.infos.Info.{Info}
use Rattle.av_anon.specs.Infos.{less_active, with_info, without_children}
use Rattle.av_anon.specs.Anons.{give_own, is_empty, own_of, with_own, Family, IsRising}
use Rattle.av_anon.specs.Order.{IsArea, IsChain, IsInOrder, is_child, owns}
use Rattle.av_anon.specs.Spans.{GoWithLinks}
use Rattle.av_anon.specs.Unlink.{has_no_other, info_without, after_unlink}
use Rattle.av_chain.proofs.TwoMaps.{without_none}
use Rattle.av_anon.proofs.Words.{with_at-here, with_at-other, how_many-more}
use Rattle.av_anon.proofs.OrderLemmas.{some_of, some_is, chain_kept_on, how_many-below, none_in, numbers_more, rising_absent}

abbrev flag : Bool → ℕ
flag b = cond b 1 0

no_way : false ≡ true → ⊥
no_way e = cc

-- ---- counting over a list without one

how_many-without : (t : ℕ → Bool) (a : ℕ) (xs : List ℕ) → t a ≡ false → how_many t (without a xs) ≡ how_many t xs
how_many-without t a [] h = refl
how_many-without t a (x ∷ xs) h = elim (cases_eq a x) [
  | inl e ↦
      let rest : how_many t xs ≡ flag (t x) + how_many t xs = (let zero : flag (t x) ≡ 0 = ap flag (ap t (sym e) ∙ h) in omega (arith, zero)) in
      ap (λ b. how_many t (cond (not b) (x ∷ without a xs) (without a xs))) (eq-eqb a x e) ∙ how_many-without t a xs h ∙ rest
  | inr ne ↦ ap (λ b. how_many t (cond (not b) (x ∷ without a xs) (without a xs))) (ne_eqb a x ne) ∙ ap (λ k. flag (t x) + k) (how_many-without t a xs h)
]

-- two tests that agree but at a, where the second fails
how_many-but : (t t' : ℕ → Bool) (a : ℕ) (xs : List ℕ) → ((b : ℕ) → (b ≡ a → ⊥) → t b ≡ t' b) → t' a ≡ false
    → how_many t xs ≡ how_many t' xs + cond (t a) (how_many (λ b. a == b) xs) 0
how_many-but t t' a [] same h = by (t a)
  where
    by : (b : Bool) → how_many t [] ≡ how_many t' [] + cond b (how_many (λ b. a == b) []) 0
    by true = omega arith
    by false = omega arith
how_many-but t t' a (x ∷ xs) same h = by (t a) refl (how_many-but t t' a xs same h)
  where
    by : (b : Bool) → t a ≡ b → how_many t xs ≡ how_many t' xs + cond b (how_many (λ c. a == c) xs) 0
        → how_many t (x ∷ xs) ≡ how_many t' (x ∷ xs) + cond b (how_many (λ c. a == c) (x ∷ xs)) 0
    by true e rest = elim (cases_eq x a) [
      | inl i ↦
          let one : flag (t x) ≡ 1 = ap flag (ap t i ∙ e) in let none : flag (t' x) ≡ 0 = ap flag (ap t' i
          ∙ h) in let here : flag (a == x) ≡ 1 = ap flag (eq-eqb a x (sym i)) in
          omega (arith, rest, one, none, here)
      | inr ne ↦
          let eq : flag (t x) ≡ flag (t' x) = ap flag (same x ne) in let other : flag (a == x) ≡ 0 = ap flag (ne_eqb a x (λ i. ne (sym i))) in
          omega (arith, rest, eq, other)
    ]
    by false e rest = elim (cases_eq x a) [
      | inl i ↦ let none : flag (t x) ≡ 0 = ap flag (ap t i ∙ e) in let none' : flag (t' x) ≡ 0 = ap flag (ap t' i ∙ h) in
          omega (arith, rest, none, none')
      | inr ne ↦ let eq : flag (t x) ≡ flag (t' x) = ap flag (same x ne) in omega (arith, rest, eq)
    ]

-- a test split in two
how_many-split : (t t1 t2 : ℕ → Bool) (xs : List ℕ) → ((w : ℕ) → flag (t w) ≡ flag (t1 w) + flag (t2 w))
    → how_many t xs ≡ how_many t1 xs + how_many t2 xs
how_many-split t t1 t2 [] h = refl
how_many-split t t1 t2 (x ∷ xs) h = let here = h x in let rest = how_many-split t t1 t2 xs h in omega (arith, here, rest)

how_many-point : (t : ℕ → Bool) (x n : ℕ) → x < n → how_many (λ w. (w == x) && t w) (range_with_len 0 n) ≡ flag (t x)
how_many-point t x zero lt = absurd (omega arith)
how_many-point t x (suc n) lt =
    let test : ℕ → Bool = λ w. (w == x) && t w in
    let e : 0 + n ≡ n = omega arith in
    ap (how_many test) (numbers_more 0 n) ∙ how_many-more test (range_with_len 0 n) (0 + n)
    ∙ ap (λ m. how_many test (range_with_len 0 n) + flag (test m)) e
    ∙ elim (cases_eq n x) [
      | inl i ↦
          let none : how_many test (range_with_len 0 n) ≡ 0 =
          how_many-below test (λ _. false) 0 n (λ w lt'. ap (λ b. b && t w) (ne_eqb w x (λ h. absurd
          (omega arith)))) ∙ nothing (range_with_len 0 n) in
          let here : flag (test n) ≡ flag (t x) = ap (λ b. flag (b && t n)) (eq-eqb n x i) ∙ ap (λ m. flag (t m)) i in
          omega (arith, none, here)
      | inr ne ↦
          let rest = how_many-point t x n (omega arith) in
          let none : flag (test n) ≡ 0 = ap (λ b. flag (b && t n)) (ne_eqb n x ne) in
          omega (arith, rest, none)
    ]
  where
    nothing : (xs : List ℕ) → how_many (λ _. false) xs ≡ 0
    nothing [] = refl
    nothing (x ∷ xs) = let rest = nothing xs in omega arith

-- the members of a rising list, counted one by one
members-counted : (t : ℕ → Bool) (xs : List ℕ) (n : ℕ) → IsRising xs → ((u : ℕ) → is_in u xs ≡ true → u < n)
    → how_many t xs ≡ how_many (λ u. is_in u xs && t u) (range_with_len 0 n)
members-counted t [] n rising below = sym (nothing (range_with_len 0 n))
  where
    nothing : (xs : List ℕ) → how_many (λ _. false) xs ≡ 0
    nothing [] = refl
    nothing (x ∷ xs) = let rest = nothing xs in omega arith
members-counted t (x ∷ xs) n rising below =
    let rest = members-counted t xs n rising.1 (λ u h. below u (later (u == x) h)) in
    let point = how_many-point t x n (below x (ap (λ b. b || is_in x xs) (eq-eqb x x refl))) in
    let sum = how_many-split (λ u. is_in u (x ∷ xs) && t u) (λ u. (u == x) && t u) (λ u. is_in u xs && t u) (range_with_len 0 n) (λ u. parts u) in
    omega (arith, rest, point, sum)
  where
    later : (a : Bool) {b : Bool} → b ≡ true → (a || b) ≡ true
    later true h = refl
    later false h = h

    absent : (u : ℕ) → u ≡ x → is_in u xs ≡ false
    absent u e = ap (λ w. is_in w xs) e ∙ rising_absent x xs rising

    parts : (u : ℕ) → flag (is_in u (x ∷ xs) && t u) ≡ flag ((u == x) && t u) + flag (is_in u xs && t u)
    parts u = elim (cases_eq u x) [
      | inl e ↦
          let a = ap (λ b. flag ((b || is_in u xs) && t u)) (eq-eqb u x e) in let b = ap (λ b. flag (b && t u)) (eq-eqb u x e) in let c = ap
          (λ b. flag (b && t u)) (absent u e) in
          omega (arith, a, b, c)
      | inr ne ↦
          let a = ap (λ b. flag ((b || is_in u xs) && t u)) (ne_eqb u x ne) in let b = ap (λ b. flag (b && t u)) (ne_eqb u x ne) in
          omega (arith, a, b)
    ]

-- ---- one active area less changes no parent

child_same : (v : ℕ) (info : ℕ → Option Info) (u w : ℕ) → is_child u (with_info v less_active info w) ≡ is_child u (info w)
child_same v info u w = elim (cases_eq w v) [
  | inl e ↦ ap (λ b. is_child u (cond b (option_map less_active (info v)) (info w))) (eq-eqb w v e) ∙ same (info v)
      ∙ ap (λ m. is_child u (info m)) (sym e)
  | inr ne ↦ ap (is_child u) (with_at-other v (option_map less_active (info v)) info w ne)
]
  where
    same : (o : Option Info) → is_child u (option_map less_active o) ≡ is_child u o
    same None = refl
    same (Some i) = refl

in_without : (a b : ℕ) (xs : List ℕ) → (b ≡ a → ⊥) → how_many (λ c. b == c) (without a xs) ≡ how_many (λ c. b == c) xs
in_without a b xs ne = count-without a b xs ∙ ap (λ t. cond t 0 (how_many (λ c. b == c) xs)) (ne_eqb b a ne)

none_without : (a : ℕ) (xs : List ℕ) → how_many (λ c. a == c) (without a xs) ≡ 0
none_without a xs = count-without a a xs ∙ ap (λ t. cond t 0 (how_many (λ c. a == c) xs)) (eq-eqb a a refl)

some_left : (b : ℕ) (xs : List ℕ) → how_many (λ c. b == c) xs ≡ 1 → is_empty xs ≡ false
some_left b [] h = absurd (omega arith)
some_left b (x ∷ xs) h = refl

module _ (areas : ℕ → Option Area) (f : Family) (spans : ℕ
    → List Span) (o : IsInOrder areas f spans) (a own : ℕ) (A : Area) (isA : areas a ≡ Some A) (is_own : A.anon ≡ Some own) where
  abbrev info0 : ℕ → Option Info
  info0 = with_info own less_active f.info

  abbrev info' : ℕ → Option Info
  info' = info_without a f.users (f.chain a) info0

  abbrev users' : ℕ → List ℕ
  users' = left_by_all a (f.chain a) f.users

  abbrev areas' : ℕ → Option Area
  areas' = give_own a None areas

  own_here : own_of (areas' a) ≡ None
  own_here = ap own_of (with_at-here a (with_own None (areas a)) areas) ∙ ap (λ m. own_of (with_own None m)) isA

  own_there : (b : ℕ) → (b ≡ a → ⊥) → own_of (areas' b) ≡ own_of (areas b)
  own_there b ne = ap own_of (with_at-other a (with_own None (areas a)) areas b ne)

  -- what is kept of one before, but for the own one's count
  before : (u : ℕ) (i : Info) → f.info u ≡ Some i
      → (j : Info) × (info0 u ≡ Some j) × (j.root ≡ i.root) × (j.parent ≡ i.parent) × (j.children ≡ i.children)
      × (j.active ≡ i.active - flag (own == u))
  before u i e = elim (cases_eq u own) [
    | inl h ↦
        let one : i.active - 1 ≡ i.active - flag (own == u) =
        (let f1 : flag (own == u) ≡ 1 = ap flag (eq-eqb own u (sym h)) in omega (arith, f1)) in (
          less_active i,
          ap (λ b. cond b (option_map less_active (f.info own)) (f.info u)) (eq-eqb u own h)
              ∙ ap (λ w. option_map less_active (f.info w)) (sym h) ∙ ap (option_map less_active) e,
          refl,
          refl,
          refl,
          one,
        )
    | inr ne ↦
        let none : i.active ≡ i.active - flag (own == u) =
        (let f0 : flag (own == u) ≡ 0 = ap flag (ne_eqb own u (λ h. ne (sym h))) in omega (arith, f0)) in
        (i, with_at-other own (option_map less_active (f.info own)) f.info u ne ∙ e, refl, refl, refl, none)
  ]

  was : (u : ℕ) → IsSome (info0 u) → IsSome (f.info u)
  was u h = elim (cases_eq u own) [
    | inl e ↦ of_map (f.info u) (subst IsSome (ap (λ b. cond b (option_map less_active (f.info own)) (f.info u)) (eq-eqb u own e)
        ∙ ap (λ w. option_map less_active (f.info w)) (sym e)) h)
    | inr ne ↦ subst IsSome (with_at-other own (option_map less_active (f.info own)) f.info u ne) h
  ]
    where
      of_map : (m : Option Info) → IsSome (option_map less_active m) → IsSome m
      of_map None h = h
      of_map (Some i) h = refl

  abbrev goes : ℕ → Bool
  goes u = is_in u (f.chain a) && has_no_other a f.users u

  abbrev falls : ℕ → ℕ → Bool
  falls u w = has_no_other a f.users w && is_child u (info0 w)

  abbrev n_of : ℕ → ℕ
  n_of u = how_many (falls u) (f.chain a)

  some_none : {i : Info} → ◌≡◌ {A = Option Info} None (Some i) → ⊥
  some_none e = cc

  stays : (u : ℕ) (i : Info) → info' u ≡ Some i → goes u ≡ false
  stays u i e = by (goes u) refl
    where
      by : (t : Bool) → goes u ≡ t → goes u ≡ false
      by true h = absurd (some_none (sym (ap (λ b. cond b None (option_map (without_children (n_of u)) (info0 u))) h) ∙ e))
      by false h = h

  there0 : (u : ℕ) → goes u ≡ false → IsSome (info' u) → IsSome (info0 u)
  there0 u g h = of_map (info0 u) (subst IsSome (ap (λ b. cond b None (option_map (without_children (n_of u)) (info0 u))) g) h)
    where
      of_map : (m : Option Info) → IsSome (option_map (without_children (n_of u)) m) → IsSome m
      of_map None h = h
      of_map (Some i) h = refl

  kept_of : (u : ℕ) → goes u ≡ false → (m : Info) → f.info u ≡ Some m
      → (i : Info) × (info' u ≡ Some i) × (i.root ≡ m.root) × (i.parent ≡ m.parent) × (i.children ≡ m.children - n_of u) ×
      (i.active ≡ m.active - flag (own == u))
  kept_of u g m e =
      let j = before u m e in (
        without_children (n_of u) j.0,
        ap (λ b. cond b None (option_map (without_children (n_of u)) (info0 u))) g
            ∙ ap (option_map (without_children (n_of u))) j.1,
        j.2,
        j.3,
        ap (λ k. k - n_of u) j.4,
        j.5,
      )

  -- a member of another area's chain stays
  member_stays : (b u : ℕ) → (b ≡ a → ⊥) → is_in u (f.chain b) ≡ true → goes u ≡ false
  member_stays b u ne h =
      let one : how_many (λ c. b == c) (f.users u) ≡ 1 = o.inverse.inverse b u ∙ ap flag h in
      ap (λ t. is_in u (f.chain a) && t) (some_left b (without a (f.users u)) (in_without a b (f.users u) ne ∙ one)) ∙ never (is_in u (f.chain a))
    where
      never : (t : Bool) → (t && false) ≡ false
      never true = refl
      never false = refl

  users_is : (u : ℕ) → users' u ≡ without a (f.users u)
  users_is u = by (is_in u (f.chain a)) refl
    where
      by : (t : Bool) → is_in u (f.chain a) ≡ t → cond t (without a (f.users u)) (f.users u) ≡ without a (f.users u)
      by true h = refl
      by false h = sym (without_none a (f.users u) (none_in a (f.users u) (o.inverse.inverse a u ∙ ap flag h)))

  own_in : is_in own (f.chain a) ≡ true
  own_in = (o.chains a).own_in own (ap own_of isA ∙ is_own)

  children_left : (u : ℕ)
      → how_many (λ w. is_child u (f.info w)) (range_with_len 0 f.next) ≡ how_many (λ w. is_child u (info' w)) (range_with_len 0 f.next)
      + n_of u
  children_left u =
      how_many-split (λ w. is_child u (f.info w)) (λ w. is_child u (info' w)) (λ w. is_in w (f.chain a) && falls u w) (range_with_len 0 f.next) (λ w.
      ap flag (sym (child_same own f.info u w)) ∙ parts (is_in w (f.chain a)) (has_no_other a f.users w) (n_of w) (info0 w))
      ∙ ap (λ k. how_many (λ w. is_child u (info' w)) (range_with_len 0 f.next) + k)
      (sym (members-counted (falls u) (f.chain a) f.next (o.chains a).rising
      (o.chains a).made))
    where
      parts : (x y : Bool) (n : ℕ) (m : Option Info)
          → flag (is_child u m) ≡ flag (is_child u (cond (x && y) None (option_map (without_children n) m))) + flag (x && (y && is_child u m))
      parts true true n None = omega arith
      parts true true n (Some i) = omega arith
      parts true false n None = omega arith
      parts true false n (Some i) = omega arith
      parts false y n None = omega arith
      parts false y n (Some i) = omega arith

  active_left : (u : ℕ)
      → how_many (λ b. owns u (own_of (areas b))) (f.users u) ≡ how_many (λ b. owns u (own_of (areas' b))) (users' u) + flag (own == u)
  active_left u =
      let t : ℕ → Bool = λ b. owns u (own_of (areas b)) in
      let t' : ℕ → Bool = λ b. owns u (own_of (areas' b)) in
      let fails : t' a ≡ false = ap (owns u) own_here in
      how_many-but t t' a (f.users u) (λ b ne. ap (owns u) (sym (own_there b ne))) fails
      ∙ ap (λ k. how_many t' (f.users u) + k) (ap (λ c. cond c (how_many (λ b. a == b) (f.users u)) 0) (ap (owns u) (ap own_of isA ∙ is_own))
      ∙ once (own == u) refl)
      ∙ ap (λ k. k + flag (own == u)) (sym (how_many-without t' a (f.users u) fails) ∙ ap (how_many t') (sym (users_is u)))
    where
      once : (b : Bool) → (own == u) ≡ b → cond b (how_many (λ c. a == c) (f.users u)) 0 ≡ flag b
      once true h = o.inverse.inverse a u ∙ ap flag (ap (λ w. is_in w (f.chain a)) (sym (eqb-true own u h)) ∙ own_in)
      once false h = refl

  -- one that is left was there, with its root and parent
  pub left_same : (u : ℕ) (i : Info) → (after_unlink (Some own) a f).info u ≡ Some i
      → (m : Info) × (f.info u ≡ Some m) × (i.root ≡ m.root) × (i.parent ≡ m.parent)
  left_same u i e =
      let g = stays u i e in
      let m = some_of (f.info u) (was u (there0 u g (subst IsSome (sym e) refl))) in
      let k = kept_of u g m.0 m.1 in
      let is : i ≡ k.0 = some_is (sym e ∙ k.1) in
      (m.0, m.1, ap (λ (j : Info). j.root) is ∙ k.2, ap (λ (j : Info). j.parent) is ∙ k.3)

  pub left_keeps : (spans' : ℕ → List Span) → GoWithLinks (give_own a None areas) (with_at a [] f.chain) spans'
      → IsInOrder (give_own a None areas) (after_unlink (Some own) a f) spans'
  left_keeps spans' spanned = record {
    chains = λ b. elim (cases_eq b a) [
      | inl e ↦ subst (λ m. IsChain info' f.next (own_of (areas' m)) (with_at a [] f.chain m)) (sym e)
          (subst (λ w. IsChain info' f.next w (with_at a [] f.chain a)) (sym own_here) (subst (λ c. IsChain info' f.next None c) (sym
          (with_at-here a [] f.chain)) bare))
      | inr ne ↦ subst (λ w. IsChain info' f.next w (with_at a [] f.chain b)) (sym (own_there b ne))
          (subst (λ c. IsChain info' f.next (own_of (areas b)) c) (sym (with_at-other a [] f.chain b ne))
          (chain_kept_on f.info info' f.next f.next (own_of (areas b)) (f.chain b) (λ u i h e. let k = kept_of u (member_stays b u ne h) i e in
          (k.0, k.1, k.2, k.3)) (omega arith) (o.chains b)))
    ];
    alike = λ b d v eb ed. elim (cases_eq b a) [
      | inl e ↦ absurd (gone (sym own_here ∙ ap (λ m. own_of (areas' m)) (sym e) ∙ eb))
      | inr nb ↦ elim (cases_eq d a) [
        | inl e ↦ absurd (gone (sym own_here ∙ ap (λ m. own_of (areas' m)) (sym e) ∙ ed))
        | inr nd ↦ with_at-other a [] f.chain b nb ∙ o.alike b d v (sym (own_there b nb) ∙ eb) (sym (own_there d nd) ∙ ed)
            ∙ sym (with_at-other a [] f.chain d nd)
      ]
    ];
    counted = λ u i e.
        let g = stays u i e in
        let m = some_of (f.info u) (was u (there0 u g (subst IsSome (sym e) refl))) in
        let k = kept_of u g m.0 m.1 in
        let is : i ≡ k.0 = some_is (sym e ∙ k.1) in
        let kids = ap (λ (j : Info). j.children) is ∙ k.4 in
        let acts = ap (λ (j : Info). j.active) is ∙ k.5 in
        let all = (o.counted u m.0 m.1).children in
        let both = (o.counted u m.0 m.1).active in
        let left = children_left u in
        let less = active_left u in
        record { children = omega (arith, kids, all, left); active = omega (arith, acts, both, less) };
    inverse = record {
      inverse = λ b u. ap (how_many (λ c. b == c)) (users_is u) ∙ elim (cases_eq b a) [
        | inl e ↦ ap (λ m. how_many (λ c. m == c) (without a (f.users u))) e ∙ none_without a (f.users u)
            ∙ sym (ap (λ m. one_if (is_in u (with_at a [] f.chain m))) e ∙ ap (λ c. one_if (is_in u c)) (with_at-here a [] f.chain))
        | inr ne ↦ in_without a b (f.users u) ne ∙ o.inverse.inverse b u ∙ sym (ap (λ c. one_if (is_in u c)) (with_at-other a [] f.chain b ne))
      ];
      once = λ b u. elim (cases_eq b a) [
        | inl e ↦ subst (λ c. how_many (λ w. u == w) c ≡ one_if (is_in u c))
            (sym (ap (λ m. with_at a [] f.chain m) e ∙ with_at-here a [] f.chain)) refl
        | inr ne ↦ subst (λ c. how_many (λ w. u == w) c ≡ one_if (is_in u c)) (sym (with_at-other a [] f.chain b ne)) (o.inverse.once b u)
      ];
    };
    below = λ u h. let i = some_of (info' u) h in o.below u (was u (there0 u (stays u i.0 i.1) h));
    linked = λ u h gone'. let i = some_of (info' u) h in
        still u (is_in u (f.chain a)) refl (stays u i.0 i.1) (was u (there0 u (stays u i.0 i.1) h)) gone';
    spanned = spanned;
    areas_fit = λ b B e. elim (cases_eq b a) [
      | inl h ↦
          let same : Some B ≡ Some (record A { anon = None }) = sym e ∙ ap (λ m. areas' m) h ∙ with_at-here a (with_own None (areas a)) areas
          ∙ ap (with_own None) isA in
          subst IsArea (sym (some_is same)) (record { forward = (o.areas_fit a A isA).forward; small = (o.areas_fit a A isA).small })
      | inr ne ↦ o.areas_fit b B (sym (with_at-other a (with_own None (areas a)) areas b ne) ∙ e)
    ];
  }
    where
      gone : {v : ℕ} → ◌≡◌ {A = Option ℕ} None (Some v) → ⊥
      gone e = cc

      bare : IsChain info' f.next None []
      bare = record {
        none = λ e. refl;
        own_in = λ v e. absurd (gone e);
        there = λ v h. absurd (no_way h);
        made = λ v h. absurd (no_way h);
        rising = tt;
        parents = λ v i h e. absurd (no_way h);
        roots = λ v i h e. absurd (no_way h);
        one_root = λ v w i j h h' e e'. absurd (no_way h);
      }

      full : (xs : List ℕ) → is_empty xs ≡ false → xs ≡ [] → ⊥
      full [] h e = no_way (sym h)
      full (x ∷ xs) h e = cc

      still : (u : ℕ) (t : Bool) → is_in u (f.chain a) ≡ t → goes u ≡ false → IsSome (f.info u) → users' u ≡ [] → ⊥
      still u true h g there none = full (without a (f.users u)) (sym (ap (λ b. b && has_no_other a f.users u) h) ∙ g) (sym (users_is u) ∙ none)
      still u false h g there none = o.linked u there (sym (ap (λ b. cond b (without a (f.users u)) (f.users u)) h) ∙ none)
