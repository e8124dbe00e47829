-- Laws of kin: what its words say where there is chain order, and what each call keeps.
use Rattle.std.proofs.Common.{◌≡◌, ℕ, Bool, true, false, cond, ◌==◌, IsSome, Option, Some, None, List, [], ◌∷◌, find, refl, sym, ap, ◌∙◌, subst, arith, inl, inr, eq-eqb}
use Rattle.std.specs.Prelude.{IfSome, IsSomeAnd, option_map}
use Rattle.std.proofs.lemmas.Bool.{cases_eq, eqb-true}
use Rattle.av_base.specs.Words.{is_in, how_many, with_at}
use Rattle.av_chain.specs.Links.{one_if}
use Rattle.av_interval.specs.declared.span.Span.{Span}
use Rattle.av_vma.specs.declared.area.Area.{Area}
use Rattle.av_anon.specs.declared.infos.Info.{Info}
use Rattle.av_anon.specs.Anons.{give_own, own_of, with_own, Family}
use Rattle.av_anon.specs.Fork.{after_clone, gets_own}
use Rattle.av_anon.specs.Infos.{more_active, with_info}
use Rattle.av_anon.specs.Kin.{chain_by, IsSameKin, KinStays}
use Rattle.av_anon.specs.Order.{IsInOrder, owns}
use Rattle.av_anon.specs.Resize.{with_bounds}
use Rattle.av_anon.specs.Unlink.{after_unlink}
use Rattle.av_anon.proofs.OrderLeft.{left_same}
use Rattle.av_anon.proofs.OrderLemmas.{some_is}
use Rattle.av_anon.proofs.Words.{with_at-here, with_at-other}

no : false ≡ true → ⊥
no e = cc

none_some : {X : Type 0} {x : X} → ◌≡◌ {A = Option X} None (Some x) → ⊥
none_some e = cc

-- ---- the chain by an own anon_vma

pub owns-is : (v : ℕ) (o : Option ℕ) → owns v o ≡ true → o ≡ Some v
owns-is v None h = absurd (no h)
owns-is v (Some w) h = ap (λ u. Some u) (eqb-true w v h)

-- one that passes is found
abbrev IsFound : (ℕ → Bool) → List ℕ → Type 0
IsFound t xs = (b : ℕ) × (find t xs ≡ Some b) × (t b ≡ true)

-- where one passes, one is found
found_of : (t : ℕ → Bool) (a : ℕ) (xs : List ℕ) → how_many (λ b. a == b) xs ≡ 1 → t a ≡ true → IsFound t xs
found_of t a [] h is = absurd (omega arith)
found_of t a (x ∷ xs) h is = by (t x) refl (found_of t a xs)
  where
    by : (p : Bool) → t x ≡ p → (how_many (λ b. a == b) xs ≡ 1 → t a ≡ true → IsFound t xs) → IsFound t (x ∷ xs)
    by true e rest = (x, ap (λ p. cond p (Some x) (find t xs)) e, e)
    by false e rest = by_head (a == x) refl
      where
        by_head : (p : Bool) → (a == x) ≡ p → IsFound t (x ∷ xs)
        by_head true i = absurd (no (sym e ∙ ap t (sym (eqb-true a x i)) ∙ is))
        by_head false i =
            let zero : cond (a == x) 1 0 ≡ 0 = ap one_if i in
            let later = rest (omega (arith, h, zero)) is in
            (later.0, ap (λ p. cond p (Some x) (find t xs)) e ∙ later.1, later.2)

pub chain_by-is : (areas : ℕ → Option Area) (f : Family) (spans : ℕ → List Span) (a v : ℕ)
    → IsInOrder areas f spans → own_of (areas a) ≡ Some v → chain_by areas f v ≡ f.chain a
chain_by-is areas f spans a v o own =
    let t : ℕ → Bool = λ b. owns v (own_of (areas b)) in
    let once : how_many (λ b. a == b) (f.users v) ≡ 1 = o.inverse.inverse a v ∙ ap one_if ((o.chains a).own_in v own) in
    let found = found_of t a (f.users v) once (ap (owns v) own ∙ eq-eqb v v refl) in
    ap (λ m. Rattle.std.specs.Option.option_map_or f.chain m []) found.1 ∙ o.alike found.0 a v (owns-is v (own_of (areas found.0)) found.2) own

pub someone_linked : (areas : ℕ → Option Area) (f : Family) (spans : ℕ → List Span) (v : ℕ)
    → IsInOrder areas f spans → IsSome (f.info v) → (a : ℕ) × (is_in v (f.chain a) ≡ true)
someone_linked areas f spans v o there = by (f.users v) refl
  where
    by : (xs : List ℕ) → f.users v ≡ xs → (a : ℕ) × (is_in v (f.chain a) ≡ true)
    by [] e = absurd (o.linked v there e)
    by (x ∷ xs) e = (x, linked (is_in v (f.chain x)) (ap (how_many (λ b. x == b)) (sym e) ∙ o.inverse.inverse x v))
      where
        linked : (b : Bool) → how_many (λ c. x == c) (x ∷ xs) ≡ one_if b → b ≡ true
        linked true h = refl
        linked false h = let one : cond (x == x) 1 0 ≡ 1 = ap one_if (eq-eqb x x refl) in absurd (omega (arith, h, one))

-- ---- what stays

same_kin : (i : Info) → IsSameKin i i
same_kin i = record { root = refl; parent = refl }

-- each anon_vma that is left was there, with the same root and parent
all_kin : (info info' : ℕ → Option Info)
    → ((v : ℕ) (i : Info) → info' v ≡ Some i → (m : Info) × (info v ≡ Some m) × IsSameKin m i)
    → (v : ℕ) → IfSome (info' v) (λ i. IsSomeAnd (info v) (λ old. IsSameKin old i))
all_kin info info' same v = by (info' v) refl
  where
    by : (o : Option Info) → info' v ≡ o → IfSome o (λ i. IsSomeAnd (info v) (λ old. IsSameKin old i))
    by None e = tt
    by (Some i) e = let m = same v i e in subst (λ o. IsSomeAnd o (λ old. IsSameKin old i)) (sym m.1) m.2

kin_is : (o o' : Option Info) (i : Info) → IfSome o' (λ j. IsSomeAnd o (λ old. IsSameKin old j)) → o' ≡ Some i
    → (m : Info) × (o ≡ Some m) × IsSameKin m i
kin_is o None i k e = absurd (none_some e)
kin_is None (Some j) i k e = absurd k
kin_is (Some m) (Some j) i k e = (m, refl, subst (λ w. IsSameKin m w) (some_is e) k)

-- an anon_vma that is left was there, with the same root and parent
pub kin_of : (areas areas' : ℕ → Option Area) (f f' : Family) (v : ℕ) (i : Info) → KinStays areas areas' f f' → f'.info v ≡ Some i
    → (m : Info) × (f.info v ≡ Some m) × IsSameKin m i
kin_of areas areas' f f' v i k e = kin_is (f.info v) (f'.info v) i (k.kin v) e

pub kin-owns : (areas areas' : ℕ → Option Area) (f : Family)
    → ((a v : ℕ) → own_of (areas' a) ≡ Some v → own_of (areas a) ≡ Some v) → KinStays areas areas' f f
kin-owns areas areas' f owns = record {
  next = refl;
  kin = all_kin f.info f.info (λ v i e. (i, e, same_kin i));
  owned = λ b v e. (b, owns b v e, refl);
}

pub kin-both : (areas areas' areas'' : ℕ → Option Area) (f f' f'' : Family) → KinStays areas areas' f f' → KinStays areas' areas'' f' f''
    → KinStays areas areas'' f f''
kin-both areas areas' areas'' f f' f'' k k' = record {
  next = k'.next ∙ k.next;
  kin = all_kin f.info f''.info (λ v i e.
      let j = kin_of areas' areas'' f' f'' v i k' e in
      let m = kin_of areas areas' f f' v j.0 k j.1 in
      (m.0, m.1, record { root = j.2.root ∙ m.2.root; parent = j.2.parent ∙ m.2.parent }));
  owned = λ b v e. let c = k'.owned b v e in let a = k.owned c.0 v c.1 in (a.0, a.1, c.2 ∙ a.2);
}

-- ---- an area's own anon_vma

-- the others keep theirs
own_there : (areas : ℕ → Option Area) (a : ℕ) (new : Option Area) (b : ℕ) → (b ≡ a → ⊥) → own_of (with_at a new areas b) ≡ own_of (areas b)
own_there areas a new b ne = ap own_of (with_at-other a new areas b ne)

own_here : (areas : ℕ → Option Area) (a : ℕ) (new : Option Area) (b : ℕ) → b ≡ a → own_of (with_at a new areas b) ≡ own_of new
own_here areas a new b e = ap (λ m. own_of (with_at a new areas m)) e ∙ ap own_of (with_at-here a new areas)

-- an area changes, and gets no other own anon_vma but none
pub kin-changed : (areas : ℕ → Option Area) (f : Family) (a : ℕ) (new : Option Area)
    → ((v : ℕ) → own_of new ≡ Some v → own_of (areas a) ≡ Some v) → KinStays areas (with_at a new areas) f f
kin-changed areas f a new own = kin-owns areas (with_at a new areas) f (λ b v h. elim (cases_eq b a) [
  | inl e ↦ ap (λ m. own_of (areas m)) e ∙ own v (sym (own_here areas a new b e) ∙ h)
  | inr ne ↦ sym (own_there areas a new b ne) ∙ h
])

-- an area gets other bounds: each area keeps its own anon_vma
pub bounds_keep_owns : (areas : ℕ → Option Area) (a start end pgoff b : ℕ)
    → own_of (with_at a (option_map (with_bounds start end pgoff) (areas a)) areas b) ≡ own_of (areas b)
bounds_keep_owns areas a start end pgoff b = elim (cases_eq b a) [
  | inl e ↦ own_here areas a (option_map (with_bounds start end pgoff) (areas a)) b e ∙ same (areas a) ∙ ap (λ m. own_of (areas m)) (sym e)
  | inr ne ↦ own_there areas a (option_map (with_bounds start end pgoff) (areas a)) b ne
]
  where
    same : (o : Option Area) → own_of (option_map (with_bounds start end pgoff) o) ≡ own_of o
    same None = refl
    same (Some A) = refl

pub kin-bounds : (areas : ℕ → Option Area) (f : Family) (a start end pgoff : ℕ)
    → KinStays areas (with_at a (option_map (with_bounds start end pgoff) (areas a)) areas) f f
kin-bounds areas f a start end pgoff =
    kin-owns areas (with_at a (option_map (with_bounds start end pgoff) (areas a)) areas) f
    (λ b v h. sym (bounds_keep_owns areas a start end pgoff b) ∙ h)

-- ---- calls that change links

-- an area that loses its own anon_vma
lost : (areas : ℕ → Option Area) (a b v : ℕ) → own_of (give_own a None areas b) ≡ Some v → (b ≡ a → ⊥) × (own_of (areas b) ≡ Some v)
lost areas a b v h = elim (cases_eq b a) [
  | inl e ↦ absurd (none_some (sym (bare (areas a)) ∙ sym (own_here areas a (with_own None (areas a)) b e) ∙ h))
  | inr ne ↦ (ne, sym (own_there areas a (with_own None (areas a)) b ne) ∙ h)
]
  where
    bare : (o : Option Area) → own_of (with_own None o) ≡ None
    bare None = refl
    bare (Some A) = refl

pub kin-unlink : (areas : ℕ → Option Area) (f : Family) (spans : ℕ → List Span) (a : ℕ) (A : Area) → IsInOrder areas f spans → areas a ≡ Some A
    → KinStays areas (give_own a None areas) f (after_unlink (own_of (areas a)) a f)
kin-unlink areas f spans a A o is = subst (λ m. KinStays areas (give_own a None areas) f (after_unlink m a f)) (sym (ap own_of is)) (by A.anon refl)
  where
    by : (own : Option ℕ) → A.anon ≡ own → KinStays areas (give_own a None areas) f (after_unlink own a f)
    by None e = kin-owns areas (give_own a None areas) f (λ b v h. (lost areas a b v h).1)
    by (Some own) e = record {
      next = refl;
      kin = all_kin f.info (after_unlink (Some own) a f).info (λ v i h.
          let m = left_same areas f spans o a own A is e v i h in (m.0, m.1, record { root = m.2; parent = m.3 }));
      owned = λ b v h. let old = lost areas a b v h in (b, old.1, with_at-other a [] f.chain b old.0);
    }

pub kin-clone : (areas : ℕ → Option Area) (f : Family) (spans : ℕ → List Span) (src dst : ℕ) (A : Area)
    → IsInOrder areas f spans → areas dst ≡ Some A → A.anon ≡ None
    → KinStays areas (gets_own dst (own_of (areas src)) areas) f (after_clone (own_of (areas src)) src dst f)
kin-clone areas f spans src dst A o is none = by (own_of (areas src)) refl
  where
    by : (own : Option ℕ) → own_of (areas src) ≡ own → KinStays areas (gets_own dst own areas) f (after_clone own src dst f)
    by None e = kin-owns areas areas f (λ b v h. h)
    by (Some own) e = record {
      next = refl;
      kin = all_kin f.info (with_info own more_active f.info) (λ v i h. elim (cases_eq v own) [
        | inl s ↦ raised v (sym (ap (λ m. with_info own more_active f.info m) s
            ∙ with_at-here own (option_map more_active (f.info own)) f.info ∙ ap (λ m. option_map more_active (f.info m)) (sym s)) ∙ h)
        | inr ne ↦ (i, sym (with_at-other own (option_map more_active (f.info own)) f.info v ne) ∙ h, same_kin i)
      ]);
      owned = λ b v h. elim (cases_eq b dst) [
        | inl s ↦
            let same : Some own ≡ Some v = sym (ap (λ m. own_of (with_own (Some own) m)) is)
            ∙ sym (own_here areas dst (with_own (Some own) (areas dst)) b s) ∙ h in
            (src, e ∙ same, ap (λ m. with_at dst (f.chain src) f.chain m) s ∙ with_at-here dst (f.chain src) f.chain)
        | inr ne ↦ (b, sym (own_there areas dst (with_own (Some own) (areas dst)) b ne) ∙ h, with_at-other dst (f.chain src) f.chain b ne)
      ];
    }
      where
        raised : (v : ℕ) {i : Info} → option_map more_active (f.info v) ≡ Some i → (m : Info) × (f.info v ≡ Some m) × IsSameKin m i
        raised v h = of (f.info v) h
          where
            of : (o : Option Info) {i : Info} → option_map more_active o ≡ Some i → (m : Info) × (o ≡ Some m) × IsSameKin m i
            of None h = absurd (none_some h)
            of (Some m) h = (m, refl, subst (λ w. IsSameKin m w) (some_is h) (record { root = refl; parent = refl }))

-- ---- chains stay

pub chains_stay : (areas areas' : ℕ → Option Area) (f f' : Family) (spans spans' : ℕ → List Span) (b v : ℕ)
    → IsInOrder areas f spans → IsInOrder areas' f' spans' → KinStays areas areas' f f' → own_of (areas' b) ≡ Some v
    → chain_by areas' f' v ≡ chain_by areas f v
chains_stay areas areas' f f' spans spans' b v o o' k own =
    let a = k.owned b v own in
    chain_by-is areas' f' spans' b v o' own ∙ a.2 ∙ sym (chain_by-is areas f spans a.0 v o a.1)
