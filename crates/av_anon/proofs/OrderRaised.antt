-- Chain order where an area gets an anon_vma that there is as its own.
use Rattle.std.proofs.Common.{◌≡◌, ℕ, ◌+◌, Bool, true, false, cond, ◌||◌, ◌==◌, IsSome, Option, Some, None, List, [], ◌∷◌, refl, sym, ap, ◌∙◌, subst, arith, inl, inr, eq-eqb, ne_eqb}
use Rattle.std.specs.Prelude.{option_map}
use Rattle.std.proofs.lemmas.Bool.{cases_eq}
use Rattle.av_base.specs.Words.{is_in, how_many, with_at}
use Rattle.std.specs.List.{range_with_len}
use Rattle.av_interval.specs.declared.span.Span.{Span}
use Rattle.av_vma.specs.declared.area.Area.{Area}
use Rattle.av_anon.specs.declared.infos.Info.{Info}
use Rattle.av_anon.specs.Infos.{more_active, with_info}
use Rattle.av_anon.specs.Anons.{give_own, with_links, own_of, with_active_area, Family}
use Rattle.av_anon.specs.Order.{IsChain, IsCounted, IsInOrder, is_child, owns}
use Rattle.av_anon.specs.Spans.{GoWithLinks}
use Rattle.av_anon.proofs.Words.{with_at-other}
use Rattle.av_anon.proofs.OrderLemmas.{some_of, changed_extends, how_many-below, active_of, joined_keeps}

abbrev flag : Bool → ℕ
flag b = cond b 1 0

same_some : {X : Type 0} {x y : X} → ◌≡◌ {A = Option X} (Some x) (Some y) → x ≡ y
same_some e = cc

-- a change of one anon_vma that leaves its parent leaves who is whose child
child_same : (v : ℕ) (info : ℕ → Option Info) (u w : ℕ) → is_child u (with_info v more_active info w) ≡ is_child u (info w)
child_same v info u w = elim (cases_eq w v) [
  | inl e ↦ ap (λ b. is_child u (cond b (option_map more_active (info v)) (info w))) (eq-eqb w v e) ∙ same (info v)
      ∙ ap (λ m. is_child u (info m)) (sym e)
  | inr ne ↦ ap (is_child u) (with_at-other v (option_map more_active (info v)) info w ne)
]
  where
    same : (o : Option Info) → is_child u (option_map more_active o) ≡ is_child u o
    same None = refl
    same (Some i) = refl

module _ (areas : ℕ → Option Area) (f : Family) (spans : ℕ
    → List Span) (o : IsInOrder areas f spans) (a : ℕ) (A : Area) (isA : areas a ≡ Some A) (none : A.anon ≡ None) where
  pub raised_keeps : (v : ℕ) (vs : List ℕ) (spans' : ℕ → List Span) → IsChain f.info f.next (Some v) vs → ((b : ℕ) → own_of (areas b) ≡ Some v
      → f.chain b ≡ vs)
      → GoWithLinks (give_own a (Some v) areas) (with_at a vs f.chain) spans' →
      IsInOrder (give_own a (Some v) areas) (with_links a vs (with_active_area v f)) spans'
  raised_keeps v vs spans' mine alike spanned =
      let x = changed_extends v more_active f.info (λ i. refl) (λ i. refl) in
      joined_keeps areas f spans o a A isA none v vs f.next (with_info v more_active f.info) spans' x (omega arith)
      (Rattle.av_anon.proofs.OrderLemmas.chain_kept f.info (with_info v more_active f.info) f.next f.next (Some v) vs x (omega arith) mine)
      alike counted (λ u h e. there u h) (λ u h. o.below u (there u h)) spanned
    where
      there : (u : ℕ) → IsSome (with_info v more_active f.info u) → IsSome (f.info u)
      there u h = elim (cases_eq u v) [
        | inl e ↦ of_map (f.info u) (subst IsSome (ap (λ b. cond b (option_map more_active (f.info v)) (f.info u)) (eq-eqb u v e)
            ∙ ap (λ w. option_map more_active (f.info w)) (sym e)) h)
        | inr ne ↦ subst IsSome (with_at-other v (option_map more_active (f.info v)) f.info u ne) h
      ]
        where
          of_map : (m : Option Info) → IsSome (option_map more_active m) → IsSome m
          of_map None h = h
          of_map (Some i) h = refl

      v_in : is_in v vs ≡ true
      v_in = mine.own_in v refl

      children : (u : ℕ) → how_many (λ w. is_child u (with_info v more_active f.info w)) (range_with_len 0 f.next) ≡ how_many
          (λ w. is_child u (f.info w))
          (range_with_len 0 f.next)
      children u = how_many-below (λ w. is_child u (with_info v more_active f.info w)) (λ w. is_child u (f.info w)) 0 f.next
          (λ w lt. child_same v f.info u w)

      counted : (u : ℕ) (i : Info) → with_info v more_active f.info u ≡ Some i
          → IsCounted (give_own a (Some v) areas) (with_links a vs
          (record { next = f.next; info = with_info v more_active f.info; chain = f.chain; users = f.users })) u i
      counted u i e =
          let m = some_of (f.info u) (there u (subst IsSome (sym e) refl)) in
          let c = o.counted u m.0 m.1 in
          elim (cases_eq u v) [
            | inl h ↦
                let is : i ≡ more_active m.0 = same_some (sym e ∙ ap (λ b. cond b (option_map more_active (f.info v)) (f.info u)) (eq-eqb u v h)
                ∙ ap (λ w. option_map more_active (f.info w)) (sym h) ∙ ap (option_map more_active) m.1) in
                record {
                  children = ap (λ (j : Info). j.children) is ∙ c.children ∙ sym (children u);
                  active = ap (λ (j : Info). j.active) is ∙ ap (λ k. k + 1) c.active
                      ∙ ap (λ b. how_many (λ b. owns u (own_of (areas b))) (f.users u) + cond b 1 0) (sym (eq-eqb v u (sym h)))
                      ∙ sym (active_of areas f spans o a A isA none v vs u v_in);
                }
            | inr ne ↦
                let is : i ≡ m.0 = same_some (sym e ∙ with_at-other v (option_map more_active (f.info v)) f.info u ne ∙ m.1) in
                let plus : how_many (λ b. owns u (own_of (areas b))) (f.users u) ≡ how_many (λ b. owns u (own_of (areas b))) (f.users u) +
                0 = omega arith in
                record {
                  children = ap (λ (j : Info). j.children) is ∙ c.children ∙ sym (children u);
                  active = ap (λ (j : Info). j.active) is ∙ c.active ∙ plus
                      ∙ ap (λ b. how_many (λ b. owns u (own_of (areas b))) (f.users u) + cond b 1 0) (sym (ne_eqb v u (λ h. ne (sym h))))
                      ∙ sym (active_of areas f spans o a A isA none v vs u v_in);
                }
          ]

  -- the chain and own anon_vma of another area
  pub clone_keeps : (src own : ℕ) (spans' : ℕ → List Span) → own_of (areas src) ≡ Some own
      → GoWithLinks (give_own a (Some own) areas) (with_at a (f.chain src) f.chain) spans'
      → IsInOrder (give_own a (Some own) areas) (with_links a (f.chain src) (with_active_area own f)) spans'
  clone_keeps src own spans' is spanned =
      raised_keeps own (f.chain src) spans' (subst (λ w. IsChain f.info f.next w (f.chain src)) is (o.chains src))
      (λ b h. o.alike b src own h is) spanned

  -- the chain of another area, and an inactive member of it as own
  pub reuse_keeps : (src v : ℕ) (i : Info) (spans' : ℕ → List Span) → is_in v (f.chain src) ≡ true → f.info v ≡ Some i → i.active ≡ 0
      → GoWithLinks (give_own a (Some v) areas) (with_at a (f.chain src) f.chain) spans'
      → IsInOrder (give_own a (Some v) areas) (with_links a (f.chain src) (with_active_area v f)) spans'
  reuse_keeps src v i spans' v_in is inactive spanned = raised_keeps v (f.chain src) spans' mine (λ b h. absurd (nobody b h)) spanned
    where
      no : {w : ℕ} → ◌≡◌ {A = Option ℕ} (Some w) None → ⊥
      no e = cc

      mine : IsChain f.info f.next (Some v) (f.chain src)
      mine = record {
        none = λ e. absurd (no e);
        own_in = λ u e. ap (λ w. is_in w (f.chain src)) (sym (same_some e)) ∙ v_in;
        there = (o.chains src).there;
        made = (o.chains src).made;
        rising = (o.chains src).rising;
        parents = (o.chains src).parents;
        roots = (o.chains src).roots;
        one_root = (o.chains src).one_root;
      }

      -- an area that has it as its own is counted
      some_user : (b : ℕ) (xs : List ℕ) → is_in b xs ≡ true → owns v (own_of (areas b)) ≡ true → how_many (λ c. owns v (own_of (areas c))) xs ≡ 0 → ⊥
      some_user b [] h own none = clash h
        where
          clash : false ≡ true → ⊥
          clash e = cc
      some_user b (x ∷ xs) h own none = elim (cases_eq b x) [
        | inl e ↦ let one : cond (owns v (own_of (areas x))) 1 0 ≡ 1 = ap flag (ap (λ c. owns v (own_of (areas c))) (sym e)
            ∙ own) in absurd (omega (arith, none, one))
        | inr ne ↦ some_user b xs (sym (ap (λ t. t || is_in b xs) (ne_eqb b x ne))
            ∙ h) own (let less : how_many (λ c. owns v (own_of (areas c))) xs ≡ 0 = omega arith in less)
      ]

      nobody : (b : ℕ) → own_of (areas b) ≡ Some v → ⊥
      nobody b h =
          let in_chain : is_in v (f.chain b) ≡ true = (o.chains b).own_in v h in
          let once : how_many (λ c. b == c) (f.users v) ≡ 1 = o.inverse.inverse b v ∙ ap flag in_chain in
          some_user b (f.users v) (in_of b (f.users v) once) (ap (owns v) h ∙ eq-eqb v v refl) (sym (o.counted v i is).active ∙ inactive)
        where
          in_of : (b : ℕ) (xs : List ℕ) → how_many (λ c. b == c) xs ≡ 1 → is_in b xs ≡ true
          in_of b [] h = absurd (omega arith)
          in_of b (x ∷ xs) h = elim (cases_eq b x) [
            | inl e ↦ ap (λ t. t || is_in b xs) (eq-eqb b x e)
            | inr ne ↦
                let zero : cond (b == x) 1 0 ≡ 0 = ap flag (ne_eqb b x ne) in
                ap (λ t. t || is_in b xs) (ne_eqb b x ne) ∙ in_of b xs (omega (arith, h, zero))
          ]
