-- Chain order where an anon_vma is made for an area.
use Rattle.std.proofs.Common.{◌≡◌, ℕ, suc, ◌+◌, ◌<◌, Bool, true, false, cond, ◌||◌, ◌==◌, IsSome, Option, Some, None, List, [], ◌∷◌, ◌++◌, refl, sym, ap, ◌∙◌, subst, arith, inl, inr, eq-eqb, ne_eqb}
use Rattle.std.specs.Prelude.{option_map}
use Rattle.std.proofs.lemmas.Bool.{cases_eq}
use Rattle.std.proofs.lemmas.List.Folds.{list_any-append}
use Rattle.av_base.specs.Words.{is_in, how_many, with_at}
use Rattle.std.specs.List.{range_with_len}
use Rattle.av_interval.specs.declared.span.Span.{Span}
use Rattle.av_vma.specs.declared.area.Area.{Area}
use Rattle.av_anon.specs.declared.infos.Info.{Info}
use Rattle.av_anon.specs.Infos.{more_children, with_info}
use Rattle.av_anon.specs.Anons.{give_own, with_links, new_child, new_root, own_of, Family}
use Rattle.av_anon.specs.Order.{IsChain, IsCounted, IsInOrder, is_child, owns}
use Rattle.av_anon.specs.Spans.{GoWithLinks}
use Rattle.av_anon.proofs.Words.{with_at-here, with_at-other, how_many-more, in_more, in_as_before, rising_more}
use Rattle.av_anon.proofs.OrderLemmas.{some_of, Extends, extends_trans, changed_extends, made_extends, chain_kept, numbers_more, how_many-below, active_of, joined_keeps}

abbrev flag : Bool → ℕ
flag b = cond b 1 0

same_some : {X : Type 0} {x y : X} → ◌≡◌ {A = Option X} (Some x) (Some y) → x ≡ y
same_some e = cc

some_none : {X : Type 0} {x : X} → ◌≡◌ {A = Option X} (Some x) None → ⊥
some_none e = cc

none_counted : (xs : List ℕ) → how_many (λ _. false) xs ≡ 0
none_counted [] = refl
none_counted (x ∷ xs) = let rest = none_counted xs in omega arith

or_left : (a b : Bool) → a ≡ true → (a || b) ≡ true
or_left true b h = refl
or_left false b h = absurd (no h)
  where
    no : false ≡ true → ⊥
    no e = cc

in_before : (u n : ℕ) (xs : List ℕ) → is_in u xs ≡ true → is_in u (xs ++ n ∷ []) ≡ true
in_before u n xs h = list_any-append (λ y. u == y) xs (n ∷ []) ∙ or_left (is_in u xs) (is_in u (n ∷ [])) h

child_same : (v : ℕ) (info : ℕ → Option Info) (u w : ℕ) → is_child u (with_info v more_children info w) ≡ is_child u (info w)
child_same v info u w = elim (cases_eq w v) [
  | inl e ↦ ap (λ b. is_child u (cond b (option_map more_children (info v)) (info w))) (eq-eqb w v e) ∙ same (info v)
      ∙ ap (λ m. is_child u (info m)) (sym e)
  | inr ne ↦ ap (is_child u) (with_at-other v (option_map more_children (info v)) info w ne)
]
  where
    same : (o : Option Info) → is_child u (option_map more_children o) ≡ is_child u o
    same None = refl
    same (Some i) = refl

module _ (areas : ℕ → Option Area) (f : Family) (spans : ℕ → List Span) (o : IsInOrder areas f spans) where
  linked_to : (w b : ℕ) (bs : List ℕ) → f.users w ≡ b ∷ bs → is_in w (f.chain b) ≡ true
  linked_to w b bs e = by (is_in w (f.chain b)) refl
    where
      by : (t : Bool) → is_in w (f.chain b) ≡ t → is_in w (f.chain b) ≡ true
      by true h = h
      by false h =
          let none : how_many (λ c. b == c) (b ∷ bs) ≡ 0 = ap (how_many (λ c. b == c)) (sym e) ∙ o.inverse.inverse b w ∙ ap flag h in
          let one : cond (b == b) 1 0 ≡ 1 = ap flag (eq-eqb b b refl) in
          absurd (omega (arith, none, one))

  member_of : (w : ℕ) → IsSome (f.info w) → (b : ℕ) × (is_in w (f.chain b) ≡ true)
  member_of w h = by (f.users w) refl
    where
      by : (us : List ℕ) → f.users w ≡ us → (b : ℕ) × (is_in w (f.chain b) ≡ true)
      by [] e = absurd (o.linked w h e)
      by (b ∷ bs) e = (b, linked_to w b bs e)

  parent_below : (w : ℕ) (j : Info) → f.info w ≡ Some j → j.parent < f.next
  parent_below w j e =
      let b = member_of w (subst IsSome (sym e) refl) in
      (o.chains b.0).made j.parent ((o.chains b.0).parents w j b.1 e)

  childless : how_many (λ w. is_child f.next (f.info w)) (range_with_len 0 f.next) ≡ 0
  childless = how_many-below (λ w. is_child f.next (f.info w)) (λ _. false) 0 f.next (λ w lt. by w (f.info w) refl)
      ∙ none_counted (range_with_len 0 f.next)
    where
      by : (w : ℕ) (m : Option Info) → f.info w ≡ m → is_child f.next m ≡ false
      by w None e = refl
      by w (Some j) e = let lt = parent_below w j e in ne_eqb j.parent f.next (λ h. absurd (omega arith))

  unused : f.users f.next ≡ []
  unused = by (f.users f.next) refl
    where
      by : (us : List ℕ) → f.users f.next ≡ us → f.users f.next ≡ []
      by [] e = e
      by (b ∷ bs) e = let lt = (o.chains b).made f.next (linked_to f.next b bs e) in absurd (omega arith)

  module _ (info1 : ℕ → Option Info) (R : Info) (alike1 : (u w : ℕ) → is_child u (info1 w) ≡ is_child u (f.info w)) where
    children_made : (u : ℕ) → how_many (λ w. is_child u (with_at f.next (Some R) info1 w)) (range_with_len 0 (suc f.next)) ≡ how_many (λ w. is_child u
        (f.info w)) (range_with_len 0 f.next) + cond (R.parent == u) 1 0
    children_made u =
        let t : ℕ → Bool = λ w. is_child u (with_at f.next (Some R) info1 w) in
        let e : 0 + f.next ≡ f.next = omega arith in
        ap (how_many t) (numbers_more 0 f.next) ∙ how_many-more t (range_with_len 0 f.next) (0 + f.next)
        ∙ ap (λ k. k + cond (t (0 + f.next)) 1 0) (how_many-below t (λ w. is_child u (f.info w)) 0 f.next (λ w lt. ap (is_child u)
        (with_at-other f.next (Some R) info1 w (λ h. absurd (omega arith))) ∙ alike1 u w))
        ∙ ap (λ n. how_many (λ w. is_child u (f.info w)) (range_with_len 0 f.next) + cond (t n) 1 0) e
        ∙ ap (λ m. how_many (λ w. is_child u (f.info w)) (range_with_len 0 f.next) + cond (is_child u m) 1 0) (with_at-here f.next (Some R) info1)

  module _ (a : ℕ) (A : Area) (isA : areas a ≡ Some A) (none : A.anon ≡ None) where
    -- what is the same for a root and for a child
    made_keeps : (info1 : ℕ → Option Info) (R : Info) (vs : List ℕ) (spans' : ℕ → List Span) → ((u w : ℕ)
        → is_child u (info1 w) ≡ is_child u (f.info w)) → Extends f.info info1 → ((u : ℕ) → IsSome (info1 u) → IsSome (f.info u))
        → R.active ≡ 1 → R.children ≡ cond (R.parent == f.next) 1 0
        → ((u : ℕ) (i j : Info) → (u ≡ f.next → ⊥) → f.info u ≡ Some i → info1 u ≡ Some j
        → (j.children ≡ i.children + cond (R.parent == u) 1 0) × (j.active ≡ i.active))
        → IsChain (with_at f.next (Some R) info1) (suc f.next) (Some f.next) vs
        → GoWithLinks (give_own a (Some f.next) areas) (with_at a vs f.chain) spans'
        → IsInOrder (give_own a (Some f.next) areas) (with_links a vs (record {
          next = suc f.next;
          info = with_at f.next
              (Some R) info1;
          chain = f.chain;
          users = f.users;
        })) spans'
    made_keeps info1 R vs spans' alike1 x1 back active children others mine spanned =
        joined_keeps areas f spans o a A isA none f.next vs (suc f.next) (with_at f.next (Some R) info1) spans' x (omega arith) mine
        (λ b h. absurd (let lt = (o.chains b).made f.next ((o.chains b).own_in f.next h) in omega arith))
        counted
        (λ u h out. back u (subst IsSome (with_at-other f.next (Some R) info1 u (λ e. no (sym (mine.own_in f.next refl)
        ∙ ap (λ w. is_in w vs) (sym e) ∙ out))) h))
        below spanned
      where
        no : true ≡ false → ⊥
        no e = cc

        x : Extends f.info (with_at f.next (Some R) info1)
        x = extends_trans f.info info1 (with_at f.next (Some R) info1) x1 (made_extends f.next R info1 (λ u h. o.below u (back u h)))

        below : (u : ℕ) → IsSome (with_at f.next (Some R) info1 u) → u < suc f.next
        below u h = elim (cases_eq u f.next) [
          | inl e ↦ omega arith
          | inr ne ↦ let lt = o.below u (back u (subst IsSome (with_at-other f.next (Some R) info1 u ne) h)) in omega arith
        ]

        counted : (u : ℕ) (i : Info) → with_at f.next (Some R) info1 u ≡ Some i
            → IsCounted (give_own a (Some f.next) areas) (with_links a vs (record {
              next = suc f.next;
              info = with_at f.next
                  (Some R) info1;
              chain = f.chain;
              users = f.users;
            })) u i
        counted u i e = elim (cases_eq u f.next) [
          | inl h ↦
              let is : i ≡ R = same_some (sym e ∙ ap (λ b. cond b (Some R) (info1 u)) (eq-eqb u f.next h)) in
              let made = children_made info1 R alike1 u in
              let zero : how_many (λ w. is_child u (f.info w)) (range_with_len 0 f.next) ≡ 0 = ap (λ n. how_many (λ w. is_child n (f.info w))
              (range_with_len 0 f.next)) h ∙ childless in
              let kin : cond (R.parent == u) 1 0 ≡ cond (R.parent == f.next) 1 0 = ap (λ n. flag (R.parent == n)) h in
              let kids : i.children ≡ R.children = ap (λ (j : Info). j.children) is in
              let acts : i.active ≡ R.active = ap (λ (j : Info). j.active) is in
              let act = active_of areas f spans o a A isA none f.next vs u (mine.own_in f.next refl) in
              let nobody : how_many (λ b. owns u (own_of (areas b))) (f.users u) ≡ 0 = ap (λ n. how_many (λ b. owns u (own_of (areas b)))
              (f.users n)) h ∙ ap (how_many (λ b. owns u (own_of (areas b)))) unused in
              let one : cond (f.next == u) 1 0 ≡ 1 = ap flag (eq-eqb f.next u (sym h)) in
              record { children = omega (arith, kids, children, made, zero, kin); active = omega (arith, acts, active, act, nobody, one) }
          | inr ne ↦
              let at1 : info1 u ≡ Some i = sym (with_at-other f.next (Some R) info1 u ne) ∙ e in
              let m = some_of (f.info u) (back u (subst IsSome (sym at1) refl)) in
              let c = o.counted u m.0 m.1 in
              let kids = c.children in
              let acts = c.active in
              let diff = others u m.0 i ne m.1 at1 in
              let more = diff.0 in
              let same = diff.1 in
              let made = children_made info1 R alike1 u in
              let act = active_of areas f spans o a A isA none f.next vs u (mine.own_in f.next refl) in
              let zero : cond (f.next == u) 1 0 ≡ 0 = ap flag (ne_eqb f.next u (λ h. ne (sym h))) in
              record { children = omega (arith, kids, more, made); active = omega (arith, acts, same, act, zero) }
        ]

    -- a new root
    pub root_keeps : (spans' : ℕ → List Span) → GoWithLinks (give_own a (Some f.next) areas) (with_at a (f.next ∷ []) f.chain) spans'
        → IsInOrder (give_own a (Some f.next) areas) (with_links a (f.next ∷ []) (new_root f)) spans'
    root_keeps spans' spanned =
        made_keeps f.info (record { root = f.next; parent = f.next; children = 1; active = 1 }) (f.next ∷ []) spans' (λ u w. refl)
        (record { same = λ u i e. (i, e, refl, refl) }) (λ u h. h) refl (sym (ap flag (eq-eqb f.next f.next refl))) others mine spanned
      where
        others : (u : ℕ) (i j : Info) → (u ≡ f.next → ⊥) → f.info u ≡ Some i → f.info u ≡ Some j
            → (j.children ≡ i.children + cond (f.next == u) 1 0) × (j.active ≡ i.active)
        others u i j ne e e' =
            let is : j ≡ i = same_some (sym e' ∙ e) in
            let zero : cond (f.next == u) 1 0 ≡ 0 = ap flag (ne_eqb f.next u (λ h. ne (sym h))) in
            let kids = ap (λ (k : Info). k.children) is in
            (omega (arith, zero, kids), ap (λ (k : Info). k.active) is)

        only : (u : ℕ) → is_in u (f.next ∷ []) ≡ true → u ≡ f.next
        only u h = elim (cases_eq u f.next) [
          | inl e ↦ e
          | inr ne ↦ absurd (clash (sym (ap (λ t. t || false) (ne_eqb u f.next ne)) ∙ h))
        ]
          where
            clash : false ≡ true → ⊥
            clash e = cc

        itself : is_in f.next (f.next ∷ []) ≡ true
        itself = ap (λ t. t || false) (eq-eqb f.next f.next refl)

        at : (u : ℕ) → is_in u (f.next ∷ []) ≡ true
            → with_at f.next (Some (record { root = f.next; parent = f.next; children = 1; active = 1 })) f.info u ≡ Some
            (record { root = f.next; parent = f.next; children = 1; active = 1 })
        at u h = ap (λ b. cond b (Some (record { root = f.next; parent = f.next; children = 1; active = 1 })) (f.info u)) (eq-eqb u f.next (only u h))

        mine : IsChain (with_at f.next (Some (record { root = f.next; parent = f.next; children = 1; active = 1 })) f.info) (suc f.next)
            (Some f.next) (f.next ∷ [])
        mine = record {
          none = λ e. absurd (some_none e);
          own_in = λ u e. ap (λ w. is_in w (f.next ∷ [])) (sym (same_some e)) ∙ itself;
          there = λ u h. subst IsSome (sym (at u h)) refl;
          made = λ u h. let e = only u h in omega arith;
          rising = (tt, tt);
          parents = λ u i h e. ap (λ (k : Info). is_in k.parent (f.next ∷ [])) (same_some (sym e ∙ at u h)) ∙ itself;
          roots = λ u i h e. ap (λ (k : Info). is_in k.root (f.next ∷ [])) (same_some (sym e ∙ at u h)) ∙ itself;
          one_root = λ u w i j h h' e e'. ap (λ (k : Info). k.root) (same_some (sym e ∙ at u h))
              ∙ sym (ap (λ (k : Info). k.root) (same_some (sym e' ∙ at w h')));
        }

    -- a new one below the own anon_vma of another area, whose chain it joins
    pub child_keeps : (src own : ℕ) (I : Info) (spans' : ℕ → List Span) → own_of (areas src) ≡ Some own → f.info own ≡ Some I
        → GoWithLinks (give_own a (Some f.next) areas) (with_at a (f.chain src ++ f.next ∷ []) f.chain) spans'
        → IsInOrder (give_own a (Some f.next) areas) (with_links a (f.chain src ++ f.next ∷ []) (new_child I.root own f)) spans'
    child_keeps src own I spans' is own_is spanned =
        made_keeps (with_info own more_children f.info) (record { root = I.root; parent = own; children = 0; active = 1 })
        (f.chain src ++ f.next ∷ []) spans'
        (λ u w. child_same own f.info u w) x1 back refl (sym (ap flag (ne_eqb own f.next (λ e. absurd
        (let lt = own_below in omega arith))))) others mine spanned
      where
        x1 : Extends f.info (with_info own more_children f.info)
        x1 = changed_extends own more_children f.info (λ i. refl) (λ i. refl)

        k : IsChain f.info f.next (own_of (areas src)) (f.chain src)
        k = o.chains src

        own_in : is_in own (f.chain src) ≡ true
        own_in = (o.chains src).own_in own is

        own_below : own < f.next
        own_below = (o.chains src).made own own_in

        of_map : (m : Option Info) → IsSome (option_map more_children m) → IsSome m
        of_map None h = h
        of_map (Some i) h = refl

        back : (u : ℕ) → IsSome (with_info own more_children f.info u) → IsSome (f.info u)
        back u h = elim (cases_eq u own) [
          | inl e ↦ of_map (f.info u) (subst IsSome (ap (λ b. cond b (option_map more_children (f.info own)) (f.info u)) (eq-eqb u own e)
              ∙ ap (λ w. option_map more_children (f.info w)) (sym e)) h)
          | inr ne ↦ subst IsSome (with_at-other own (option_map more_children (f.info own)) f.info u ne) h
        ]

        others : (u : ℕ) (i j : Info) → (u ≡ f.next → ⊥) → f.info u ≡ Some i → with_info own more_children f.info u ≡ Some j
            → (j.children ≡ i.children + cond (own == u) 1 0) × (j.active ≡ i.active)
        others u i j ne e e' = elim (cases_eq u own) [
          | inl h ↦
              let at : j ≡ more_children i = same_some (sym e'
              ∙ ap (λ b. cond b (option_map more_children (f.info own)) (f.info u)) (eq-eqb u own h)
              ∙ ap (λ w. option_map more_children (f.info w)) (sym h) ∙ ap (option_map more_children) e) in
              let one : cond (own == u) 1 0 ≡ 1 = ap flag (eq-eqb own u (sym h)) in
              let kids = ap (λ (k : Info). k.children) at in
              (omega (arith, one, kids), ap (λ (k : Info). k.active) at)
          | inr other ↦
              let at : j ≡ i = same_some (sym e' ∙ with_at-other own (option_map more_children (f.info own)) f.info u other ∙ e) in
              let zero : cond (own == u) 1 0 ≡ 0 = ap flag (ne_eqb own u (λ h. other (sym h))) in
              let kids = ap (λ (k : Info). k.children) at in
              (omega (arith, zero, kids), ap (λ (k : Info). k.active) at)
        ]

        -- the members that were there, with what is kept of them now
        kept : IsChain (with_at f.next (Some (record { root = I.root; parent = own; children = 0; active = 1 }))
            (with_info own more_children f.info)) (suc f.next) (Some own) (f.chain src)
        kept = chain_kept f.info (with_at f.next (Some (record { root = I.root; parent = own; children = 0; active = 1 }))
            (with_info own more_children f.info)) f.next (suc f.next) (Some own) (f.chain src)
            (extends_trans f.info (with_info own more_children f.info) (with_at f.next (Some
            (record { root = I.root; parent = own; children = 0; active = 1 })) (with_info own more_children f.info)) x1
            (made_extends f.next (record { root = I.root; parent = own; children = 0; active = 1 }) (with_info own more_children f.info)
            (λ u h. o.below u (back u h))))
            (omega arith) (subst (λ w. IsChain f.info f.next w (f.chain src)) is (o.chains src))

        at : (u : ℕ) → u ≡ f.next → with_at f.next (Some (record { root = I.root; parent = own; children = 0; active = 1 }))
            (with_info own more_children f.info) u ≡ Some (record { root = I.root; parent = own; children = 0; active = 1 })
        at u e = ap (λ b. cond b (Some (record { root = I.root; parent = own; children = 0; active = 1 })) (with_info own more_children f.info u))
            (eq-eqb u f.next e)

        old : (u : ℕ) → is_in u (f.chain src ++ f.next ∷ []) ≡ true → (u ≡ f.next → ⊥) → is_in u (f.chain src) ≡ true
        old u h ne = sym (in_as_before u f.next (f.chain src) ne) ∙ h

        -- the root of each member is that of the own anon_vma
        root_is : (u : ℕ) (i : Info) → is_in u (f.chain src ++ f.next ∷ []) ≡ true
            → with_at f.next (Some (record { root = I.root; parent = own; children = 0; active = 1 }))
            (with_info own more_children f.info) u ≡ Some i → i.root ≡ I.root
        root_is u i h e = elim (cases_eq u f.next) [
          | inl n ↦ ap (λ (j : Info). j.root) (same_some (sym e ∙ at u n))
          | inr ne ↦
              let new = x1.same own I own_is in
              let own_now = with_at-other f.next (Some (record { root = I.root; parent = own; children = 0; active = 1 }))
              (with_info own more_children f.info) own (λ n. absurd (let lt = own_below in omega arith)) ∙ new.1 in
              kept.one_root u own i new.0 (old u h ne) own_in e own_now ∙ new.2
        ]

        mine : IsChain (with_at f.next (Some (record { root = I.root; parent = own; children = 0; active = 1 }))
            (with_info own more_children f.info)) (suc f.next) (Some f.next) (f.chain src ++ f.next ∷ [])
        mine = record {
          none = λ e. absurd (some_none e);
          own_in = λ u e. in_more u f.next (f.chain src) (sym (same_some e));
          there = λ u h. elim (cases_eq u f.next) [
            | inl n ↦ subst IsSome (sym (at u n)) refl
            | inr ne ↦ kept.there u (old u h ne)
          ];
          made = λ u h. elim (cases_eq u f.next) [
            | inl n ↦ omega arith
            | inr ne ↦ kept.made u (old u h ne)
          ];
          rising = rising_more (f.chain src) f.next (o.chains src).rising (o.chains src).made;
          parents = λ u i h e. elim (cases_eq u f.next) [
            | inl n ↦ in_before i.parent f.next (f.chain src) (ap (λ (j : Info). is_in j.parent (f.chain src)) (same_some (sym e ∙ at u n)) ∙ own_in)
            | inr ne ↦ in_before i.parent f.next (f.chain src) (kept.parents u i (old u h ne) e)
          ];
          roots = λ u i h e. in_before i.root f.next (f.chain src) (ap (λ r. is_in r (f.chain src)) (root_is u i h e)
              ∙ (o.chains src).roots own I own_in own_is);
          one_root = λ u w i j h h' e e'. root_is u i h e ∙ sym (root_is w j h' e');
        }
