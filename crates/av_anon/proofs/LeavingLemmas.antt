-- An area leaves its anon_vmas one after another.
use Rattle.std.proofs.Common.{◌≡◌, ℕ, ◌+◌, ◌-◌, Bool, true, false, cond, ◌&&◌, Option, Some, None, List, [], ◌∷◌, ◌++◌, refl, sym, ap, ◌∙◌, arith, inl, inr, eq-eqb, ne_eqb}
use Rattle.std.specs.Prelude.{option_map}
use Rattle.std.proofs.lemmas.Bool.{cases_eq}
use Rattle.av_base.specs.Words.{is_in, how_many}
use Rattle.av_anon.specs.declared.infos.Info.{Info}
use Rattle.av_anon.specs.Infos.{less_children, with_info, without_children}
use Rattle.av_anon.specs.Order.{is_child}
use Rattle.av_anon.specs.Unlink.{without_anon, without_anon_of, has_no_other, info_without}
use Rattle.av_anon.proofs.Words.{with_at-other, in_more, in_as_before, how_many-more}

-- what is left of one
abbrev left : Bool → ℕ → Option Info → Option Info
left gone n o = cond gone None (option_map (without_children n) o)

pub none_gone : (o : Option Info) → o ≡ option_map (without_children 0) o
none_gone None = refl
none_gone (Some i) =
    let e : i.children ≡ i.children - 0 = omega arith in
    ap (λ (k : ℕ). Some (record { root = i.root; parent = i.parent; children = k; active = i.active })) e

one_less : (b : Bool) (n : ℕ) (o : Option Info) → option_map less_children (left b n o) ≡ left b (n + 1) o
one_less true n o = refl
one_less false n None = refl
one_less false n (Some i) =
    let e : (i.children - n) - 1 ≡ i.children - (n + 1) = omega arith in
    ap (λ (k : ℕ). Some (record { root = i.root; parent = i.parent; children = k; active = i.active })) e

none_less : (b : Bool) (n : ℕ) (o : Option Info) → left b n o ≡ left b (n + 0) o
none_less b n o = let e : n ≡ n + 0 = omega arith in ap (λ k. left b k o) e

module _ (a v : ℕ) (users : ℕ → List ℕ) (gone : List ℕ) (info now : ℕ → Option Info) (absent : is_in v gone ≡ false) (now_is : (w : ℕ)
    → now w ≡ info_without a users gone info w) where
  -- u goes with the area and is a child of w
  abbrev falls : ℕ → ℕ → Bool
  falls w u = has_no_other a users u && is_child w (info u)

  count : (w : ℕ) (b : Bool) → falls w v ≡ b → how_many (falls w) (gone ++ v ∷ []) ≡ how_many (falls w) gone + cond b 1 0
  count w b e = how_many-more (falls w) gone v ∙ ap (λ t. how_many (falls w) gone + cond t 1 0) e

  after_other : (w : ℕ) (b : Bool) → falls w v ≡ b → (w ≡ v → ⊥)
      → left (is_in w gone && has_no_other a users w) (how_many (falls w) gone + cond b 1 0) (info w) ≡ info_without a users (gone ++ v ∷ []) info w
  after_other w b e ne = sym (
      ap (λ t. left (t && has_no_other a users w) (how_many (falls w) (gone ++ v ∷ [])) (info w)) (in_as_before w v gone ne)
      ∙ ap (λ n. left (is_in w gone && has_no_other a users w) n (info w)) (count w b e))

  -- it has another user: nothing is destroyed
  pub one_stays : has_no_other a users v ≡ false → (w : ℕ) → now w ≡ info_without a users (gone ++ v ∷ []) info w
  one_stays stays w = elim (cases_eq w v) [
    | inl e ↦
        let here : has_no_other a users w ≡ false = ap (has_no_other a users) e ∙ stays in
        now_is w ∙ ap (λ t. left (is_in w gone && t) (how_many (falls w) gone) (info w)) here
        ∙ ap (λ t. left t (how_many (falls w) gone) (info w)) (never (is_in w gone))
        ∙ none_less false (how_many (falls w) gone) (info w) ∙ ap (λ n. left false n (info w)) (sym (count w false (no_fall w)))
        ∙ sym (ap (λ t. left (is_in w (gone ++ v ∷ []) && t) (how_many (falls w) (gone ++ v ∷ [])) (info w)) here
        ∙ ap (λ t. left t (how_many (falls w) (gone ++ v ∷ [])) (info w)) (never (is_in w (gone ++ v ∷ []))))
    | inr ne ↦ now_is w ∙ none_less (is_in w gone && has_no_other a users w) (how_many (falls w) gone) (info w) ∙ after_other w false (no_fall w) ne
  ]
    where
      never : (t : Bool) → (t && false) ≡ false
      never true = refl
      never false = refl

      no_fall : (w : ℕ) → falls w v ≡ false
      no_fall w = ap (λ t. t && is_child w (info v)) stays

  -- it has none: it is destroyed
  pub one_goes : has_no_other a users v ≡ true → (w : ℕ) → without_anon v now w ≡ info_without a users (gone ++ v ∷ []) info w
  one_goes goes w = by_info (info v) refl
    where
      now_v : now v ≡ option_map (without_children (how_many (falls v) gone)) (info v)
      now_v = now_is v ∙ ap (λ t. left (t && has_no_other a users v) (how_many (falls v) gone) (info v)) absent

      -- v itself
      at_v : w ≡ v → info_without a users (gone ++ v ∷ []) info w ≡ None
      at_v e = ap (λ t. left (t && has_no_other a users w) (how_many (falls w) (gone ++ v ∷ [])) (info w)) (in_more w v gone e)
          ∙ ap (λ t. left t (how_many (falls w) (gone ++ v ∷ [])) (info w)) (ap (has_no_other a users) e ∙ goes)

      fall : (o : Option Info) → info v ≡ o → falls w v ≡ is_child w o
      fall o e = ap (λ t. t && is_child w (info v)) goes ∙ ap (is_child w) e

      by_info : (o : Option Info) → info v ≡ o → without_anon v now w ≡ info_without a users (gone ++ v ∷ []) info w
      by_info None e =
          let none : now v ≡ None = now_v ∙ ap (option_map (without_children (how_many (falls v) gone))) e in
          ap (λ o. without_anon_of o v now w) none ∙ elim (cases_eq w v) [
            | inl h ↦ ap now h ∙ none ∙ sym (at_v h)
            | inr ne ↦ now_is w ∙ none_less (is_in w gone && has_no_other a users w) (how_many (falls w) gone) (info w)
                ∙ after_other w false (fall None e) ne
          ]
      by_info (Some i) e =
          let n = how_many (falls v) gone in
          let some : now v ≡ Some (without_children n i) = now_v ∙ ap (option_map (without_children n)) e in
          ap (λ o. without_anon_of o v now w) some ∙ elim (cases_eq w v) [
            | inl h ↦ ap (λ b. cond b None (with_info i.parent less_children now w)) (eq-eqb w v h) ∙ sym (at_v h)
            | inr ne ↦ with_at-other v None (with_info i.parent less_children now) w ne ∙ elim (cases_eq w i.parent) [
              | inl h ↦
                  let child : falls w v ≡ true = fall (Some i) e ∙ eq-eqb i.parent w (sym h) in
                  ap (λ b. cond b (option_map less_children (now i.parent)) (now w)) (eq-eqb w i.parent h)
                  ∙ ap (λ p. option_map less_children (now p)) (sym h) ∙ ap (option_map less_children) (now_is w)
                  ∙ one_less (is_in w gone && has_no_other a users w) (how_many (falls w) gone) (info w) ∙ after_other w true child ne
              | inr other ↦
                  let child : falls w v ≡ false = fall (Some i) e ∙ ne_eqb i.parent w (λ h. other (sym h)) in
                  with_at-other i.parent (option_map less_children (now i.parent)) now w other ∙ now_is w
                  ∙ none_less (is_in w gone && has_no_other a users w) (how_many (falls w) gone) (info w) ∙ after_other w false child ne
            ]
          ]

  -- it goes or stays, by its other users
  pub one_left : (alone : Bool) → alone ≡ has_no_other a users v → (w : ℕ) →
      cond alone (without_anon v now) now w ≡ info_without a users (gone ++ v ∷ []) info w
  one_left true e w = one_goes (sym e) w
  one_left false e w = one_stays (sym e) w
