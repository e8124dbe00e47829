-- An area gets an anon_vma: what is lent to it by numbers of areas is lent by pages, and what becomes of chain order, chains and pages.
use Rattle.std.proofs.Common.{◌≡◌, ℕ, ◌-◌, Bool, true, false, not, cond, ◌&&◌, ◌==◌, length, List, [], ◌∷◌, Option, Some, None, is_some, option_map, refl, sym, ap, subst, ◌∙◌, arith, ◌⊎◌, inl, inr, eq-eqb, ne_eqb}
use Rattle.std.specs.Prelude.{option_and_then, unwrap_or}
use Rattle.std.specs.Option.{option_or}
use Rattle.std.proofs.lemmas.Bool.{cases_eq, eqb-true}
use Rattle.std.proofs.lemmas.Option.{same_Some}
use Rattle.av_base.specs.Words.{with_at}
use Rattle.av_interval.specs.declared.span.Span.{Span}
use Rattle.av_vma.specs.declared.area.Area.{Area}
use Rattle.av_vma.specs.Index.{first_of, past_of}
use Rattle.av_vma.specs.Join.{can_lend}
use Rattle.av_vma.specs.Pages.{Lengths, Pages, after_prepare, loan_of, loan_beside, makes_anon, with_anon, with_area}
use Rattle.av_vmatree.specs.declared.span.Span as tree
use Rattle.av_vmatree.specs.Spans.{area_at}
use Rattle.av_anon.specs.declared.infos.Info.{Info}
use Rattle.av_anon.specs.Anons.{Family, give_own, own_of, with_own}
use Rattle.av_anon.specs.Infos.{more_active, with_info}
use Rattle.av_anon.specs.Kin.{chain_by, length_by}
use Rattle.av_anon.specs.Order.{IsInOrder}
use Rattle.av_anon.specs.Prepare as by_number
use Rattle.av_anon.specs.Prepare.{loan, loan_by, loan_near, loan_to, own_after_prepare}
use Rattle.av_anon.specs.Spans.{GoWithLinks}
use Rattle.av_anon.proofs.Choosing.{one_node_near}
use Rattle.av_anon.proofs.KinLaws.{chain_by-is}
use Rattle.av_anon.proofs.OrderLaws.{order-prepare, single}
use Rattle.av_anon.proofs.Words.{with_at-here, with_at-other}
use Rattle.av_merge.specs.Kin.{PreparesKin, kin_in}
use Rattle.av_merge.specs.Pages.{pages_by}
use Rattle.av_merge.specs.Process.{AreAreasOf, IsAreaOf}
use Rattle.av_merge.proofs.SplittingLaws.{found}
use Rattle.av_merge.proofs.PlacingLaws.{change_pages}

-- ---- what is lent

or_is : (a b : Option ℕ) → option_or a b ≡ option_or a b
or_is None b = refl
or_is (Some v) b = refl

own_is : (loan : Option ℕ) (f : Family) → own_after_prepare loan f ≡ unwrap_or loan f.next
own_is None f = refl
own_is (Some v) f = refl

module _ (areas : ℕ → Option Area) (f : Family) (spans : ℕ → List Span) (A : Area) (o : IsInOrder areas f spans) (tree_spans : List tree.Span) where
  -- an area on a page lends what its number lends
  lent_is : (page : ℕ) → loan areas f.chain A (area_at tree_spans page) ≡ loan_of (length_by areas f) A (pages_by areas tree_spans page)
  lent_is page = at (area_at tree_spans page)
    where
      none : (a b : Bool) → cond {A = Option ℕ} a None None ≡ cond b None None
      none true true = refl
      none true false = refl
      none false true = refl
      none false false = refl

      by_own : (n : ℕ) (near : Area) → areas n ≡ Some near → (own : Option ℕ) → near.anon ≡ own
          → cond (can_lend A near (length (f.chain n))) own None ≡ cond (can_lend A near (length_by areas f own)) own None
      by_own n near is None e = none (can_lend A near (length (f.chain n))) (can_lend A near 0)
      by_own n near is (Some v) e =
          ap (λ (xs : List ℕ). cond (can_lend A near (length xs)) (Some v) None) (sym (chain_by-is areas f spans n v o (ap own_of is ∙ e)))

      by_area : (n : ℕ) (x : Option Area) → areas n ≡ x → loan_by (length (f.chain n)) A x ≡ loan_of (length_by areas f) A x
      by_area n None e = refl
      by_area n (Some near) e = by_own n near e near.anon refl

      at : (x : Option ℕ) → loan areas f.chain A x ≡ loan_of (length_by areas f) A (option_and_then areas x)
      at None = refl
      at (Some n) = by_area n (areas n) refl

  pub lent_near_is : loan_near areas f.chain A (area_at tree_spans (first_of A - 1)) (area_at tree_spans (past_of A))
      ≡ loan_beside (length_by areas f) (pages_by areas tree_spans) A
  lent_near_is =
      or_is (loan areas f.chain A (area_at tree_spans (past_of A))) (loan areas f.chain A (area_at tree_spans (first_of A - 1)))
      ∙ (λ i. option_or (lent_is (past_of A) i) (lent_is (first_of A - 1) i))

-- ---- chain order, kin and chains

-- nothing changes
pub prepares_none : (areas : ℕ → Option Area) (f : Family) (spans : ℕ → List Span) (made : Bool) → made ≡ false
    → IsInOrder areas f spans → PreparesKin areas areas f f spans made
prepares_none areas f spans made none o = subst (PreparesKin areas areas f f spans) (sym none) (record {
  order = o;
  next = refl;
  kin = λ v. refl;
  owned = λ b v own old. (b, own);
  chains = λ b v own. sym (chain_by-is areas f spans b v o own);
})

-- none is made where the area has one
pub makes_none : (len : Lengths) (on : Pages) (A : Area) → is_some A.anon ≡ true → makes_anon len on (Some A) ≡ false
makes_none len on A some = ap (λ b. not b && not (is_some (loan_beside len on A))) some

no : false ≡ true → ⊥
no e = cc

module _ (areas : ℕ → Option Area) (f : Family) (spans : ℕ → List Span) (n : ℕ) (A : Area) (o : IsInOrder areas f spans) (is : areas n ≡ Some A) where
  -- each area has the own anon_vma that it is given, or the one that it had
  abbrev IsOld : ℕ → ℕ → Type 0
  IsOld b v = (b ≡ n → ⊥) × (own_of (areas b) ≡ Some v)

  own_after : (x b v : ℕ) → own_of (give_own n (Some x) areas b) ≡ Some v → ((b ≡ n) × (v ≡ x)) ⊎ IsOld b v
  own_after x b v own = elim (cases_eq b n) [
    | inl e ↦ inl (
      e,
      sym (same_Some x v (sym (ap (λ m. own_of (give_own n (Some x) areas m)) e
          ∙ ap own_of (with_at-here n (with_own (Some x) (areas n)) areas) ∙ ap (λ m. own_of (with_own (Some x) m)) is) ∙ own)),
    )
    | inr ne ↦ inr (ne, sym (ap own_of (with_at-other n (with_own (Some x) (areas n)) areas b ne)) ∙ own)
  ]

  -- an own anon_vma that there was is not the one that is made
  not_made : (b v : ℕ) → own_of (areas b) ≡ Some v → (v == f.next) ≡ false
  not_made b v own = let below = (o.chains b).made v ((o.chains b).own_in v own) in ne_eqb v f.next (λ e. absurd (omega arith))

  module _ (spans' : ℕ → List Span) where
    made_kin : IsInOrder (give_own n (Some f.next) areas) (by_number.after_prepare n None f) spans'
        → PreparesKin areas (give_own n (Some f.next) areas) f (by_number.after_prepare n None f) spans' true
    made_kin order = record {
      order = order;
      next = refl;
      kin = λ v. kin v (v == f.next) refl;
      owned = λ b v own old. elim (own_after f.next b v own) [
        | inl e ↦ absurd (no (sym old ∙ eq-eqb v f.next e.1))
        | inr h ↦ (b, h.1)
      ];
      chains = λ b v own. elim (own_after f.next b v own) [
        | inl e ↦
            ap (with_at n (f.next ∷ []) f.chain) e.0 ∙ with_at-here n (f.next ∷ []) f.chain ∙ ap (λ w. w ∷ []) (sym e.1)
            ∙ sym (ap (λ t. cond t (v ∷ []) (chain_by areas f v)) (eq-eqb v f.next e.1))
        | inr h ↦
            with_at-other n (f.next ∷ []) f.chain b h.0 ∙ sym (chain_by-is areas f spans b v o h.1)
            ∙ sym (ap (λ t. cond t (v ∷ []) (chain_by areas f v)) (not_made b v h.1))
      ];
    }
      where
        root : Info
        root = record { root = f.next; parent = f.next; children = 1; active = 1 }

        kin : (v : ℕ) (t : Bool) → (v == f.next) ≡ t
            → option_map kin_in (cond t (Some root) (f.info v)) ≡ cond t (Some (v, v)) (option_map kin_in (f.info v))
        kin v true e = ap (λ w. Some (w, w)) (sym (eqb-true v f.next e))
        kin v false e = refl

    lent_kin : (u k : ℕ) → own_of (areas k) ≡ Some u → f.chain k ≡ u ∷ []
        → IsInOrder (give_own n (Some u) areas) (by_number.after_prepare n (Some u) f) spans'
        → PreparesKin areas (give_own n (Some u) areas) f (by_number.after_prepare n (Some u) f) spans' false
    lent_kin u k near one order = record {
      order = order;
      next = refl;
      kin = λ v. elim (cases_eq v u) [
        | inl e ↦
            ap (λ m. option_map kin_in (with_info u more_active f.info m)) e
            ∙ ap (option_map kin_in) (with_at-here u (option_map more_active (f.info u)) f.info)
            ∙ same (f.info u) ∙ ap (λ m. option_map kin_in (f.info m)) (sym e)
        | inr ne ↦ ap (option_map kin_in) (with_at-other u (option_map more_active (f.info u)) f.info v ne)
      ];
      owned = λ b v own old. elim (own_after u b v own) [
        | inl e ↦ (k, near ∙ ap (λ w. Some w) (sym e.1))
        | inr h ↦ (b, h.1)
      ];
      chains = λ b v own. elim (own_after u b v own) [
        | inl e ↦
            ap (with_at n (u ∷ []) f.chain) e.0 ∙ with_at-here n (u ∷ []) f.chain ∙ sym one
            ∙ sym (chain_by-is areas f spans k u o near) ∙ ap (chain_by areas f) (sym e.1)
        | inr h ↦ with_at-other n (u ∷ []) f.chain b h.0 ∙ sym (chain_by-is areas f spans b v o h.1)
      ];
    }
      where
        same : (m : Option Info) → option_map kin_in (option_map more_active m) ≡ option_map kin_in m
        same None = refl
        same (Some i) = refl

    by_loan : (before after loan : Option ℕ) → loan_near areas f.chain A before after ≡ loan
        → IsInOrder (give_own n (Some (own_after_prepare loan f)) areas) (by_number.after_prepare n loan f) spans'
        → PreparesKin areas (give_own n (Some (own_after_prepare loan f)) areas) f (by_number.after_prepare n loan f) spans' (not (is_some loan))
    by_loan before after None e order = made_kin order
    by_loan before after (Some u) e order =
        let near = one_node_near areas f.chain A before after u e in
        lent_kin u near.0 near.1 (single u (f.chain near.0) near.2 ((o.chains near.0).own_in u near.1)) order

-- ---- the whole call

module _ (p n page : ℕ) (areas areas' : ℕ → Option Area) (f f' : Family) (spans spans' : ℕ → List Span) (tree_spans : List tree.Span) (A : Area)
    (o : IsInOrder areas f spans) (stands : AreAreasOf p areas tree_spans)
    (at : area_at tree_spans page ≡ Some n) (is : areas n ≡ Some A) (none : A.anon ≡ None)
    (before after : Option ℕ) (before_is : before ≡ area_at tree_spans (first_of A - 1)) (after_is : after ≡ area_at tree_spans (past_of A)) where
  loan_is : loan_to areas f.chain n before after ≡ loan_beside (length_by areas f) (pages_by areas tree_spans) A
  loan_is =
      ap (option_and_then (λ (a : Area). loan_near areas f.chain a before after)) is
      ∙ (λ i. loan_near areas f.chain A (before_is i) (after_is i)) ∙ lent_near_is areas f spans A o tree_spans

  here : pages_by areas tree_spans page ≡ Some A
  here = ap (option_and_then areas) at ∙ is

  -- whether an anon_vma is made for it: exactly where none is lent
  abbrev makes : Bool
  makes = makes_anon (length_by areas f) (pages_by areas tree_spans) (pages_by areas tree_spans page)

  makes_is : makes ≡ not (is_some (loan_to areas f.chain n before after))
  makes_is =
      let len = length_by areas f in
      let on = pages_by areas tree_spans in
      ap (makes_anon len on) here
      ∙ ap (λ own. not (is_some own) && not (is_some (loan_beside len on A))) none
      ∙ sym (ap (λ loan_of. not (is_some loan_of)) loan_is)

  pub prepare_kin : f' ≡ by_number.after_prepare n (loan_to areas f.chain n before after) f
      → ((k : ℕ) → areas' k ≡ give_own n (Some (own_after_prepare (loan_to areas f.chain n before after) f)) areas k)
      → GoWithLinks areas' f'.chain spans'
      → PreparesKin areas areas' f f' spans' makes
  prepare_kin was now goes =
      let loan : Option ℕ = loan_to areas f.chain n before after in
      let g : ℕ → Option Area = give_own n (Some (own_after_prepare loan f)) areas in
      let h : Family = by_number.after_prepare n loan f in
      let same : areas' ≡ g = λ i k. now k i in
      let there : GoWithLinks g f'.chain spans' = subst (λ a. GoWithLinks a f'.chain spans') same goes in
      let spanned : GoWithLinks g h.chain spans' = subst (λ (m : Family). GoWithLinks g m.chain spans') was there in
      let order : IsInOrder g h spans' = order-prepare areas f spans spans' n A before after o is none spanned in
      let near : loan_near areas f.chain A before after ≡ loan =
      sym (ap (option_and_then (λ (a : Area). loan_near areas f.chain a before after)) is) in
      let kin : PreparesKin areas g f h spans' (not (is_some loan)) = by_loan areas f spans n A o is spans' before after loan near order in
      subst (λ a. PreparesKin areas a f f' spans' makes) (sym same)
      (subst (λ m. PreparesKin areas g f m spans' makes) (sym was)
      (subst (PreparesKin areas g f h spans') (sym makes_is) kin))

  pub prepare_pages : ((k : ℕ) → areas' k ≡ give_own n (Some (own_after_prepare (loan_to areas f.chain n before after) f)) areas k)
      → (q : ℕ) → pages_by areas' tree_spans q ≡ after_prepare (length_by areas f) f.next page (pages_by areas tree_spans) q
  prepare_pages now q =
      let len = length_by areas f in
      let on = pages_by areas tree_spans in
      let loan : Option ℕ = loan_to areas f.chain n before after in
      let at_n = found p n page areas tree_spans A stands at is in
      let w = at_n.is.whole in
      let new : Area = record A { anon = Some (own_after_prepare loan f) } in
      let new_is : IsAreaOf p at_n.span new = record {
        process = at_n.is.process;
        whole = record { start = w.start; end = w.end; some = w.some; low = w.low; high = w.high; small = w.small };
        from = at_n.is.from;
        to = at_n.is.to;
      } in
      change_pages p n at_n.span new areas areas' tree_spans stands at_n.span_is new_is
      (λ k. now k ∙ ap (λ x. with_at n (with_own (Some (own_after_prepare loan f)) x) areas k) is) q
      ∙ ap (λ own. with_area (record A { anon = Some own }) on q) (own_is loan f ∙ ap (λ o. unwrap_or o f.next) loan_is)
      ∙ sym (ap (λ own. (cond (is_some own) on (with_area (record A { anon = Some (unwrap_or (loan_beside len on A) f.next) }) on)) q) none)
      ∙ sym (ap (λ x. with_anon len f.next x on q) here)
