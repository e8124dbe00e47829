-- Chain order through each call and change: the laws of order, in a form to be cited.
use Rattle.std.proofs.Common.{◌≡◌, ℕ, Bool, true, false, ◌||◌, ◌==◌, Option, Some, None, List, [], ◌∷◌, ◌++◌, length, refl, sym, ap, ◌∙◌, subst, arith, inl, inr}
use Rattle.std.specs.Prelude.{option_and_then}
use Rattle.std.proofs.lemmas.Bool.{cases_eq, eqb-true}
use Rattle.av_base.specs.Words.{is_in, how_many, with_at}
use Rattle.av_interval.specs.declared.span.Span.{Span}
use Rattle.av_vma.specs.declared.area.Area.{Area}
use Rattle.av_anon.specs.Anons.{give_own, nobody, own_of, with_links, new_child, with_own, Family}
use Rattle.av_anon.specs.Fork.{child_chain, child_family, child_own, after_clone, after_fork, own_after_fork, gets_own, is_idle, member_to_reuse, root_of}
use Rattle.av_anon.specs.Order.{IsArea, IsChain, IsInOrder, owns}
use Rattle.av_anon.specs.Prepare.{loan_near, loan_to, after_prepare, own_after_prepare}
use Rattle.av_anon.specs.Resize.{with_bounds}
use Rattle.av_anon.specs.Spans.{present, span_at, GoWithLinks}
use Rattle.av_anon.specs.Unlink.{after_unlink}
use Rattle.av_anon.proofs.Choosing.{one_node_near, found_in, found_idle}
use Rattle.av_anon.proofs.OrderLeft.{left_keeps}
use Rattle.av_anon.proofs.OrderLemmas.{changed_keeps, some_is, some_of}
use Rattle.av_anon.proofs.OrderMade.{child_keeps, root_keeps}
use Rattle.av_anon.proofs.OrderRaised.{clone_keeps, raised_keeps, reuse_keeps}
use Rattle.av_anon.proofs.Spanned.{areas_changed}
use Rattle.av_anon.proofs.Words.{with_at-here, with_at-other}

no : false ≡ true → ⊥
no e = cc

none_some : {X : Type 0} {x : X} → ◌≡◌ {A = Option X} None (Some x) → ⊥
none_some e = cc

-- there is no area and no anon_vma
pub order-nobody : IsInOrder (λ _. None) nobody (λ _. [])
order-nobody = record {
  chains = λ a. record {
    none = λ e. refl;
    own_in = λ v e. absurd (none_some e);
    there = λ v h. absurd (no h);
    made = λ v h. absurd (no h);
    rising = tt;
    parents = λ v i h e. absurd (no h);
    roots = λ v i h e. absurd (no h);
    one_root = λ v w i j h h' e e'. absurd (no h);
  };
  alike = λ a b v e e'. refl;
  counted = λ v i e. absurd (none_some e);
  inverse = record { inverse = λ a v. refl; once = λ a v. refl };
  below = λ v h. absurd (no h);
  linked = λ v h. absurd (no h);
  spanned = record { each = λ v n. refl; numbers = λ v. tt };
  areas_fit = λ a A e. absurd (none_some e);
}

-- only the spans change
pub order-spans : (areas : ℕ → Option Area) (f : Family) (spans spans' : ℕ → List Span) → IsInOrder areas f spans
    → GoWithLinks areas f.chain spans' → IsInOrder areas f spans'
order-spans areas f spans spans' o g = record {
  chains = o.chains;
  alike = o.alike;
  counted = o.counted;
  inverse = o.inverse;
  below = o.below;
  linked = o.linked;
  spanned = g;
  areas_fit = o.areas_fit;
}

-- ---- prepare

-- a chain of one node that holds v
pub single : (v : ℕ) (xs : List ℕ) → length xs ≡ 1 → is_in v xs ≡ true → xs ≡ v ∷ []
single v [] one h = absurd (omega arith)
single v (x ∷ []) one h = ap (λ y. y ∷ []) (sym (eqb-true v x (last (v == x) h)))
  where
    last : (b : Bool) → (b || false) ≡ true → b ≡ true
    last true h = refl
    last false h = h
single v (x ∷ (y ∷ ys)) one h = absurd (omega arith)

prepare_by : (areas : ℕ → Option Area) (f : Family) (spans spans' : ℕ → List Span) (area : ℕ) (A : Area) (before after : Option ℕ)
    → IsInOrder areas f spans → areas area ≡ Some A → A.anon ≡ None
    → (loan : Option ℕ) → loan_near areas f.chain A before after ≡ loan
    → GoWithLinks (give_own area (Some (own_after_prepare loan f)) areas) (after_prepare area loan f).chain spans'
    → IsInOrder (give_own area (Some (own_after_prepare loan f)) areas) (after_prepare area loan f) spans'
prepare_by areas f spans spans' area A before after o is none None e g = root_keeps areas f spans o area A is none spans' g
prepare_by areas f spans spans' area A before after o is none (Some v) e g =
    let near = one_node_near areas f.chain A before after v e in
    let n = near.0 in
    let one : f.chain n ≡ v ∷ [] = single v (f.chain n) near.2 ((o.chains n).own_in v near.1) in
    raised_keeps areas f spans o area A is none v (v ∷ []) spans'
    (subst (λ c. IsChain f.info f.next (Some v) c) one (subst (λ w. IsChain f.info f.next w (f.chain n)) near.1 (o.chains n)))
    (λ b h. o.alike b n v h near.1 ∙ one) g

pub order-prepare : (areas : ℕ → Option Area) (f : Family) (spans spans' : ℕ → List Span) (area : ℕ) (A : Area) (before after : Option ℕ)
    → IsInOrder areas f spans → areas area ≡ Some A → A.anon ≡ None
    → let loan = loan_to areas f.chain area before after in
    GoWithLinks (give_own area (Some (own_after_prepare loan f)) areas) (after_prepare area loan f).chain spans'
    → IsInOrder (give_own area (Some (own_after_prepare loan f)) areas) (after_prepare area loan f) spans'
order-prepare areas f spans spans' area A before after o is none =
    prepare_by areas f spans spans' area A before after o is none (loan_to areas f.chain area before after)
    (ap (λ m. option_and_then (λ (b : Area). loan_near areas f.chain b before after) m) (sym is))

-- ---- clone_chain and fork

clone_by : (areas : ℕ → Option Area) (f : Family) (spans spans' : ℕ → List Span) (src dst : ℕ) (A : Area) → IsInOrder areas f spans
    → areas dst ≡ Some A → A.anon ≡ None
    → (own : Option ℕ) → own_of (areas src) ≡ own → GoWithLinks (gets_own dst own areas) (after_clone own src dst f).chain spans'
    → IsInOrder (gets_own dst own areas) (after_clone own src dst f) spans'
clone_by areas f spans spans' src dst A o is none None e g = order-spans areas f spans spans' o g
clone_by areas f spans spans' src dst A o is none (Some own) e g = clone_keeps areas f spans o dst A is none src own spans' e g

pub order-clone : (areas : ℕ → Option Area) (f : Family) (spans spans' : ℕ → List Span) (src dst : ℕ) (A : Area)
    → IsInOrder areas f spans → areas dst ≡ Some A → A.anon ≡ None
    → let own = own_of (areas src) in
    GoWithLinks (gets_own dst own areas) (after_clone own src dst f).chain spans'
    → IsInOrder (gets_own dst own areas) (after_clone own src dst f) spans'
order-clone areas f spans spans' src dst A o is none = clone_by areas f spans spans' src dst A o is none (own_of (areas src)) refl

module _ (areas : ℕ → Option Area) (f : Family) (spans spans' : ℕ
    → List Span) (src dst : ℕ) (A : Area) (o : IsInOrder areas f spans) (is : areas dst ≡ Some A) (none : A.anon ≡ None) where
  by_reuse : (own : ℕ) → own_of (areas src) ≡ Some own → (reuse : Option ℕ) → member_to_reuse f.info (f.chain src) ≡ reuse
      → GoWithLinks (gets_own dst (Some (child_own reuse f.next)) areas) (with_links dst (child_chain reuse f.next (f.chain src))
      (child_family reuse own f)).chain spans'
      → IsInOrder (gets_own dst (Some (child_own reuse f.next)) areas) (with_links dst (child_chain reuse f.next (f.chain src))
      (child_family reuse own f)) spans'
  by_reuse own e None r g =
      let i = some_of (f.info own) ((o.chains src).there own ((o.chains src).own_in own e)) in
      subst (λ m. IsInOrder (gets_own dst (Some f.next) areas) (with_links dst (f.chain src ++ f.next ∷ [])
      (new_child (root_of own m) own f)) spans') (sym i.1)
      (child_keeps areas f spans o dst A is none src own i.0 spans' e i.1 g)
  by_reuse own e (Some v) r g =
      let i = found_idle f.info (f.chain src) v r in
      reuse_keeps areas f spans o dst A is none src v i.0 spans' (found_in (λ u. is_idle u (f.info u)) (f.chain src) v r) i.1 i.2 g

  fork_by : (own : Option ℕ) → own_of (areas src) ≡ own
      → GoWithLinks (gets_own dst (own_after_fork own src f) areas) (after_fork own src dst f).chain spans'
      → IsInOrder (gets_own dst (own_after_fork own src f) areas) (after_fork own src dst f) spans'
  fork_by None e g = order-spans areas f spans spans' o g
  fork_by (Some own) e g = by_reuse own e (member_to_reuse f.info (f.chain src)) refl g

pub order-fork : (areas : ℕ → Option Area) (f : Family) (spans spans' : ℕ → List Span) (src dst : ℕ) (A : Area)
    → IsInOrder areas f spans → areas dst ≡ Some A → A.anon ≡ None
    → let own = own_of (areas src) in
    let areas' = gets_own dst (own_after_fork own src f) areas in
    GoWithLinks areas' (after_fork own src dst f).chain spans' → IsInOrder areas' (after_fork own src dst f) spans'
order-fork areas f spans spans' src dst A o is none = fork_by areas f spans spans' src dst A o is none (own_of (areas src)) refl

-- ---- unlink

module _ (areas : ℕ → Option Area) (f : Family) (spans spans' : ℕ → List Span) (a : ℕ) (A : Area) (o : IsInOrder areas f spans)
    (is : areas a ≡ Some A) where
  -- an area without anon_vma keeps none
  same_own : A.anon ≡ None → (b : ℕ) → own_of (give_own a None areas b) ≡ own_of (areas b)
  same_own none b = elim (cases_eq b a) [
    | inl e ↦ ap (λ m. own_of (give_own a None areas m)) e ∙ ap own_of (with_at-here a (with_own None (areas a)) areas)
        ∙ ap (λ m. own_of (with_own None m)) is ∙ sym none ∙ sym (ap own_of is) ∙ ap (λ m. own_of (areas m)) (sym e)
    | inr ne ↦ ap own_of (with_at-other a (with_own None (areas a)) areas b ne)
  ]

  unlink_by : (own : Option ℕ) → A.anon ≡ own → GoWithLinks (give_own a None areas) (after_unlink own a f).chain spans'
      → IsInOrder (give_own a None areas) (after_unlink own a f) spans'
  unlink_by (Some own) e g = left_keeps areas f spans o a own A is e spans' g
  unlink_by None e g = record {
    chains = λ b. subst (λ w. IsChain f.info f.next w (f.chain b)) (sym (same_own e b)) (o.chains b);
    alike = λ b d v eb ed. o.alike b d v (sym (same_own e b) ∙ eb) (sym (same_own e d) ∙ ed);
    counted = λ v i h. record {
      children = (o.counted v i h).children;
      active = (o.counted v i h).active ∙ (λ k. how_many (λ b. owns v (sym (same_own e b) k)) (f.users v));
    };
    inverse = o.inverse;
    below = o.below;
    linked = o.linked;
    spanned = g;
    areas_fit = λ b B h. elim (cases_eq b a) [
      | inl n ↦
          let same : Some B ≡ Some (record A { anon = None }) = sym h ∙ ap (λ m. give_own a None areas m) n
          ∙ with_at-here a (with_own None (areas a)) areas ∙ ap (with_own None) is in
          subst IsArea (sym (some_is same)) (record { forward = (o.areas_fit a A is).forward; small = (o.areas_fit a A is).small })
      | inr ne ↦ o.areas_fit b B (sym (with_at-other a (with_own None (areas a)) areas b ne) ∙ h)
    ];
  }

pub order-unlink : (areas : ℕ → Option Area) (f : Family) (spans spans' : ℕ → List Span) (area : ℕ) (A : Area) → IsInOrder areas f spans
    → areas area ≡ Some A
    → let own = own_of (areas area) in
    GoWithLinks (give_own area None areas) (after_unlink own area f).chain spans'
    → IsInOrder (give_own area None areas) (after_unlink own area f) spans'
order-unlink areas f spans spans' a A o is =
    subst (λ m. GoWithLinks (give_own a None areas) (after_unlink m a f).chain spans'
    → IsInOrder (give_own a None areas) (after_unlink m a f) spans') (sym (ap own_of is)) (unlink_by areas f spans spans' a A o is A.anon refl)

-- ---- areas change

pub order-resize : (areas : ℕ → Option Area) (f : Family) (spans spans' : ℕ → List Span) (area start end pgoff : ℕ) (A : Area)
    → IsInOrder areas f spans → areas area ≡ Some A → IsArea (with_bounds start end pgoff A)
    → GoWithLinks (with_at area (Some (with_bounds start end pgoff A)) areas) f.chain spans'
    → IsInOrder (with_at area (Some (with_bounds start end pgoff A)) areas) f spans'
order-resize areas f spans spans' a start end pgoff A o is fits g =
    changed_keeps areas f spans spans' a (Some (with_bounds start end pgoff A)) o (sym (ap own_of is)) (λ D e. subst IsArea (some_is e) fits) g

pub order-bare : (areas : ℕ → Option Area) (f : Family) (spans : ℕ → List Span) (area : ℕ) (new : Option Area)
    → IsInOrder areas f spans → own_of (areas area) ≡ None → own_of new ≡ None
    → ((A : Area) → new ≡ Some A → IsArea A) → IsInOrder (with_at area new areas) f spans
order-bare areas f spans a new o none bare fits =
    changed_keeps areas f spans spans a new o (bare ∙ sym none) fits
    (areas_changed areas f.chain spans o.spanned (with_at a new areas) (λ v n h. elim (cases_eq n a) [
      | inl e ↦ absurd (no (sym (ap (λ m. is_in v (f.chain m)) e ∙ ap (is_in v) ((o.chains a).none none)) ∙ h))
      | inr ne ↦ ap (present n) (with_at-other a new areas n ne)
    ]))

pub order-others : (areas : ℕ → Option Area) (f : Family) (spans : ℕ → List Span) (area : ℕ) (A B : Area)
    → IsInOrder areas f spans → areas area ≡ Some A → B.anon ≡ A.anon → span_at area B ≡ span_at area A → IsArea B
    → IsInOrder (with_at area (Some B) areas) f spans
order-others areas f spans a A B o is own span fits =
    changed_keeps areas f spans spans a (Some B) o (own ∙ sym (ap own_of is)) (λ D e. subst IsArea (some_is e) fits)
    (areas_changed areas f.chain spans o.spanned (with_at a (Some B) areas) (λ v n h. elim (cases_eq n a) [
      | inl e ↦
          ap (λ m. present m (with_at a (Some B) areas m)) e ∙ ap (present a) (with_at-here a (Some B) areas) ∙ ap (λ x. x ∷ []) span
          ∙ sym (ap (present a) is) ∙ ap (λ m. present m (areas m)) (sym e)
      | inr ne ↦ ap (present n) (with_at-other a (Some B) areas n ne)
    ]))
