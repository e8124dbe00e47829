-- What is found from the items of a merged frame: its entries, each once.
use Rattle.std.proofs.Common.{◌≡◌, ℕ, ◌+◌, ◌<◌, ◌≤◌, Bool, true, false, cond, ◌||◌, List, [], ◌∷◌, ◌++◌, Option, Some, None, length, refl, sym, ap}
use Rattle.std.proofs.Common.{subst, ◌∙◌, arith, inl, inr}
use Rattle.std.proofs.lemmas.Bool.{cases_eq, false≢true}
use Rattle.std.proofs.lemmas.Bool.Decides.{nat_tests}
use Rattle.std.proofs.lemmas.List.{append_assoc}
use Rattle.std.specs.Prelude.{IfSome, IsSome, is_some}
use Rattle.av_base.specs.Keys.{Key, same_key}
use Rattle.av_base.specs.Items.{Item, is_item, same_item}
use Rattle.av_base.specs.Words.{how_many, is_in}
use Rattle.av_chain.specs.Links.{one_if}
use Rattle.av_pagetable.specs.declared.pte.Pte.{Pte}
use Rattle.av_vma.specs.declared.area.Area.{Area}
use Rattle.av_vma.specs.Index.{index_of}
use Rattle.av_interval.specs.declared.span.Span.{Span}
use Rattle.av_anon.specs.Anons.{Family}
use Rattle.av_anon.specs.Order.{IsInOrder}
use Rattle.av_anon.specs.Spans.{is_of, present}
use Rattle.av_anon.specs.declared.infos.Info.{Info}
use Rattle.av_rmap.specs.Covered.{IsReached}
use Rattle.av_rmap.specs.Items.{AreCovered, AreOnce, AreRoots, AreRootsApart, found_from_all}
use Rattle.av_rmap.specs.View.{View, AreApart, AreSpanned, view_with}
use Rattle.av_rmap.specs.Walk.{AreItsEntries, areas_from, found_from, found_in, walk_of}
use Rattle.av_rmap.proofs.Entries.{has-holds, look-found, look-index, look-none, look-of, many-append, not_more, walk-none, walk-of}
use Rattle.av_rmap.proofs.ItemLemmas.{some_item}
use Rattle.av_rmap.proofs.NextAreas.{often}
use Rattle.av_rmap.proofs.SpanLemmas.{are_spans, many-filter}

item_is : (x y : Item) → same_item x y ≡ true → (x.0 ≡ y.0) × (x.1 ≡ y.1)
item_is x y h = (grind (arith, nat_tests, h), grind (arith, nat_tests, h))

is_same : (x y : Item) → x.0 ≡ y.0 → x.1 ≡ y.1 → same_item x y ≡ true
is_same x y h h' = grind (arith, nat_tests, h, h')

not_same_index : (x y : Item) → (x.1 ≡ y.1 → ⊥) → same_item x y ≡ false
not_same_index x y h = grind (arith, nat_tests, h)

not_same_root : (x y : Item) → (x.0 ≡ y.0 → ⊥) → same_item x y ≡ false
not_same_root x y h = grind (arith, nat_tests, h)

same_itself : (x : Item) → same_item x x ≡ true
same_itself x = grind (arith, nat_tests)

-- an area has a span of each anon_vma that it is linked to, and of no other
spans-of : (view : View) (v n : ℕ) (area : Area) → AreSpanned view → view.areas n ≡ Some area
    → how_many (is_of n) (view.spans v) ≡ one_if (is_in v (view.chain n))
spans-of view v n area s stands =
    many-filter n (view.spans v) ∙ ap length (s.spanned.each v n ∙ ap (λ o. cond (is_in v (view.chain n)) (present n o) []) stands)
    ∙ by (is_in v (view.chain n))
  where
    by : (b : Bool) → length (cond b (present n (Some area)) []) ≡ one_if b
    by true = refl
    by false = refl

module _ (view : View) (f : Pte → Bool) (items : List Item) (spanned : AreSpanned view) (apart : AreApart view) (roots : AreRootsApart view items)
    (k : Key) (named : f (view.entry k.0 k.1) ≡ true) (x : Item) (inside : is_item x items ≡ true) (r : IsReached view x k.0 k.1) where
  -- at another index it isn't found
  other_index : (y : Item) → (y.1 ≡ x.1 → ⊥) → how_many (same_key k) (found_from view f y) ≡ 0
  other_index y ne = walk-none view f y.1 k none (areas_from view y)
    where
      none : (a : ℕ) → how_many (same_key k) (found_in view f y.1 (view.areas a)) ≡ 0
      none a = by (view.areas a) refl
        where
          by : (o : Option Area) → view.areas a ≡ o → how_many (same_key k) (found_in view f y.1 (view.areas a)) ≡ 0
          by None is = ap (λ o. how_many (same_key k) (found_in view f y.1 o)) is
          by (Some area) is = ap (λ o. how_many (same_key k) (found_in view f y.1 o)) is
              ∙ not_more (how_many (same_key k) (found_in view f y.1 (Some area))) (λ h.
              let found = look-found view f y.1 k area h in
              let one = apart a r.number k.1 area r.area is r.stands (found.of ∙ sym r.of) found.here r.here in
              let same : area ≡ r.area = same_some (sym is ∙ ap view.areas one ∙ r.stands) in
              ne (sym (look-index view f y.1 k area h) ∙ ap (λ (b : Area). index_of b k.1) same ∙ r.index))
            where
              same_some : {p q : Area} → Some p ≡ Some q → p ≡ q
              same_some e = cc

  -- at its index it is found in its own area, once for the anon_vma that the area is linked to
  same_index : (y : Item) → y.1 ≡ x.1 → how_many (same_key k) (found_from view f y) ≡ one_if (is_in y.0 (view.chain r.number))
  same_index y e =
      ap (λ i. how_many (same_key k) (walk_of view f i (areas_from view (y.0, i)))) e
      ∙ walk-of view f x.1 k r.number (look-of view f x k apart named r) (areas_from view (y.0, x.1))
      ∙ often view x.1 r.number r.area r.stands (has-holds r.area k.1 x.1 r.here r.index).0 (view.spans y.0) (are_spans view y.0 spanned)
      ∙ spans-of view y.0 r.number r.area spanned r.stands

  -- so from one of the items, and from that one alone
  found-from : (y : Item) → is_item y items ≡ true → how_many (same_key k) (found_from view f y) ≡ one_if (same_item x y)
  found-from y there = elim (cases_eq y.1 x.1) [
    | inr ne ↦ other_index y ne ∙ sym (ap one_if (not_same_index x y (λ e. ne (sym e))))
    | inl e ↦ same_index y e ∙ ap one_if (elim (cases_eq y.0 x.0) as (λ _. is_in y.0 (view.chain r.number) ≡ same_item x y) [
      | inl d ↦ ap (λ v. is_in v (view.chain r.number)) d ∙ r.linked ∙ sym (is_same x y (sym d) (sym e))
      | inr ne ↦ off ne (is_in y.0 (view.chain r.number)) refl ∙ sym (not_same_root x y (λ d. ne (sym d)))
    ])
  ]
    where
      off : (y.0 ≡ x.0 → ⊥) → (b : Bool) → is_in y.0 (view.chain r.number) ≡ b → is_in y.0 (view.chain r.number) ≡ false
      off ne true e = absurd (ne (roots r.number y x there inside e r.linked))
      off ne false e = e

  found-some : (ys : List Item) → ((y : Item) → is_item y ys ≡ true → is_item y items ≡ true)
      → how_many (same_key k) (found_from_all view f ys) ≡ how_many (same_item x) ys
  found-some [] within = refl
  found-some (y ∷ ys) within =
      many-append (same_key k) (found_from view f y) (found_from_all view f ys)
      ∙ sum (found-from y (within y (ap (λ b. b || is_item y ys) (same_itself y))))
      (found-some ys (λ z h. within z (later z (same_item z y) h)))
    where
      later : (z : Item) (b : Bool) → is_item z ys ≡ true → (b || is_item z ys) ≡ true
      later z true h = refl
      later z false h = h

      sum : {a b c d : ℕ} → a ≡ c → b ≡ d → a + b ≡ c + d
      sum p q = omega (arith, p, q)

-- an entry that doesn't pass isn't found
found-none : (view : View) (f : Pte → Bool) (k : Key) → f (view.entry k.0 k.1) ≡ false → (ys : List Item)
    → how_many (same_key k) (found_from_all view f ys) ≡ 0
found-none view f k e [] = refl
found-none view f k e (y ∷ ys) =
    let first = walk-none view f y.1 k (λ a. look-none view f y.1 k e (view.areas a)) (areas_from view y) in
    let rest = found-none view f k e ys in
    many-append (same_key k) (found_from view f y) (found_from_all view f ys) ∙ omega (arith, first, rest)

-- what is found from all items are the entries, each once
pub found-all : (view : View) (f : Pte → Bool) (items : List Item) → AreSpanned view → AreApart view → AreCovered view f items
    → AreRootsApart view items → AreOnce items → AreItsEntries view f (found_from_all view f items)
found-all view f items spanned apart covered roots once k = by (f (view.entry k.0 k.1)) refl
  where
    one : (n : ℕ) → n ≤ 1 → 0 < n → n ≡ 1
    one n a b = omega (arith, a, b)

    by : (b : Bool) → f (view.entry k.0 k.1) ≡ b → how_many (same_key k) (found_from_all view f items) ≡ one_if (f (view.entry k.0 k.1))
    by true e =
        let x = covered k.0 k.1 e in
        found-some view f items spanned apart roots k e x.0 x.1 x.2 items (λ y h. h)
        ∙ one (how_many (same_item x.0) items) (once x.0) (some_item x.0 items x.1) ∙ sym (ap one_if e)
    by false e = found-none view f k e items ∙ sym (ap one_if e)

-- ---- one item after the other

pub found-next : (view : View) (f : Pte → Bool) (left later : List Item) (x : Item) (was now all : List Key)
    → left ≡ x ∷ later → was ++ found_from_all view f left ≡ all → now ≡ was ++ found_from view f x → now ++ found_from_all view f later ≡ all
found-next view f left later x was now all e h n =
    ap (λ ks. ks ++ found_from_all view f later) n ∙ append_assoc was (found_from view f x) (found_from_all view f later)
    ∙ ap (λ ks. was ++ ks) (sym (ap (found_from_all view f) e)) ∙ h

-- ---- roots

pub roots-apart : (areas : ℕ → Option Area) (f : Family) (spans : ℕ → List Span) (entry : ℕ → ℕ → Pte) (items : List Item)
    → IsInOrder areas f spans → AreRoots f items → AreRootsApart (view_with areas f spans entry) items
roots-apart areas f spans entry items order roots a x y p q u v =
    both (f.info x.0) (f.info y.0) refl refl ((order.chains a).there x.0 u) ((order.chains a).there y.0 v) (roots x p).1 (roots y q).1
  where
    both : (o o' : Option Info) → f.info x.0 ≡ o → f.info y.0 ≡ o' → IsSome (f.info x.0)
        → IsSome (f.info y.0)
        → IfSome (f.info x.0) (λ (i : Info). i.root ≡ x.0) → IfSome (f.info y.0) (λ (i : Info). i.root ≡ y.0) → x.0 ≡ y.0
    both (Some i) (Some j) e d s t g h =
        sym (subst (λ o. IfSome o (λ (i : Info). i.root ≡ x.0)) e g)
        ∙ (order.chains a).one_root x.0 y.0 i j u v e d
        ∙ subst (λ o. IfSome o (λ (i : Info). i.root ≡ y.0)) d h
    both None o' e d s t g h = absurd (false≢true (sym (ap is_some e) ∙ s))
    both (Some i) None e d s t g h = absurd (false≢true (sym (ap is_some d) ∙ t))
