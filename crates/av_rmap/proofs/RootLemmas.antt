-- Items have the numbers of roots: of each new one, and as long as what was made keeps its root.
use Rattle.std.proofs.Common.{◌≡◌, ℕ, ◌<◌, Bool, true, false, cond, ◌||◌, List, [], ◌∷◌, ◌++◌, Option, Some, None, refl, sym, ap, subst, ◌∙◌, arith}
use Rattle.std.proofs.lemmas.Bool.{false≢true}
use Rattle.std.proofs.lemmas.Bool.Decides.{nat_tests}
use Rattle.std.specs.Prelude.{IfSome, IsSome, IsSomeAnd, is_some}
use Rattle.av_base.specs.Items.{Item, is_item, same_item, with_item}
use Rattle.av_base.specs.Words.{is_in}
use Rattle.av_pagetable.specs.declared.pte.Pte.{Pte}
use Rattle.av_vma.specs.declared.area.Area.{Area}
use Rattle.av_vma.specs.Index.{index_of}
use Rattle.av_vma.specs.Pages.{has_page}
use Rattle.av_interval.specs.declared.span.Span.{Span}
use Rattle.av_anon.specs.Anons.{Family, own_of}
use Rattle.av_anon.specs.Order.{IsInOrder}
use Rattle.av_anon.specs.declared.infos.Info.{Info}
use Rattle.av_rmap.specs.Covered.{IsReached}
use Rattle.av_rmap.specs.Items.{AreRoots, KeepsRoots}
use Rattle.av_rmap.specs.View.{view_with}

pub roots-stay : (old new : Family) (items : List Item) → KeepsRoots old new → AreRoots old items → AreRoots new items
roots-stay old new items keeps roots x there =
    let was = roots x there in
    let next = keeps.next in let made = was.0 in
    (omega (arith, next, made), by (new.info x.0) (old.info x.0) (keeps.roots x.0 was.0) was.1)
  where
    by : (o p : Option Info) → IfSome o (λ (j : Info). IsSomeAnd p (λ (i : Info). i.root ≡ j.root)) → IfSome p (λ (i : Info). i.root ≡ x.0)
        → IfSome o (λ (j : Info). j.root ≡ x.0)
    by None p h r = tt
    by (Some j) None h r = absurd h
    by (Some j) (Some i) h r = sym h ∙ r

module _ (areas : ℕ → Option Area) (f : Family) (spans : ℕ → List Span) (order : IsInOrder areas f spans) (n own : ℕ) (area : Area) (i : Info)
    (stands : areas n ≡ Some area) (has : area.anon ≡ Some own) (is : f.info own ≡ Some i) where
  own_in : is_in own (f.chain n) ≡ true
  own_in = (order.chains n).own_in own (ap own_of stands ∙ has)

  root_in : is_in i.root (f.chain n) ≡ true
  root_in = (order.chains n).roots own i own_in is

  -- a page of an area is reached from the root of the area's own anon_vma, at its index
  pub root-reaches : (entry : ℕ → ℕ → Pte) (page : ℕ) → has_page area page ≡ true
      → IsReached (view_with areas f spans entry) (i.root, index_of area page) area.pid page
  root-reaches entry page here = record {
    number = n;
    area = area;
    stands = stands;
    of = refl;
    here = here;
    linked = root_in;
    index = refl;
  }

  -- and that root is its own
  root_itself : IfSome (f.info i.root) (λ (j : Info). j.root ≡ i.root)
  root_itself = by (f.info i.root) refl ((order.chains n).there i.root root_in)
    where
      by : (o : Option Info) → f.info i.root ≡ o → IsSome (f.info i.root) → IfSome (f.info i.root) (λ (j : Info). j.root ≡ i.root)
      by None e s = absurd (false≢true (sym (ap is_some e) ∙ s))
      by (Some j) e s = subst (λ o. IfSome o (λ (k : Info). k.root ≡ i.root)) (sym e)
          ((order.chains n).one_root i.root own j i root_in own_in e is)

  -- so it may be that of an item
  pub roots-with : (index : ℕ) (items : List Item) → AreRoots f items → AreRoots f (with_item (i.root, index) items)
  roots-with index items roots = by (is_item (i.root, index) items) refl
    where
      new : Item
      new = (i.root, index)

      last : (x : Item) (xs : List Item) → is_item x (xs ++ (i.root, index) ∷ []) ≡ true → is_item x xs ≡ false → same_item x (i.root, index) ≡ true
      last x [] h e = last_one (same_item x (i.root, index)) h
        where
          last_one : (b : Bool) → (b || false) ≡ true → b ≡ true
          last_one true h = refl
          last_one false h = h
      last x (y ∷ ys) h e = later (same_item x y) (λ p q. last x ys p q) h e
        where
          later : (b : Bool)
              → (is_item x (ys ++ (i.root, index) ∷ []) ≡ true → is_item x ys ≡ false → same_item x (i.root, index) ≡ true)
              → (b || is_item x (ys ++ (i.root, index) ∷ [])) ≡ true → (b || is_item x ys) ≡ false → same_item x (i.root, index) ≡ true
          later true again h e = absurd (false≢true (sym e))
          later false again h e = again h e

      made : i.root < f.next
      made = (order.chains n).made i.root root_in

      each : (x : Item) (b : Bool) → is_item x items ≡ b → is_item x (items ++ (i.root, index) ∷ []) ≡ true
          → (x.0 < f.next) × IfSome (f.info x.0) (λ (j : Info). j.root ≡ x.0)
      each x true e h = roots x e
      each x false e h =
          let one = last x items h e in
          let same : i.root ≡ x.0 = grind (arith, nat_tests, one) in
          (subst (λ v. v < f.next) same made, subst (λ v. IfSome (f.info v) (λ (j : Info). j.root ≡ v)) same root_itself)

      by : (b : Bool) → is_item (i.root, index) items ≡ b → AreRoots f (cond (is_item (i.root, index) items) items (items ++ (i.root, index) ∷ []))
      by true e = subst (λ b. AreRoots f (cond b items (items ++ (i.root, index) ∷ []))) (sym e) roots
      by false e = subst (λ b. AreRoots f (cond b items (items ++ (i.root, index) ∷ []))) (sym e) (λ x h. each x (is_item x items) refl h)
