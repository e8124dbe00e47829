-- The first node of an area's list is there, and so are those after it when it is gone.
use Rattle.std.proofs.Common.{◌≡◌, ℕ, ◌<◌, true, false, cond, ◌==◌, List, [], ◌∷◌, length, refl, sym, ap, ◌∙◌, subst, Option, Some, None, arith, nat_eq}
use Rattle.std.specs.List.{AllByRecursion, IsDistinct}
use Rattle.std.specs.Map.{keys_of, lookup}
use Rattle.av_chain.specs.declared.node.Head.{Head}
use Rattle.av_chain.specs.declared.node.Node.{Node}
use Rattle.av_chain.specs.declared.node.Place.{Place}
use Rattle.av_chain.specs.declared.node.Way.TheVariants.{Area}
use Rattle.av_chain.specs.Nodes.{Block, same_ptr, IsApart, has_place, found, without_node}
use Rattle.av_chain.specs.Rows.{sides_of, row, without_row, at_block, first_or, IsRun, head_of, IsThreaded, Reaches}
use Rattle.av_chain.specs.Links.{without_first}
use Rattle.av_chain.specs.Lists.{links_of}
use Rattle.av_chain.proofs.Pointers.{same_ptr_refl}
use Rattle.av_chain.proofs.Apart.{apart_tail, apart_head, removed_fresh, fresh_at}
use Rattle.av_chain.proofs.Altered.{either, cond_same, fresh_differs}
use Rattle.av_chain.proofs.Threads.{same_number, number_eq, apart_row, row_removed}
use Rattle.av_chain.proofs.Passing.{row_first, row_none, first_link_there, first_is, first_none, found_in_row, some_is}

-- ---- the first node of an area's list

-- of the place that comes first
pub first_has : (area : ℕ) (bs : List Block) (p : Place) → IsApart bs → Some p ≡ first_or None (row Area area bs) → has_place p.ptr bs ≡ true
first_has area bs p d e = subst (λ o. Reaches o bs) (sym e) (first_link_there area bs d)

pub first_removed : (area : ℕ) (bs : List Block) (p : Place) → IsApart bs → Some p ≡ first_or None (row Area area bs) →
    links_of (without_node p.ptr bs) ≡ without_first area (links_of bs)
first_removed area [] p d e = cc
first_removed area (b ∷ bs) p d e = either (links_of (without_node p.ptr (b ∷ bs)) ≡ without_first area (links_of (b ∷ bs))) (area == b.1.area)
    (λ is.
    let here : Some p ≡ Some (at_block b) = e ∙ ap (λ y. first_or None (cond y (b ∷ row Area area bs) (row Area area bs))) is in
    let at : p ≡ at_block b = cc in
    let hit : same_ptr p.ptr b.0 ≡ true = ap (λ (q : Place). same_ptr q.ptr b.0) at ∙ same_ptr_refl b.0 in
    let fresh = fresh_at b.0 p.ptr bs (ap (λ (q : Place). q.ptr) (sym at)) (apart_head b bs d) in
    ap (λ y. links_of (cond y (without_node p.ptr bs) (b ∷ without_node p.ptr bs))) hit ∙ ap links_of (removed_fresh p.ptr bs fresh)
    ∙ sym (ap (λ y. cond y (links_of bs) ((b.1.area, b.1.anon) ∷ without_first area (links_of bs))) is))
    (λ is.
    let later : Some p ≡ first_or None (row Area area bs) = e ∙ ap (λ y. first_or None (cond y (b ∷ row Area area bs) (row Area area bs))) is in
    let miss : same_ptr p.ptr b.0 ≡ false = fresh_differs b.0 p.ptr bs (apart_head b bs d) (first_has area bs p (apart_tail b bs d) later) in
    ap (λ y. links_of (cond y (without_node p.ptr bs) (b ∷ without_node p.ptr bs))) miss ∙ ap (λ ls. (b.1.area, b.1.anon) ∷ ls)
    (first_removed area bs p (apart_tail b bs d) later)
    ∙ sym (ap (λ y. cond y (links_of bs) ((b.1.area, b.1.anon) ∷ without_first area (links_of bs))) is))

-- ---- the nodes of an area's list are freed, from the first on

module _ (k : ℕ) where
  others_removed : (bs : List Block) (p : Place) → IsApart bs → Some p ≡ first_or None (row Area k bs) →
      without_row Area k (without_node p.ptr bs) ≡ without_row Area k bs
  others_removed [] p d e = cc
  others_removed (b ∷ bs) p d e =
      let rest = without_row Area k in
      either (rest (without_node p.ptr (b ∷ bs)) ≡ rest (b ∷ bs)) (k == b.1.area)
      (λ is.
      let at : p ≡ at_block b = some_is p (at_block b) (e ∙ ap (λ y. first_or None (cond y (b ∷ row Area k bs) (row Area k bs))) is) in
      let hit : same_ptr p.ptr b.0 ≡ true = ap (λ (q : Place). same_ptr q.ptr b.0) at ∙ same_ptr_refl b.0 in
      let fresh = fresh_at b.0 p.ptr bs (ap (λ (q : Place). q.ptr) (sym at)) (apart_head b bs d) in
      ap (λ y. rest (cond y (without_node p.ptr bs) (b ∷ without_node p.ptr bs))) hit ∙ ap rest (removed_fresh p.ptr bs fresh)
      ∙ sym (ap (λ y. cond y (rest bs) (b ∷ rest bs)) is))
      (λ is.
      let later : Some p ≡ first_or None (row Area k bs) = e ∙ ap (λ y. first_or None (cond y (b ∷ row Area k bs) (row Area k bs))) is in
      let miss : same_ptr p.ptr b.0 ≡ false = fresh_differs b.0 p.ptr bs (apart_head b bs d) (first_has k bs p (apart_tail b bs d) later) in
      ap (λ y. rest (cond y (without_node p.ptr bs) (b ∷ without_node p.ptr bs))) miss
      ∙ ap (λ y. cond y (rest (without_node p.ptr bs)) (b ∷ rest (without_node p.ptr bs))) is
      ∙ ap (λ cs. b ∷ cs) (others_removed bs p (apart_tail b bs d) later) ∙ sym (ap (λ y. cond y (rest bs) (b ∷ rest bs)) is))

  no_row : (bs : List Block) → row Area k bs ≡ [] → without_row Area k bs ≡ bs
  no_row [] e = refl
  no_row (b ∷ bs) e = (elim (k == b.1.area) as (λ y. cond y (b ∷ row Area k bs) (row Area k bs) ≡ [] →
      cond y (without_row Area k bs) (b ∷ without_row Area k bs) ≡ b ∷ bs) [
        | true ↦ λ h. cc
        | false ↦ λ h. ap (λ cs. b ∷ cs) (no_row bs h)
      ]) e

  -- what is left of the list are the nodes from a place on
  pub record IsLeft (at : Option Place) (bs : List Block) : Type 0 where
    pub before : Option Place
    pub run : IsRun Area before (row Area k bs) None
    pub first : at ≡ first_or None (row Area k bs)

  module _ (at : Option Place) (bs : List Block) (left : IsLeft at bs) where
    pub left_none : at ≡ None → bs ≡ without_row Area k bs
    left_none e = sym (no_row bs (first_none (row Area k bs) (sym left.first ∙ e)))

    module _ (p : Place) (is : at ≡ Some p) (d : IsApart bs) where
      pub left_has : has_place p.ptr bs ≡ true
      left_has = first_has k bs p d (sym is ∙ left.first)

      pub left_others : without_row Area k (without_node p.ptr bs) ≡ without_row Area k bs
      left_others = others_removed bs p d (sym is ∙ left.first)

      cut : (y : Block) × (rest : List Block) × (row Area k bs ≡ y ∷ rest) × (p ≡ at_block y)
      cut = first_is (row Area k bs) p (sym is ∙ left.first)

      apart_cut : IsApart (cut.0 ∷ cut.1)
      apart_cut = subst IsApart cut.2 (apart_row Area k bs d)

      left_row : row Area k (without_node p.ptr bs) ≡ cut.1
      left_row =
          let y = cut.0 in
          let rest = cut.1 in
          row_removed Area k p.ptr bs ∙ (λ i. without_node (cut.3 i).ptr (cut.2 i))
          ∙ (λ i. cond (same_ptr_refl y.0 i) (without_node y.0 rest) (y ∷ without_node y.0 rest))
          ∙ removed_fresh y.0 rest (apart_head y rest apart_cut)

      pub left_fewer : length (row Area k (without_node p.ptr bs)) < length (row Area k bs)
      left_fewer =
          let now = ap length cut.2 in
          let new = ap length left_row in
          omega (arith, now, new)

      module _ (n : Node) (e : found p.ptr bs ≡ Some n) where
        node_is : cut.0.1 ≡ n
        node_is = some_is cut.0.1 n (sym (ap (λ (q : Place). found q.ptr bs) cut.3 ∙ found_in_row Area k bs [] cut.0 cut.1 d cut.2) ∙ e)

        run_cut : IsRun Area left.before (cut.0 ∷ cut.1) None
        run_cut = subst (λ cs. IsRun Area left.before cs None) cut.2 left.run

        pub left_next : IsLeft (sides_of Area n).after (without_node p.ptr bs)
        left_next = record {
          before = Some (at_block cut.0);
          run = subst (λ cs. IsRun Area (Some (at_block cut.0)) cs None) (sym left_row) run_cut.2;
          first = ap (λ (m : Node). (sides_of Area m).after) (sym node_is) ∙ run_cut.1 ∙ ap (first_or None) (sym left_row);
        }

-- ---- the lists are freed, one after another

row_others : (k j : ℕ) (bs : List Block) → row Area j (without_row Area k bs) ≡ cond (j == k) [] (row Area j bs)
row_others k j [] = sym (cond_same (j == k) [])
row_others k j (b ∷ bs) = either (row Area j (without_row Area k (b ∷ bs)) ≡ cond (j == k) [] (row Area j (b ∷ bs))) (k == b.1.area)
    (λ is.
    let same = number_eq b.1.area k is in
    ap (λ y. row Area j (cond y (without_row Area k bs) (b ∷ without_row Area k bs))) is ∙ row_others k j bs
    ∙ (elim (j == k) as (λ y. cond y [] (row Area j bs) ≡ cond y [] (cond y (b ∷ row Area j bs) (row Area j bs))) [ true ↦ refl | false ↦ refl ])
    ∙ ap (λ m. cond (j == k) [] (cond (j == m) (b ∷ row Area j bs) (row Area j bs))) (sym same))
    (λ is.
    let rest = row_others k j bs in
    ap (λ y. row Area j (cond y (without_row Area k bs) (b ∷ without_row Area k bs))) is
    ∙ (λ i. cond (j == b.1.area) (b ∷ rest i) (rest i))
    ∙ either (cond (j == b.1.area) (b ∷ cond (j == k) [] (row Area j bs)) (cond (j == k) [] (row Area j bs))
    ≡ cond (j == k) [] (cond (j == b.1.area) (b ∷ row Area j bs) (row Area j bs))) (j == k)
    (λ at.
    let miss : (j == b.1.area) ≡ false = ap (λ m. m == b.1.area) (sym (number_eq k j at)) ∙ is in
    (λ i. cond (miss i) (b ∷ cond (at i) [] (row Area j bs)) (cond (at i) [] (row Area j bs)))
    ∙ sym (ap (λ y. cond y [] (cond (j == b.1.area) (b ∷ row Area j bs) (row Area j bs))) at))
    (λ at.
    (λ i. cond (j == b.1.area) (b ∷ cond (at i) [] (row Area j bs)) (cond (at i) [] (row Area j bs)))
    ∙ sym (ap (λ y. cond y [] (cond (j == b.1.area) (b ∷ row Area j bs) (row Area j bs))) at)))

-- the heads of the lists that are left know all nodes that are left
pub record AreLeft (heads : List (ℕ × Head)) (bs : List Block) : Type 0 where
  pub threaded : IsThreaded Area (λ k. lookup (nat_eq k) heads) bs
  pub unique : IsDistinct nat_eq (keys_of heads)

no_head : (k : ℕ) (es : List (ℕ × Head)) → AllByRecursion (λ j. nat_eq k j ≡ false) (keys_of es) → lookup (nat_eq k) es ≡ None
no_head k [] a = refl
no_head k (e ∷ es) a = ap (λ y. cond y (Some e.1) (lookup (nat_eq k) es)) a.0 ∙ no_head k es a.1

keys_head : (k : ℕ) (ks : List ℕ) → IsDistinct nat_eq (k ∷ ks) → AllByRecursion (λ j. nat_eq k j ≡ false) ks
unfolding IsDistinct
keys_head k ks d = d.0

keys_tail : (k : ℕ) (ks : List ℕ) → IsDistinct nat_eq (k ∷ ks) → IsDistinct nat_eq ks
unfolding IsDistinct
keys_tail k ks d = d.1

module _ (k : ℕ) (h : Head) (es : List (ℕ × Head)) (bs : List Block) (left : AreLeft ((k, h) ∷ es) bs) where
  pub list_run : IsRun Area None (row Area k bs) None
  list_run = left.threaded.run k

  pub list_first : Some h.first ≡ first_or None (row Area k bs)
  list_first = row_first Area (λ j. lookup (nat_eq j) ((k, h) ∷ es)) bs left.threaded k h
      (sym (ap (λ y. cond y (Some h) (lookup (nat_eq k) es)) (same_number k)))

  head_left : (j : ℕ) → lookup (nat_eq j) es ≡ head_of (row Area j (without_row Area k bs))
  head_left j = either (lookup (nat_eq j) es ≡ head_of (row Area j (without_row Area k bs))) (j == k)
      (λ is. ap (λ m. lookup (nat_eq m) es) (sym (number_eq k j is)) ∙ no_head k es (keys_head k (keys_of es) left.unique)
      ∙ sym (ap head_of (row_others k j bs ∙ ap (λ y. cond y [] (row Area j bs)) is)))
      (λ is. sym (ap (λ y. cond y (Some h) (lookup (nat_eq j) es)) is) ∙ left.threaded.head j
      ∙ sym (ap head_of (row_others k j bs ∙ ap (λ y. cond y [] (row Area j bs)) is)))

  run_left : (j : ℕ) → IsRun Area None (row Area j (without_row Area k bs)) None
  run_left j = subst (λ cs. IsRun Area None cs None) (sym (row_others k j bs))
      (elim (j == k) as (λ y. IsRun Area None (cond y [] (row Area j bs)) None) [ true ↦ tt | false ↦ left.threaded.run j ])

  pub list_gone : AreLeft es (without_row Area k bs)
  list_gone = record { threaded = record { run = run_left; head = head_left }; unique = keys_tail k (keys_of es) left.unique }

rows_empty : (bs : List Block) → ((k : ℕ) → row Area k bs ≡ []) → bs ≡ []
rows_empty [] h = refl
rows_empty (b ∷ bs) h = let clash : b ∷ row Area b.1.area bs ≡ [] =
    sym (ap (λ y. cond y (b ∷ row Area b.1.area bs) (row Area b.1.area bs)) (same_number b.1.area)) ∙ h b.1.area in cc

pub none_left : (bs : List Block) → AreLeft [] bs → bs ≡ []
none_left bs left = rows_empty bs (λ k. row_none Area (λ j. None) bs left.threaded k refl)
