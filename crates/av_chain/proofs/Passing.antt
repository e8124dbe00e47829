-- What is read along a list.
use Rattle.av_base.specs.Words.{is_in}
use Rattle.std.proofs.Common.{◌≡◌, ℕ, suc, ◌+◌, ◌<◌, ◌≤◌, true, false, cond, ◌||◌, ◌==◌, List, [], ◌∷◌, ◌++◌, length, refl, sym, ap, ◌∙◌, subst, Option, Some, None, arith, append-nil, append_assoc, length-append}
use native.Mathlib.Nat.{suc-ne-zero}
use denote.RawPtr.{Ptr}
use Rattle.av_chain.specs.declared.node.Node.{Node}
use Rattle.av_chain.specs.declared.node.Head.{Head}
use Rattle.av_chain.specs.declared.node.Way.{Way}
use Rattle.av_chain.specs.declared.node.Way.TheVariants.{Area, Anon}
use Rattle.av_chain.specs.declared.node.Place.{Place}
use Rattle.av_chain.specs.declared.node.Sides.{Sides}
use Rattle.av_chain.specs.Nodes.{Block, same_ptr, IsApart, has_place, found}
use Rattle.av_chain.specs.Rows.{key_of, sides_of, row, at_block, first_or, IsRun, head_of, IsThreaded, Reaches}
use Rattle.av_chain.specs.Links.{chain_of, users_of, first_in, after_in}
use Rattle.av_chain.specs.Lists.{links_of, areas_of, anons_of, IsLinkAt, anon_there}
use Rattle.std.specs.Prelude.{option_map}
use Rattle.av_chain.proofs.Memory.{node_at}
use Rattle.av_chain.proofs.Pointers.{same_ptr_refl}
use Rattle.av_chain.proofs.Apart.{apart_tail, apart_head}
use Rattle.av_chain.proofs.Altered.{cond_lift, or_right, fresh_differs}
use Rattle.av_chain.proofs.Runs.{run_split, has_past}
use Rattle.av_chain.proofs.Threads.{has_row, apart_row, same_number}
use Rattle.av_chain.proofs.Wholes.{is_in_append, or_false}

pub chain_row : (bs : List Block) (a : ℕ) → chain_of (links_of bs) a ≡ anons_of (row Area a bs)
chain_row [] a = refl
chain_row (b ∷ bs) a = (λ i. cond (a == b.1.area) (b.1.anon ∷ chain_row bs a i) (chain_row bs a i))
    ∙ sym (cond_lift anons_of (a == b.1.area) (b ∷ row Area a bs) (row Area a bs))

pub users_row : (bs : List Block) (v : ℕ) → users_of (links_of bs) v ≡ areas_of (row Anon v bs)
users_row [] v = refl
users_row (b ∷ bs) v = (λ i. cond (v == b.1.anon) (b.1.area ∷ users_row bs v i) (users_row bs v i))
    ∙ sym (cond_lift areas_of (v == b.1.anon) (b ∷ row Anon v bs) (row Anon v bs))

pub length_anons : (bs : List Block) → length (anons_of bs) ≡ length bs
length_anons [] = refl
length_anons (b ∷ bs) = ap (λ n. suc n) (length_anons bs)

pub anons_append : (xs ys : List Block) → anons_of (xs ++ ys) ≡ anons_of xs ++ anons_of ys
anons_append [] ys = refl
anons_append (x ∷ xs) ys = ap (λ vs. x.1.anon ∷ vs) (anons_append xs ys)

-- ---- a node of a list is found at its place

found_past : (xs : List Block) (y : Block) (ys : List Block) → IsApart (xs ++ y ∷ ys) → found y.0 (xs ++ y ∷ ys) ≡ Some y.1
found_past [] y ys d = ap (λ t. cond t (Some y.1) (found y.0 ys)) (same_ptr_refl y.0)
found_past (x ∷ xs) y ys d =
    ap (λ t. cond t (Some x.1) (found y.0 (xs ++ y ∷ ys)))
    (fresh_differs x.0 y.0 (xs ++ y ∷ ys) (apart_head x (xs ++ y ∷ ys) d) (has_past y.0 xs y ys))
    ∙ found_past xs y ys (apart_tail x (xs ++ y ∷ ys) d)

pub found_has : (p : Ptr) (bs : List Block) (n : Node) → found p bs ≡ Some n → has_place p bs ≡ true
found_has p [] n e = cc
found_has p (b ∷ bs) n e = (elim (same_ptr p b.0) as (λ y. cond y (Some b.1) (found p bs) ≡ Some n → (y || has_place p bs) ≡ true) [
  | true ↦ λ h. refl
  | false ↦ λ h. found_has p bs n h
]) e

found_out : (w : Way) (k : ℕ) (p : Ptr) (bs : List Block) (n : Node) → IsApart bs → found p (row w k bs) ≡ Some n → found p bs ≡ Some n
found_out w k p [] n d e = cc
found_out w k p (b ∷ bs) n d e = (elim (k == key_of w b.1) as (λ y. found p (cond y (b ∷ row w k bs) (row w k bs)) ≡ Some n →
    cond (same_ptr p b.0) (Some b.1) (found p bs) ≡ Some n) [
      | true ↦ λ h. (elim (same_ptr p b.0) as (λ y. cond y (Some b.1) (found p (row w k bs)) ≡ Some n → cond y (Some b.1) (found p bs) ≡ Some n) [
        | true ↦ λ g. g
        | false ↦ λ g. found_out w k p bs n (apart_tail b bs d) g
      ]) h
      | false ↦ λ h.
          ap (λ y. cond y (Some b.1) (found p bs)) (fresh_differs b.0 p bs (apart_head b bs d) (has_row w k p bs (found_has p (row w k bs) n h)))
          ∙ found_out w k p bs n (apart_tail b bs d) h
    ]) e

pub found_in_row : (w : Way) (k : ℕ) (bs xs : List Block) (y : Block) (ys : List Block) → IsApart bs → row w k bs ≡ xs ++ y ∷ ys
    → found y.0 bs ≡ Some y.1
found_in_row w k bs xs y ys d e =
    found_out w k y.0 bs y.1 d (ap (found y.0) e ∙ found_past xs y ys (subst IsApart e (apart_row w k bs d)))

pub some_is : {X : Type 0} (x y : X) → Some x ≡ Some y → x ≡ y
some_is x y e = cc

empty_is : (ys : List Block) → length ys ≡ 0 → ys ≡ []
empty_is [] e = refl
empty_is (y ∷ ys) e = absurd (suc-ne-zero (length ys) e)

-- ---- a walk along a list

-- so many nodes of a list have been passed
abbrev pub IsPast : Way → ℕ → List Block → Option Place → ℕ → Type 0
IsPast w k bs at step = (xs : List Block) × (ys : List Block) × (row w k bs ≡ xs ++ ys) × (at ≡ first_or None ys) × (length xs ≡ step)

-- what comes next, and the rest
pub first_is : (ys : List Block) (p : Place) → Some p ≡ first_or None ys → (y : Block) × (rest : List Block) × (ys ≡ y ∷ rest) × (p ≡ at_block y)
first_is [] p e = cc
first_is (y ∷ ys) p e = (y, ys, refl, some_is p (at_block y) e)

pub first_none : (ys : List Block) → first_or None ys ≡ None → ys ≡ []
first_none [] e = refl
first_none (y ∷ ys) e = cc

module _ (w : Way) (k : ℕ) (bs : List Block) (at : Option Place) (step : ℕ) (a : IsPast w k bs at step) where
  module _ (p : Place) (is : at ≡ Some p) (d : IsApart bs) where
    pub cut : (y : Block) × (rest : List Block) × (a.1 ≡ y ∷ rest) × (p ≡ at_block y)
    cut = first_is a.1 p (sym is ∙ a.3)

    split : row w k bs ≡ a.0 ++ cut.0 ∷ cut.1
    split = a.2 ∙ ap (λ ys. a.0 ++ ys) cut.2

    seen : found p.ptr bs ≡ Some cut.0.1
    seen = ap (λ (q : Place). found q.ptr bs) cut.3 ∙ found_in_row w k bs a.0 cut.0 cut.1 d split

    pub past_has : has_place p.ptr bs ≡ true
    past_has = found_has p.ptr bs cut.0.1 seen

    module _ (n : Node) (e : found p.ptr bs ≡ Some n) where
      node_is : cut.0 ≡ (p.ptr, n)
      node_is = λ i. (ap (λ (q : Place). q.ptr) (sym cut.3) i, some_is cut.0.1 n (sym seen ∙ e) i)

      pub past_split : row w k bs ≡ a.0 ++ (p.ptr, n) ∷ cut.1
      past_split = split ∙ ap (λ (y : Block). a.0 ++ y ∷ cut.1) node_is

      abbrev pub past_next : (t : IsRun w None (row w k bs) None) (s : Sides) → s ≡ sides_of w n → IsPast w k bs s.after (step + 1)
      past_next t s is_s =
          let whole : IsRun w None (a.0 ++ (p.ptr, n) ∷ cut.1) None = subst (λ cs. IsRun w None cs None) past_split t in
          let long = length-append a.0 ((p.ptr, n) ∷ []) in
          let so_far = a.4 in (
            a.0 ++ (p.ptr, n) ∷ [],
            cut.1,
            past_split ∙ sym (append_assoc a.0 ((p.ptr, n) ∷ []) cut.1),
            ap (λ (q : Sides). q.after) is_s ∙ (run_split w None None a.0 ((p.ptr, n) ∷ cut.1) whole).1.1,
            omega arith,
          )

    -- there is one more
    pub past_longer : length a.0 < length (row w k bs)
    past_longer = let long = ap length split ∙ length-append a.0 (cut.0 ∷ cut.1) in omega arith

  pub past_none : at ≡ None → row w k bs ≡ a.0
  past_none none = a.2 ∙ ap (λ ys. a.0 ++ ys) (first_none a.1 (sym a.3 ∙ none)) ∙ append-nil a.0

  pub past_all : length (row w k bs) ≤ step → row w k bs ≡ a.0
  past_all all =
      let long = ap length a.2 ∙ length-append a.0 a.1 in
      let so_far = a.4 in
      let none : length a.1 ≡ 0 = omega arith in
      a.2 ∙ ap (λ ys. a.0 ++ ys) (empty_is a.1 none) ∙ append-nil a.0

abbrev pub past_start : (w : Way) (k : ℕ) (bs : List Block) (at : Option Place) → at ≡ first_or None (row w k bs) → IsPast w k bs at 0
past_start w k bs at e = ([], row w k bs, refl, e, refl)

-- ---- the anon_vmas that have been passed

pub is_in_past : (v : ℕ) (xs : List Block) (b : Block) (ys : List Block) → b.1.anon ≡ v → is_in v (anons_of (xs ++ b ∷ ys)) ≡ true
is_in_past v [] b ys e = ap (λ y. y || is_in v (anons_of ys)) (ap (λ u. v == u) e ∙ same_number v)
is_in_past v (x ∷ xs) b ys e = or_right (v == x.1.anon) (is_in v (anons_of (xs ++ b ∷ ys))) (is_in_past v xs b ys e)

pub is_in_not : (v : ℕ) (xs : List Block) (b : Block) → (v == b.1.anon) ≡ false → is_in v (anons_of xs) ≡ false
    → is_in v (anons_of (xs ++ b ∷ [])) ≡ false
is_in_not v xs b e n = ap (is_in v) (anons_append xs (b ∷ [])) ∙ is_in_append v (anons_of xs) (b.1.anon ∷ []) ∙ (λ i. n i || (e i || false))

-- the one after an anon_vma that none before it is
after_past : (v : ℕ) (xs : List Block) (b : Block) (ys : List Block) → b.1.anon ≡ v → is_in v (anons_of xs) ≡ false →
    after_in v (anons_of (xs ++ b ∷ ys)) ≡ first_in (anons_of ys)
after_past v [] b ys e n = ap (λ y. cond y (first_in (anons_of ys)) (after_in v (anons_of ys))) (ap (λ u. v == u) e ∙ same_number v)
after_past v (x ∷ xs) b ys e n =
    ap (λ y. cond y (first_in (anons_of (xs ++ b ∷ ys))) (after_in v (anons_of (xs ++ b ∷ ys))))
    (or_false (v == x.1.anon) (is_in v (anons_of xs)) n).0
    ∙ after_past v xs b ys e (or_false (v == x.1.anon) (is_in v (anons_of xs)) n).1

-- ---- a link that was found

first_anon : (k : ℕ) (bs xs ys : List Block) → IsApart bs → row Area k bs ≡ xs ++ ys → anon_there (first_or None ys) bs ≡ first_in (anons_of ys)
first_anon k bs xs [] d e = refl
first_anon k bs xs (y ∷ ys) d e = ap (option_map (λ (m : Node). m.anon)) (found_in_row Area k bs xs y ys d e)

first_there : (k : ℕ) (bs xs ys : List Block) → IsApart bs → row Area k bs ≡ xs ++ ys → Reaches (first_or None ys) bs
first_there k bs xs [] d e = tt
first_there k bs xs (y ∷ ys) d e = found_has y.0 bs y.1 (found_in_row Area k bs xs y ys d e)

module _ (area anon : ℕ) (p : Ptr) (bs : List Block) where
  pub link_has : IsApart bs → IsLinkAt p area anon bs → has_place p bs ≡ true
  link_has d a = found_has p bs a.1 (found_in_row Area area bs a.0 (p, a.1) a.2 d a.3)

  module _ (n : Node) (d : IsApart bs) (a : IsLinkAt p area anon bs) (e : found p bs ≡ Some n) (t : IsRun Area None (row Area area bs) None) where
    node_is_n : a.1 ≡ n
    node_is_n = some_is a.1 n (sym (found_in_row Area area bs a.0 (p, a.1) a.2 d a.3) ∙ e)

    after_is : (sides_of Area n).after ≡ first_or None a.2
    after_is = ap (λ (m : Node). (sides_of Area m).after) (sym node_is_n) ∙ (run_split Area None None a.0 ((p, a.1) ∷ a.2)
        (subst (λ cs. IsRun Area None cs None) a.3 t)).1.1

    split_after : row Area area bs ≡ (a.0 ++ (p, a.1) ∷ []) ++ a.2
    split_after = a.3 ∙ sym (append_assoc a.0 ((p, a.1) ∷ []) a.2)

    pub link_next_reaches : Reaches (sides_of Area n).after bs
    link_next_reaches = subst (λ o. Reaches o bs) (sym after_is) (first_there area bs (a.0 ++ (p, a.1) ∷ []) a.2 d split_after)

    pub link_after : anon_there (sides_of Area n).after bs ≡ after_in anon (anons_of (row Area area bs))
    link_after = ap (λ o. anon_there o bs) after_is ∙ first_anon area bs (a.0 ++ (p, a.1) ∷ []) a.2 d split_after
        ∙ sym (ap (λ cs. after_in anon (anons_of cs)) a.3 ∙ after_past anon a.0 (p, a.1) a.2 a.4 a.5)

-- the first of an area's list, and its anon_vma
pub first_link : (area : ℕ) (bs : List Block) → IsApart bs → anon_there (first_or None (row Area area bs)) bs ≡ first_in (chain_of (links_of bs) area)
first_link area bs d = first_anon area bs [] (row Area area bs) d refl ∙ ap first_in (sym (chain_row bs area))

pub first_link_there : (area : ℕ) (bs : List Block) → IsApart bs → Reaches (first_or None (row Area area bs)) bs
first_link_there area bs d = first_there area bs [] (row Area area bs) d refl

-- ---- the head of a list

head_none : (h : Option Head) (bs : List Block) → h ≡ None → h ≡ head_of bs → bs ≡ []
head_none h [] e f = refl
head_none h (b ∷ bs) e f = let clash = sym e ∙ f in cc

head_some : (h : Head) (bs : List Block) → Some h ≡ head_of bs → Some h.first ≡ first_or None bs
head_some h [] e = cc
head_some h (b ∷ bs) e = ap (λ (g : Head). Some g.first) (some_is h _ e)

module _ (w : Way) (heads : ℕ → Option Head) (bs : List Block) (t : IsThreaded w heads bs) (k : ℕ) where
  pub row_none : heads k ≡ None → row w k bs ≡ []
  row_none e = head_none (heads k) (row w k bs) e (t.head k)

  pub row_first : (h : Head) → Some h ≡ heads k → Some h.first ≡ first_or None (row w k bs)
  row_first h e = head_some h (row w k bs) (e ∙ t.head k)

-- what is found at a place of a list's node
pub found_row_at : (w : Way) (k : ℕ) (p : Ptr) (bs : List Block) (n : Node) → IsApart bs → has_place p (row w k bs) ≡ true →
    found p bs ≡ Some n → found p (row w k bs) ≡ Some n
found_row_at w k p bs n d h e =
    let there = node_at p (row w k bs) h in
    there.1 ∙ sym (found_out w k p bs there.0 d there.1) ∙ e
