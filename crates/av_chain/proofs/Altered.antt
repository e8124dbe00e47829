-- Nodes are changed in their place.
use Rattle.std.proofs.Common.{◌≡◌, true, false, cond, ◌||◌, List, [], ◌∷◌, ◌++◌, map, refl, sym, ap, ◌∙◌, subst, Option, Some, None}
use Rattle.std.specs.List.{AllByRecursion, IsDistinct}
use mathlib.Core.Bool.{Bool}
use denote.RawPtr.{Ptr}
use Rattle.av_chain.specs.declared.node.Node.{Node}
use Rattle.av_chain.specs.declared.node.Place.{Place}
use Rattle.av_chain.specs.Nodes.{Block, same_ptr, place_of, IsApart, has_place, found, with_node, without_node}
use Rattle.av_chain.specs.Rows.{node_changed, place_changed, Reaches}
use Rattle.av_chain.proofs.Pointers.{same_ptr_eq, same_ptr_symm, same_ptr_refl}
use Rattle.av_chain.proofs.Apart.{IsFresh, apart_tail, apart_head, fresh_at, stored_fresh}

pub either : (X : Type 0) (b : Bool) → (b ≡ true → X) → (b ≡ false → X) → X
either X b f g = (elim b as (λ y. b ≡ y → X) [ true ↦ f | false ↦ g ]) refl

pub cond_lift : {X Y : Type 0} (F : X → Y) (t : Bool) (x y : X) → F (cond t x y) ≡ cond t (F x) (F y)
cond_lift F true x y = refl
cond_lift F false x y = refl

pub cond_same : {X : Type 0} (t : Bool) (x : X) → cond t x x ≡ x
cond_same true x = refl
cond_same false x = refl

or_left : (s b : Bool) → s ≡ true → (s || b) ≡ true
or_left true b e = refl
or_left false b e = cc

pub or_right : (s b : Bool) → b ≡ true → (s || b) ≡ true
or_right true b e = refl
or_right false b e = e

pub or_rest : (s b : Bool) → (s || b) ≡ true → s ≡ false → b ≡ true
or_rest true b h e = cc
or_rest false b h e = h

-- ---- where nodes lie

pub fresh_differs : (p q : Ptr) (bs : List Block) → IsFresh p bs → has_place q bs ≡ true → same_ptr q p ≡ false
fresh_differs p q [] f h = cc
fresh_differs p q (b ∷ bs) f h = either (same_ptr q p ≡ false) (same_ptr q b.0)
    (λ e. ap (λ r. same_ptr r p) (same_ptr_eq q b.0 e) ∙ same_ptr_symm b.0 p ∙ f.0)
    (λ e. fresh_differs p q bs f.1 (or_rest (same_ptr q b.0) (has_place q bs) h e))

pub fresh_left : (p : Ptr) (xs ys : List Block) → IsFresh p (xs ++ ys) → IsFresh p xs
fresh_left p [] ys f = tt
fresh_left p (x ∷ xs) ys f = (f.0, fresh_left p xs ys f.1)

pub fresh_right : (p : Ptr) (xs ys : List Block) → IsFresh p (xs ++ ys) → IsFresh p ys
fresh_right p [] ys f = f
fresh_right p (x ∷ xs) ys f = fresh_right p xs ys f.1

has_right : (p : Ptr) (xs ys : List Block) → has_place p ys ≡ true → has_place p (xs ++ ys) ≡ true
has_right p [] ys h = h
has_right p (x ∷ xs) ys h = or_right (same_ptr p x.0) (has_place p (xs ++ ys)) (has_right p xs ys h)

pub apart_left : (p : Ptr) (xs ys : List Block) → IsApart (xs ++ ys) → has_place p xs ≡ true → IsFresh p ys
apart_left p [] ys d h = cc
apart_left p (x ∷ xs) ys d h = either (IsFresh p ys) (same_ptr p x.0)
    (λ e. fresh_at x.0 p ys (sym (same_ptr_eq p x.0 e)) (fresh_right x.0 xs ys (apart_head x (xs ++ ys) d)))
    (λ e. apart_left p xs ys (apart_tail x (xs ++ ys) d) (or_rest (same_ptr p x.0) (has_place p xs) h e))

pub apart_right : (p : Ptr) (xs ys : List Block) → IsApart (xs ++ ys) → has_place p ys ≡ true → IsFresh p xs
apart_right p [] ys d h = tt
apart_right p (x ∷ xs) ys d h = (
  fresh_differs x.0 p (xs ++ ys) (apart_head x (xs ++ ys) d) (has_right p xs ys h),
  apart_right p xs ys (apart_tail x (xs ++ ys) d) h,
)

pub has_here : (b : Block) (bs : List Block) → has_place b.0 (b ∷ bs) ≡ true
has_here b bs = or_left (same_ptr b.0 b.0) (has_place b.0 bs) (same_ptr_refl b.0)

-- ---- one node is changed

pub place_cond : (y : Bool) (f : Node → Node) (b : Block) → (cond y (b.0, f b.1) b).0 ≡ b.0
place_cond true f b = refl
place_cond false f b = refl

pub places_altered : (p : Ptr) (f : Node → Node) (bs : List Block) → map place_of (node_changed p f bs) ≡ map place_of bs
places_altered p f [] = refl
places_altered p f (b ∷ bs) = λ i. place_cond (same_ptr p b.0) f b i ∷ places_altered p f bs i

has_altered : (q p : Ptr) (f : Node → Node) (bs : List Block) → has_place q (node_changed p f bs) ≡ has_place q bs
has_altered q p f [] = refl
has_altered q p f (b ∷ bs) = λ i. same_ptr q (place_cond (same_ptr p b.0) f b i) || has_altered q p f bs i

altered_fresh : (p : Ptr) (f : Node → Node) (bs : List Block) → IsFresh p bs → node_changed p f bs ≡ bs
altered_fresh p f [] h = refl
altered_fresh p f (b ∷ bs) h = λ i. cond (h.0 i) (b.0, f b.1) b ∷ altered_fresh p f bs h.1 i

altered_append : (p : Ptr) (f : Node → Node) (xs ys : List Block) → node_changed p f (xs ++ ys) ≡ node_changed p f xs ++ node_changed p f ys
altered_append p f [] ys = refl
altered_append p f (x ∷ xs) ys = λ i. cond (same_ptr p x.0) (x.0, f x.1) x ∷ altered_append p f xs ys i

-- the node that is stored is the old one, changed
pub stored_altered : (p : Ptr) (f : Node → Node) (bs : List Block) (m : Node) → IsApart bs → found p bs ≡ Some m
    → with_node p (f m) bs ≡ node_changed p f bs
stored_altered p f [] m d e = cc
stored_altered p f (b ∷ bs) m d e = (elim (same_ptr p b.0) as (λ y. same_ptr p b.0 ≡ y → cond y (Some b.1) (found p bs) ≡ Some m
    → cond y (b.0, f m) b ∷ with_node p (f m) bs ≡ cond y (b.0, f b.1) b ∷ node_changed p f bs) [
      | true ↦ λ at h.
          let is : b.1 ≡ m = cc in
          let fresh = fresh_at b.0 p bs (sym (same_ptr_eq p b.0 at)) (apart_head b bs d) in
          λ i. (b.0, f (sym is i)) ∷ (stored_fresh p (f m) bs fresh ∙ sym (altered_fresh p f bs fresh)) i
      | false ↦ λ at h. ap (λ cs. b ∷ cs) (stored_altered p f bs m (apart_tail b bs d) h)
    ]) refl e

removed_altered : (p q : Ptr) (f : Node → Node) (bs : List Block) → without_node p (node_changed q f bs) ≡ node_changed q f (without_node p bs)
removed_altered p q f [] = refl
removed_altered p q f (b ∷ bs) =
    let c : Block = cond (same_ptr q b.0) (b.0, f b.1) b in
    (λ i. cond (same_ptr p (place_cond (same_ptr q b.0) f b i)) (removed_altered p q f bs i) (c ∷ removed_altered p q f bs i))
    ∙ sym (cond_lift (node_changed q f) (same_ptr p b.0) (without_node p bs) (b ∷ without_node p bs))

-- ---- the node at a place is changed, if there is one

-- no node lies at the place, if there is one
abbrev pub Avoids : Option Place → List Block → Type 0
Avoids None bs = Unit {0}
Avoids (Some p) bs = IsFresh p.ptr bs

module _ (f : Node → Node) where
  pub changed_avoids : (o : Option Place) (bs : List Block) → Avoids o bs → place_changed o f bs ≡ bs
  changed_avoids None bs a = refl
  changed_avoids (Some p) bs a = altered_fresh p.ptr f bs a

  pub changed_append : (o : Option Place) (xs ys : List Block) → place_changed o f (xs ++ ys) ≡ place_changed o f xs ++ place_changed o f ys
  changed_append None xs ys = refl
  changed_append (Some p) xs ys = altered_append p.ptr f xs ys

  pub places_changed : (o : Option Place) (bs : List Block) → map place_of (place_changed o f bs) ≡ map place_of bs
  places_changed None bs = refl
  places_changed (Some p) bs = places_altered p.ptr f bs

  pub has_changed : (q : Ptr) (o : Option Place) (bs : List Block) → has_place q (place_changed o f bs) ≡ has_place q bs
  has_changed q None bs = refl
  has_changed q (Some p) bs = has_altered q p.ptr f bs

  pub reaches_changed : (o q : Option Place) (bs : List Block) → Reaches o bs → Reaches o (place_changed q f bs)
  reaches_changed None q bs h = tt
  reaches_changed (Some p) q bs h = has_changed p.ptr q bs ∙ h

  pub apart_changed : (o : Option Place) (bs : List Block) → IsApart bs → IsApart (place_changed o f bs)
  apart_changed o bs = subst (IsDistinct same_ptr) (sym (places_changed o bs))

  pub fresh_changed : (q : Ptr) (o : Option Place) (bs : List Block) → IsFresh q bs → IsFresh q (place_changed o f bs)
  fresh_changed q o bs = subst (AllByRecursion (λ r. same_ptr q r ≡ false)) (sym (places_changed o bs))

  pub removed_changed : (p : Ptr) (o : Option Place) (bs : List Block) → without_node p (place_changed o f bs) ≡ place_changed o f (without_node p bs)
  removed_changed p None bs = refl
  removed_changed p (Some q) bs = removed_altered p q.ptr f bs

pub reaches_avoids : (o : Option Place) (xs ys : List Block) → IsApart (xs ++ ys) → Reaches o xs → Avoids o ys
reaches_avoids None xs ys d h = tt
reaches_avoids (Some p) xs ys d h = apart_left p.ptr xs ys d h

pub avoids_reaches : (o : Option Place) (xs ys : List Block) → IsApart (xs ++ ys) → Reaches o ys → Avoids o xs
avoids_reaches None xs ys d h = tt
avoids_reaches (Some p) xs ys d h = apart_right p.ptr xs ys d h
