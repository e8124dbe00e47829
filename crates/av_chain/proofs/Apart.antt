-- The nodes lie at different places.
use Rattle.std.proofs.Common.{◌≡◌, true, false, cond, List, [], ◌∷◌, ◌++◌, map, refl, sym, ap, ◌∙◌, subst}
use Rattle.std.specs.List.{AllByRecursion, IsDistinct}
use mathlib.Core.Bool.{Bool}
use denote.RawPtr.{Ptr}
use Rattle.av_chain.specs.declared.node.Node.{Node}
use Rattle.av_chain.specs.Nodes.{Block, same_ptr, place_of, IsApart, with_node, without_node}
use Rattle.av_chain.proofs.Pointers.{same_ptr_symm}

-- no node lies at the place
abbrev pub IsFresh : Ptr → List Block → Type 0
IsFresh p bs = AllByRecursion (λ q. same_ptr p q ≡ false) (map place_of bs)

pub apart_none : IsApart []
unfolding IsDistinct
apart_none = tt

pub apart_tail : (b : Block) (bs : List Block) → IsApart (b ∷ bs) → IsApart bs
unfolding IsDistinct
apart_tail b bs d = d.1

pub apart_head : (b : Block) (bs : List Block) → IsApart (b ∷ bs) → IsFresh b.0 bs
unfolding IsDistinct
apart_head b bs d = d.0

pub fresh_at : (p q : Ptr) (bs : List Block) → p ≡ q → IsFresh p bs → IsFresh q bs
fresh_at p q bs e = subst (λ r. IsFresh r bs) e

pub removed_fresh : (p : Ptr) (bs : List Block) → IsFresh p bs → without_node p bs ≡ bs
removed_fresh p [] f = refl
removed_fresh p (b ∷ bs) f = ap (λ y. cond y (without_node p bs) (b ∷ without_node p bs)) f.0 ∙ ap (λ cs. b ∷ cs) (removed_fresh p bs f.1)

pub stored_fresh : (p : Ptr) (n : Node) (bs : List Block) → IsFresh p bs → with_node p n bs ≡ bs
stored_fresh p n [] f = refl
stored_fresh p n (b ∷ bs) f = λ i. cond (f.0 i) (b.0, n) b ∷ stored_fresh p n bs f.1 i

all_push : (P : Ptr → Type 0) (bs : List Block) (b : Block) → AllByRecursion P (map place_of bs) → P b.0
    → AllByRecursion P (map place_of (bs ++ b ∷ []))
all_push P [] b a h = (h, tt)
all_push P (c ∷ bs) b a h = (a.0, all_push P bs b a.1 h)

pub apart_push : (bs : List Block) (b : Block) → IsFresh b.0 bs → IsApart bs → IsApart (bs ++ b ∷ [])
unfolding IsDistinct
apart_push [] b f d = (tt, tt)
apart_push (c ∷ bs) b f d = (all_push (λ q. same_ptr c.0 q ≡ false) bs b d.0 (same_ptr_symm c.0 b.0 ∙ f.0), apart_push bs b f.1 d.1)

pub all_removed : (P : Ptr → Type 0) (p : Ptr) (bs : List Block) → AllByRecursion P (map place_of bs)
    → AllByRecursion P (map place_of (without_node p bs))
all_removed P p [] a = tt
all_removed P p (b ∷ bs) a = elim (same_ptr p b.0) as (λ y. AllByRecursion P (map place_of (cond y (without_node p bs) (b ∷ without_node p bs)))) [
  | true ↦ all_removed P p bs a.1
  | false ↦ (a.0, all_removed P p bs a.1)
]

pub apart_removed : (p : Ptr) (bs : List Block) → IsApart bs → IsApart (without_node p bs)
unfolding IsDistinct
apart_removed p [] d = tt
apart_removed p (b ∷ bs) d = elim (same_ptr p b.0) as (λ y. IsDistinct same_ptr (map place_of (cond y (without_node p bs) (b ∷ without_node p bs)))) [
  | true ↦ apart_removed p bs d.1
  | false ↦ (all_removed (λ q. same_ptr b.0 q ≡ false) p bs d.0, apart_removed p bs d.1)
]

place_stored : (y : Bool) (n : Node) (b : Block) → (cond y (b.0, n) b).0 ≡ b.0
place_stored true n b = refl
place_stored false n b = refl

pub places_stored : (p : Ptr) (n : Node) (bs : List Block) → map place_of (with_node p n bs) ≡ map place_of bs
places_stored p n [] = refl
places_stored p n (b ∷ bs) = λ i. place_stored (same_ptr p b.0) n b i ∷ places_stored p n bs i

pub apart_stored : (p : Ptr) (n : Node) (bs : List Block) → IsApart bs → IsApart (with_node p n bs)
apart_stored p n bs = subst (IsDistinct same_ptr) (sym (places_stored p n bs))
