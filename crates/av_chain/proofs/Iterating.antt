-- One step along the areas of an anon_vma.
use Rattle.std.proofs.Common.{◌≡◌, ℕ, ◌<◌, true, cond, List, [], ◌∷◌, ◌++◌, length, refl, sym, ap, ◌∙◌, subst, Some, None, arith, append_assoc}
use Rattle.av_chain.specs.declared.node.Node.{Node}
use Rattle.av_chain.specs.declared.node.Place.{Place}
use Rattle.av_chain.specs.declared.node.Way.TheVariants.{Anon}
use Rattle.av_chain.specs.Nodes.{Block, IsApart, has_place, found}
use Rattle.av_chain.specs.Rows.{sides_of, row, at_block, first_or, IsRun, Reaches}
use Rattle.av_chain.specs.Users.{from_place, users_left}
use Rattle.av_chain.specs.Lists.{areas_of}
use Rattle.av_chain.proofs.Pointers.{same_ptr_refl}
use Rattle.av_chain.proofs.Apart.{apart_tail, apart_head}
use Rattle.av_chain.proofs.Altered.{fresh_differs}
use Rattle.av_chain.proofs.Runs.{run_split, has_past, first_reaches, reaches_past}
use Rattle.av_chain.proofs.Threads.{apart_row, has_row, split_at}
use Rattle.av_chain.proofs.Passing.{found_row_at}

from_mid : (xs : List Block) (b : Block) (ys : List Block) → IsApart (xs ++ b ∷ ys) → from_place (Some (at_block b)) (xs ++ b ∷ ys) ≡ b ∷ ys
from_mid [] b ys d = ap (λ y. cond y (b ∷ ys) (from_place (Some (at_block b)) ys)) (same_ptr_refl b.0)
from_mid (x ∷ xs) b ys d =
    ap (λ y. cond y (x ∷ xs ++ b ∷ ys) (from_place (Some (at_block b)) (xs ++ b ∷ ys)))
    (fresh_differs x.0 b.0 (xs ++ b ∷ ys) (apart_head x (xs ++ b ∷ ys) d) (has_past b.0 xs b ys))
    ∙ from_mid xs b ys (apart_tail x (xs ++ b ∷ ys) d)

from_first : (xs ys : List Block) → IsApart (xs ++ ys) → from_place (first_or None ys) (xs ++ ys) ≡ ys
from_first xs [] d = refl
from_first xs (y ∷ ys) d = from_mid xs y ys d

pub from_all : (bs : List Block) → IsApart bs → from_place (first_or None bs) bs ≡ bs
from_all bs d = from_first [] bs d

module _ (anon : ℕ) (p : Place) (bs : List Block) (d : IsApart bs) (there : has_place p.ptr (row Anon anon bs) ≡ true) where
  pub users_has : has_place p.ptr bs ≡ true
  users_has = has_row Anon anon p.ptr bs there

  module _ (n : Node) (e : found p.ptr bs ≡ Some n) (t : IsRun Anon None (row Anon anon bs) None) where
    cut : (xs : List Block) × (ys : List Block) × (row Anon anon bs ≡ xs ++ (p.ptr, n) ∷ ys)
    cut = split_at Anon p.ptr (row Anon anon bs) n (found_row_at Anon anon p.ptr bs n d there e)

    after_is : (sides_of Anon n).after ≡ first_or None cut.1
    after_is = (run_split Anon None None cut.0 ((p.ptr, n) ∷ cut.1) (subst (λ cs. IsRun Anon None cs None) cut.2 t)).1.1

    apart_cut : IsApart (cut.0 ++ (p.ptr, n) ∷ cut.1)
    apart_cut = subst IsApart cut.2 (apart_row Anon anon bs d)

    pub users_there : Reaches (sides_of Anon n).after (row Anon anon bs)
    users_there = subst (λ cs. Reaches (sides_of Anon n).after cs) (sym cut.2)
        (subst (λ o. Reaches o (cut.0 ++ (p.ptr, n) ∷ cut.1)) (sym after_is)
        (reaches_past (first_or None cut.1) cut.0 (p.ptr, n) cut.1 (first_reaches cut.1)))

    pub users_step : users_left anon (Some p) bs ≡ n.area ∷ users_left anon (sides_of Anon n).after bs
    users_step =
        let r = row Anon anon bs in
        let now : from_place (Some p) r ≡ (p.ptr, n) ∷ cut.1 = ap (from_place (Some p)) cut.2 ∙ from_mid cut.0 (p.ptr, n) cut.1 apart_cut in
        let split : r ≡ (cut.0 ++ (p.ptr, n) ∷ []) ++ cut.1 = cut.2 ∙ sym (append_assoc cut.0 ((p.ptr, n) ∷ []) cut.1) in
        let apart = subst IsApart split (apart_row Anon anon bs d) in
        let next : from_place (sides_of Anon n).after r ≡ cut.1 = (λ i. from_place (after_is i) (split i))
        ∙ from_first (cut.0 ++ (p.ptr, n) ∷ []) cut.1 apart in
        ap areas_of now ∙ sym (ap (λ cs. n.area ∷ areas_of cs) next)

pub shorter : (s t : List ℕ) (x : ℕ) → s ≡ x ∷ t → length t < length s
shorter s t x e = let long = ap length e in omega arith
