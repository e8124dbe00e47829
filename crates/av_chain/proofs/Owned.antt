-- What the owner of the nodes owns is taken apart and put together. Assumes `Logic`.
use mathlib.Core.Path.{◌≡◌, refl, sym, subst, ◌∙◌}
use mathlib.Core.Bool.{true, false, cond}
use native.Mathlib.Omega.{arith}
use mathlib.Core.List.{List, [], ◌∷◌, ◌++◌}
use seplogic.Ra.Ura.{Ura}
use base.Logic.{ent, sep, via, never, never_e, snd∗, id⊢}
use base.Fml.{ftrue, froom}
use prog.Model.{Model}
use types.Logic.{Logic, sem}
use contract.Monad.{fact, fact_i, fact_use}
use types.Kit.{Item, Goal, Seq, mean, prop, ‵, raw, ◌⊛◌, ◌$◌, ◌∵◌, !, qed, by, move, keep, use1, use2, split, rewrite, fsplit, fjoin, done}
use denote.RawPtr.{Ptr, block_ptr, null_ptr}
use Rattle.std.specs.Prelude.{Some}
use Rattle.std_alloc.proofs.BoxSteps.Form.{τ}
use Rattle.std_alloc.proofs.BoxSteps.Steps.{el_room}
use Rattle.av_chain.specs.declared.node.Node.{Node}
use Rattle.av_chain.specs.Nodes.{Block, same_ptr, found, with_node, without_node, IsApart}
use Rattle.av_chain.specs.Ownership.{block_owns, blocks_own}
use Rattle.av_chain.proofs.AsBox.{E}
use Rattle.av_chain.proofs.Pointers.{same_ptr_eq}
use Rattle.av_chain.proofs.Apart.{IsFresh, apart_tail, apart_head, fresh_at, removed_fresh, stored_fresh}

module _ {M : Type 1} {𝓤 : Ura M} {𝓛 : Logic 𝓤} {K : Type 0} {Γ : List (Item 𝓤)} {G : Goal 𝓤 𝓛.H} where
  -- a fact that two entries show is learned, and they stay
  pub knows : K → {i j : Item 𝓤} (φ : Type 0) → ent 𝓤 (sep 𝓤 (mean 𝓛 i) (mean 𝓛 j)) (fact 𝓤 φ) → (φ → Seq K 𝓛 (i ∷ j ∷ Γ) G) → Seq K 𝓛 (i ∷ j ∷ Γ) G
  knows t {i} {j} φ h k =
      let shown : Seq K 𝓛 (i ∷ j ∷ Γ) (prop (fact 𝓤 φ)) = use2 𝓛 (raw (fact 𝓤 φ)) h $ keep t (0 ∷ []) $ done t in
      record { prf = fact_use 𝓤 φ shown.prf (λ x. (k x).prf) }

module _ {M : Type 1} {𝓤 : Ura M} (𝓛 : Logic 𝓤) (𝓜 : Model 𝓤 𝓛.H) where
  -- two nodes do not lie at one place
  clash : (p : Ptr) (x y : Node) → ent 𝓤 (sep 𝓤 (sem 𝓛 (block_owns (p, x))) (sem 𝓛 (block_owns (p, y)))) (never 𝓤)
  clash (block_ptr b o) x y = qed 𝓛 (‵ (block_owns (block_ptr b o, x)) ∷ ‵ (block_owns (block_ptr b o, y)) ∷ []) ∵
      fsplit ! $ move ! (2 ∷ []) $ fsplit ! $ keep ! (0 ∷ 2 ∷ []) $
      use1 𝓛 (‵ (froom (τ E) b o)) (el_room E 𝓛 y b o) $ move ! (1 ∷ []) $ use1 𝓛 (‵ (froom (τ E) b o)) (el_room E 𝓛 x b o) $
      by ! (𝓜.room-room (τ E) (τ E) b o o o (omega arith, omega arith) (omega arith, omega arith))
  clash null_ptr x y = qed 𝓛 (‵ (block_owns (null_ptr, x)) ∷ ‵ (block_owns (null_ptr, y)) ∷ []) ∵ fsplit ! $ keep ! (0 ∷ []) $ done !

  differ : (p : Ptr) (x : Node) (b : Block) → ent 𝓤 (sep 𝓤 (sem 𝓛 (block_owns (p, x))) (sem 𝓛 (block_owns b))) (fact 𝓤 (same_ptr p b.0 ≡ false))
  differ p x b = (elim (same_ptr p b.0) as (λ y. same_ptr p b.0 ≡ y → ent 𝓤 (sep 𝓤 (sem 𝓛 (block_owns (p, x))) (sem 𝓛 (block_owns b)))
      (fact 𝓤 (same_ptr p b.0 ≡ false))) [
        | true ↦ λ e. via 𝓤 (never 𝓤) (subst (λ (q : Ptr). ent 𝓤 (sep 𝓤 (sem 𝓛 (block_owns (q, x))) (sem 𝓛 (block_owns b))) (never 𝓤))
            (sym (same_ptr_eq p b.0 e))
            (clash b.0 x b.1)) (never_e 𝓤 _)
        | false ↦ λ e. fact_i 𝓤 (same_ptr p b.0 ≡ false) _ e
      ]) refl

  -- a node lies apart from those that are owned beside it
  pub fresh : (p : Ptr) (x : Node) (bs : List Block) → ent 𝓤 (sep 𝓤 (sem 𝓛 (block_owns (p, x))) (sem 𝓛 (blocks_own bs))) (fact 𝓤 (IsFresh p bs))
  fresh p x [] = fact_i 𝓤 (IsFresh p []) _ tt
  fresh p x (b ∷ bs) = qed 𝓛 (‵ (block_owns (p, x)) ∷ ‵ (blocks_own (b ∷ bs)) ∷ []) ∵ move ! (1 ∷ []) $ fsplit ! $ move ! (2 ∷ 0 ∷ []) $
      knows ! (same_ptr p b.0 ≡ false) (differ p x b) (λ here. move ! (0 ∷ 2 ∷ []) $ knows ! (IsFresh p bs) (fresh p x bs) (λ rest.
      by ! (fact_i 𝓤 (IsFresh p (b ∷ bs)) _ (here, rest))))

module _ {M : Type 1} {𝓤 : Ura M} (𝓛 : Logic 𝓤) where
  -- no node lies at null
  pub block_none : (n : Node) → ent 𝓤 (sem 𝓛 (block_owns (null_ptr, n))) (never 𝓤)
  block_none n = qed 𝓛 (‵ (block_owns (null_ptr, n)) ∷ []) ∵ fsplit ! $ keep ! (0 ∷ []) $ done !

  pub own_push : (bs : List Block) (b : Block) → ent 𝓤 (sep 𝓤 (sem 𝓛 (blocks_own bs)) (sem 𝓛 (block_owns b))) (sem 𝓛 (blocks_own (bs ++ b ∷ [])))
  own_push [] b = qed 𝓛 (‵ ftrue ∷ ‵ (block_owns b) ∷ []) ∵ move ! (1 ∷ 0 ∷ []) $ fjoin ! $ done !
  own_push (c ∷ bs) b = qed 𝓛 (‵ (blocks_own (c ∷ bs)) ∷ ‵ (block_owns b) ∷ []) ∵ fsplit ! $ move ! (1 ∷ 2 ∷ []) $
      use2 𝓛 (‵ (blocks_own (bs ++ b ∷ []))) (own_push bs b) $ move ! (1 ∷ 0 ∷ []) $ fjoin ! $ done !

  own_others : (p : Ptr) (bs : List Block) → ent 𝓤 (sem 𝓛 (blocks_own bs)) (sem 𝓛 (blocks_own (without_node p bs)))
  own_others p [] = id⊢ 𝓤 _
  own_others p (b ∷ bs) = elim (same_ptr p b.0) as (λ y. ent 𝓤 (sem 𝓛 (blocks_own (b ∷ bs)))
      (sem 𝓛 (blocks_own (cond y (without_node p bs) (b ∷ without_node p bs))))) [
        | true ↦ via 𝓤 (sem 𝓛 (blocks_own bs)) (snd∗ 𝓤 (sem 𝓛 (block_owns b)) (sem 𝓛 (blocks_own bs))) (own_others p bs)
        | false ↦ qed 𝓛 (‵ (blocks_own (b ∷ bs)) ∷ []) ∵ fsplit ! $ move ! (1 ∷ []) $ use1 𝓛 (‵ (blocks_own (without_node p bs))) (own_others p bs) $
            move ! (1 ∷ 0 ∷ []) $ fjoin ! $ done !
      ]

  -- the node at a place, and the others
  pub own_cut : (p : Ptr) (bs : List Block) (n : Node) → found p bs ≡ Some n →
      ent 𝓤 (sem 𝓛 (blocks_own bs)) (sep 𝓤 (sem 𝓛 (block_owns (p, n))) (sem 𝓛 (blocks_own (without_node p bs))))
  own_cut p [] n e = cc
  own_cut p (b ∷ bs) n e = (elim (same_ptr p b.0) as (λ y. same_ptr p b.0 ≡ y → cond y (Some b.1) (found p bs) ≡ Some n
      → ent 𝓤 (sem 𝓛 (blocks_own (b ∷ bs)))
      (sep 𝓤 (sem 𝓛 (block_owns (p, n))) (sem 𝓛 (blocks_own (cond y (without_node p bs) (b ∷ without_node p bs)))))) [
        | true ↦ λ at h.
            let is : b.1 ≡ n = cc in
            qed 𝓛 (‵ (blocks_own (b ∷ bs)) ∷ []) ∵ fsplit ! $ rewrite ! 0 (λ (c : Block). ‵ (block_owns c))
            (λ i. (sym (same_ptr_eq p b.0 at) i, is i)) refl $
            move ! (1 ∷ []) $ use1 𝓛 (‵ (blocks_own (without_node p bs))) (own_others p bs) $ move ! (1 ∷ 0 ∷ []) $ done !
        | false ↦ λ at h. qed 𝓛 (‵ (blocks_own (b ∷ bs)) ∷ []) ∵ fsplit ! $ move ! (1 ∷ []) $
            use1 𝓛 (‵ (block_owns (p, n)) ⊛ ‵ (blocks_own (without_node p bs))) (own_cut p bs n h) $ split ! $ move ! (2 ∷ 1 ∷ []) $
            fjoin ! $ move ! (1 ∷ 0 ∷ []) $ done !
      ]) refl e

  -- another node at that place, with the others
  pub own_glue : (p : Ptr) (bs : List Block) (n m : Node) → IsApart bs → found p bs ≡ Some n →
      ent 𝓤 (sep 𝓤 (sem 𝓛 (block_owns (p, m))) (sem 𝓛 (blocks_own (without_node p bs)))) (sem 𝓛 (blocks_own (with_node p m bs)))
  own_glue p [] n m d e = cc
  own_glue p (b ∷ bs) n m d e = (elim (same_ptr p b.0) as (λ y. same_ptr p b.0 ≡ y → cond y (Some b.1) (found p bs) ≡ Some n
      → ent 𝓤 (sep 𝓤 (sem 𝓛 (block_owns (p, m))) (sem 𝓛 (blocks_own (cond y (without_node p bs) (b ∷ without_node p bs)))))
      (sem 𝓛 (blocks_own (cond y (b.0, m) b ∷ with_node p m bs)))) [
        | true ↦ λ at h.
            let f = fresh_at b.0 p bs (sym (same_ptr_eq p b.0 at)) (apart_head b bs d) in
            qed 𝓛 (‵ (block_owns (p, m)) ∷ ‵ (blocks_own (without_node p bs)) ∷ []) ∵ rewrite ! 0 (λ (q : Ptr). ‵ (block_owns (q, m)))
            (same_ptr_eq p b.0 at) refl $
            rewrite ! 1 (λ (cs : List Block). ‵ (blocks_own cs)) (removed_fresh p bs f ∙ sym (stored_fresh p m bs f)) refl $ fjoin ! $ done !
        | false ↦ λ at h. qed 𝓛 (‵ (block_owns (p, m)) ∷ ‵ (blocks_own (b ∷ without_node p bs)) ∷ []) ∵ move ! (1 ∷ []) $ fsplit ! $ move
            ! (2 ∷ 1 ∷ []) $
            use2 𝓛 (‵ (blocks_own (with_node p m bs))) (own_glue p bs n m (apart_tail b bs d) h) $ move ! (1 ∷ 0 ∷ []) $ fjoin ! $ done !
      ]) refl e
