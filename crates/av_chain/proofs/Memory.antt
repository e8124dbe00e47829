-- What the walks of `nodes.rt` share. Assumes `Logic`.
use mathlib.Core.Path.{◌≡◌, refl, sym, subst}
use mathlib.Core.Bool.{true, false, ◌||◌, cond}
use mathlib.Core.List.{List, [], ◌∷◌, ◌++◌}
use seplogic.Ra.Ura.{Ura}
use mir.Val.{Val, vstruct, vcons, vnil, of_list}
use base.Logic.{ent, emp, via, fst∗, snd∗}
use base.Fml.{Lft}
use types.Logic.{Logic, sem}
use types.Kit.{Item, Goal, Seq, Step, step, ‵, ◌$◌, drop, fsplit, fjoin, fpick, fpack, feq_i, feq_l}
use denote.RattleType.{RattleType, Valss}
use denote.RawPtr.{Ptr, RawPtr, ptr_val}
use denote.Shadow.{makes_shadow}
use denote.Steps.{nothing}
use denote.Struct.Struct.{Shape, Struct, within}
use denote.Struct.Owning.{shape}
use denote.Struct.Lending.{lent_at}
use Rattle.std.specs.Prelude.{Some}
use Rattle.std_alloc.proofs.RcSteps.{word}
use Rattle.av_chain.specs.declared.node.Node.{Node}
use Rattle.av_chain.specs.Nodes.{Block, same_ptr, found, has_place}
use Rattle.av_chain.specs.Ownership.{blocks_lent}
use Rattle.av_chain.specs.contracts.node.Node.{the_row as T}
use Rattle.av_chain.specs.contracts.nodes.Nodes as C
use Rattle.av_chain.proofs.Pointers.{same_ptr_eq}

abbrev one_field : Shape
one_field = record { name = []; args = []; types = []; fields = RawPtr ∷ [] }

abbrev pub Word : RattleType
Word = Struct one_field

abbrev pub Mark : RattleType
Mark = Struct (shape C.the_type)

abbrev pub mark : Val
mark = vstruct (vcons (vstruct vnil) vnil)

module _ {M : Type 1} {𝓤 : Ura M} {𝓛 : Logic 𝓤} {K : Type 0} {Γ : List (Item 𝓤)} {G : Goal 𝓤 𝓛.H} where
  pub word_had : K → (c : Ptr) (vs : List Val) → (vs ≡ word c ∷ [] → Seq K 𝓛 Γ G) → Seq K 𝓛 (‵ (Word.own_val (c, tt) vs) ∷ Γ) G
  word_had t c vs k = fpick t (λ vss. fsplit t $ feq_l t (λ ev. fsplit t $
      feq_l t (λ e. drop t $ k (subst (λ (ws : List Val). vs ≡ vstruct (of_list (ws ++ [])) ∷ []) e ev))))

  pub word_made : K → (c : Ptr) → Step K 𝓛 (‵ (Word.own_val (c, tt) (word c ∷ [])) ∷ Γ) G Γ G
  word_made t c = step (λ s.
      nothing t $ feq_i t (List Val) (ptr_val c ∷ []) (ptr_val c ∷ []) refl $ fjoin t $ feq_i t (List Val) (word c ∷ []) (word c ∷ [])
      refl $ fjoin t $
      fpack t (Valss (RawPtr ∷ [])) (within one_field (c, tt) (word c ∷ [])) (ptr_val c ∷ [], tt) $ s)

-- the node at a place is there
pub node_at : (p : Ptr) (bs : List Block) → has_place p bs ≡ true → (n : Node) × (found p bs ≡ Some n)
node_at p [] e = cc
node_at p (b ∷ bs) e = (elim (same_ptr p b.0) as (λ y. (y || has_place p bs) ≡ true → (n : Node) × (cond y (Some b.1) (found p bs) ≡ Some n)) [
  | true ↦ λ _. (b.1, refl)
  | false ↦ λ h. node_at p bs h
]) e

module _ {M : Type 1} {𝓤 : Ura M} (𝓛 : Logic 𝓤) where
  pub seen_at : (κ : Lft) (p : Ptr) (bs : List Block) (n : Node) → found p bs ≡ Some n → ent 𝓤 (sem 𝓛 (blocks_lent bs κ)) (sem 𝓛 (lent_at T p n κ))
  seen_at κ p [] n e = cc
  seen_at κ p (b ∷ bs) n e = (elim (same_ptr p b.0) as (λ y. same_ptr p b.0 ≡ y → cond y (Some b.1) (found p bs) ≡ Some n →
      ent 𝓤 (sem 𝓛 (blocks_lent (b ∷ bs) κ)) (sem 𝓛 (lent_at T p n κ))) [
        | true ↦ λ at h.
            let is : b.1 ≡ n = cc in
            subst (λ (q : Ptr × Node). ent 𝓤 (sem 𝓛 (blocks_lent (b ∷ bs) κ)) (sem 𝓛 (lent_at T q.0 q.1 κ)))
            (λ i. (sym (same_ptr_eq p b.0 at) i, is i))
            (fst∗ 𝓤 (sem 𝓛 (lent_at T b.0 b.1 κ)) (sem 𝓛 (blocks_lent bs κ)))
        | false ↦ λ _ h. via 𝓤 (sem 𝓛 (blocks_lent bs κ)) (snd∗ 𝓤 (sem 𝓛 (lent_at T b.0 b.1 κ)) (sem 𝓛 (blocks_lent bs κ))) (seen_at κ p bs n h)
      ]) refl e

pub mark_made : {M : Type 1} {𝓤 : Ura M} (𝓛 : Logic 𝓤) → ent 𝓤 (emp 𝓤) (sem 𝓛 (Mark.own_val (tt, tt) (mark ∷ [])))
mark_made 𝓛 = makes_shadow 𝓛 (Mark.own_val (tt, tt) (mark ∷ [])) (λ vss. (tt, ((λ uss. (tt, tt)), tt)))
    ((vstruct vnil ∷ [], tt), (refl, ((tt, (refl, tt)), tt)))
