-- `take` hands out what the owner has of the node, as a box. Assumes `Logic`.
use mathlib.Core.Path.{◌≡◌, refl, sym, subst}
use mathlib.Core.Bool.{true}
use Prim.Native.Nat.{ℕ}
use mathlib.Core.List.{List, [], ◌∷◌, ◌++◌}
use seplogic.Ra.Ura.{Ura}
use base.Fraction.{full_share}
use mir.Syntax.{Fn, named}
use mir.Val.{Val, vptr}
use base.Logic.{SProp, ent, id⊢}
use base.Fml.{Lft, GName, Share, ftrue, fat, flft, fobs, fbor}
use prog.Memory.{Memory}
use prog.Routine.{Routine}
use prog.Wp.{Calls, Loops, WpFn, Tables}
use types.Logic.{Logic}
use contract.Monad.{Fun}
use contract.Running.{tables, tables_of}
use sound.WpLaws.{WpFn-mono}
use types.Kit.{Item, ⋆, ‵, ◌⊛◌, ◌$◌, ◌∵◌, !, qed, by, move, keep, use1, split, join, rewrite, fsplit, fsplit3, fjoin, fjoin3, feq_i, feq_l, suffices, frame, done}
use types.Part.{whole, sub, agg}
use types.Run.{stop, fld, and_then, no_more, returns, enter}
use types.ByLocal.{alloc_all, pass_all, free_all, look_at, get, get_in, sets, take_at, give_at}
use types.SemTy.{Body as Borrowed}
use denote.RattleType.{RattleType, owns}
use denote.Memory.{mem}
use denote.Param.{layout}
use denote.RawPtr.{Ptr, block_ptr, in_a_block}
use denote.Ref.{MutBor, MutRef}
use denote.Signature.{plain}
use denote.Steps.{nothing, opens, closes}
use denote.Triple.Entry.{on_entry}
use denote.Triple.Spec.{triple_of}
use denote.Triple.Table.{entered}
use denote.Triple.Walked.{says, needs, Stays, stay_dropped, stay_ref, walk_of, ends_at, Goes-dropped, Goes-ref, walk_Meets}
use Rattle.core.proofs.alloc.Calls.{Fits, handle_tells}
use Rattle.std_alloc.proofs.RcSteps.{word, word-Good}
use Rattle.std_alloc.proofs.BoxSteps.Form as box
use Rattle.std_alloc.proofs.BoxSteps.Steps.{box_in}
use Rattle.std_heap.specs.contracts.Global as Heap
use Rattle.std_heap.specs.contracts.GlobalAllocator.TheImpl.{ghosts}
use Rattle.av_chain.specs.Nodes.{has_place, without_node}
use Rattle.av_chain.specs.Ownership.{block_owns, blocks_own}
use Rattle.av_chain.specs.contracts.node.Node.{the_row as T}
use Rattle.av_chain.specs.contracts.node.Place.{the_row as Pl}
use Rattle.av_chain.specs.contracts.parts.Parts as parts
use Rattle.av_chain.specs.contracts.nodes.Nodes.{the_row as Ns}
use Rattle.av_chain.proofs.AsBox.{E}
use Rattle.av_chain.proofs.Apart.{apart_removed}
use Rattle.av_chain.proofs.Memory.{word_had, node_at}
use Rattle.av_chain.proofs.Owned.{own_cut, block_none}
use Rattle.av_chain.specs.contracts.nodes.Nodes.take as F
use Rattle.av_chain.specs.contracts.nodes.Nodes.take.Key.{name as #self}
use Rattle.av_chain.proofs.nodes.Nodes.take.Statement as stated
use Rattle.av_chain.proofs.nodes.Nodes.take.Code as code

abbrev function : Fn
function = code.function

abbrev Pr : RattleType
Pr = parts.the_row T Heap.the_row ghosts

abbrev stayed : Stays (F.ended).signature.params (F.ended).kept
stayed = (
  stay_ref (0 ∷ []) tt (plain (λ _. Ns)),
  (
    stay_dropped (plain (λ _. Heap.the_row)) (F.ended).kept.1.0,
    (stay_dropped (plain (λ _. Pl)) (F.ended).kept.1.1.0, tt),
  ),
)

module _ {M : Type 1} {𝓤 : Ura M} (𝓛 : Logic 𝓤) (at_mem : Memory → SProp 𝓤) (run : Routine → Fun 𝓤) (C : Calls 𝓤 𝓛.H) (Λ : Loops 𝓤 𝓛.H)
    (κ : Lft) (q : Share)
    (rb ro : ℕ) (γ : GName) (d : Ns.Denot) (a : Heap.the_row.Denot) (at : Pl.Denot) (us0 us1 us2 : List Val) where
  open 𝓛 use {H, A}

  abbrev self : MutBor Ns.Denot
  self = record { ref_ptr = (rb, ro); ghost_name = γ; now = d }

  abbrev bound : (walk_of 𝓛 F.ended stayed (F.clauses 𝓛 at_mem run)).Ghost
  bound = (((κ, tt), (q, tt), tt, (self, (a, (at, tt))), (us0, (us1, (us2, tt)))), tt)

  abbrev Post : Val → SProp 𝓤
  Post = (walk_of 𝓛 F.ended stayed (F.clauses 𝓛 at_mem run)).post bound

  exits : us0 ≡ vptr rb ro ∷ [] → (r : Pr.Denot) (v : Val) (new : Ns.Denot) → new.blocks ≡ without_node at.ptr d.blocks
      → ent 𝓤 (⋆ 𝓛 (‵ (fobs γ (Ns.coded.code new)) ∷ ‵ (fbor κ (Borrowed (mem Ns) rb ro γ)) ∷ ‵ (flft κ q) ∷ ‵ (Pr.own_val r (v ∷ [])) ∷ [])) (Post v)
  exits passed r v new g0 =
      qed 𝓛 (‵ (fobs γ (Ns.coded.code new)) ∷ ‵ (fbor κ (Borrowed (mem Ns) rb ro γ)) ∷ ‵ (flft κ q) ∷ ‵ (Pr.own_val r (v ∷ [])) ∷ []) ∵
      suffices ! _ (ends_at 𝓛 F.ended stayed (F.clauses 𝓛 at_mem run) bound v r (new, (tt, (tt, tt))) (tt, (tt, (tt, tt)))) $ says ! g0 $
      nothing ! $ move ! (3 ∷ 0 ∷ []) $ join ! $ frame ! $ feq_i ! (List Val) us0 (vptr rb ro ∷ []) passed $ fjoin3 ! $ nothing ! $
      nothing ! $ fjoin ! $
      nothing ! $ fjoin ! $ move ! (1 ∷ 0 ∷ []) $ fjoin ! $ done !

  abbrev Had : Val → List (Item 𝓤)
  Had hv = ‵ (fobs γ (Ns.coded.code d)) ∷ ‵ (fbor κ (Borrowed (mem Ns) rb ro γ)) ∷ ‵ (flft κ q) ∷ ‵ (box.handle E a hv) ∷ []

  walk : us0 ≡ vptr rb ro ∷ [] → has_place at.ptr d.blocks ≡ true → (hv : Val) → Fits E.al hv →
      ent 𝓤 (⋆ 𝓛 (Had hv)) (WpFn 𝓤 H C Λ function (vptr rb ro ∷ hv ∷ word at.ptr ∷ []) Post)
  walk passed asked hv fa =
      let there = node_at at.ptr d.blocks asked in
      let n : T.Denot = there.0 in
      let new : Ns.Denot = record { mark = d.mark; blocks = without_node at.ptr d.blocks; apart = apart_removed at.ptr d.blocks d.apart } in
      qed 𝓛 (Had hv) ∵ enter ! C Λ function (vptr rb ro ∷ hv ∷ word at.ptr ∷ []) _ $
      alloc_all ! (λ l. pass_all ! refl ((tt, tt), (fa, (word-Good [] at.ptr, tt))) $
      opens ! tt Ns {h = d} rb ro (λ vs. move ! (1 ∷ []) $ fsplit ! $ move ! (1 ∷ []) $
      use1 𝓛 (‵ (block_owns (at.ptr, n)) ⊛ ‵ (blocks_own new.blocks)) (own_cut 𝓛 at.ptr d.blocks n there.1) $ split ! $
      in_a_block ! at.ptr (λ p. block_owns (p, n)) (block_none 𝓛 n) (λ b o ep.
      let out : Pr.Denot = record { ptr = block_ptr b o; alloc = a; value = n } in
      let boxed : box.D E = record { ptr = block_ptr b o; alloc = a; value = n } in
      -- [the node; the others; the mark; its cell; the open borrow; obs; auth; the handle]
      take_at ! 3 $ rewrite ! 0 (λ (p : Ptr). ‵ (fat full_share (layout Pl) (l 3) 0 (word p))) ep refl $ give_at ! 3 $
      sets ! (agg ! (and_then ! (get_in ! (fld ! refl (stop !)) (sub ! 0 refl (whole !))) (and_then ! (get ! refl) (no_more !)))) refl
      (box.box_typed E hv b o fa) $
      move ! (2 ∷ 1 ∷ []) $ fjoin ! $ move ! (2 ∷ 0 ∷ 3 ∷ 4 ∷ 5 ∷ []) $ closes ! tt Ns new vs rb ro $
      returns ! (look_at ! 0 refl) $ free_all ! refl $ move ! (3 ∷ []) $ fsplit ! $ move ! (0 ∷ 1 ∷ 5 ∷ []) $ box_in E ! boxed b o n refl refl $
      use1 𝓛 (‵ (Pr.own_val out (box.word E hv b o ∷ []))) (id⊢ 𝓤 _) $ keep ! (1 ∷ 2 ∷ 3 ∷ 0 ∷ []) $
      by ! (exits passed out (box.word E hv b o) new refl))))

  entry : has_place at.ptr d.blocks ≡ true → ent 𝓤 (on_entry 𝓛 F.signature (κ, tt) (q, tt) (self, (a, (at, tt))) (us0, (us1, (us2, tt))))
      (WpFn 𝓤 H C Λ function (us0 ++ (us1 ++ (us2 ++ []))) Post)
  entry asked =
      qed 𝓛 ((‵ (flft κ q) ⊛ ‵ ftrue) ∷ ‵
      (owns (MutRef (named 0) κ Ns ∷ Heap.the_row ∷ Pl ∷ []) (self, (a, (at, tt))) (us0, (us1, (us2, tt)))) ∷ []) ∵
      split ! $ move ! (2 ∷ []) $ fsplit ! $ fsplit3 ! $ feq_l ! (λ e0. move ! (2 ∷ []) $ fsplit ! $ handle_tells E.al ! a us1
      (λ hv e1 fa. move ! (1 ∷ []) $ fsplit ! $ word_had ! at.ptr us2 (λ e2. keep ! (2 ∷ 3 ∷ 4 ∷ 1 ∷ []) $
      by ! (subst (λ (ws : List Val × List Val × List Val). ent 𝓤 (⋆ 𝓛 (Had hv)) (WpFn 𝓤 H C Λ function (ws.0 ++ (ws.1 ++ (ws.2 ++ []))) Post))
      (λ j. (sym e0 j, sym e1 j, sym e2 j)) (walk e0 asked hv fa)))))

pub take_spec : {M : Type 1} → stated.statement M
unfolding tables_of
take_spec 𝓤 𝓛 𝓜 𝓡 wired =
    let 𝓣 : Tables 𝓤 𝓛.H = tables_of 𝓤 𝓛.H 𝓜 (tables 𝓤 𝓛.H 𝓜 𝓡 𝓡.env) in
    entered 𝓤 𝓛.H (triple_of 𝓛 F.signature (F.spec 𝓛 𝓜.mem 𝓡.returns)) 𝓣.C 𝓣.Λ #self function (code.unfolded 𝓤 𝓛.H 𝓜 𝓡 wired)
    (walk_Meets 𝓛 F.ended stayed (
      Goes-ref 𝓛 1 0 tt (plain (λ _. Ns)),
      (
        Goes-dropped 𝓛 1 (plain (λ _. Heap.the_row)) (F.ended).kept.1.0 (λ κs x f. refl),
        (Goes-dropped 𝓛 1 (plain (λ _. Pl)) (F.ended).kept.1.1.0 (λ κs x f. refl), tt),
      ),
    ) (F.clauses 𝓛 𝓜.mem 𝓡.returns) (WpFn 𝓤 𝓛.H 𝓣.C 𝓣.Λ function)
    (WpFn-mono 𝓤 𝓛.H 𝓛.laws 𝓣 function)
    (λ z. needs 𝓤 (has_place z.0.3.1.1.0.ptr z.0.3.0.now.blocks ≡ true) _
    (entry 𝓛 𝓜.mem 𝓡.returns 𝓣.C 𝓣.Λ z.0.0.0 z.0.1.0 z.0.3.0.ref_ptr.0 z.0.3.0.ref_ptr.1 z.0.3.0.ghost_name z.0.3.0.now z.0.3.1.0 z.0.3.1.1.0
    z.0.4.0 z.0.4.1.0 z.0.4.1.1.0)))
