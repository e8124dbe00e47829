-- `set` writes over the node. Assumes `Logic`.
use mathlib.Core.Path.{◌≡◌, refl, sym, subst}
use mathlib.Core.Bool.{true}
use Prim.Native.Nat.{ℕ}
use mathlib.Core.List.{List, [], ◌∷◌, ◌++◌}
use seplogic.Ra.Ura.{Ura}
use base.Fraction.{full_share}
use mir.Syntax.{Fn, named}
use mir.Val.{Val, vptr, vunit}
use base.Logic.{SProp, ent, id⊢}
use base.Fml.{Lft, GName, Share, ftrue, fat, flft, fobs, fbor}
use prog.Memory.{Memory}
use prog.Routine.{Routine}
use prog.Wp.{Env, Calls, Loops, WpFn, Tables}
use types.Logic.{Logic}
use contract.Monad.{Fun}
use contract.Running.{tables, tables_of}
use sound.WpLaws.{WpFn-mono}
use types.Kit.{Item, ⋆, ‵, ◌⊛◌, some, at_ret, ◌$◌, ◌∵◌, !, qed, by, move, keep, use1, use2, split, pick, join, rewrite, fsplit, fsplit3, fjoin, fjoin3, feq_i, feq_l, suffices, frame, done}
use types.Part.{whole, sub}
use types.Run.{store, stop, fld, hop, from, of_opd, unit_lit, assigns_last, first, blocks, exec, returns, enter}
use types.ByLocal.{alloc_all, pass_all, free_all, look_at, look_in_at, get, sets, take_at, give_at, env}
use types.SemTy.{Body as Borrowed}
use denote.RattleType.{owns}
use denote.Memory.{mem, part_at}
use denote.Param.{layout}
use denote.RawPtr.{Ptr, block_ptr, in_a_block}
use denote.Ref.{MutBor, MutRef}
use denote.Builtin.{unit}
use denote.Signature.{plain}
use denote.Steps.{nothing, opens, closes}
use denote.Triple.Entry.{on_entry}
use denote.Triple.Spec.{triple_of}
use denote.Triple.Table.{entered}
use denote.Triple.Walked.{says, needs, Stays, stay_dropped, stay_ref, walk_of, ends_at, Goes-dropped, Goes-ref, walk_Meets}
use borrow.Table.OneValue.{part_out, part_in}
use Rattle.std_alloc.proofs.VecSteps.Shapes.{after}
use Rattle.std_alloc.proofs.RcSteps.{word, word-Good}
use Rattle.std_alloc.proofs.BoxSteps.Form.{R, τ, own, Good}
use Rattle.std_alloc.proofs.BoxSteps.Steps.{el_tells}
use Rattle.av_chain.specs.Nodes.{has_place, without_node, with_node}
use Rattle.av_chain.specs.Ownership.{block_owns, blocks_own}
use Rattle.av_chain.specs.contracts.node.Node.{the_row as T}
use Rattle.av_chain.specs.contracts.node.Place.{the_row as Pl}
use Rattle.av_chain.specs.contracts.nodes.Nodes.{the_row as Ns}
use Rattle.av_chain.proofs.AsBox.{E}
use Rattle.av_chain.proofs.Apart.{apart_stored}
use Rattle.av_chain.proofs.Memory.{word_had, node_at}
use Rattle.av_chain.proofs.Owned.{own_cut, own_glue, block_none}
use Rattle.av_chain.specs.contracts.nodes.Nodes.set as F
use Rattle.av_chain.specs.contracts.nodes.Nodes.set.Key.{name as #self}
use Rattle.av_chain.proofs.nodes.Nodes.set.Statement as stated
use Rattle.av_chain.proofs.nodes.Nodes.set.Code as code

abbrev function : Fn
function = code.function

abbrev stayed : Stays (F.ended).signature.params (F.ended).kept
stayed = (
  stay_ref (0 ∷ []) tt (plain (λ _. Ns)),
  (stay_dropped (plain (λ _. Pl)) (F.ended).kept.1.0, (stay_dropped (plain (λ _. T)) (F.ended).kept.1.1.0, tt)),
)

module _ {M : Type 1} {𝓤 : Ura M} (𝓛 : Logic 𝓤) (at_mem : Memory → SProp 𝓤) (run : Routine → Fun 𝓤) (C : Calls 𝓤 𝓛.H) (Λ : Loops 𝓤 𝓛.H)
    (κ : Lft) (q : Share)
    (rb ro : ℕ) (γ : GName) (d : Ns.Denot) (at : Pl.Denot) (node : T.Denot) (us0 us1 us2 : List Val) where
  open 𝓛 use {H, A}

  abbrev self : MutBor Ns.Denot
  self = record { ref_ptr = (rb, ro); ghost_name = γ; now = d }

  abbrev bound : (walk_of 𝓛 F.ended stayed (F.clauses 𝓛 at_mem run)).Ghost
  bound = (((κ, tt), (q, tt), tt, (self, (at, (node, tt))), (us0, (us1, (us2, tt)))), tt)

  abbrev Post : Val → SProp 𝓤
  Post = (walk_of 𝓛 F.ended stayed (F.clauses 𝓛 at_mem run)).post bound

  exits : us0 ≡ vptr rb ro ∷ [] → (new : Ns.Denot) → new.blocks ≡ with_node at.ptr node d.blocks
      → ent 𝓤 (⋆ 𝓛 (‵ (fobs γ (Ns.coded.code new)) ∷ ‵ (fbor κ (Borrowed (mem Ns) rb ro γ)) ∷ ‵ (flft κ q) ∷ ‵ (unit.own_val tt (vunit ∷ [])) ∷ []))
      (Post vunit)
  exits passed new g0 =
      qed 𝓛 (‵ (fobs γ (Ns.coded.code new)) ∷ ‵ (fbor κ (Borrowed (mem Ns) rb ro γ)) ∷ ‵ (flft κ q) ∷ ‵ (unit.own_val tt (vunit ∷ [])) ∷ []) ∵
      suffices ! _ (ends_at 𝓛 F.ended stayed (F.clauses 𝓛 at_mem run) bound vunit tt (new, (tt, (tt, tt))) (tt, (tt, (tt, tt)))) $ says ! g0 $
      nothing ! $ move ! (3 ∷ 0 ∷ []) $ join ! $ frame ! $ feq_i ! (List Val) us0 (vptr rb ro ∷ []) passed $ fjoin3 ! $ nothing ! $
      nothing ! $ fjoin ! $
      nothing ! $ fjoin ! $ move ! (1 ∷ 0 ∷ []) $ fjoin ! $ done !

  abbrev Had : Val → List (Item 𝓤)
  Had v = ‵ (fobs γ (Ns.coded.code d)) ∷ ‵ (fbor κ (Borrowed (mem Ns) rb ro γ)) ∷ ‵ (flft κ q) ∷ ‵ (own E node (v ∷ [])) ∷ []

  walk : us0 ≡ vptr rb ro ∷ [] → has_place at.ptr d.blocks ≡ true → (v : Val) → Good E v →
      ent 𝓤 (⋆ 𝓛 (Had v)) (WpFn 𝓤 H C Λ function (vptr rb ro ∷ word at.ptr ∷ v ∷ []) Post)
  walk passed asked v good =
      let there = node_at at.ptr d.blocks asked in
      let n : T.Denot = there.0 in
      let new : Ns.Denot = record { mark = d.mark; blocks = with_node at.ptr node d.blocks; apart = apart_stored at.ptr node d.blocks d.apart } in
      qed 𝓛 (Had v) ∵ enter ! C Λ function (vptr rb ro ∷ word at.ptr ∷ v ∷ []) _ $
      alloc_all ! (λ l. pass_all ! refl ((tt, tt), (word-Good [] at.ptr, (good, tt))) $
      let En : Env 𝓤 H = env function.locals l in
      opens ! tt Ns {h = d} rb ro (λ vs. move ! (1 ∷ []) $ fsplit ! $ move ! (1 ∷ []) $
      use1 𝓛 (‵ (block_owns (at.ptr, n)) ⊛ ‵ (blocks_own (without_node at.ptr d.blocks))) (own_cut 𝓛 at.ptr d.blocks n there.1) $ split ! $
      in_a_block ! at.ptr (λ p. block_owns (p, n)) (block_none 𝓛 n) (λ b o ep. fsplit ! $
      use1 𝓛 (some (λ (w : Val). ‵ (fat full_share (τ E) b o w) ⊛ ‵ (own E n (w ∷ [])))) (part_out 𝓛 (R E) refl full_share n b o) $ pick !
      (λ w. split ! $
      -- [the node's cell; what the old node owns; the token; the others; the mark; its cell; the open borrow; obs; auth; what the new node owns]
      take_at ! 2 $ rewrite ! 0 (λ (p : Ptr). ‵ (fat full_share (layout Pl) (l 2) 0 (word p))) ep refl $ give_at ! 2 $
      first ! $ blocks ! $ assigns_last ! (of_opd ! (get ! refl)) (from ! (fld ! refl (hop ! (look_in_at ! 2 (sub ! 0 refl (whole !))) (stop !))))
      (store ! 0 refl good) $
      exec ! C Λ En (after 1 function.body) (at_ret En Post) $ sets ! (of_opd ! (unit_lit !)) refl (tt, tt) $
      move ! (0 ∷ 9 ∷ []) $ use2 𝓛 (‵ (part_at (R E) full_share node b o)) (part_in 𝓛 (R E) refl full_share node b o v) $
      -- [the node; what the old node owns; the token; the others; the mark; ..]
      move ! (0 ∷ 2 ∷ []) $ fjoin ! $ use1 𝓛 (‵ (block_owns (block_ptr b o, node))) (id⊢ 𝓤 _) $
      rewrite ! 0 (λ (p : Ptr). ‵ (block_owns (p, node))) (sym ep) refl $
      move ! (0 ∷ 2 ∷ []) $ use2 𝓛 (‵ (blocks_own new.blocks)) (own_glue 𝓛 at.ptr d.blocks n node d.apart there.1) $
      -- [all nodes; what the old node owns; the mark; its cell; ..]
      move ! (2 ∷ 0 ∷ []) $ fjoin ! $ move ! (2 ∷ 0 ∷ 3 ∷ 4 ∷ 5 ∷ []) $ closes ! tt Ns new vs rb ro $
      returns ! (look_at ! 0 refl) $ free_all ! refl $ keep ! (0 ∷ 1 ∷ 2 ∷ []) $ feq_i ! (List Val) (vunit ∷ []) (vunit ∷ []) refl
      $ move ! (1 ∷ 2 ∷ 3 ∷ 0 ∷ []) $
      by ! (exits passed new refl)))))

  entry : has_place at.ptr d.blocks ≡ true → ent 𝓤 (on_entry 𝓛 F.signature (κ, tt) (q, tt) (self, (at, (node, tt))) (us0, (us1, (us2, tt))))
      (WpFn 𝓤 H C Λ function (us0 ++ (us1 ++ (us2 ++ []))) Post)
  entry asked =
      qed 𝓛 ((‵ (flft κ q) ⊛ ‵ ftrue) ∷ ‵ (owns (MutRef (named 0) κ Ns ∷ Pl ∷ T ∷ []) (self, (at, (node, tt))) (us0, (us1, (us2, tt)))) ∷ []) ∵
      split ! $ move ! (2 ∷ []) $ fsplit ! $ fsplit3 ! $ feq_l ! (λ e0. move ! (2 ∷ []) $ fsplit ! $ word_had ! at.ptr us1
      (λ e1. fsplit ! $ el_tells E ! node us2 (λ v e2 good. keep ! (2 ∷ 3 ∷ 4 ∷ 0 ∷ []) $
      by ! (subst (λ (ws : List Val × List Val × List Val). ent 𝓤 (⋆ 𝓛 (Had v)) (WpFn 𝓤 H C Λ function (ws.0 ++ (ws.1 ++ (ws.2 ++ []))) Post))
      (λ j. (sym e0 j, sym e1 j, sym e2 j)) (walk e0 asked v good)))))

pub set_spec : {M : Type 1} → stated.statement M
unfolding tables_of
set_spec 𝓤 𝓛 𝓜 𝓡 wired =
    let 𝓣 : Tables 𝓤 𝓛.H = tables_of 𝓤 𝓛.H 𝓜 (tables 𝓤 𝓛.H 𝓜 𝓡 𝓡.env) in
    entered 𝓤 𝓛.H (triple_of 𝓛 F.signature (F.spec 𝓛 𝓜.mem 𝓡.returns)) 𝓣.C 𝓣.Λ #self function (code.unfolded 𝓤 𝓛.H 𝓜 𝓡 wired)
    (walk_Meets 𝓛 F.ended stayed (
      Goes-ref 𝓛 1 0 tt (plain (λ _. Ns)),
      (
        Goes-dropped 𝓛 1 (plain (λ _. Pl)) (F.ended).kept.1.0 (λ κs x f. refl),
        (Goes-dropped 𝓛 1 (plain (λ _. T)) (F.ended).kept.1.1.0 (λ κs x f. refl), tt),
      ),
    )
    (F.clauses 𝓛 𝓜.mem 𝓡.returns) (WpFn 𝓤 𝓛.H 𝓣.C 𝓣.Λ function) (WpFn-mono 𝓤 𝓛.H 𝓛.laws 𝓣 function)
    (λ z. needs 𝓤 (has_place z.0.3.1.0.ptr z.0.3.0.now.blocks ≡ true) _
    (entry 𝓛 𝓜.mem 𝓡.returns 𝓣.C 𝓣.Λ z.0.0.0 z.0.1.0 z.0.3.0.ref_ptr.0 z.0.3.0.ref_ptr.1 z.0.3.0.ghost_name z.0.3.0.now z.0.3.1.0 z.0.3.1.1.0
    z.0.4.0 z.0.4.1.0 z.0.4.1.1.0)))
