-- `put` takes over what the box owned, which lies apart from the other nodes. Assumes `Logic`.
use mathlib.Core.Path.{◌≡◌, refl, sym, subst}
use Prim.Native.Nat.{ℕ}
use mathlib.Core.List.{List, [], ◌∷◌, ◌++◌}
use seplogic.Ra.Ura.{Ura}
use mir.Syntax.{Fn, named}
use mir.Val.{Val, vptr}
use base.Logic.{SProp, ent, emp, id⊢, via, fst∗}
use base.Fml.{Lft, GName, Share, ftrue, flft, fobs, fbor}
use prog.Memory.{Memory}
use prog.Model.{Model}
use prog.Routine.{Routine}
use prog.Wp.{Calls, Loops, WpFn, Tables}
use types.Logic.{Logic}
use contract.Monad.{Fun}
use contract.Running.{tables, tables_of}
use sound.WpLaws.{WpFn-mono}
use types.Kit.{Item, ⋆, ‵, ◌⊛◌, ◌$◌, ◌∵◌, !, qed, by, move, keep, use1, use2, split, join, fsplit, fsplit3, fjoin, fjoin3, feq_i, feq_l, suffices, frame, done}
use types.Part.{whole, sub, agg}
use types.Run.{stop, fld, of_opd, and_then, no_more, returns, enter}
use types.ByLocal.{alloc_all, pass_all, free_all, look_at, get, get_in, sets}
use types.SemTy.{Body as Borrowed}
use denote.RattleType.{owns}
use denote.Memory.{mem}
use denote.RawPtr.{Ptr, block_ptr}
use denote.Ref.{MutBor, MutRef}
use denote.Signature.{plain}
use denote.Steps.{nothing, opens, closes}
use denote.Triple.Entry.{on_entry}
use denote.Triple.Spec.{triple_of}
use denote.Triple.Table.{entered}
use denote.Triple.Walked.{says, Stays, stay_dropped, stay_ref, walk_of, ends_at, Goes-ref, walk_Meets}
use Rattle.core.proofs.alloc.Calls.{Fits, Goes-blank}
use Rattle.std_alloc.proofs.RcSteps.{word, word-Good}
use Rattle.std_alloc.proofs.BoxSteps.Form as box
use Rattle.std_alloc.proofs.BoxSteps.Steps.{box_out}
use Rattle.std_heap.specs.contracts.Global as Heap
use Rattle.std_heap.specs.contracts.GlobalAllocator.TheImpl.{ghosts}
use Rattle.av_chain.specs.Nodes.{Block}
use Rattle.av_chain.specs.Ownership.{block_owns, blocks_own}
use Rattle.av_chain.specs.contracts.node.Node.{the_row as T}
use Rattle.av_chain.specs.contracts.node.Place.{the_row as Pl}
use Rattle.av_chain.specs.contracts.parts.Parts as parts
use Rattle.av_chain.specs.contracts.nodes.Nodes.{the_row as Ns}
use Rattle.av_chain.proofs.AsBox.{E}
use Rattle.av_chain.proofs.Apart.{IsFresh, apart_push}
use Rattle.av_chain.proofs.Memory.{word_made}
use Rattle.av_chain.proofs.Owned.{knows, fresh, own_push}
use Rattle.av_chain.specs.contracts.nodes.Nodes.put as F
use Rattle.av_chain.specs.contracts.nodes.Nodes.put.Key.{name as #self}
use Rattle.av_chain.proofs.nodes.Nodes.put.Statement as stated
use Rattle.av_chain.proofs.nodes.Nodes.put.Code as code

abbrev function : Fn
function = code.function

abbrev Pr : denote.RattleType.RattleType
Pr = parts.the_row T Heap.the_row ghosts

abbrev stayed : Stays (F.ended).signature.params (F.ended).kept
stayed = (stay_ref (0 ∷ []) tt (plain (λ _. Ns)), (stay_dropped (plain (λ _. Pr)) (F.ended).kept.1.0, tt))

module _ {M : Type 1} {𝓤 : Ura M} (𝓛 : Logic 𝓤) (𝓜 : Model 𝓤 𝓛.H) (at_mem : Memory → SProp 𝓤) (run : Routine → Fun 𝓤) (C : Calls 𝓤 𝓛.H)
    (Λ : Loops 𝓤 𝓛.H)
    (κ : Lft) (q : Share) (rb ro : ℕ) (γ : GName) (d : Ns.Denot) (node : Pr.Denot) (us0 us1 : List Val) where
  open 𝓛 use {H, A}

  abbrev self : MutBor Ns.Denot
  self = record { ref_ptr = (rb, ro); ghost_name = γ; now = d }

  abbrev bound : (walk_of 𝓛 F.ended stayed (F.clauses 𝓛 at_mem run)).Ghost
  bound = (((κ, tt), (q, tt), tt, (self, (node, tt)), (us0, (us1, tt))), tt)

  abbrev Post : Val → SProp 𝓤
  Post = (walk_of 𝓛 F.ended stayed (F.clauses 𝓛 at_mem run)).post bound

  exits : us0 ≡ vptr rb ro ∷ [] → (r : Pl.Denot) (v : Val) (new : Ns.Denot) → new.blocks ≡ d.blocks ++ (r.ptr, node.value) ∷ []
      → ent 𝓤 (⋆ 𝓛 (‵ (fobs γ (Ns.coded.code new)) ∷ ‵ (fbor κ (Borrowed (mem Ns) rb ro γ)) ∷ ‵ (flft κ q) ∷ ‵ (Pl.own_val r (v ∷ [])) ∷ [])) (Post v)
  exits passed r v new g0 =
      qed 𝓛 (‵ (fobs γ (Ns.coded.code new)) ∷ ‵ (fbor κ (Borrowed (mem Ns) rb ro γ)) ∷ ‵ (flft κ q) ∷ ‵ (Pl.own_val r (v ∷ [])) ∷ []) ∵
      suffices ! _ (ends_at 𝓛 F.ended stayed (F.clauses 𝓛 at_mem run) bound v r (new, (tt, tt)) (tt, (tt, tt))) $ says ! g0 $
      nothing ! $ move ! (3 ∷ 0 ∷ []) $ join ! $ frame ! $ feq_i ! (List Val) us0 (vptr rb ro ∷ []) passed $ fjoin3 ! $ nothing ! $
      nothing ! $ fjoin ! $
      move ! (1 ∷ 0 ∷ []) $ fjoin ! $ done !

  abbrev Had : ℕ → ℕ → List (Item 𝓤)
  Had b o = ‵ (fobs γ (Ns.coded.code d)) ∷ ‵ (fbor κ (Borrowed (mem Ns) rb ro γ)) ∷ ‵ (flft κ q) ∷ ‵ (block_owns (block_ptr b o, node.value)) ∷ []

  walk : us0 ≡ vptr rb ro ∷ [] → (b o : ℕ) (hv : Val) → node.ptr ≡ block_ptr b o → Fits E.al hv →
      ent 𝓤 (⋆ 𝓛 (Had b o)) (WpFn 𝓤 H C Λ function (vptr rb ro ∷ box.word E hv b o ∷ []) Post)
  walk passed b o hv at fa =
      let p : Ptr = block_ptr b o in
      let new_block : Block = (p, node.value) in
      let out : Pl.Denot = record { ptr = p } in
      qed 𝓛 (Had b o) ∵ enter ! C Λ function (vptr rb ro ∷ box.word E hv b o ∷ []) _ $
      alloc_all ! (λ l. pass_all ! refl ((tt, tt), (box.box_typed E hv b o fa, tt)) $
      opens ! tt Ns {h = d} rb ro (λ vs. move ! (1 ∷ []) $ fsplit ! $ move ! (6 ∷ 1 ∷ []) $
      knows ! (IsFresh p d.blocks) (fresh 𝓛 𝓜 p node.value d.blocks) (λ free.
      let new : Ns.Denot = record { mark = d.mark; blocks = d.blocks ++ new_block ∷ []; apart = apart_push d.blocks new_block free d.apart } in
      move ! (1 ∷ 0 ∷ []) $ use2 𝓛 (‵ (blocks_own new.blocks)) (own_push 𝓛 d.blocks new_block) $
      sets ! (of_opd ! (get_in ! (fld ! refl (stop !)) (sub ! 0 refl (whole !)))) refl (tt, tt) $
      sets ! (agg ! (and_then ! (get ! refl) (no_more !))) refl (word-Good [] p) $
      move ! (1 ∷ 0 ∷ []) $ fjoin ! $ move ! (1 ∷ 0 ∷ []) $ closes ! tt Ns new vs rb ro $
      returns ! (look_at ! 0 refl) $ free_all ! refl $ keep ! (0 ∷ 1 ∷ 2 ∷ []) $ word_made ! p $ move ! (1 ∷ 2 ∷ 3 ∷ 0 ∷ []) $
      by ! (exits passed out (word p) new refl))))

  entry : ent 𝓤 (on_entry 𝓛 F.signature (κ, tt) (q, tt) (self, (node, tt)) (us0, (us1, tt))) (WpFn 𝓤 H C Λ function (us0 ++ (us1 ++ [])) Post)
  entry =
      let v : box.D E = record { ptr = node.ptr; alloc = node.alloc; value = node.value } in
      qed 𝓛 ((‵ (flft κ q) ⊛ ‵ ftrue) ∷ ‵ (owns (MutRef (named 0) κ Ns ∷ Pr ∷ []) (self, (node, tt)) (us0, (us1, tt))) ∷ []) ∵
      split ! $ move ! (2 ∷ []) $ fsplit ! $ fsplit3 ! $ feq_l ! (λ e0. move ! (2 ∷ []) $ fsplit ! $ use1 𝓛 (‵ ((box.B E).own_val v us1)) (id⊢ 𝓤 _) $
      box_out E ! v us1 (λ b o hv at e1 fa. fjoin ! $ use1 𝓛 (‵ (block_owns (block_ptr b o, node.value))) (id⊢ 𝓤 _) $ keep ! (3 ∷ 4 ∷ 5 ∷ 0 ∷ []) $
      by ! (subst (λ (ws : List Val × List Val). ent 𝓤 (⋆ 𝓛 (Had b o)) (WpFn 𝓤 H C Λ function (ws.0 ++ (ws.1 ++ [])) Post))
      (λ j. (sym e0 j, sym e1 j)) (walk e0 b o hv at fa))))

pub put_spec : {M : Type 1} → stated.statement M
unfolding tables_of
put_spec 𝓤 𝓛 𝓜 𝓡 wired =
    let 𝓣 : Tables 𝓤 𝓛.H = tables_of 𝓤 𝓛.H 𝓜 (tables 𝓤 𝓛.H 𝓜 𝓡 𝓡.env) in
    entered 𝓤 𝓛.H (triple_of 𝓛 F.signature (F.spec 𝓛 𝓜.mem 𝓡.returns)) 𝓣.C 𝓣.Λ #self function (code.unfolded 𝓤 𝓛.H 𝓜 𝓡 wired)
    (walk_Meets 𝓛 F.ended stayed (Goes-ref 𝓛 1 0 tt (plain (λ _. Ns)), (Goes-blank 𝓛 1 (plain (λ _. Pr)) (F.ended).kept.1.0 (λ κs x f. tt), tt))
    (F.clauses 𝓛 𝓜.mem 𝓡.returns) (WpFn 𝓤 𝓛.H 𝓣.C 𝓣.Λ function) (WpFn-mono 𝓤 𝓛.H 𝓛.laws 𝓣 function)
    (λ z. via 𝓤 _ (fst∗ 𝓤 _ (emp 𝓤)) (entry 𝓛 𝓜 𝓜.mem 𝓡.returns 𝓣.C 𝓣.Λ z.0.0.0 z.0.1.0 z.0.3.0.ref_ptr.0 z.0.3.0.ref_ptr.1 z.0.3.0.ghost_name
    z.0.3.0.now z.0.3.1.0 z.0.4.0 z.0.4.1.0)))
