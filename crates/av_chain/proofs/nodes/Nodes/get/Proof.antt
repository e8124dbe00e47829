-- `get` lends what the owner shares of the node. Assumes `Logic`.
use mathlib.Core.Path.{◌≡◌, refl, sym, subst}
use mathlib.Core.Bool.{true}
use Prim.Native.Nat.{ℕ}
use mathlib.Core.List.{List, [], ◌∷◌, ◌++◌}
use seplogic.Ra.Ura.{Ura}
use base.Fraction.{full_share}
use mir.Syntax.{Fn, named}
use mir.Val.{Val, vptr}
use base.Logic.{SProp, ent}
use base.Fml.{Lft, Share, Fml, ftrue, fat, flft}
use prog.Memory.{Memory}
use prog.Routine.{Routine}
use prog.Wp.{Env, Calls, Loops, WpFn, Tables}
use types.Logic.{Logic}
use contract.Monad.{Fun}
use contract.Running.{tables, tables_of}
use sound.WpLaws.{WpFn-mono}
use types.Kit.{Item, ⋆, ‵, ◌⊛◌, at_ret, ◌$◌, ◌∵◌, !, qed, by, move, keep, drop, use1, split, join, rewrite, fsplit, fjoin, feq_i, feq_l, suffices, frame, done}
use types.Part.{whole, sub}
use types.Run.{stop, hop, fld, from, of_opd, addr, first, blocks, exec, returns, enter}
use types.ByLocal.{alloc_all, pass_all, free_all, look_at, look_in_at, get, sets, sets_last, env, take_at, give_at}
use denote.RattleType.{owns}
use denote.Memory.{hidden_shr}
use denote.Param.{layout}
use denote.RawPtr.{Ptr, null_ptr, in_a_block}
use denote.Ref.{Bor, ShrRef}
use denote.Builtin.{RefOf}
use denote.Signature.{plain}
use denote.Opens.{hide, unhide}
use denote.Steps.{nothing}
use denote.Struct.Lending.{lent_at}
use denote.Triple.Entry.{on_entry}
use denote.Triple.Spec.{triple_of}
use denote.Triple.Table.{entered}
use denote.Triple.Walked.{says, needs, Stays, stay_dropped, walk_of, ends_at, Goes-dropped, walk_Meets}
use Rattle.std.specs.Prelude.{Some}
use Rattle.std_alloc.proofs.VecSteps.Shapes.{after}
use Rattle.std_alloc.proofs.RcSteps.{word, word-Good}
use Rattle.av_chain.specs.Nodes.{found, has_place}
use Rattle.av_chain.specs.contracts.node.Node.{the_row as T}
use Rattle.av_chain.specs.contracts.node.Place.{the_row as Pl}
use Rattle.av_chain.specs.contracts.nodes.Nodes.{the_row as Ns}
use Rattle.av_chain.proofs.Memory.{word_had, node_at, seen_at}
use Rattle.av_chain.specs.contracts.nodes.Nodes.get as F
use Rattle.av_chain.specs.contracts.nodes.Nodes.get.Key.{name as #self}
use Rattle.av_chain.proofs.nodes.Nodes.get.Statement as stated
use Rattle.av_chain.proofs.nodes.Nodes.get.Code as code

abbrev function : Fn
function = code.function

abbrev stayed : Stays (F.ended).signature.params (F.ended).kept
stayed = (stay_dropped _ _, (stay_dropped _ _, tt))

abbrev Out : Lft → denote.RattleType.RattleType
Out κ = ShrRef (named 0) κ T

module _ {M : Type 1} {𝓤 : Ura M} (𝓛 : Logic 𝓤) (at_mem : Memory → SProp 𝓤) (run : Routine → Fun 𝓤) (C : Calls 𝓤 𝓛.H) (Λ : Loops 𝓤 𝓛.H)
    (κ : Lft) (q : Share)
    (rb ro : ℕ) (d : Ns.Denot) (at : Pl.Denot) (us0 us1 : List Val) where
  open 𝓛 use {H, A}

  abbrev self : Bor Ns.Denot
  self = record { ref_ptr = (rb, ro); now = d }

  abbrev bound : (walk_of 𝓛 F.ended stayed (F.clauses 𝓛 at_mem run)).Ghost
  bound = (((κ, tt), (q, tt), tt, (self, (at, tt)), (us0, (us1, tt))), tt)

  abbrev Post : Val → SProp 𝓤
  Post = (walk_of 𝓛 F.ended stayed (F.clauses 𝓛 at_mem run)).post bound

  exits : (r : Bor T.Denot) (v : Val) → found at.ptr d.blocks ≡ Some r.now → ent 𝓤 (⋆ 𝓛 (‵ (flft κ q) ∷ ‵ ((Out κ).own_val r (v ∷ [])) ∷ [])) (Post v)
  exits r v g0 =
      qed 𝓛 (‵ (flft κ q) ∷ ‵ ((Out κ).own_val r (v ∷ [])) ∷ []) ∵
      suffices ! _ (ends_at 𝓛 F.ended stayed (F.clauses 𝓛 at_mem run) bound v r (tt, (tt, tt)) (tt, (tt, tt))) $ says ! g0 $
      nothing ! $ move ! (1 ∷ 0 ∷ []) $ join ! $ frame ! $ nothing ! $ nothing ! $ fjoin ! $ nothing ! $ fjoin ! $ done !

  abbrev Had : List (Item 𝓤)
  Had = ‵ (hidden_shr Ns κ d rb ro) ∷ ‵ (flft κ q) ∷ []

  walk : has_place at.ptr d.blocks ≡ true → ent 𝓤 (⋆ 𝓛 Had) (WpFn 𝓤 H C Λ function (vptr rb ro ∷ word at.ptr ∷ []) Post)
  walk asked =
      let there = node_at at.ptr d.blocks asked in
      let n : T.Denot = there.0 in
      let Lent : Ptr → Fml = λ p. lent_at T p n κ in
      qed 𝓛 Had ∵ enter ! C Λ function (vptr rb ro ∷ word at.ptr ∷ []) _ $ alloc_all ! (λ l. pass_all ! refl ((tt, tt), (word-Good [] at.ptr, tt)) $
      let En : Env 𝓤 H = env function.locals l in
      unhide ! $ fsplit ! $ drop ! $
      use1 𝓛 (‵ (Lent at.ptr)) (seen_at 𝓛 κ at.ptr d.blocks n there.1) $
      in_a_block ! at.ptr Lent (qed 𝓛 (‵ (Lent null_ptr) ∷ []) ∵ fsplit ! $ keep ! (0 ∷ []) $ done !) (λ pb po ep.
      let out : Bor T.Denot = record { ref_ptr = (pb, po); now = n } in
      let v : Val = vptr pb po in
      take_at ! 2 $ rewrite ! 0 (λ (p : Ptr). ‵ (fat full_share (layout Pl) (l 2) 0 (word p))) ep refl $ give_at ! 2 $
      first ! $ blocks ! $ sets_last ! (addr ! (from ! (fld ! refl (hop ! (look_in_at ! 2 (sub ! 0 refl (whole !))) (stop !))))) refl (tt, tt) $
      exec ! C Λ En (after 1 function.body) (at_ret En Post) $ sets ! (of_opd ! (get ! refl)) refl (tt, tt) $
      fsplit ! $ drop ! $ hide ! $ feq_i ! (List Val) (v ∷ []) (v ∷ []) refl $ fjoin ! $
      returns ! (look_at ! 0 refl) $ free_all ! refl $ keep ! (1 ∷ 0 ∷ []) $
      by ! (exits out v there.1)))

  entry : has_place at.ptr d.blocks ≡ true → ent 𝓤 (on_entry 𝓛 F.signature (κ, tt) (q, tt) (self, (at, tt)) (us0, (us1, tt)))
      (WpFn 𝓤 H C Λ function (us0 ++ (us1 ++ [])) Post)
  entry asked =
      qed 𝓛 ((‵ (flft κ q) ⊛ ‵ ftrue) ∷ ‵ (owns (ShrRef (named 0) κ Ns ∷ Pl ∷ []) (self, (at, tt)) (us0, (us1, tt))) ∷ []) ∵
      split ! $ move ! (2 ∷ []) $ fsplit ! $ fsplit ! $ feq_l ! (λ e0. move ! (1 ∷ []) $ fsplit ! $ word_had ! at.ptr us1 (λ e1. keep ! (1 ∷ 2 ∷ []) $
      by ! (subst (λ (ws : List Val × List Val). ent 𝓤 (⋆ 𝓛 Had) (WpFn 𝓤 H C Λ function (ws.0 ++ (ws.1 ++ [])) Post))
      (λ j. (sym e0 j, sym e1 j)) (walk asked))))

pub get_spec : {M : Type 1} → stated.statement M
unfolding tables_of
get_spec 𝓤 𝓛 𝓜 𝓡 wired =
    let 𝓣 : Tables 𝓤 𝓛.H = tables_of 𝓤 𝓛.H 𝓜 (tables 𝓤 𝓛.H 𝓜 𝓡 𝓡.env) in
    entered 𝓤 𝓛.H (triple_of 𝓛 F.signature (F.spec 𝓛 𝓜.mem 𝓡.returns)) 𝓣.C 𝓣.Λ #self function (code.unfolded 𝓤 𝓛.H 𝓜 𝓡 wired)
    (walk_Meets 𝓛 F.ended stayed (
      Goes-dropped 𝓛 1 (RefOf (0 ∷ []) tt (plain (λ _. Ns)) (λ _. tt)) (F.ended).kept.0 (λ κs x f. refl),
      (Goes-dropped 𝓛 1 (plain (λ _. Pl)) (F.ended).kept.1.0 (λ κs x f. refl), tt),
    ) (F.clauses 𝓛 𝓜.mem 𝓡.returns) (WpFn 𝓤 𝓛.H 𝓣.C 𝓣.Λ function)
    (WpFn-mono 𝓤 𝓛.H 𝓛.laws 𝓣 function)
    (λ z. needs 𝓤 (has_place z.0.3.1.0.ptr z.0.3.0.now.blocks ≡ true) _
    (entry 𝓛 𝓜.mem 𝓡.returns 𝓣.C 𝓣.Λ z.0.0.0 z.0.1.0 z.0.3.0.ref_ptr.0 z.0.3.0.ref_ptr.1 z.0.3.0.now z.0.3.1.0 z.0.4.0 z.0.4.1.0)))
