-- `nowhere` makes a null pointer. Assumes `Logic`.
use mathlib.Core.Path.{refl}
use mathlib.Core.List.{[], ◌∷◌}
use seplogic.Ra.Ura.{Ura}
use base.Logic.{SProp, ent, emp, via, fst∗}
use base.Fml.{ftrue}
use prog.Memory.{Memory}
use prog.Routine.{Routine}
use prog.Wp.{WpFn, Tables}
use types.Logic.{Logic}
use contract.Monad.{Fun}
use contract.Running.{tables, tables_of}
use sound.WpLaws.{WpFn-mono}
use types.Kit.{‵, ◌$◌, ◌∵◌, !, qed, keep, join, suffices, done}
use types.Part.{agg}
use types.Run.{and_then, no_more, lit, returns, enter}
use types.ByLocal.{alloc_all, pass_all, free_all, look_at, sets}
use denote.RawPtr.{null_ptr}
use denote.Steps.{nothing}
use denote.Triple.Entry.{on_entry}
use denote.Triple.Spec.{triple_of}
use denote.Triple.Table.{entered}
use denote.Triple.Walked.{says, Stays, walk_of, ends_at, walk_Meets}
use Rattle.std.proofs.Common.{lit<}
use Rattle.std_alloc.proofs.RcSteps.{word}
use Rattle.av_chain.specs.Rows.{nowhere}
use Rattle.av_chain.proofs.Memory.{word_made}
use Rattle.av_chain.specs.contracts.node.nowhere as F
use Rattle.av_chain.specs.contracts.node.nowhere.Key.{name as #self}
use Rattle.av_chain.proofs.node.nowhere.Statement as stated
use Rattle.av_chain.proofs.node.nowhere.Code as code

abbrev stayed : Stays (F.ended).signature.params (F.ended).kept
stayed = tt

module _ {M : Type 1} {𝓤 : Ura M} (𝓛 : Logic 𝓤) (at_mem : Memory → SProp 𝓤) (run : Routine → Fun 𝓤) (𝓣 : Tables 𝓤 𝓛.H) where
  open 𝓛 use {H}

  abbrev bound : (walk_of 𝓛 F.ended stayed (F.clauses 𝓛 at_mem run)).Ghost
  bound = ((tt, tt, tt, tt, tt), tt)

  walk : ent 𝓤 (on_entry 𝓛 F.signature tt tt tt tt)
      (WpFn 𝓤 H 𝓣.C 𝓣.Λ code.function [] ((walk_of 𝓛 F.ended stayed (F.clauses 𝓛 at_mem run)).post bound))
  walk =
      qed 𝓛 (‵ ftrue ∷ ‵ ftrue ∷ []) ∵ enter ! 𝓣.C 𝓣.Λ code.function [] _ $ alloc_all ! (λ l. pass_all ! refl tt $
      sets ! (agg ! (and_then ! (lit ! tt) (no_more !))) refl (tt, (record { fits = lit< tt }, tt)) $
      returns ! (look_at ! 0 refl) $ free_all ! refl $ word_made ! null_ptr $
      keep ! (0 ∷ []) $
      suffices ! _ (ends_at 𝓛 F.ended stayed (F.clauses 𝓛 at_mem run) bound (word null_ptr) nowhere tt tt) $ says ! refl $ nothing ! $ join ! $ nothing ! $
      join ! $ done !)

pub nowhere_spec : {M : Type 1} → stated.statement M
unfolding tables_of
nowhere_spec 𝓤 𝓛 𝓜 𝓡 wired =
    let 𝓣 : Tables 𝓤 𝓛.H = tables_of 𝓤 𝓛.H 𝓜 (tables 𝓤 𝓛.H 𝓜 𝓡 𝓡.env) in
    entered 𝓤 𝓛.H (triple_of 𝓛 F.signature (F.spec 𝓛 𝓜.mem 𝓡.returns)) 𝓣.C 𝓣.Λ #self code.function (code.unfolded 𝓤 𝓛.H 𝓜 𝓡 wired)
    (walk_Meets 𝓛 F.ended stayed tt (F.clauses 𝓛 𝓜.mem 𝓡.returns) (WpFn 𝓤 𝓛.H 𝓣.C 𝓣.Λ code.function) (WpFn-mono 𝓤 𝓛.H 𝓛.laws 𝓣 code.function)
    (λ z. via 𝓤 _ (fst∗ 𝓤 _ (emp 𝓤)) (walk 𝓛 𝓜.mem 𝓡.returns 𝓣)))
