use Rattle.std.proofs.Common.{◌∷◌, [], Some, None, false}
use Rattle.av_trace.specs.declared.note.Note.TheVariants.{Started}
use Rattle.av_plain.specs.Pass.{end_note}
use Rattle.av_evict.specs.System.{Adds, Always}
use Rattle.av_evict.specs.Steps.{EndsFirst, MayStart}
use Rattle.av_evict.specs.Turn.{IsSentTo}
use Rattle.av_evict.proofs.SystemLaws.{gives-as, gives-at, gives-then}
use Rattle.av_evict.proofs.TurnLaws.{write-both, write-may_start, write-no_end}
use Rattle.av_evict.proofs.turn.write.Goals as goal

pub start-requires : goal.start-requires
start-requires g c = let at = c.requires in (at.0, at.1, at.2, write-may_start at.0 c.args.frame c.args.slot at.3)

pub finish_first-requires : goal.finish_first-requires
finish_first-requires g c =
    let f = c.args.frame in
    let s = c.args.slot in
    gives-at _ _ _ _ (MayStart f s) Always (Adds (Started s ∷ []))
    (let at = c.requires in (at.0, at.1, at.2, write-may_start at.0 f s at.3)) (c.in_ok-start.ensures.gives false)
    (λ l ns sound ready is after. tt)

pub unreachable-requires : goal.unreachable-requires
unreachable-requires g c =
    let f = c.args.frame in
    let s = c.args.slot in
    let at = c.requires in
    let ends = gives-then _ _ _ _ _ _ (IsSentTo f s) Always (Adds (Started s ∷ [])) (EndsFirst None) (λ l ns. ⊥)
    (gives-as _ _ _ _ (MayStart f s) (IsSentTo f s) (Adds (Started s ∷ [])) (Adds (Started s ∷ [])) (c.in_ok-start.ensures.gives false)
    (λ l sound stands may. write-may_start l f s may) (λ l ns sound stands may is. is))
    (rw c.in_default.is at (c.in_ok-end.ensures.gives false))
    (λ l ns sound ready is after. tt)
    (λ l ns ms sound may is ends. write-no_end l f s ns ms may is ends) in
    (ends at.0 at.1 at.2 at.3).2

pub returns-clause-gives : goal.returns-clause-gives
returns-clause-gives g c = λ told.
    let f = c.args.frame in
    let s = c.args.slot in
    let end = c.in-Some.end in
    gives-then _ _ _ _ _ _ (IsSentTo f s) Always (Adds (Started s ∷ [])) (EndsFirst (Some end)) (Adds (Started s ∷ end_note end.failed s ∷ []))
    (gives-as _ _ _ _ (MayStart f s) (IsSentTo f s) (Adds (Started s ∷ [])) (Adds (Started s ∷ [])) (c.in_ok-start.ensures.gives told)
    (λ l sound stands may. write-may_start l f s may) (λ l ns sound stands may is. is))
    (rw c.in-Some.is at (c.in_ok-end.ensures.gives told))
    (λ l ns sound ready is after. tt)
    (λ l ns ms sound may is ends. write-both l f s end ns ms may is ends)
