use Rattle.std.proofs.Common.{◌∷◌, [], true, false}
use Rattle.av_trace.specs.declared.note.Note.TheVariants.{Dropped}
use Rattle.av_evict.specs.System.{Adds}
use Rattle.av_evict.specs.Steps.{MayDrop}
use Rattle.av_evict.specs.Turn.{IsCleaned, IsEvicted, IsSentTo}
use Rattle.av_evict.proofs.SystemLaws.{gives-at, gives-then}
use Rattle.av_evict.proofs.TurnLaws.{cleaned-may_drop, evicted-some}
use Rattle.av_evict.proofs.turn.evict.Goals as goal

pub drop_slot-requires : goal.drop_slot-requires
drop_slot-requires g c =
    let k = g.S.System.view c.args.system.now false in
    let s = c.args.slot in
    let f = c.args.frame in
    gives-at _ _ _ _ (IsSentTo f s) (MayDrop f s) (IsCleaned s false) c.requires (rw c.if-failed.false at (c.in_ok-failed.ensures.gives false))
    (λ l ns sound at clean after. cleaned-may_drop k.setting l f s ns at clean after)

pub returns-then-failed-clause-gives : goal.returns-then-failed-clause-gives
returns-then-failed-clause-gives g c = λ told. rw c.if-failed.true at (c.in_ok-failed.ensures.gives told)

pub returns-clause-gives : goal.returns-clause-gives
returns-clause-gives g c = λ told.
    let k = g.S.System.view c.args.system.now told in
    let s = c.args.slot in
    let f = c.args.frame in
    gives-then _ _ _ _ _ _ (IsSentTo f s) (MayDrop f s) (IsCleaned s false) (Adds (Dropped s ∷ [])) (IsEvicted s true)
    (rw c.if-failed.false at (c.in_ok-failed.ensures.gives told)) (c.in_ok-drop_slot.ensures.gives told)
    (λ l ns sound at clean after. cleaned-may_drop k.setting l f s ns at clean after)
    (λ l ns ms sound at clean is. evicted-some l s ns ms clean is)
