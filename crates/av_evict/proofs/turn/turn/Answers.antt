use Rattle.std.proofs.Common.{Some, None, false}
use Rattle.av_evict.specs.Turn.{IsEvicted, IsSentTo, IsTurn, MayTurnNow}
use Rattle.av_evict.specs.Steps.{IsSent, MaySend}
use Rattle.av_evict.proofs.SystemLaws.{gives-as, gives-at, gives-then}
use Rattle.av_evict.proofs.TurnLaws.{sent-to, turn-both, turn-none}
use Rattle.av_evict.proofs.turn.turn.Goals as goal

pub send-requires-clause-may : goal.send-requires-clause-may
send-requires-clause-may g c = let at = c.requires.may in (at.0, at.1, at.2, at.3.send)

pub evict-requires : goal.evict-requires
evict-requires g c =
    let k = g.S.System.view c.args.system.now false in
    let f = c.args.frame in
    let s = c.in-Some.slot in
    let at = c.requires.may in
    gives-at _ _ _ _ (MayTurnNow f) (IsSentTo f s) (IsSent k.setting k.closing f (Some s)) at
    (gives-as _ _ _ _ (MaySend f) (MayTurnNow f) (IsSent k.setting k.closing f (Some s)) (IsSent k.setting k.closing f (Some s))
    (rw c.in-Some.is at (c.in_ok-slot.ensures.gives false)) (λ l sound stands may. may.send) (λ l ns sound stands may is. is))
    (λ l ns sound may sent after. sent-to k.setting k.closing l f s ns sound may sent)

pub returns-in_default-clause-gives : goal.returns-in_default-clause-gives
returns-in_default-clause-gives g c = λ told.
    let k = g.S.System.view c.args.system.now told in
    let f = c.args.frame in
    gives-as _ _ _ _ (MaySend f) (MayTurnNow f) (IsSent k.setting k.closing f None) (IsTurn k.setting k.closing f false)
    (rw c.in_default.is at (c.in_ok-slot.ensures.gives told)) (λ l sound stands may. may.send)
    (λ l ns sound stands may is. turn-none k.setting k.closing l f ns is)

pub returns-clause-gives : goal.returns-clause-gives
returns-clause-gives g c = λ told.
    let k = g.S.System.view c.args.system.now told in
    let f = c.args.frame in
    let s = c.in-Some.slot in
    let freed = c.in_ok-freed.freed in
    gives-then _ _ _ _ _ _ (MayTurnNow f) (IsSentTo f s) (IsSent k.setting k.closing f (Some s)) (IsEvicted s freed) (IsTurn k.setting k.closing f freed)
    (gives-as _ _ _ _ (MaySend f) (MayTurnNow f) (IsSent k.setting k.closing f (Some s)) (IsSent k.setting k.closing f (Some s))
    (rw c.in-Some.is at (c.in_ok-slot.ensures.gives told)) (λ l sound stands may. may.send) (λ l ns sound stands may is. is))
    (c.in_ok-freed.ensures.gives told)
    (λ l ns sound may sent after. sent-to k.setting k.closing l f s ns sound may sent)
    (λ l ns ms sound may sent out. turn-both k.setting k.closing l f s freed ns ms sent out)
