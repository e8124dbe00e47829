use Rattle.std.proofs.Common.{◌+◌, ◌∙◌, false}
use Rattle.av_evict.specs.Steps.{IsUsed}
use Rattle.av_evict.specs.System.{spares}
use Rattle.av_evict.specs.Turn.{IsTurnIfAny, MayTurn}
use Rattle.av_evict.proofs.OrderLaws.{turn-count}
use Rattle.av_evict.proofs.PassLaws.{but-stays, turning-at, turning-freed, turning-over, turning-some, turning-start, turning-step, turning-vain}
use Rattle.av_evict.proofs.SystemLaws.{at-knows, gives-at, left_so, left_then, loose}
use Rattle.av_evict.proofs.pass.turns.Goals as goal

pub loop-turn-init : goal.loop-turn-init
loop-turn-init g c = record {
  midway = λ told. turning-start _ c.args.notes.now c.args.pinned _
      (λ l sound stands. c.first_in_turn-next.ensures told l (loose _ _ l sound) stands);
  stays = λ told. left_so _;
}

pub turn_if_any-requires : goal.turn_if_any-requires
turn_if_any-requires g c =
    turning-at _ _ _ _ c.args.pinned _ c.in-Some.frame c.requires (rw c.in-Some.is at (c.loop-turn.invariant.midway false))

pub next_in_turn-next-requires : goal.next_in_turn-next-requires
next_in_turn-next-requires g c =
    let f = c.in-Some.frame in
    let k = g.S.System.view c.loop-turn.system false in
    at-knows (g.S.System.view c.turn_if_any.new.system false) (IsUsed f) (gives-at _ _ _ _ (MayTurn f) (IsUsed f)
    (IsTurnIfAny k.setting (spares k c.args.pinned) f false)
    (turning-at _ _ _ _ c.args.pinned _ f c.requires (rw c.in-Some.is at (c.loop-turn.invariant.midway false)))
    (rw c.if-freed.false at (c.in_ok-freed.ensures.gives false))
    (λ l ns sound may turn after. (but-stays k.setting (spares k c.args.pinned) l f ns sound may turn).used f may.used))

pub loop-turn-preserved : goal.loop-turn-preserved
loop-turn-preserved g c = record {
  midway = λ told. turning-step _ _ _ _ _ _ c.args.pinned c.loop-turn._turn c.in-Some.frame _
      (rw c.in-Some.is at (c.loop-turn.invariant.midway told)) (c.loop-turn.invariant.stays told) (rw c.if-freed.false at (c.in_ok-freed.ensures.gives told))
      (λ l sound stands. c.next_in_turn-next.ensures told l (loose _ _ l sound) stands);
  stays = λ told. left_then (c.loop-turn.invariant.stays told) (c.in_ok-freed.ensures.stays told);
}

pub returns-then-freed-clause-gives : goal.returns-then-freed-clause-gives
returns-then-freed-clause-gives g c = λ told. turning-freed _ _ _ _ _ _ c.args.pinned c.loop-turn._turn c.in-Some.frame
    (rw c.in-Some.is at (c.loop-turn.invariant.midway told)) (c.loop-turn.invariant.stays told) (rw c.if-freed.true at (c.in_ok-freed.ensures.gives told))

pub unreachable-requires : goal.unreachable-requires
unreachable-requires g c =
    let at = c.requires in
    turning-some _ _ _ _ c.args.pinned c.loop-turn._turn (c.from.result + c.from-2.result) at.0
    (rw c.in_default.is at (c.loop-turn.invariant.midway false) at.0 at.1 at.2 at.3)
    (turn-count at.0 _ _ (c.from.ensures ∙ c.inactive_len.ensures false at.0 (loose _ _ at.0 at.1) at.2)
    (c.from-2.ensures ∙ c.active_len.ensures false at.0 (loose _ _ at.0 at.1) at.2)) c.loop-turn-test.true

pub returns-clause-gives : goal.returns-clause-gives
returns-clause-gives g c = λ told. turning-vain _ _ _ _ c.args.pinned c.loop-turn._turn c.loop-turn.next (c.loop-turn.invariant.midway told)
    (λ l sound stands i. turning-over _ _ _ _ c.args.pinned c.loop-turn._turn (c.from.result + c.from-2.result) c.loop-turn.next l i
    (turn-count l _ _ (c.from.ensures ∙ c.inactive_len.ensures told l (loose _ _ l sound) stands)
    (c.from-2.ensures ∙ c.active_len.ensures told l (loose _ _ l sound) stands)) c.loop-turn-test.false)
