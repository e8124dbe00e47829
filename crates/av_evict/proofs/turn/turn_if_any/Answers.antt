use Rattle.std.proofs.Common.{false, true, ap, sym, ◌∙◌}
use Rattle.av_evict.specs.Standing.{gets_turn}
use Rattle.av_evict.specs.System.{spares}
use Rattle.av_evict.specs.Turn.{IsTurn, IsTurnIfAny, MayTurn, MayTurnNow}
use Rattle.av_evict.proofs.StandingLaws.{locked-no_turn, standing-turn, standing-unlocked}
use Rattle.av_evict.proofs.SystemLaws.{gives-as, gives-none, loose}
use Rattle.av_evict.proofs.TurnLaws.{no-turn, stuck-turn, turn-if_any, turn-now}
use Rattle.av_evict.proofs.turn.turn_if_any.Goals as goal

pub is_locked-requires-clause-in_range : goal.is_locked-requires-clause-in_range
is_locked-requires-clause-in_range g c = let at = c.requires in at.1.in_range c.args.frame at.3.used

pub is_locked-requires-clause-stands : goal.is_locked-requires-clause-stands
is_locked-requires-clause-stands g c = let at = c.requires in (at.0, loose _ _ at.0 at.1, at.2, tt)

pub returns-then-is_locked-clause-gives : goal.returns-then-is_locked-clause-gives
returns-then-is_locked-clause-gives g c = λ told.
    let k = g.S.System.view c.args.system.now told in
    let f = c.args.frame in
    let sp = spares k c.args.pinned in
    gives-none _ c.args.notes.now (MayTurn f) (IsTurnIfAny k.setting sp f false)
    (λ l sound stands may. no-turn k.setting sp l f (locked-no_turn sp l f (sym (c.is_locked.ensures told) ∙ c.if-is_locked.true)))

pub is_stuck-requires : goal.is_stuck-requires
is_stuck-requires g c = let at = c.requires in at.1.in_range c.args.frame at.3.used

pub returns-then-is_stuck-clause-gives : goal.returns-then-is_stuck-clause-gives
returns-then-is_stuck-clause-gives g c = λ told.
    let k = g.S.System.view c.args.system.now told in
    let f = c.args.frame in
    let sp = spares k c.args.pinned in
    gives-none _ c.args.notes.now (MayTurn f) (IsTurnIfAny k.setting sp f false)
    (λ l sound stands may. stuck-turn k.setting sp l f (sym (c.is_stuck.ensures told l (loose _ _ l sound) stands) ∙ c.if-is_stuck.true))

pub standing_of-standing-requires-clause-in_range : goal.standing_of-standing-requires-clause-in_range
standing_of-standing-requires-clause-in_range g c = let at = c.requires in at.1.in_range c.args.frame at.3.used

pub standing_of-standing-requires-clause-stands : goal.standing_of-standing-requires-clause-stands
standing_of-standing-requires-clause-stands g c = let at = c.requires in (at.0, loose _ _ at.0 at.1, at.2, tt)

pub turn-requires-clause-may : goal.turn-requires-clause-may
turn-requires-clause-may g c =
    let at = c.requires in
    let sp = spares (g.S.System.view c.args.system.now false) c.args.pinned in (
      at.0,
      at.1,
      at.2,
      turn-now sp at.0 c.args.frame (standing-turn sp at.0 c.args.frame true
          (sym c.if-not-gets_turn.false ∙ c.gets_turn.ensures
          ∙ ap gets_turn (c.standing_of-standing.ensures false at.0 (loose _ _ at.0 at.1) at.2))) at.3,
    )

pub turn-requires-clause-unlocked : goal.turn-requires-clause-unlocked
turn-requires-clause-unlocked g c =
    let at = c.requires in
    let sp = spares (g.S.System.view c.args.system.now false) c.args.pinned in
    standing-unlocked sp at.0 c.args.frame (standing-turn sp at.0 c.args.frame true
    (sym c.if-not-gets_turn.false ∙ c.gets_turn.ensures
    ∙ ap gets_turn (c.standing_of-standing.ensures false at.0 (loose _ _ at.0 at.1) at.2)))

pub returns-then-not-gets_turn-clause-gives : goal.returns-then-not-gets_turn-clause-gives
returns-then-not-gets_turn-clause-gives g c = λ told.
    let k = g.S.System.view c.args.system.now told in
    let f = c.args.frame in
    let sp = spares k c.args.pinned in
    gives-none _ c.args.notes.now (MayTurn f) (IsTurnIfAny k.setting sp f false)
    (λ l sound stands may. no-turn k.setting sp l f (standing-turn sp l f false
    (sym c.if-not-gets_turn.true ∙ c.gets_turn.ensures ∙ ap gets_turn (c.standing_of-standing.ensures told l (loose _ _ l sound) stands))))

pub returns-clause-gives : goal.returns-clause-gives
returns-clause-gives g c = λ told.
    let k = g.S.System.view c.args.system.now told in
    let f = c.args.frame in
    let freed = c.in_ok-freed.freed in
    let sp = spares k c.args.pinned in
    gives-as _ _ _ _ (MayTurnNow f) (MayTurn f) (IsTurn k.setting k.closing f freed) (IsTurnIfAny k.setting sp f freed)
    (c.in_ok-freed.ensures.gives told)
    (λ l sound stands may. turn-now sp l f (standing-turn sp l f true
    (sym c.if-not-gets_turn.false ∙ c.gets_turn.ensures ∙ ap gets_turn (c.standing_of-standing.ensures told l (loose _ _ l sound) stands))) may)
    (λ l ns sound stands may is. turn-if_any k.setting sp l f freed ns (standing-turn sp l f true
    (sym c.if-not-gets_turn.false ∙ c.gets_turn.ensures ∙ ap gets_turn (c.standing_of-standing.ensures told l (loose _ _ l sound) stands))) is)
