use Rattle.std.proofs.Common.{sym, ◌∙◌}
use Rattle.av_evict.specs.Pass.{AreTurns, IsLanded}
use Rattle.av_evict.specs.System.{spares}
use Rattle.av_evict.proofs.CountLaws.{no-turns}
use Rattle.av_evict.proofs.SystemLaws.{gives-none, loose}
use Rattle.av_evict.proofs.pass.turns_if_any.Goals as goal

pub returns-then-not-any_can_go-clause-gives : goal.returns-then-not-any_can_go-clause-gives
returns-then-not-any_can_go-clause-gives g c = λ told.
    let k = g.S.System.view c.args.system.now told in
    gives-none k c.args.notes.now IsLanded (AreTurns k.setting (spares k c.args.pinned))
    (λ l sound stands landed. no-turns k.setting (spares k c.args.pinned) l sound
    (sym (c.any_can_go.ensures told l (loose _ _ l sound) stands) ∙ c.if-not-any_can_go.true))
