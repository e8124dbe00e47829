use Rattle.std.proofs.Common.{refl}
use Rattle.av_plain.specs.Pass.{frames_in_turn}
use Rattle.av_audit_book.specs.Book.{ledger_of}
use Rattle.av_audit_book.specs.Machine.{setting_of}
use Rattle.av_audit_book.specs.Spared.{spared_of}
use Rattle.av_audit_judge.proofs.TurnLaws.{turns-none}
use Rattle.av_audit_judge.proofs.pass.turns.Goals as goal

pub returns-then-not-any_can_go : goal.returns-then-not-any_can_go
returns-then-not-any_can_go c =
    let m = setting_of c.args.machine.now in
    let l = ledger_of c.args.book.now in
    let sp = spared_of c.args.spared.now l in
    turns-none m sp l c.args.unit.now.rest.now (frames_in_turn sp l) (c.any_can_go.ensures.stuck c.if-not-any_can_go.true sp refl)
