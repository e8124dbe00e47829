use Rattle.std.proofs.Common.{refl}
use Rattle.av_trace.specs.declared.command.Command.TheVariants.{Reclaim}
use Rattle.av_plain.specs.World.{World}
use Rattle.av_audit_book.specs.Book.{ledger_of}
use Rattle.av_audit_book.specs.Machine.{setting_of}
use Rattle.av_audit_world.specs.Memories.{IsWorld}
use Rattle.av_audit_judge.specs.Verdict.{IsVerdict}
use Rattle.av_audit_judge.proofs.Finds.{if-ok}
use Rattle.av_audit.proofs.JudgeLaws.{book-left}
use Rattle.av_audit.proofs.swapping.audits_reclaim.Goals as goal

pub returns : goal.returns
returns c =
    let m = setting_of c.args.machine.now in
    let l = ledger_of c.args.book.now in
    if-ok c.judges_reclaim.result
    (λ legal. (w : World) → IsWorld c.args.memories.now w
    → IsVerdict m w l (Reclaim c.args.frames) c.args.unit.now legal (ledger_of c.judges_reclaim.new.book)) _
    (λ legal h w at. book-left m w l (Reclaim c.args.frames) c.args.unit.now legal c.args.memories.now c.judges_reclaim.new.book refl
    (λ v answer. refl) (h w at) at)
    c.judges_reclaim.ensures
