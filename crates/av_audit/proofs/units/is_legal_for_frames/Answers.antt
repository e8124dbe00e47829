use Rattle.std.proofs.Common.{refl}
use Rattle.std.proofs.lemmas.Result.{IfOk-weaker}
use Rattle.av_trace.specs.declared.command.Command.TheVariants as commands
use Rattle.av_audit_book.specs.Book.{ledger_of}
use Rattle.av_audit_book.specs.Machine.{setting_of}
use Rattle.av_audit.proofs.JudgeLaws.{book-left, left-is}
use Rattle.av_audit.proofs.units.is_legal_for_frames.Goals as goal

pub returns-in-Reclaim : goal.returns-in-Reclaim
returns-in-Reclaim c = IfOk-weaker c.audits_reclaim.result _ _ (λ legal h w at sound. left-is _ _ _ _ _ _ _ c.in-Reclaim.is (h w at)) c.audits_reclaim.ensures

pub returns-in-Age : goal.returns-in-Age
returns-in-Age c = IfOk-weaker c.judges_age.result _ _
    (λ legal h w at sound. left-is _ _ _ _ _ _ _ c.in-Age.is (book-left (setting_of c.args.machine.now) w (ledger_of c.args.book.now)
    (commands.Age c.in-Age.frames) c.args.unit.now legal c.args.memories.now c.judges_age.new.book refl (λ v answer. refl)
    (h (setting_of c.args.machine.now) w) at))
    c.judges_age.ensures

pub returns-in-Complete : goal.returns-in-Complete
returns-in-Complete c = IfOk-weaker c.judges_complete.result _ _
    (λ legal h w at sound. left-is _ _ _ _ _ _ _ c.in-Complete.is (book-left (setting_of c.args.machine.now) w (ledger_of c.args.book.now)
    (commands.Complete c.in-Complete.slots) c.args.unit.now legal c.args.memories.now c.judges_complete.new.book refl (λ v answer. refl)
    (h (setting_of c.args.machine.now) w) at))
    c.judges_complete.ensures

pub returns-in-Swapon : goal.returns-in-Swapon
returns-in-Swapon c = IfOk-weaker c.audits_swapon.result _ _ (λ legal h w at sound. left-is _ _ _ _ _ _ _ c.in-Swapon.is (h w at)) c.audits_swapon.ensures

pub returns-in-Swapoff : goal.returns-in-Swapoff
returns-in-Swapoff c = IfOk-weaker c.audits_swapoff.result _ _ (λ legal h w at sound. left-is _ _ _ _ _ _ _ c.in-Swapoff.is (h w at)) c.audits_swapoff.ensures

pub returns-in-Merge : goal.returns-in-Merge
returns-in-Merge c = IfOk-weaker c.judges_merge.result _ _
    (λ legal h w at sound. left-is _ _ _ _ _ _ _ c.in-Merge.is (book-left (setting_of c.args.machine.now) w (ledger_of c.args.book.now)
    commands.Merge c.args.unit.now legal c.args.memories.now c.judges_merge.new.book refl (λ v answer. refl) (h w at sound) at))
    c.judges_merge.ensures

pub returns-in-Compact : goal.returns-in-Compact
returns-in-Compact c = IfOk-weaker c.judges_compact.result _ _
    (λ legal h w at sound. left-is _ _ _ _ _ _ _ c.in-Compact.is (book-left (setting_of c.args.machine.now) w (ledger_of c.args.book.now)
    commands.Compact c.args.unit.now legal c.args.memories.now c.judges_compact.new.book refl (λ v answer. refl) (h w) at))
    c.judges_compact.ensures
