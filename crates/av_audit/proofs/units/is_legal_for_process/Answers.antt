use Rattle.std.proofs.Common.{refl}
use Rattle.std.proofs.lemmas.Result.{IfOk-weaker}
use Rattle.av_audit_book.specs.Book.{ledger_of}
use Rattle.av_audit_book.specs.Machine.{setting_of}
use Rattle.av_audit.proofs.JudgeLaws.{left-is}
use Rattle.av_audit.proofs.units.is_legal_for_process.Goals as goal

pub returns-in-Spawn : goal.returns-in-Spawn
returns-in-Spawn c = IfOk-weaker c.audits_spawn.result _ _
    (λ legal h machine w at. left-is _ _ _ _ _ _ _ c.in-Spawn.is (h (setting_of machine) w (ledger_of c.args.book.now) at refl))
    c.audits_spawn.ensures

pub returns-in-Fork : goal.returns-in-Fork
returns-in-Fork c = IfOk-weaker c.audits_fork.result _ _
    (λ legal h machine w at. left-is _ _ _ _ _ _ _ c.in-Fork.is (h (setting_of machine) w at refl))
    c.audits_fork.ensures

pub returns-in-Exit : goal.returns-in-Exit
returns-in-Exit c = IfOk-weaker c.audits_exit.result _ _
    (λ legal h machine w at. left-is _ _ _ _ _ _ _ c.in-Exit.is (h (setting_of machine) w at refl))
    c.audits_exit.ensures
