use Rattle.std.proofs.Common.{refl}
use Rattle.std.proofs.lemmas.Result.{IfOk-weaker}
use Rattle.av_audit_book.specs.Book.{ledger_of}
use Rattle.av_audit_book.specs.Machine.{setting_of}
use Rattle.av_audit.proofs.JudgeLaws.{left-is}
use Rattle.av_audit.proofs.units.is_legal_for_marks.Goals as goal

pub returns-in-Mprotect : goal.returns-in-Mprotect
returns-in-Mprotect c = IfOk-weaker c.audits_mprotect.result _ _
    (λ legal h machine w at. left-is _ _ _ _ _ _ _ c.in-Mprotect.is (h (setting_of machine) w (ledger_of c.args.book.now) at refl))
    c.audits_mprotect.ensures

pub returns-in-Madvise : goal.returns-in-Madvise
returns-in-Madvise c = IfOk-weaker c.audits_madvise.result _ _
    (λ legal h machine w at. left-is _ _ _ _ _ _ _ c.in-Madvise.is (h (setting_of machine) w at refl))
    c.audits_madvise.ensures

pub returns-in-Munlock : goal.returns-in-Munlock
returns-in-Munlock c = IfOk-weaker c.audits_munlock.result _ _
    (λ legal h machine w at. left-is _ _ _ _ _ _ _ c.in-Munlock.is (h (setting_of machine) w (ledger_of c.args.book.now) at refl))
    c.audits_munlock.ensures
