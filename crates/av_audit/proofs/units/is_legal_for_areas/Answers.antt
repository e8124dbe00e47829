use Rattle.std.proofs.Common.{refl}
use Rattle.std.proofs.lemmas.Result.{IfOk-weaker}
use Rattle.av_audit_book.specs.Machine.{setting_of}
use Rattle.av_audit.proofs.JudgeLaws.{left-is}
use Rattle.av_audit.proofs.units.is_legal_for_areas.Goals as goal

pub returns-in-Mmap : goal.returns-in-Mmap
returns-in-Mmap c = IfOk-weaker c.audits_mmap.result _ _
    (λ legal h machine w at. left-is _ _ _ _ _ _ _ c.in-Mmap.is (h (setting_of machine) w at refl))
    c.audits_mmap.ensures

pub returns-in-Munmap : goal.returns-in-Munmap
returns-in-Munmap c = IfOk-weaker c.audits_munmap.result _ _
    (λ legal h machine w at. left-is _ _ _ _ _ _ _ c.in-Munmap.is (h (setting_of machine) w at refl))
    c.audits_munmap.ensures

pub returns-in-Mremap : goal.returns-in-Mremap
returns-in-Mremap c = IfOk-weaker c.audits_mremap.result _ _
    (λ legal h machine w at. left-is _ _ _ _ _ _ _ c.in-Mremap.is (h (setting_of machine) w at refl))
    c.audits_mremap.ensures
