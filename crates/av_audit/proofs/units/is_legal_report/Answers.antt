use Rattle.std.proofs.Common.{refl}
use Rattle.std.proofs.lemmas.Result.{IfOk-weaker}
use Rattle.av_audit_book.specs.Machine.{setting_of}
use Rattle.av_audit.proofs.JudgeLaws.{left-is}
use Rattle.av_audit.proofs.units.is_legal_report.Goals as goal

pub returns-in-Maps : goal.returns-in-Maps
returns-in-Maps c = IfOk-weaker c.audits_maps.result _ _
    (λ legal h w at. left-is _ _ _ _ _ _ _ c.in-Maps.is (h (setting_of c.args.machine.now) w at refl))
    c.audits_maps.ensures

pub returns-in-Areas : goal.returns-in-Areas
returns-in-Areas c = IfOk-weaker c.audits_areas.result _ _
    (λ legal h w at. left-is _ _ _ _ _ _ _ c.in-Areas.is (h (setting_of c.args.machine.now) w at refl))
    c.audits_areas.ensures

pub returns-in-Rmap : goal.returns-in-Rmap
returns-in-Rmap c = IfOk-weaker c.audits_rmap.result _ _
    (λ legal h w at. left-is _ _ _ _ _ _ _ c.in-Rmap.is (h (setting_of c.args.machine.now) w at refl))
    c.audits_rmap.ensures

pub returns-in-Entry : goal.returns-in-Entry
returns-in-Entry c = IfOk-weaker c.audits_entry.result _ _
    (λ legal h w at. left-is _ _ _ _ _ _ _ c.in-Entry.is (h (setting_of c.args.machine.now) w at refl))
    c.audits_entry.ensures

pub returns-in-Slot : goal.returns-in-Slot
returns-in-Slot c = IfOk-weaker c.audits_slot.result _ _ (λ legal h w at. left-is _ _ _ _ _ _ _ c.in-Slot.is (h w at)) c.audits_slot.ensures

pub returns-in-Stat : goal.returns-in-Stat
returns-in-Stat c = IfOk-weaker c.audits_stat.result _ _ (λ legal h w at. left-is _ _ _ _ _ _ _ c.in-Stat.is (h w at)) c.audits_stat.ensures
