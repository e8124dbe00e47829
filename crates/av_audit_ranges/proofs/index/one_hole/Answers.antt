use Rattle.std.proofs.Common.{sym, ◌∙◌}
use Rattle.av_audit_ranges.proofs.HolesLaws.{ok-holds, one-is}
use Rattle.av_audit_ranges.proofs.index.one_hole.Goals as goal

pub returns : goal.returns
returns c =
    one-is c.new-holes.result c.put.new.self c.new-holes.ensures
    (ok-holds c.put.result c.in_ok-ok.field-0 (sym c.ok.ensures.value ∙ c.in_ok-ok.was) c.put.ensures.ok)
