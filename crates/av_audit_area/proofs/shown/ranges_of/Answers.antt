use Rattle.std.proofs.Common.{◌-◌, ◌∷◌, ◌∙◌, ap, drop, length, take}
use Rattle.av_audit_ranges.specs.Ranges.{marks_at}
use Rattle.av_audit_judge.proofs.Finds.{slice-cons}
use Rattle.av_audit_area.proofs.ShownLaws.{none-left, said-all, said-more}
use Rattle.av_audit_area.proofs.shown.ranges_of.Goals as goal

pub returns : goal.returns
returns c = said-all c.args.rows.now (marks_at c.loop-rest.made) c.loop-rest.from c.loop-rest.rest.now
    (none-left c.loop-rest.rest.now c.in_default.len_below) c.loop-rest.invariant

pub loop-rest-preserved : goal.loop-rest-preserved
loop-rest-preserved c =
    let rest = c.loop-rest.rest.now in
    said-more c.args.rows.now (marks_at c.loop-rest.made) (marks_at c.put.new.self) c.loop-rest.from rest c.first-item.result
    (take (length rest - 1) (drop 1 rest)) c.in-Some.range
    (ap (λ row. row ∷ take (length rest - 1) (drop 1 rest)) c.first-item.is ∙ slice-cons rest c.first-item.result c.in-len1-up.len_at_least)
    c.loop-rest.invariant c.in-Some.ensures.found.0 c.in-Some.ensures.found.1 c.in_ok-put.ensures.ok
