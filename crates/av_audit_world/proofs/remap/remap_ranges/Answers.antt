use Rattle.std.proofs.Common.{ap, ◌∙◌}
use Rattle.std.specs.Prelude.{if◌then◌else◌, option_and_then}
use Rattle.av_base.specs.Words.{within}
use Rattle.av_audit_ranges.specs.Marks.{change_of}
use Rattle.av_audit_ranges.specs.Ranges.{marks_at}
use Rattle.av_audit_world.proofs.RemapLaws.{after-is}
use Rattle.av_audit_world.proofs.SpaceLaws.{on-ok}
use Rattle.av_audit_world.proofs.remap.remap_ranges.Goals as goal

pub returns : goal.returns
returns c = on-ok c.copy.result c.copy.ensures (λ is.
    let said = marks_at c.args.ranges.now in
    after-is said (marks_at c.change.new.self) (marks_at c.change-2.new.self) (marks_at c.copy.new.others) (marks_at c.in_ok-moved.moved)
    c.args.from c.args.n c.args.to c.args.m c.args.stays c.in_ok-moved.ensures
    (λ page. c.in_ok-change.ensures.ok page ∙ ap (λ change. if within c.args.from c.args.n page
    then option_and_then (change_of change) (said page) else said page) c.old_change.ensures)
    c.in_ok-change-2.ensures.ok is)
