use Rattle.std.proofs.Common.{get_or, map}
use Rattle.av_trace.specs.Row.{IsEntry}
use Rattle.av_plain.specs.Report.{key_row}
use Rattle.av_audit_judge.proofs.Finds.{slice-cons}
use Rattle.av_audit_report.proofs.ReportLaws.{keys-all, keys-more, keys-wide, left-all}
use Rattle.av_audit_report.proofs.RunLaws.{none-left}
use Rattle.av_audit_report.proofs.rmap.add_keys.Goals as goal

pub loop-rest-init : goal.loop-rest-init
loop-rest-init c = left-all IsEntry (map key_row c.args.keys.now) _ c.requires

pub returns-then-not-branch : goal.returns-then-not-branch
returns-then-not-branch c =
    keys-wide (map key_row c.args.keys.now) c.loop-rest.rows c.add_key.new.rows c.loop-rest.rest.now _ (get_or c.loop-rest.rest.now 0 (0, 0))
    c.in_ok-add_key.field-0 (slice-cons c.loop-rest.rest.now (0, 0) c.in-len1-up.len_at_least) c.loop-rest.invariant c.in_ok-add_key.ensures
    c.if-not-branch.true

pub loop-rest-preserved : goal.loop-rest-preserved
loop-rest-preserved c =
    keys-more (map key_row c.args.keys.now) c.loop-rest.rows c.add_key.new.rows c.loop-rest.rest.now _ (get_or c.loop-rest.rest.now 0 (0, 0))
    c.in_ok-add_key.field-0 (slice-cons c.loop-rest.rest.now (0, 0) c.in-len1-up.len_at_least) c.loop-rest.invariant c.in_ok-add_key.ensures
    c.if-not-branch.false

pub returns : goal.returns
returns c = keys-all (map key_row c.args.keys.now) c.loop-rest.rows c.loop-rest.rest.now
    (none-left c.loop-rest.rest.now c.in_default.len_below) c.loop-rest.invariant
