use Rattle.std.proofs.Common.{get_or, refl}
use Rattle.std.proofs.lemmas.Result.{IfOk-weaker}
use Rattle.av_audit_judge.proofs.Finds.{slice-cons}
use Rattle.av_audit_report.proofs.MapLaws.{run-ends, run-grows, run-wide, runs-first, runs-last}
use Rattle.av_audit_report.proofs.RunLaws.{no_range, none-left}
use Rattle.av_audit_report.proofs.maps.add_runs.Goals as goal

pub loop-rest-init : goal.loop-rest-init
loop-rest-init c = runs-first c.args.cut.now (get_or c.args.cut.now 0 no_range) _ c.args.rows.now
    (slice-cons c.args.cut.now no_range c.in-len1-up.len_at_least) c.requires.none

pub returns-then-not-branch : goal.returns-then-not-branch
returns-then-not-branch c =
    run-wide c.args.cut.now c.loop-rest.rows c.loop-rest.run c.loop-rest.rest.now c.requires.apart c.loop-rest.invariant
    (get_or c.loop-rest.rest.now 0 no_range) _ (slice-cons c.loop-rest.rest.now no_range c.in-len1-up-rest.len_at_least)
    c.add_run.new.rows c.in_ok-add_run.field-0 (c.goes_on.ensures.no c.if-goes_on.false) c.in_ok-add_run.ensures c.if-not-branch.true

pub loop-rest-preserved-then-goes_on : goal.loop-rest-preserved-then-goes_on
loop-rest-preserved-then-goes_on c =
    let both = c.goes_on.ensures.yes c.if-goes_on.true in
    run-grows c.args.cut.now c.loop-rest.rows c.loop-rest.run c.loop-rest.rest.now c.requires.apart c.loop-rest.invariant
    (get_or c.loop-rest.rest.now 0 no_range) _ (slice-cons c.loop-rest.rest.now no_range c.in-len1-up-rest.len_at_least)
    _ refl both.0 both.1

pub loop-rest-preserved : goal.loop-rest-preserved
loop-rest-preserved c =
    run-ends c.args.cut.now c.loop-rest.rows c.loop-rest.run c.loop-rest.rest.now c.requires.apart c.loop-rest.invariant
    (get_or c.loop-rest.rest.now 0 no_range) _ (slice-cons c.loop-rest.rest.now no_range c.in-len1-up-rest.len_at_least)
    c.add_run.new.rows c.in_ok-add_run.field-0 (c.goes_on.ensures.no c.if-goes_on.false) c.in_ok-add_run.ensures c.if-not-branch.false

pub returns : goal.returns
returns c = IfOk-weaker c.add_run-2.result _ _
    (λ fit h. runs-last c.args.cut.now c.loop-rest.rows c.loop-rest.run c.loop-rest.rest.now c.requires.apart c.loop-rest.invariant
    c.add_run-2.new.rows fit (none-left c.loop-rest.rest.now c.in_default-rest.len_below) h)
    c.add_run-2.ensures
