use Rattle.av_audit_area.proofs.LeftLaws.{none-left, some-left}
use Rattle.av_audit_area.proofs.ReadLaws.{rows-all, rows-more}
use Rattle.av_audit_area.proofs.read.area_rows.Goals as goal

pub loop-rest-preserved : goal.loop-rest-preserved
loop-rest-preserved c = λ all fit is.
    rows-more all c.loop-rest.rows c.push.new.self c.loop-rest.rest.now c.piece.result.0.now c.piece.result.1.now c.in_ok-area_row.field-0
    (c.loop-rest.invariant all fit is) (some-left c.loop-rest.rest.now c.is_empty.result c.is_empty.ensures c.loop-rest-test.true)
    (record { cut = c.piece.ensures.cut; all = c.piece.ensures.all }) c.in_ok-area_row.ensures c.in_ok-push.ensures.ok

pub returns : goal.returns
returns c = λ rows fit is.
    rows-all rows c.loop-rest.rows c.loop-rest.rest.now (c.loop-rest.invariant rows fit is)
    (none-left c.loop-rest.rest.now c.is_empty.result c.is_empty.ensures c.loop-rest-test.false)
