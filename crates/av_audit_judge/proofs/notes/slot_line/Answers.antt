use Rattle.av_audit_judge.proofs.NoteLaws.{slot-no-area, slot-no-colon, slot-no-line, slot-no-page}
use Rattle.av_audit_judge.proofs.notes.slot_line.Goals as goal

pub returns-in-None : goal.returns-in-None
returns-in-None c = slot-no-line c.args.bytes.now c.in-None.ensures.none

pub returns-in-None-cut : goal.returns-in-None-cut
returns-in-None-cut c = slot-no-colon c.args.bytes.now c.in-Some.line.now c.in-Some.rest.now c.in-Some.ensures.found c.in-None-cut.ensures.none

pub returns-in-None-number_in : goal.returns-in-None-number_in
returns-in-None-number_in c =
    slot-no-area c.args.bytes.now c.in-Some.line.now c.in-Some.rest.now c.in-Some-cut.first.now c.in-Some-cut.second.now c.in-Some.ensures.found
    c.in-Some-cut.ensures.found c.in-None-number_in.ensures.none

pub returns-in-None-number_in-2 : goal.returns-in-None-number_in-2
returns-in-None-number_in-2 c =
    slot-no-page c.args.bytes.now c.in-Some.line.now c.in-Some.rest.now c.in-Some-cut.first.now c.in-Some-cut.second.now c.in-Some.ensures.found
    c.in-Some-cut.ensures.found c.in-None-number_in-2.ensures.none
