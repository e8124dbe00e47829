use Rattle.std.proofs.Common.{false, true, subst, ◌∙◌}
use Rattle.av_plain.specs.Reclaim.{Outcomes}
use Rattle.av_audit_book.specs.Book.{ledger_of}
use Rattle.av_audit_book.specs.Machine.{setting_of}
use Rattle.av_audit_book.specs.Spared.{spared_of}
use Rattle.av_audit_judge.specs.Finds.{Reads}
use Rattle.av_audit_judge.proofs.Finds.{reads-is, slice-cons}
use Rattle.av_audit_judge.proofs.ReclaimLaws.{outcomes-not, outcomes-over, outcomes-then}
use Rattle.av_audit_judge.proofs.SparedLaws.{spared-outcome}
use Rattle.av_audit_judge.proofs.reclaim.outcomes.Goals as goal

pub returns-then-not-branch : goal.returns-then-not-branch
returns-then-not-branch c =
    let m = setting_of c.args.machine.now in
    let s = c.args.spared.now in
    let sp = spared_of s (ledger_of c.args.book.now) in
    let l = ledger_of c.loop-rest.book in
    let l1 = ledger_of c.outcome.new.book in
    let bytes = c.loop-rest.unit.rest.now in
    let mid = c.outcome.new.unit.rest.now in
    c.loop-rest.invariant.later false l1 mid
    (subst (λ ss. Reads (Outcomes m sp l ss) l bytes false l1 mid) (slice-cons c.loop-rest.rest.now _ c.in-len1-up.len_at_least)
    (outcomes-not m (spared_of s l) sp l l1 l1 bytes mid mid _ _ c.loop-rest.invariant.same
    (reads-is _ _ _ _ _ c.in_ok-outcome.field-0 false c.if-not-branch.true c.in_ok-outcome.ensures)))

pub loop-rest-preserved : goal.loop-rest-preserved
loop-rest-preserved c =
    let m = setting_of c.args.machine.now in
    let s = c.args.spared.now in
    let sp = spared_of s (ledger_of c.args.book.now) in
    let l = ledger_of c.loop-rest.book in
    let l1 = ledger_of c.outcome.new.book in
    let bytes = c.loop-rest.unit.rest.now in
    let mid = c.outcome.new.unit.rest.now in
    record {
      same = spared-outcome m s l l1 _ bytes mid
          (reads-is _ _ _ _ _ c.in_ok-outcome.field-0 true c.if-not-branch.false c.in_ok-outcome.ensures) ∙ c.loop-rest.invariant.same;
      later = λ read l' left later. c.loop-rest.invariant.later read l' left
          (subst (λ ss. Reads (Outcomes m sp l ss) l bytes read l' left) (slice-cons c.loop-rest.rest.now _ c.in-len1-up.len_at_least)
          (outcomes-then m (spared_of s l) sp l l1 l' bytes mid left read _ _ c.loop-rest.invariant.same
          (reads-is _ _ _ _ _ c.in_ok-outcome.field-0 true c.if-not-branch.false c.in_ok-outcome.ensures) later));
    }

pub returns : goal.returns
returns c =
    let m = setting_of c.args.machine.now in
    let sp = spared_of c.args.spared.now (ledger_of c.args.book.now) in
    let l = ledger_of c.loop-rest.book in
    c.loop-rest.invariant.later true l c.loop-rest.unit.rest.now
    (outcomes-over m sp l c.loop-rest.unit.rest.now c.loop-rest.rest.now c.in_default.len_below)
