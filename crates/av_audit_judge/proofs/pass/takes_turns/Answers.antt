use Rattle.std.proofs.Common.{Some, None, true, false, ap, sym, subst, refl, rules, ◌≡◌, ◌∙◌}
use Rattle.std.specs.List.{slice_get}
use Rattle.av_audit_book.specs.Book.{ledger_of}
use Rattle.av_audit_book.specs.Machine.{setting_of}
use Rattle.av_audit_book.specs.Spared.{frames_by_turn, spared_of}
use Rattle.av_audit_judge.specs.Pass.{AreFirst, can_go}
use Rattle.av_audit_judge.proofs.Finds.{gets-is}
use Rattle.av_audit_judge.proofs.TurnLaws.{get-less, left-freed, left-kept, left-not, left-over, left-past, turn-stays, turns-then}
use Rattle.av_audit_judge.proofs.pass.takes_turns.Goals as goal

pub returns-in-None : goal.returns-in-None
returns-in-None c =
    let m = setting_of c.args.machine.now in
    let s = c.args.spared.now in
    let l0 = ledger_of c.args.book.now in
    let l = ledger_of c.loop-listed.book in
    let i = c.loop-listed.past in
    let f = c.in-Some.frame in
    let at : slice_get (frames_by_turn l) i ≡ Some f = sym c.in_ok-frame.ensures.value ∙ c.in-Some.is in
    let bytes = c.loop-listed.unit.rest.now in
    let l1 = ledger_of c.turn.new.book in
    let mid = c.turn.new.unit.rest.now in
    let goes : can_go m (spared_of s l) l f ≡ true = sym c.can_go.ensures ∙ c.if-can_go.true in
    c.loop-listed.invariant.later false l1 mid
    (left-not m s l0 l l1 l1 i f bytes mid mid c.loop-listed.invariant.same at goes
    (gets-is _ _ _ _ _ c.in_ok-turn.field-0 None c.in-None.is c.in_ok-turn.ensures))

pub returns-in-Some-false : goal.returns-in-Some-false
returns-in-Some-false c =
    let m = setting_of c.args.machine.now in
    let s = c.args.spared.now in
    let l0 = ledger_of c.args.book.now in
    let l = ledger_of c.loop-listed.book in
    let i = c.loop-listed.past in
    let f = c.in-Some.frame in
    let at : slice_get (frames_by_turn l) i ≡ Some f = sym c.in_ok-frame.ensures.value ∙ c.in-Some.is in
    let bytes = c.loop-listed.unit.rest.now in
    let l1 = ledger_of c.turn.new.book in
    let mid = c.turn.new.unit.rest.now in
    let goes : can_go m (spared_of s l) l f ≡ true = sym c.can_go.ensures ∙ c.if-can_go.true in
    c.loop-listed.invariant.later true l1 mid
    (left-freed m s l0 l l1 i f bytes mid c.loop-listed.invariant.same at goes
    (gets-is _ _ _ _ _ c.in_ok-turn.field-0 (Some false) (c.in-Some-false.is ∙ ap Some c.in-Some-false.field-0-test) c.in_ok-turn.ensures))

pub loop-listed-preserved-in-Some-true : goal.loop-listed-preserved-in-Some-true
loop-listed-preserved-in-Some-true c =
    let m = setting_of c.args.machine.now in
    let s = c.args.spared.now in
    let l0 = ledger_of c.args.book.now in
    let l = ledger_of c.loop-listed.book in
    let i = c.loop-listed.past in
    let f = c.in-Some.frame in
    let at : slice_get (frames_by_turn l) i ≡ Some f = sym c.in_ok-frame.ensures.value ∙ c.in-Some.is in
    let bytes = c.loop-listed.unit.rest.now in
    let l1 = ledger_of c.turn.new.book in
    let mid = c.turn.new.unit.rest.now in
    let goes : can_go m (spared_of s l) l f ≡ true = sym c.can_go.ensures ∙ c.if-can_go.true in
    let turned = gets-is _ _ _ _ _ c.in_ok-turn.field-0 (Some true) (c.in-Some-true.is ∙ ap Some c.in-Some-true.field-0-test) c.in_ok-turn.ensures in
    let same = turn-stays m s l l1 f bytes mid goes turned in
    record {
      fits = search rules;
      same = turns-then s l0 l l1 c.loop-listed.invariant.same same;
      listed = subst (AreFirst c.next_in_turn.new.listed.items) (sym same.order) c.in_ok-frame.ensures.listed;
      later = λ read l' left later. c.loop-listed.invariant.later read l' left
          (left-kept m s l0 l l1 l' i f bytes mid left read c.loop-listed.invariant.same at goes turned later);
    }

pub loop-listed-smaller-in-Some-true : goal.loop-listed-smaller-in-Some-true
loop-listed-smaller-in-Some-true c =
    let m = setting_of c.args.machine.now in
    let s = c.args.spared.now in
    let l0 = ledger_of c.args.book.now in
    let l = ledger_of c.loop-listed.book in
    let i = c.loop-listed.past in
    let f = c.in-Some.frame in
    let at : slice_get (frames_by_turn l) i ≡ Some f = sym c.in_ok-frame.ensures.value ∙ c.in-Some.is in
    let bytes = c.loop-listed.unit.rest.now in
    let l1 = ledger_of c.turn.new.book in
    let mid = c.turn.new.unit.rest.now in
    let goes : can_go m (spared_of s l) l f ≡ true = sym c.can_go.ensures ∙ c.if-can_go.true in
    let turned = gets-is _ _ _ _ _ c.in_ok-turn.field-0 (Some true) (c.in-Some-true.is ∙ ap Some c.in-Some-true.field-0-test) c.in_ok-turn.ensures in
    get-less (frames_by_turn l) (frames_by_turn l1) i f at (turn-stays m s l l1 f bytes mid goes turned).order

pub loop-listed-preserved : goal.loop-listed-preserved
loop-listed-preserved c =
    let m = setting_of c.args.machine.now in
    let s = c.args.spared.now in
    let l0 = ledger_of c.args.book.now in
    let l = ledger_of c.loop-listed.book in
    let i = c.loop-listed.past in
    let f = c.in-Some.frame in
    let at : slice_get (frames_by_turn l) i ≡ Some f = sym c.in_ok-frame.ensures.value ∙ c.in-Some.is in
    let bytes = c.loop-listed.unit.rest.now in
    let stays : can_go m (spared_of s l) l f ≡ false = sym c.can_go.ensures ∙ c.if-can_go.false in
    record {
      fits = search rules;
      same = c.loop-listed.invariant.same;
      listed = c.in_ok-frame.ensures.listed;
      later = λ read l' left later. c.loop-listed.invariant.later read l' left
          (left-past m s l0 l l' i f bytes left read c.loop-listed.invariant.same at stays later);
    }

pub loop-listed-smaller : goal.loop-listed-smaller
loop-listed-smaller c =
    let l = ledger_of c.loop-listed.book in
    let at : slice_get (frames_by_turn l) c.loop-listed.past ≡ Some c.in-Some.frame = sym c.in_ok-frame.ensures.value ∙ c.in-Some.is in
    get-less (frames_by_turn l) (frames_by_turn l) c.loop-listed.past c.in-Some.frame at refl

pub returns : goal.returns
returns c =
    let m = setting_of c.args.machine.now in
    let l = ledger_of c.loop-listed.book in
    c.loop-listed.invariant.later true l c.loop-listed.unit.rest.now
    (left-over m c.args.spared.now (ledger_of c.args.book.now) l c.loop-listed.past c.loop-listed.unit.rest.now
    (sym c.in_ok-frame.ensures.value ∙ c.in_default.is))
