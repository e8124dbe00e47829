use Rattle.std.proofs.Common.{List, true, false, sym, subst, ◌∙◌}
use Rattle.av_base.specs.declared.slot.Slot.{Slot}
use Rattle.av_plain.specs.Event.{after_notes}
use Rattle.av_plain.specs.Pass.{Completes, IsPass, Turns, frames_in_turn}
use Rattle.av_audit_book.specs.Book.{ledger_of}
use Rattle.av_audit_judge.specs.Finds.{Reads}
use Rattle.av_audit_book.specs.Machine.{setting_of}
use Rattle.av_audit_book.specs.Spared.{spared_of}
use Rattle.av_audit_judge.proofs.Finds.{if-ok, reads-is, reads-no-first, reads-then}
use Rattle.av_audit_judge.proofs.SparedLaws.{spared-completes}
use Rattle.av_audit_judge.proofs.SeekLaws.{AreTurnsAt, pass-parts, some-turns}
use Rattle.av_audit_judge.proofs.seek.passes.Goals as goal

pub returns-then-not-branch : goal.returns-then-not-branch
returns-then-not-branch c =
    let m = setting_of c.args.machine.now in
    let sp = spared_of c.args.spared.now (ledger_of c.args.book.now) in
    let l = ledger_of c.args.book.now in
    let l1 = ledger_of c.completes.new.book in
    let slots = c.as_slice.ensures.value ∙ c.in_ok-slots.ensures in
    reads-no-first (IsPass m sp l) (Completes l l.flight) (λ a. AreTurnsAt m sp (after_notes l a)) l l1
    l1 c.args.unit.now.rest.now c.completes.new.unit.rest.now c.completes.new.unit.rest.now (pass-parts m sp l)
    (subst (λ (ss : List Slot). Reads (Completes l ss) l c.args.unit.now.rest.now false l1 c.completes.new.unit.rest.now) slots
    (reads-is _ _ _ _ _ c.in_ok-completes.field-0 false c.if-not-branch.true c.in_ok-completes.ensures))

pub returns : goal.returns
returns c =
    let m = setting_of c.args.machine.now in
    let s = c.args.spared.now in
    let l = ledger_of c.args.book.now in
    let sp = spared_of s l in
    let l1 = ledger_of c.completes.new.book in
    let l2 = ledger_of c.turns.new.book in
    let slots = c.as_slice.ensures.value ∙ c.in_ok-slots.ensures in
    let bytes = c.args.unit.now.rest.now in
    let mid = c.completes.new.unit.rest.now in
    let rest = c.turns.new.unit.rest.now in
    let done = subst (λ (ss : List Slot). Reads (Completes l ss) l bytes true l1 mid) slots
    (reads-is _ _ _ _ _ c.in_ok-completes.field-0 true c.if-not-branch.false c.in_ok-completes.ensures) in
    let same = spared-completes s l l1 l.flight bytes mid done in
    if-ok c.turns.result
    (λ read. Reads (Turns m (spared_of s l1) l1 (frames_in_turn (spared_of s l1) l1)) l1 mid read l2 rest)
    (λ read. Reads (IsPass m sp l) l bytes read l2 rest)
    (λ read h. reads-then (IsPass m sp l) (Completes l l.flight) (λ a. AreTurnsAt m sp (after_notes l a)) l l1
    l2 bytes mid rest read (pass-parts m sp l) done
    (λ a g e. subst (λ n. Reads (AreTurnsAt m sp n) l1 mid read l2 rest) e
    (some-turns m sp l1 l2 mid rest read (sym c.has_free.ensures ∙ c.if-has_free.false)
    (subst (λ sp. Reads (Turns m sp l1 (frames_in_turn sp l1)) l1 mid read l2 rest) same h))))
    c.turns.ensures
