use Rattle.std.proofs.Common.{true, false, Option, Some, ap, subst, ◌∙◌}
use Rattle.av_audit_book.specs.Book.{ledger_of}
use Rattle.av_audit_book.specs.Machine.{setting_of}
use Rattle.av_audit_book.specs.Spared.{spared_of}
use Rattle.av_plain.specs.Swapoff.{IsFetched}
use Rattle.av_audit_judge.specs.Fetch.{fetched_of}
use Rattle.av_audit_judge.specs.Stage.{Meets}
use Rattle.av_audit_judge.specs.declared.fetch.Fetch.{Fetch}
use Rattle.av_audit_judge.proofs.Finds.{reads-is}
use Rattle.av_audit_swapoff.specs.Empty.{IsStuck}
use Rattle.av_audit_swapoff.proofs.EmptyLaws.{empty-freed, empty-unbrought, empty-unfreed}
use Rattle.av_audit_swapoff.proofs.emptying.empties.Goals as goal

pub returns-in-None : goal.returns-in-None
returns-in-None c =
    let m = setting_of c.args.machine.now in
    let sp = spared_of c.args.spared.now (ledger_of c.args.book.now) in
    let l = ledger_of c.args.book.now in
    let l1 = ledger_of c.brings.new.book in
    let mid = c.brings.new.unit.rest.now in
    empty-unbrought m sp l l1 l1 c.args.slot c.args.unit.now.rest.now mid mid
    (subst (λ (o : Option Fetch). Meets (IsFetched m sp l c.args.slot) (IsStuck m sp l c.args.slot) l c.args.unit.now.rest.now
    (fetched_of o) l1 mid) c.in-None.is c.in_ok-brings.ensures)

pub returns-then-not-branch : goal.returns-then-not-branch
returns-then-not-branch c =
    let m = setting_of c.args.machine.now in
    let sp = spared_of c.args.spared.now (ledger_of c.args.book.now) in
    let l = ledger_of c.args.book.now in
    let l1 = ledger_of c.brings.new.book in
    let l2 = ledger_of c.frees.new.book in
    let mid = c.brings.new.unit.rest.now in
    let left = c.frees.new.unit.rest.now in
    empty-unfreed m sp l l1 l2 l2 c.args.slot c.in-Some-Loaded.frame c.args.unit.now.rest.now mid left left
    (subst (λ (o : Option Fetch). Meets (IsFetched m sp l c.args.slot) (IsStuck m sp l c.args.slot) l c.args.unit.now.rest.now
    (fetched_of o) l1 mid) (c.in-Some-Loaded.is ∙ ap Some c.in-Some-Loaded.field-0-is) c.in_ok-brings.ensures)
    (reads-is _ _ _ _ _ c.in_ok-frees-in-Some-Loaded.field-0 false c.if-not-branch.true c.in_ok-frees-in-Some-Loaded.ensures)

pub returns-else-not-branch : goal.returns-else-not-branch
returns-else-not-branch c =
    let m = setting_of c.args.machine.now in
    let sp = spared_of c.args.spared.now (ledger_of c.args.book.now) in
    let l = ledger_of c.args.book.now in
    let l1 = ledger_of c.brings.new.book in
    let l2 = ledger_of c.frees.new.book in
    let mid = c.brings.new.unit.rest.now in
    let left = c.frees.new.unit.rest.now in
    empty-freed m sp l l1 l2 c.args.slot c.in-Some-Loaded.frame c.args.unit.now.rest.now mid left
    (subst (λ (o : Option Fetch). Meets (IsFetched m sp l c.args.slot) (IsStuck m sp l c.args.slot) l c.args.unit.now.rest.now
    (fetched_of o) l1 mid) (c.in-Some-Loaded.is ∙ ap Some c.in-Some-Loaded.field-0-is) c.in_ok-brings.ensures)
    (reads-is _ _ _ _ _ c.in_ok-frees-in-Some-Loaded.field-0 true c.if-not-branch.false c.in_ok-frees-in-Some-Loaded.ensures)
