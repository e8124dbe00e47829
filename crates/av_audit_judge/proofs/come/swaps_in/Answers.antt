use Rattle.std.proofs.Common.{◌≡◌, ℕ, ◌*◌, true, false, Option, Some, [], ◌∷◌, ap, subst, ◌∙◌, arith}
use Rattle.av_trace.specs.declared.note.Note.TheVariants.{Mapped}
use Rattle.av_audit_book.specs.Spared.{spared_of}
use Rattle.av_base.specs.Keys.{Key}
use Rattle.av_audit_book.specs.Book.{ledger_of}
use Rattle.av_audit_judge.specs.Come.{IsKeptOut}
use Rattle.av_audit_judge.specs.Fetch.{AreFetched, fetched_of}
use Rattle.av_audit_judge.specs.Finds.{Reads}
use Rattle.av_audit_book.specs.Machine.{setting_of}
use Rattle.av_audit_judge.specs.Stage.{Meets}
use Rattle.av_audit_judge.specs.declared.fetch.Fetch.{Fetch}
use Rattle.av_audit_judge.proofs.ComeLaws.{come-mapped, come-unfetched, come-unmapped}
use Rattle.av_audit_judge.proofs.Finds.{reads-is}
use Rattle.av_audit_judge.proofs.come.swaps_in.Goals as goal

turned : (n : ℕ) → n * 4096 ≡ 4096 * n
turned n = omega arith

pub returns-in-None : goal.returns-in-None
returns-in-None c =
    let m = setting_of c.args.machine.now in
    let l = ledger_of c.args.book.now in
    let sp = spared_of c.args.spared.now (ledger_of c.args.book.now) in
    let l1 = ledger_of c.fetches.new.book in
    come-unfetched m sp l l1 l1 (c.args.process, c.args.page) c.args.slot c.args.unit.now.rest.now c.fetches.new.unit.rest.now
    c.fetches.new.unit.rest.now
    (subst (λ (o : Option Fetch). Meets (AreFetched m sp l c.args.slot) (IsKeptOut m sp l) l c.args.unit.now.rest.now
    (fetched_of o) l1 c.fetches.new.unit.rest.now) c.in-None.is c.in_ok-fetches.ensures)

pub returns-then-not-branch : goal.returns-then-not-branch
returns-then-not-branch c =
    let m = setting_of c.args.machine.now in
    let l = ledger_of c.args.book.now in
    let sp = spared_of c.args.spared.now (ledger_of c.args.book.now) in
    let l1 = ledger_of c.fetches.new.book in
    let l2 = ledger_of c.reads.new.book in
    let k : Key = (c.args.process, c.args.page) in
    let f = c.in-Some-Loaded.frame in
    come-unmapped m sp l l1 l2 l2 k c.args.slot f c.args.unit.now.rest.now c.fetches.new.unit.rest.now
    c.reads.new.unit.rest.now c.reads.new.unit.rest.now
    (subst (λ (o : Option Fetch). Meets (AreFetched m sp l c.args.slot) (IsKeptOut m sp l) l c.args.unit.now.rest.now
    (fetched_of o) l1 c.fetches.new.unit.rest.now) (c.in-Some-Loaded.is ∙ ap Some c.in-Some-Loaded.field-0-is) c.in_ok-fetches.ensures)
    (subst (λ n. Reads (λ ns. ns ≡ Mapped c.args.process n f ∷ []) l1 c.fetches.new.unit.rest.now false l2 c.reads.new.unit.rest.now)
    (turned c.args.page)
    (reads-is _ _ _ _ _ c.in_ok-reads-in-Some-Loaded.field-0 false c.if-not-branch.true c.in_ok-reads-in-Some-Loaded.ensures.reads))

pub returns-else-not-branch : goal.returns-else-not-branch
returns-else-not-branch c =
    let m = setting_of c.args.machine.now in
    let l = ledger_of c.args.book.now in
    let sp = spared_of c.args.spared.now (ledger_of c.args.book.now) in
    let l1 = ledger_of c.fetches.new.book in
    let l2 = ledger_of c.reads.new.book in
    let k : Key = (c.args.process, c.args.page) in
    let f = c.in-Some-Loaded.frame in
    come-mapped m sp l l1 l2 k c.args.slot f c.args.unit.now.rest.now c.fetches.new.unit.rest.now
    c.reads.new.unit.rest.now
    (subst (λ (o : Option Fetch). Meets (AreFetched m sp l c.args.slot) (IsKeptOut m sp l) l c.args.unit.now.rest.now
    (fetched_of o) l1 c.fetches.new.unit.rest.now) (c.in-Some-Loaded.is ∙ ap Some c.in-Some-Loaded.field-0-is) c.in_ok-fetches.ensures)
    (subst (λ n. Reads (λ ns. ns ≡ Mapped c.args.process n f ∷ []) l1 c.fetches.new.unit.rest.now true l2 c.reads.new.unit.rest.now)
    (turned c.args.page)
    (reads-is _ _ _ _ _ c.in_ok-reads-in-Some-Loaded.field-0 true c.if-not-branch.false c.in_ok-reads-in-Some-Loaded.ensures.reads))
