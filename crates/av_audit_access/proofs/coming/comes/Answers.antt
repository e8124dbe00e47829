use Rattle.std.proofs.Common.{◌≡◌, ℕ, ◌*◌, arith, subst, sym, true}
use Rattle.std.specs.Prelude.{IfOk}
use Rattle.av_base.specs.Keys.{Key}
use Rattle.av_plain.specs.Fault.{ComesIn, sparing}
use Rattle.av_plain.specs.World.{World}
use Rattle.av_audit_book.specs.Book.{ledger_of}
use Rattle.av_audit_book.specs.Machine.{setting_of}
use Rattle.av_audit_book.specs.Need.{need_of}
use Rattle.av_audit_book.specs.declared.need.Need.{Need}
use Rattle.av_audit_judge.specs.Stage.{Meets}
use Rattle.av_audit_world.specs.Memories.{IsWorld}
use Rattle.av_audit_access.specs.Come.{IsKept, coming_of}
use Rattle.av_audit_judge.proofs.Finds.{reads-is}
use Rattle.av_audit_access.proofs.HereLaws.{cached-no-slot}
use Rattle.av_audit_access.proofs.coming.comes.Goals as goal

turned : (n : ℕ) → n * 4096 ≡ 4096 * n
turned n = omega arith

pub returns-in-SwapIn-clause-comes : goal.returns-in-SwapIn-clause-comes
returns-in-SwapIn-clause-comes c =
    let m = setting_of c.args.machine.now in
    let l = ledger_of c.args.book.now in
    let l1 = ledger_of c.comes_from.new.book in
    let k : Key = (c.args.process, c.args.page) in
    subst (λ (n : Need). IfOk c.comes_from.result (λ found. (w : World) → IsWorld c.args.memories.now w → Meets
    (λ (u : Unit {0}). ComesIn m (sparing w) l k (need_of n)) (IsKept m (sparing w) l (need_of n)) l c.args.unit.now.rest.now
    (coming_of found) l1 c.comes_from.new.unit.rest.now)) (sym c.in-SwapIn.is) c.comes_from.ensures.comes

pub returns-else-not-branch-clause-here : goal.returns-else-not-branch-clause-here
returns-else-not-branch-clause-here c = λ write is.
    let l = ledger_of c.args.book.now in
    let l1 = ledger_of c.reads.new.book in
    let k : Key = (c.args.process, c.args.page) in
    cached-no-slot l l1 write k c.in-MapCached.frame (c.args.page * 4096) c.args.unit.now.rest.now c.reads.new.unit.rest.now
    (turned c.args.page)
    (reads-is _ _ _ _ _ c.in_ok-reads-in-MapCached.field-0 true c.if-not-branch.false c.in_ok-reads-in-MapCached.ensures.reads)
