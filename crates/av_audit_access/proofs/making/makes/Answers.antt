use Rattle.std.proofs.Common.{◌≡◌, ℕ, ◌*◌, None, Some, Option, arith, refl, subst, sym}
use Rattle.std.specs.Prelude.{IfOk}
use Rattle.av_base.specs.Keys.{Key}
use Rattle.av_trace.specs.declared.reply.OutOf.{OutOf}
use Rattle.av_plain.specs.Fault.{FindsNone, IsMade, sparing}
use Rattle.av_plain.specs.World.{World}
use Rattle.av_audit_book.specs.Book.{ledger_of}
use Rattle.av_audit_book.specs.Machine.{setting_of}
use Rattle.av_audit_book.specs.Need.{need_of}
use Rattle.av_audit_book.specs.declared.need.Need.{Need}
use Rattle.av_audit_book.specs.declared.need.Need.TheVariants as needs
use Rattle.av_audit_judge.specs.Stage.{Meets}
use Rattle.av_audit_judge.specs.declared.notes.Taking.TheVariants as takings
use Rattle.av_audit_judge.proofs.Finds.{if-ok}
use Rattle.av_audit_world.specs.Memories.{IsWorld}
use Rattle.av_audit_access.specs.Take.{HasNoFrame, MakesFrame, making_of}
use Rattle.av_audit_access.specs.declared.making.Making.{Making}
use Rattle.av_audit_access.proofs.TakeLaws.{made-copy, made-new}
use Rattle.av_audit_access.proofs.making.makes.Goals as goal

turned : (n : ℕ) → n * 4096 ≡ 4096 * n
turned n = omega arith

pub returns-in-NewPage : goal.returns-in-NewPage
returns-in-NewPage c =
    let m = setting_of c.args.machine.now in
    let l = ledger_of c.args.book.now in
    let l1 = ledger_of c.makes_frame.new.book in
    let k : Key = (c.args.process, c.args.page) in
    let bytes = c.args.unit.now.rest.now in
    let rest = c.makes_frame.new.unit.rest.now in
    let Q : Need → Option Making → Type 0 = λ n found. (w : World) → IsWorld c.args.memories.now w → Meets
    (λ (u : Unit {0}). IsMade m (sparing w) l k (need_of n)) (λ (out : OutOf) notes. FindsNone m (sparing w) l (need_of n) notes out) l bytes
    (making_of found) l1 rest in
    subst (λ (n : Need). IfOk c.makes_frame.result (Q n)) (sym c.in-NewPage.is)
    (if-ok c.makes_frame.result (λ found. (w : World) → IsWorld c.args.memories.now w → Meets
    (MakesFrame m (sparing w l None) l (takings.New c.args.process (c.args.page * 4096))) (HasNoFrame m (sparing w l None) l) l bytes
    (making_of found) l1 rest) (Q needs.NewPage)
    (λ found h w at. made-new m (sparing w) l l1 k c.args.process (c.args.page * 4096) bytes rest (making_of found) refl (turned c.args.page) (h w at))
    c.makes_frame.ensures)

pub returns-in-Copy : goal.returns-in-Copy
returns-in-Copy c =
    let m = setting_of c.args.machine.now in
    let l = ledger_of c.args.book.now in
    let l1 = ledger_of c.makes_frame-in-Copy.new.book in
    let k : Key = (c.args.process, c.args.page) in
    let bytes = c.args.unit.now.rest.now in
    let rest = c.makes_frame-in-Copy.new.unit.rest.now in
    let Q : Need → Option Making → Type 0 = λ n found. (w : World) → IsWorld c.args.memories.now w → Meets
    (λ (u : Unit {0}). IsMade m (sparing w) l k (need_of n)) (λ (out : OutOf) notes. FindsNone m (sparing w) l (need_of n) notes out) l bytes
    (making_of found) l1 rest in
    subst (λ (n : Need). IfOk c.makes_frame-in-Copy.result (Q n)) (sym c.in-Copy.is)
    (if-ok c.makes_frame-in-Copy.result (λ found. (w : World) → IsWorld c.args.memories.now w → Meets
    (MakesFrame m (sparing w l (Some c.in-Copy.frame)) l (takings.Copied c.args.process (c.args.page * 4096)))
    (HasNoFrame m (sparing w l (Some c.in-Copy.frame)) l) l bytes
    (making_of found) l1 rest) (Q (needs.Copy c.in-Copy.frame))
    (λ found h w at. made-copy m (sparing w) l l1 k c.in-Copy.frame c.args.process (c.args.page * 4096) bytes rest
    (making_of found) refl (turned c.args.page) (h w at))
    c.makes_frame-in-Copy.ensures)
