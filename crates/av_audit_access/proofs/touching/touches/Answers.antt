use Rattle.std.proofs.Common.{sym, ◌∙◌}
use Rattle.av_base.specs.Keys.{Key}
use Rattle.av_plain.specs.Fault.{sparing}
use Rattle.av_plain.specs.World.{World}
use Rattle.av_audit_book.specs.Book.{ledger_of}
use Rattle.av_audit_book.specs.Machine.{setting_of}
use Rattle.av_audit_judge.specs.Stage.{Meets}
use Rattle.av_audit_judge.proofs.FetchLaws.{some-left}
use Rattle.av_audit_judge.proofs.Finds.{if-ok}
use Rattle.av_audit_world.specs.Memories.{IsWorld}
use Rattle.av_audit_access.specs.Come.{coming_of}
use Rattle.av_audit_access.specs.Touch.{IsUnserved}
use Rattle.av_audit_access.proofs.ServeLaws.{Serve}
use Rattle.av_audit_access.proofs.TakeLaws.{over-is}
use Rattle.av_audit_access.proofs.TouchLaws.{Served, Stops, touch-allowed, touch-denied, touch-more}
use Rattle.av_audit_access.proofs.touching.touches.Goals as goal

pub returns-then-allows : goal.returns-then-allows
returns-then-allows c =
    let m = setting_of c.args.machine.now in
    let l = ledger_of c.args.book.now in
    let k : Key = (c.args.process, c.args.page) in
    let bytes = c.args.unit.now.rest.now in
    let l1 = ledger_of c.serves.new.book in
    let rest = c.serves.new.unit.rest.now in
    if-ok c.serves.result
    (λ found. (w : World) → IsWorld c.args.memories.now w → Meets (Serve m (sparing w) l c.args.write k)
    (IsUnserved m (sparing w) l c.args.write k) l bytes (coming_of found) l1 rest)
    (λ found. (w : World) → IsWorld c.args.memories.now w → Meets (Served m w l c.args.write k) (Stops m w l c.args.write k) l bytes
    (coming_of found) l1 rest)
    (λ found h w at. touch-allowed m w l l1 c.args.write k bytes rest (coming_of found) (sym (c.allows.ensures w at) ∙ c.if-allows.true) (h w at))
    c.serves.ensures

pub returns-then-is_empty : goal.returns-then-is_empty
returns-then-is_empty c = λ w at.
    let m = setting_of c.args.machine.now in
    let l = ledger_of c.args.book.now in
    let k : Key = (c.args.process, c.args.page) in
    let bytes = c.args.unit.now.rest.now in
    touch-denied m w l c.args.write k bytes (sym (c.allows.ensures w at) ∙ c.if-allows.false)
    (over-is bytes (sym c.if-is_empty.true ∙ c.is_empty.ensures))

pub returns-else-is_empty : goal.returns-else-is_empty
returns-else-is_empty c = λ w at.
    let m = setting_of c.args.machine.now in
    let l = ledger_of c.args.book.now in
    let k : Key = (c.args.process, c.args.page) in
    let bytes = c.args.unit.now.rest.now in
    touch-more m w l l c.args.write k bytes bytes (sym (c.allows.ensures w at) ∙ c.if-allows.false)
    (some-left bytes (sym c.if-is_empty.false ∙ c.is_empty.ensures))
