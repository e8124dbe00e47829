use Rattle.std.proofs.Common.{Bool, ap, subst, ◌∙◌, Some, Option}
use Rattle.av_base.specs.Keys.{Key}
use Rattle.av_plain.specs.Fault.{sparing, was_slot}
use Rattle.av_plain.specs.World.{World}
use Rattle.av_audit_book.specs.Book.{ledger_of}
use Rattle.av_audit_book.specs.Machine.{setting_of}
use Rattle.av_audit_book.specs.Need.{need_of}
use Rattle.av_audit_judge.specs.Stage.{Meets}
use Rattle.av_audit_judge.proofs.Finds.{if-ok}
use Rattle.av_audit_world.specs.Memories.{IsWorld}
use Rattle.av_audit_access.specs.Come.{HasNoSlot, coming_of, stop_of}
use Rattle.av_audit_access.specs.Touch.{IsUnready, IsUnserved}
use Rattle.av_audit_access.specs.declared.coming.Coming.{Coming}
use Rattle.av_audit_access.proofs.ServeLaws.{MakesReady, Serve, come-is, need_at, serve-here, serve-kept, serve-none}
use Rattle.av_audit_access.proofs.touching.serves.Goals as goal

pub makes_ready-requires-clause-here : goal.makes_ready-requires-clause-here
makes_ready-requires-clause-here c =
    let k : Key = (c.args.process, c.args.page) in
    subst (λ (o : Option Coming). HasNoSlot c.args.write (ledger_of c.comes.new.book) k o)
    (c.in-Some-Here.is ∙ ap Some c.in-Some-Here.field-0-is) (c.in_ok-comes.ensures.here c.args.write c.needs-need.ensures)

pub returns-in-None : goal.returns-in-None
returns-in-None c = λ w at.
    let m = setting_of c.args.machine.now in
    let l = ledger_of c.args.book.now in
    let k : Key = (c.args.process, c.args.page) in
    let bytes = c.args.unit.now.rest.now in
    let l1 = ledger_of c.comes.new.book in
    let rest = c.comes.new.unit.rest.now in
    serve-none m (sparing w) l c.args.write k l1 l1 bytes rest rest
    (come-is m (sparing w) l l1 k (need_of c.needs-need.result) (need_at c.args.write l k) bytes rest _ _ c.needs-need.ensures
    (ap coming_of c.in-None.is) (c.in_ok-comes.ensures.comes w at))

pub returns-in-Some-Kept : goal.returns-in-Some-Kept
returns-in-Some-Kept c = λ w at.
    let m = setting_of c.args.machine.now in
    let l = ledger_of c.args.book.now in
    let k : Key = (c.args.process, c.args.page) in
    let bytes = c.args.unit.now.rest.now in
    let l1 = ledger_of c.comes.new.book in
    let rest = c.comes.new.unit.rest.now in
    serve-kept m (sparing w) l c.args.write k l1 bytes rest rest (stop_of c.in-Some-Kept.stop)
    (come-is m (sparing w) l l1 k (need_of c.needs-need.result) (need_at c.args.write l k) bytes rest _ _ c.needs-need.ensures
    (ap coming_of (c.in-Some-Kept.is ∙ ap Some c.in-Some-Kept.field-0-is)) (c.in_ok-comes.ensures.comes w at))

pub returns-in-Some-Here : goal.returns-in-Some-Here
returns-in-Some-Here c =
    let m = setting_of c.args.machine.now in
    let l = ledger_of c.args.book.now in
    let k : Key = (c.args.process, c.args.page) in
    let bytes = c.args.unit.now.rest.now in
    let l1 = ledger_of c.comes.new.book in
    let l2 = ledger_of c.makes_ready.new.book in
    let mid = c.comes.new.unit.rest.now in
    let rest = c.makes_ready.new.unit.rest.now in
    if-ok c.makes_ready.result
    (λ found. (w : World) → IsWorld c.args.memories.now w → Meets (MakesReady m (sparing w) l1 c.args.write c.is_slot-came.result k)
    (IsUnready m (sparing w) l1 c.args.write k) l1 mid (coming_of found) l2 rest)
    (λ found. (w : World) → IsWorld c.args.memories.now w → Meets (Serve m (sparing w) l c.args.write k)
    (IsUnserved m (sparing w) l c.args.write k) l bytes (coming_of found) l2 rest)
    (λ found h w at. serve-here m (sparing w) l c.args.write k l1 l2 bytes mid rest (coming_of found)
    (come-is m (sparing w) l l1 k (need_of c.needs-need.result) (need_at c.args.write l k) bytes mid _ _ c.needs-need.ensures
    (ap coming_of (c.in-Some-Here.is ∙ ap Some c.in-Some-Here.field-0-is)) (c.in_ok-comes.ensures.comes w at))
    (subst (λ (came : Bool). Meets (MakesReady m (sparing w) l1 c.args.write came k) (IsUnready m (sparing w) l1 c.args.write k) l1 mid
    (coming_of found) l2 rest) (c.is_slot-came.ensures ∙ ap was_slot c.needs-need.ensures) (h w at)))
    c.makes_ready.ensures
