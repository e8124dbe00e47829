use Rattle.std.proofs.Common.{refl}
use Rattle.av_audit_book.specs.Book.{ledger_of}
use Rattle.av_audit_book.specs.Machine.{setting_of}
use Rattle.av_audit_neighbour.proofs.MoveLaws.{going-end, going-first, going-more}
use Rattle.av_audit_neighbour.proofs.moving.moves_down.Goals as goal

pub loop-from-init : goal.loop-from-init
loop-from-init c = going-first (setting_of c.args.machine.now) (ledger_of c.args.book.now) c.args.notes.now c.args.machine.now.frames refl

pub loop-from-preserved : goal.loop-from-preserved
loop-from-preserved c =
    let l = c.loop-from in
    going-more (setting_of c.args.machine.now) (ledger_of c.args.book.now) c.args.notes.now (ledger_of l.book) l.notes l.low l.past l.invariant
    c.in-Some.from c.in-Some.to c.in-Some.ensures (ledger_of c.follow.new.self) c.in_ok-follow.ensures c.push.new.self c.in_ok-push.ensures.ok

pub returns : goal.returns
returns c =
    let l = c.loop-from in
    going-end (setting_of c.args.machine.now) (ledger_of c.args.book.now) c.args.notes.now (ledger_of l.book) l.notes l.low l.past l.invariant
    c.in_default.ensures
