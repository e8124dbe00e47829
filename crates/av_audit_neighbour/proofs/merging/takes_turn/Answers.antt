use Rattle.std.proofs.Common.{sym, ◌∙◌}
use Rattle.std.proofs.lemmas.Result.{on_ok_weaker}
use Rattle.av_audit_book.specs.Book.{ledger_of}
use Rattle.av_audit_neighbour.specs.Held.{held_by}
use Rattle.av_audit_neighbour.proofs.MergeLaws.{on_ok-both, turned-known, turned-new, turned-other}
use Rattle.av_audit_neighbour.proofs.merging.takes_turn.Goals as goal

pub returns-in_default : goal.returns-in_default
returns-in_default c = λ m w earlier at aware.
    turned-other m (held_by c.args.memories.now c.args.pages.now) w (ledger_of c.args.book.now) earlier c.args.key c.args.notes.now
    c.args.contents.now (sym (c.candidate.ensures.is w at) ∙ c.in_default.is) aware

pub returns-in-None : goal.returns-in-None
returns-in-None c = on_ok_weaker c.add.result (λ h m w earlier at aware.
    let held = held_by c.args.memories.now c.args.pages.now in
    turned-new m held w (ledger_of c.args.book.now) earlier c.args.key c.args.notes.now c.in-Some.own
    (sym (c.candidate.ensures.is w at) ∙ c.in-Some.is) c.args.contents.now c.add.new.self aware
    (sym (c.find.ensures held aware.known c.in-Some.own aware.kept c.content-bytes.ensures) ∙ c.in-None.is)
    (h held aware.known aware.kept c.content-bytes.ensures)) c.add.ensures

pub returns-in-Some-find : goal.returns-in-Some-find
returns-in-Some-find c = on_ok-both c.joins.result (λ noted after m w earlier at aware.
    let held = held_by c.args.memories.now c.args.pages.now in
    turned-known m held w (ledger_of c.args.book.now) earlier c.args.key c.args.notes.now c.in-Some.own
    (sym (c.candidate.ensures.is w at) ∙ c.in-Some.is) c.args.contents.now aware c.in-Some-find.first
    (sym (c.find.ensures held aware.known c.in-Some.own aware.kept c.content-bytes.ensures) ∙ c.in-Some-find.is)
    (ledger_of c.joins.new.book) c.joins.new.notes noted after) c.joins.ensures.notes c.joins.ensures.ledger
