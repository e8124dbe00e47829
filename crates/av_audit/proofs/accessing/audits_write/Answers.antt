use Rattle.std.proofs.Common.{Bool, true, length, option_map, refl, subst, sym, ◌∙◌}
use Rattle.av_trace.specs.declared.reply.Answer.TheVariants.{Refused}
use Rattle.av_trace.specs.declared.reply.Errno.TheVariants.{Esrch}
use Rattle.av_audit_book.specs.Book.{ledger_of}
use Rattle.av_audit_book.specs.Machine.{setting_of}
use Rattle.av_audit_judge.specs.Says.{SaysOnly}
use Rattle.av_audit_judge.proofs.Finds.{if-ok}
use Rattle.av_audit_access.specs.Access.{Ends, end_of}
use Rattle.av_audit.proofs.AccessUnits.{write-left, write-no-answer, write-no-end, write-no-line, write-refused}
use Rattle.av_audit.proofs.EndLaws.{Ending}
use Rattle.av_audit.proofs.accessing.audits_write.Goals as goal

pub returns-then-not-lives : goal.returns-then-not-lives
returns-then-not-lives c = if-ok c.is_answer.result (λ b. SaysOnly b c.args.unit.now (Refused Esrch)) _
    (λ b says w h. write-refused (setting_of c.args.machine.now) w c.args.process c.args.address c.args.bytes.now c.args.unit.now refl b
    c.args.memories.now c.args.book.now (sym (c.lives.ensures w h) ∙ c.if-not-lives.true) says h)
    c.is_answer.ensures

pub returns-in_default : goal.returns-in_default
returns-in_default c = λ w h.
    write-no-line (setting_of c.args.machine.now) w c.args.process c.args.address c.args.bytes.now c.args.unit.now refl
    (ledger_of c.args.book.now) c.args.memories.now c.args.book.now (sym (c.lives.ensures w h) ∙ c.if-not-lives.false)
    c.in_default.ensures.none

pub returns-in-None : goal.returns-in-None
returns-in-None c = λ w h.
    let m = setting_of c.args.machine.now in
    let l = ledger_of c.args.book.now in
    let l' = ledger_of c.ends_at.new.book in
    let bytes = c.args.bytes.now in
    write-no-end m w c.args.process c.args.address bytes c.args.unit.now refl l l' c.args.memories.now c.ends_at.new.book
    c.in-Some.line.now c.in-Some.notes.now (sym (c.lives.ensures w h) ∙ c.if-not-lives.false) c.in-Some.ensures.some
    (subst (λ f. Ends (Ending m w l c.args.process true c.args.address (length bytes)) l c.in-Some.notes.now (option_map end_of f) l') c.in-None.is
    (c.in_ok-ends_at.ensures w h))

pub returns-then-not-branch : goal.returns-then-not-branch
returns-then-not-branch c = λ w h.
    let m = setting_of c.args.machine.now in
    let l = ledger_of c.args.book.now in
    let l' = ledger_of c.ends_at.new.book in
    let bytes = c.args.bytes.now in
    let t = subst (λ f. Ends (Ending m w l c.args.process true c.args.address (length bytes)) l c.in-Some.notes.now (option_map end_of f) l')
    c.in-Some-2.is (c.in_ok-ends_at.ensures w h) in
    write-no-answer m w c.args.process c.args.address bytes c.args.unit.now refl l l' c.args.memories.now c.ends_at.new.book
    c.in-Some.line.now c.in-Some.notes.now (end_of c.in-Some-2.end) c.bytes_before-k.result c.write_answer.result
    (sym (c.lives.ensures w h) ∙ c.if-not-lives.false) c.in-Some.ensures.some t c.bytes_before-k.ensures c.write_answer.ensures.answer
    (subst (λ (b : Bool). SaysOnly b c.in-Some.line.now c.write_answer.result) c.if-not-branch.true c.in_ok-says-in-Some-2.ensures)

pub returns-in_ok-write-in-Some-2 : goal.returns-in_ok-write-in-Some-2
returns-in_ok-write-in-Some-2 c = λ w h.
    let m = setting_of c.args.machine.now in
    let l = ledger_of c.args.book.now in
    let l' = ledger_of c.ends_at.new.book in
    let bytes = c.args.bytes.now in
    let t = subst (λ f. Ends (Ending m w l c.args.process true c.args.address (length bytes)) l c.in-Some.notes.now (option_map end_of f) l')
    c.in-Some-2.is (c.in_ok-ends_at.ensures w h) in
    let alive = sym (c.lives.ensures w h) ∙ c.if-not-lives.false in
    write-left m w c.args.process c.args.address bytes c.args.unit.now refl l c.write.new.self c.ends_at.new.book
    c.in-Some.line.now c.in-Some.notes.now (end_of c.in-Some-2.end) c.bytes_before-k.result c.write_answer.result
    alive c.in-Some.ensures.some t c.bytes_before-k.ensures c.write_answer.ensures.answer c.write_answer.ensures.fits
    (subst (λ (b : Bool). SaysOnly b c.in-Some.line.now c.write_answer.result) c.if-not-branch.false c.in_ok-says-in-Some-2.ensures)
    (c.in_ok-write-in-Some-2.ensures w h alive)
