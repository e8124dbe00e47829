use Rattle.std.proofs.Common.{◌≡◌, false, min, option_map, refl, subst, sym, ◌∙◌}
use Rattle.av_text.specs.Hex.{AreBytes}
use Rattle.av_trace.specs.declared.reply.Answer.TheVariants.{Refused}
use Rattle.av_trace.specs.declared.reply.Errno.TheVariants.{Esrch}
use Rattle.av_plain.specs.Access.{bytes_served, read_answer}
use Rattle.av_audit_book.specs.Book.{ledger_of}
use Rattle.av_audit_book.specs.Machine.{setting_of}
use Rattle.av_audit_judge.specs.Says.{SaysOnly}
use Rattle.av_audit_judge.proofs.Finds.{if-ok}
use Rattle.av_audit_access.specs.Access.{Ends, end_of}
use Rattle.av_audit.proofs.AccessUnits.{read-left, read-no-end, read-no-line, read-refused}
use Rattle.av_audit.proofs.EndLaws.{Ending}
use Rattle.av_audit.proofs.accessing.audits_read.Goals as goal

pub returns-then-not-lives : goal.returns-then-not-lives
returns-then-not-lives c = if-ok c.is_answer.result (λ b. SaysOnly b c.args.unit.now (Refused Esrch)) _
    (λ b says w h. read-refused (setting_of c.args.machine.now) w c.args.process c.args.address c.args.length c.args.unit.now refl b
    c.args.memories.now c.args.book.now (sym (c.lives.ensures w h) ∙ c.if-not-lives.true) says h)
    c.is_answer.ensures

pub returns-in_default : goal.returns-in_default
returns-in_default c = λ w h.
    read-no-line (setting_of c.args.machine.now) w c.args.process c.args.address c.args.length c.args.unit.now refl
    (ledger_of c.args.book.now) c.args.memories.now c.args.book.now (sym (c.lives.ensures w h) ∙ c.if-not-lives.false)
    c.in_default.ensures.none

pub returns-in-None : goal.returns-in-None
returns-in-None c = λ w h.
    let m = setting_of c.args.machine.now in
    let l = ledger_of c.args.book.now in
    let l' = ledger_of c.ends_at.new.book in
    let ended = subst (λ n. Ends (Ending m w l c.args.process false c.args.address n) l c.in-Some.notes.now (option_map end_of c.in_ok-ends_at.field-0) l')
    c.from-n.ensures (c.in_ok-ends_at.ensures w h) in
    read-no-end m w c.args.process c.args.address c.args.length c.args.unit.now refl l l' c.args.memories.now c.ends_at.new.book
    c.in-Some.line.now c.in-Some.notes.now (sym (c.lives.ensures w h) ∙ c.if-not-lives.false) h c.in-Some.ensures.some
    (subst (λ f. Ends (Ending m w l c.args.process false c.args.address c.args.length) l c.in-Some.notes.now (option_map end_of f) l') c.in-None.is ended)

pub returns-in_ok-read-in-Some-2 : goal.returns-in_ok-read-in-Some-2
returns-in_ok-read-in-Some-2 c = if-ok c.says.result (λ b. SaysOnly b c.in-Some.line.now c.read_answer.result) _
    (λ b says w h.
    let m = setting_of c.args.machine.now in
    let l = ledger_of c.args.book.now in
    let l' = ledger_of c.ends_at.new.book in
    let ended = subst (λ n. Ends (Ending m w l c.args.process false c.args.address n) l c.in-Some.notes.now (option_map end_of c.in_ok-ends_at.field-0) l')
    c.from-n.ensures (c.in_ok-ends_at.ensures w h) in
    let end = end_of c.in-Some-2.end in
    let t = subst (λ f. Ends (Ending m w l c.args.process false c.args.address c.args.length) l c.in-Some.notes.now (option_map end_of f) l')
    c.in-Some-2.is ended in
    read-left m w c.args.process c.args.address c.args.length c.args.unit.now refl l c.args.memories.now c.ends_at.new.book
    c.in-Some.line.now c.in-Some.notes.now end c.bytes_before-k.result c.in_ok-read-in-Some-2.field-0.items c.read_answer.result b
    (sym (c.lives.ensures w h) ∙ c.if-not-lives.false) h c.in-Some.ensures.some t
    (subst (λ n. c.bytes_before-k.result ≡ min n (bytes_served c.args.address n end)) c.from-n.ensures c.bytes_before-k.ensures)
    (c.in_ok-read-in-Some-2.ensures w h)
    (λ a n is. subst (λ bytes. c.read_answer.result ≡ read_answer a end bytes) c.from_vec-bytes.ensures (c.read_answer.ensures.answer a n is))
    (λ fit. c.read_answer.ensures.fits (subst (λ bytes. AreBytes bytes) (sym c.from_vec-bytes.ensures) fit)) says)
    c.says.ensures
