use Rattle.std.proofs.Common.{Bool, true, false, subst}
use Rattle.av_trace.specs.declared.command.Command.TheVariants.{Mmap}
use Rattle.av_trace.specs.declared.reply.Answer.TheVariants.{Refused}
use Rattle.av_plain.specs.Map.{zaps_for_place}
use Rattle.av_audit_book.specs.Book.{ledger_of}
use Rattle.av_audit_judge.specs.Says.{SaysOnly}
use Rattle.av_audit_judge.proofs.Finds.{if-ok}
use Rattle.av_audit.specs.Known.{SaysEvents, map_answer}
use Rattle.av_audit.proofs.JudgeLaws.{refused-left}
use Rattle.av_audit.proofs.KnownUnits.{differ, mmap-lives, mmap-said}
use Rattle.av_audit.proofs.mapping.audits_mmap.Goals as goal

pub returns-in-Err : goal.returns-in-Err
returns-in-Err c =
    let l = ledger_of c.args.book.now in
    if-ok c.is_answer.result (λ b. SaysOnly b c.args.unit.now (Refused c.in-Err.error)) _
    (λ b says m w at told. refused-left m w c.args.book.now (Mmap c.args.process c.args.length c.args.prot c.args.place)
    c.args.unit.now c.in-Err.error b c.args.memories.now told (c.in-Err.ensures.place m w l c.args.prot at) says at)
    c.is_answer.ensures

pub returns-then-not-branch : goal.returns-then-not-branch
returns-then-not-branch c = λ m w at told.
    let p = c.args.process in
    let l = ledger_of c.args.book.now in
    let l1 = ledger_of c.says_mmap.new.book in
    let goes = c.in-Ok.ensures.place m w l c.args.prot at in
    mmap-said m w l l1 p c.args.length c.args.prot c.args.place c.in-Ok.to c.args.unit.now false c.args.memories.now told c.in-Ok.ensures.fits
    goes.0 goes.1
    (subst (λ n. SaysEvents l (map_answer c.in-Ok.to) (zaps_for_place l p n c.args.place) c.args.unit.now false l1) c.pages_of-n.ensures.pages
    (subst (λ a. SaysEvents l a (zaps_for_place l p c.pages_of-n.result c.args.place) c.args.unit.now false l1) c.map_answer.ensures
    (subst (λ (b : Bool). SaysEvents l c.map_answer.result (zaps_for_place l p c.pages_of-n.result c.args.place) c.args.unit.now b l1)
    c.if-not-branch.true c.in_ok-says_mmap-in-Ok.ensures)))
    (λ yes. absurd (differ yes))

pub returns-in_ok-map_at-in-Ok : goal.returns-in_ok-map_at-in-Ok
returns-in_ok-map_at-in-Ok c = λ m w at told.
    let p = c.args.process in
    let l = ledger_of c.args.book.now in
    let l1 = ledger_of c.says_mmap.new.book in
    let goes = c.in-Ok.ensures.place m w l c.args.prot at in
    mmap-said m w l l1 p c.args.length c.args.prot c.args.place c.in-Ok.to c.args.unit.now true c.map_at.new.memories told c.in-Ok.ensures.fits
    goes.0 goes.1
    (subst (λ n. SaysEvents l (map_answer c.in-Ok.to) (zaps_for_place l p n c.args.place) c.args.unit.now true l1) c.pages_of-n.ensures.pages
    (subst (λ a. SaysEvents l a (zaps_for_place l p c.pages_of-n.result c.args.place) c.args.unit.now true l1) c.map_answer.ensures
    (subst (λ (b : Bool). SaysEvents l c.map_answer.result (zaps_for_place l p c.pages_of-n.result c.args.place) c.args.unit.now b l1)
    c.if-not-branch.false c.in_ok-says_mmap-in-Ok.ensures)))
    (λ yes. c.in_ok-map_at-in-Ok.ensures w c.args.place at (mmap-lives m w l p c.args.length c.args.prot c.args.place goes.0))
