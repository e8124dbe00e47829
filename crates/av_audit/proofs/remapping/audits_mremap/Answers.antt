use Rattle.std.proofs.Common.{Bool, true, false, subst, sym, ◌∙◌}
use Rattle.av_base.specs.Page.{page_of, pages_of}
use Rattle.av_trace.specs.declared.command.Command.TheVariants.{Mremap}
use Rattle.av_trace.specs.declared.reply.Answer.TheVariants.{Refused}
use Rattle.av_plain.specs.Mremap.{MovesTo, events_to}
use Rattle.av_plain.specs.World.{pages}
use Rattle.av_audit_book.specs.Book.{ledger_of}
use Rattle.av_audit_judge.specs.Says.{SaysOnly}
use Rattle.av_audit_judge.proofs.Finds.{if-ok}
use Rattle.av_audit.specs.Known.{SaysEvents, map_answer}
use Rattle.av_audit.proofs.JudgeLaws.{refused-left}
use Rattle.av_audit.proofs.KnownUnits.{differ}
use Rattle.av_audit.proofs.RemapUnits.{mremap-lives, mremap-said, pages-below}
use Rattle.av_audit.proofs.remapping.audits_mremap.Goals as goal

pub returns-in-Some : goal.returns-in-Some
returns-in-Some c =
    let l = ledger_of c.args.book.now in
    if-ok c.is_answer.result (λ b. SaysOnly b c.args.unit.now (Refused c.in-Some.error)) _
    (λ b says m w at told. refused-left m w c.args.book.now (Mremap c.args.process c.args.address c.args.old c.args.new c.args.mode)
    c.args.unit.now c.in-Some.error b c.args.memories.now told (sym (c.refuses_mremap.ensures.tests m w l at) ∙ c.in-Some.is) says at)
    c.is_answer.ensures

pub returns-then-not-branch : goal.returns-then-not-branch
returns-then-not-branch c = λ m w at told.
    let p = c.args.process in
    let l = ledger_of c.args.book.now in
    let l1 = ledger_of c.says_mremap.new.book in
    let from = page_of c.args.address in
    let to = c.place_after-to.result in
    let hn = c.pages_of-n.ensures.pages in
    let hm = c.pages_of-m.ensures.pages in
    mremap-said m w l l1 p c.args.address c.args.old c.args.new c.args.mode to c.args.unit.now false c.args.memories.now told
    c.place_after-to.ensures.low (sym (c.refuses_mremap.ensures.tests m w l at) ∙ c.in-None.is)
    (subst (λ n. MovesTo (pages w p) from n (pages_of c.args.new) c.args.mode to) hn
    (subst (λ m. MovesTo (pages w p) from c.pages_of-n.result m c.args.mode to) hm (c.place_after-to.ensures.place w at)))
    (subst (λ n. SaysEvents l (map_answer to) (events_to l p from n to (pages_of c.args.new)) c.args.unit.now false l1) hn
    (subst (λ m. SaysEvents l (map_answer to) (events_to l p from c.pages_of-n.result to m) c.args.unit.now false l1) hm
    (subst (λ (b : Bool). SaysEvents l (map_answer to) (events_to l p from c.pages_of-n.result to c.pages_of-m.result) c.args.unit.now b l1)
    c.if-not-branch.true c.in_ok-says_mremap-in-None.ensures)))
    (λ yes. absurd (differ yes))

pub returns-in_ok-remap_to-in-None : goal.returns-in_ok-remap_to-in-None
returns-in_ok-remap_to-in-None c = λ m w at told.
    let p = c.args.process in
    let l = ledger_of c.args.book.now in
    let l1 = ledger_of c.says_mremap.new.book in
    let from = page_of c.args.address in
    let to = c.place_after-to.result in
    let hn = c.pages_of-n.ensures.pages in
    let hm = c.pages_of-m.ensures.pages in
    let none = sym (c.refuses_mremap.ensures.tests m w l at) ∙ c.in-None.is in
    let goes = subst (λ n. MovesTo (pages w p) from n (pages_of c.args.new) c.args.mode to) hn
    (subst (λ m. MovesTo (pages w p) from c.pages_of-n.result m c.args.mode to) hm (c.place_after-to.ensures.place w at)) in
    mremap-said m w l l1 p c.args.address c.args.old c.args.new c.args.mode to c.args.unit.now true c.remap_to.new.memories told
    c.place_after-to.ensures.low none goes
    (subst (λ n. SaysEvents l (map_answer to) (events_to l p from n to (pages_of c.args.new)) c.args.unit.now true l1) hn
    (subst (λ m. SaysEvents l (map_answer to) (events_to l p from c.pages_of-n.result to m) c.args.unit.now true l1) hm
    (subst (λ (b : Bool). SaysEvents l (map_answer to) (events_to l p from c.pages_of-n.result to c.pages_of-m.result) c.args.unit.now b l1)
    c.if-not-branch.false c.in_ok-says_mremap-in-None.ensures)))
    (λ yes. c.in_ok-remap_to-in-None.ensures w at (mremap-lives m w l p c.args.address c.args.old c.args.new c.args.mode none)
    (pages-below m w l p c.args.address c.args.old c.args.new c.args.mode c.args.memories.now to at none goes))
