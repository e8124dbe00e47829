use Rattle.std.proofs.Common.{Bool, true, false, ap, subst, ◌∙◌}
use Rattle.av_base.specs.Page.{page_of}
use Rattle.av_plain.specs.Map.{hole_answer}
use Rattle.av_plain.specs.World.{pages, set_process, with_change_on, with_page_flag}
use Rattle.av_audit_judge.specs.Says.{SaysOnly}
use Rattle.av_audit_world.specs.Memories.{IsWorld}
use Rattle.av_audit.proofs.KnownUnits.{differ, madvise-lives, flag-said}
use Rattle.av_audit.proofs.advising.audits_flag.Goals as goal

pub returns-then-not-branch : goal.returns-then-not-branch
returns-then-not-branch c = λ m w l advice at told change none.
    let q = pages w c.args.process in
    let from = page_of c.args.address in
    flag-said m w l c.args.process c.args.address c.args.length advice c.args.flag c.args.set c.args.unit.now false c.args.memories.now
    c.hole_answer.result told change none
    (c.hole_answer.ensures q from (c.before_hole-mapped.ensures.pages w at) ∙ ap (hole_answer q from) c.pages_of-n.ensures.pages)
    (subst (λ (b : Bool). SaysOnly b c.args.unit.now c.hole_answer.result) c.if-not-branch.true c.in_ok-is_answer.ensures)
    (λ yes. absurd (differ yes))

pub returns : goal.returns
returns c = λ m w l advice at told change none.
    let p = c.args.process in
    let q = pages w p in
    let from = page_of c.args.address in
    let size = c.pages_of-n.ensures.pages in
    flag-said m w l p c.args.address c.args.length advice c.args.flag c.args.set c.args.unit.now true c.edit.new.self
    c.hole_answer.result told change none
    (c.hole_answer.ensures q from (c.before_hole-mapped.ensures.pages w at) ∙ ap (hole_answer q from) size)
    (subst (λ (b : Bool). SaysOnly b c.args.unit.now c.hole_answer.result) c.if-not-branch.false c.in_ok-is_answer.ensures)
    (λ yes. subst (λ n. IsWorld c.edit.new.self (set_process w p (with_change_on q from n (with_page_flag c.args.flag c.args.set))))
    size (c.in_ok-edit.ensures w at (madvise-lives m w l p c.args.address c.args.length advice none)))
