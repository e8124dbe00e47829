use Rattle.std.proofs.Common.{◌≡◌, arith, filter, subst, sym, ◌∙◌}
use Rattle.std.specs.List.{range_with_len}
use Rattle.av_plain.specs.Ledger.{is_merged}
use Rattle.av_audit_book.specs.Book.{ledger_of}
use Rattle.av_audit_neighbour.specs.Contents.{AreKept}
use Rattle.av_audit_neighbour.specs.Held.{held_by}
use Rattle.av_audit_neighbour.proofs.ContentsLaws.{none-merged, one-merged}
use Rattle.av_audit_neighbour.proofs.contents.merged_contents.Goals.{then-is_merged+in_ok-add, else-is_merged}
use Rattle.av_audit_neighbour.proofs.contents.merged_contents.Goals as goal

pub loop-frame-preserved : goal.loop-frame-preserved
loop-frame-preserved c =
    let held = held_by c.args.memories.now c.args.pages.now in
    let l = ledger_of c.args.book.now in
    let known = filter (is_merged l) (range_with_len 0 c.loop-frame.frame) in
    elim c.if-is_merged.branch [
      | then-is_merged+in_ok-add w ↦ one-merged held l c.loop-frame.frame c.if-is_merged.contents (sym c.is_merged.ensures ∙ w.if-is_merged.true)
          (subst (AreKept held _) (sym w.contents-is) (w.in_ok-add.ensures held known c.loop-frame.invariant w.content.ensures))
      | else-is_merged w ↦ none-merged held l c.loop-frame.frame c.if-is_merged.contents (sym c.is_merged.ensures ∙ w.if-is_merged.false)
          (subst (AreKept held known) (sym w.contents-is) c.loop-frame.invariant)
    ]

pub returns : goal.returns
returns c =
    let over = c.loop-frame-test.false in
    let most = c.loop-frame.auto.frame-end in
    let all : c.loop-frame.frame ≡ c.args.machine.now.frames = omega (arith, over, most) in
    subst (λ n. AreKept (held_by c.args.memories.now c.args.pages.now) (filter (is_merged (ledger_of c.args.book.now)) (range_with_len 0 n))
    c.loop-frame.contents) all c.loop-frame.invariant

pub loop-frame-init : goal.loop-frame-init
loop-frame-init c = c.new-contents.ensures (held_by c.args.memories.now c.args.pages.now)
