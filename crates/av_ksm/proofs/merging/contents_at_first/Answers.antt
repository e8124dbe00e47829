use Rattle.std.proofs.Common.{◌≡◌, ℕ, ◌+◌, List, [], sym, subst, ◌∙◌, arith}
use Rattle.av_mem.specs.Mem.{frame_count, view}
use Rattle.av_ksm.specs.Contents.{AreKept}
use Rattle.av_ksm.specs.Known.{Known}
use Rattle.av_ksm.specs.declared.contents.Contents.{Contents}
use Rattle.av_ksm.proofs.AtFirst.{aware-first, merged_below, more-merged, more-other}
use Rattle.av_ksm.proofs.CandidateLaws.{merged-told}
use Rattle.av_ksm.proofs.merging.contents_at_first.Goals as goal
use Rattle.av_ksm.proofs.merging.contents_at_first.Goals.{else-is_merged, then-is_merged+in_ok-find_or_add}

pub loop-frame-init : goal.loop-frame-init
loop-frame-init c = λ d w r l h. let held = (view c.args.mem.now).bytes in
    subst (λ (n : ℕ). AreKept n held [] c.in_ok-contents.contents) c.count.ensures (c.in_ok-contents.ensures held)

pub find_or_add-requires-clause-kept : goal.find_or_add-requires-clause-kept
find_or_add-requires-clause-kept c = let b = c.requires in
    (merged_below b.3 c.loop-frame.frame, c.loop-frame.invariant b.0 b.1 b.2 b.3 b.4)

pub loop-frame-preserved : goal.loop-frame-preserved
loop-frame-preserved c = λ d w r l h.
    let k = c.args.mem.now in
    let f = c.loop-frame.frame in
    let told = sym (merged-told d k w r l h f) ∙ sym c.is_merged.ensures in
    let before = c.loop-frame.invariant d w r l h in
    elim c.if-is_merged.branch [
      | then-is_merged+in_ok-find_or_add b ↦ subst (λ (c : Contents). AreKept (frame_count k) (view k).bytes (merged_below l (f + 1)) c) (sym b.contents-is)
          (subst (λ (known : List Known). AreKept (frame_count k) (view k).bytes known b.find_or_add.new.self) (more-merged l f (told ∙ b.if-is_merged.true))
          (b.in_ok-find_or_add.ensures.kept (merged_below l f) before))
      | else-is_merged b ↦ subst (λ (c : Contents). AreKept (frame_count k) (view k).bytes (merged_below l (f + 1)) c) (sym b.contents-is)
          (subst (λ (known : List Known). AreKept (frame_count k) (view k).bytes known c.loop-frame.contents)
          (more-other l f (told ∙ b.if-is_merged.false)) before)
    ]

pub returns : goal.returns
returns c = λ d w r l h.
    let k = c.args.mem.now in
    let all : c.loop-frame.frame ≡ frame_count k = let low = c.loop-frame-test.false in let high = c.loop-frame.auto.frame-end in
    let is = c.count-frame-end.ensures in omega (arith, low, high, is) in
    aware-first d k l c.loop-frame.contents
    (subst (λ (n : ℕ). AreKept (frame_count k) (view k).bytes (merged_below l n) c.loop-frame.contents) all (c.loop-frame.invariant d w r l h))
