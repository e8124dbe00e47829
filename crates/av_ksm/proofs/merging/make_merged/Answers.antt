use Rattle.std.proofs.Common.{sym, ◌∙◌}
use Rattle.av_swap_laws.proofs.Parts.{none-some}
use Rattle.av_ksm.proofs.CandidateLaws.{merged-told}
use Rattle.av_ksm.proofs.MergingAsks.{own-names, own-rooted, ready-below, ready-waits, waits-else, waits-key}
use Rattle.av_ksm.proofs.MergingDone.{noted-shared}
use Rattle.av_ksm.proofs.MergingViews.{shared-bytes}
use Rattle.av_ksm.proofs.merging.make_merged.Goals as goal

pub is_merged-requires-clause-itemed : goal.is_merged-requires-clause-itemed
is_merged-requires-clause-itemed c = c.requires.between.serves.items

pub is_merged-requires-clause-in_range : goal.is_merged-requires-clause-in_range
is_merged-requires-clause-in_range c = ready-below c.args.mem.now c.args.frame c.args.page c.requires

pub unreachable-requires : goal.unreachable-requires
unreachable-requires c =
    let x = ready-waits c.args.mem.now c.args.frame c.args.page c.requires (sym c.is_merged.ensures ∙ c.if-is_merged.false) in
    none-some x.key (sym c.in_default.is ∙ x.page)

pub share-requires-clause-there : goal.share-requires-clause-there
share-requires-clause-there c = let q = c.requires in
    let x = ready-waits c.args.mem.now c.args.frame c.args.page q (sym c.is_merged.ensures ∙ c.if-is_merged.false) in
    own-names q.device c.args.mem.now q.world q.rmap q.ledger q.between c.in-Some.key c.args.frame x.seen
    (waits-key q.ledger c.args.frame c.args.page c.in-Some.key c.in-Some.is x)

pub share-requires-clause-itemed : goal.share-requires-clause-itemed
share-requires-clause-itemed c = c.requires.between.serves.items

pub share-requires-clause-in_range : goal.share-requires-clause-in_range
share-requires-clause-in_range c = ready-below c.args.mem.now c.args.frame c.args.page c.requires

pub share-requires-clause-rooted : goal.share-requires-clause-rooted
share-requires-clause-rooted c = let q = c.requires in
    let x = ready-waits c.args.mem.now c.args.frame c.args.page q (sym c.is_merged.ensures ∙ c.if-is_merged.false) in
    own-rooted q.device c.args.mem.now q.world q.rmap q.ledger q.between c.in-Some.key c.args.frame x.seen
    (waits-key q.ledger c.args.frame c.args.page c.in-Some.key c.in-Some.is x)

pub returns-clause-merged : goal.returns-clause-merged
returns-clause-merged c = λ d w r l h ready.
    let unmerged = sym (merged-told d c.args.mem.now w r l h c.args.frame) ∙ sym c.is_merged.ensures ∙ c.if-is_merged.false in
    noted-shared d c.args.mem.now c.share.new.mem w r l c.args.frame c.args.notes.now c.push.new.self unmerged (record {
      notes = c.in_ok-push.ensures.ok;
      done = let x = waits-else l c.args.frame c.args.page unmerged ready in
          c.in_ok-share.ensures.done d w r l x.seen h (waits-key l c.args.frame c.args.page c.in-Some.key c.in-Some.is x);
    })

pub returns-clause-bytes : goal.returns-clause-bytes
returns-clause-bytes c = shared-bytes c.args.mem.now c.share.new.mem c.in-Some.key c.args.frame c.in_ok-share.ensures.shared
