use Rattle.std.proofs.Common.{ap, sym, ◌∙◌}
use Rattle.std.specs.Prelude.{is_some}
use Rattle.av_mem.specs.Mem.{frame_count, locks_of}
use Rattle.av_ksm.proofs.CandidateLaws.{unlocked-count}
use Rattle.av_ksm.proofs.ContentsLaws.{found-below}
use Rattle.av_ksm.proofs.JoiningViews.{other-frame}
use Rattle.av_ksm.proofs.MergingAsks.{own-below}
use Rattle.av_ksm.proofs.MergingTurn.{candidate-own, candidate-unlocked, turned-again, turned-joins, turned-new, turned-none, turned-other, turned-ready, turned-same}
use Rattle.av_ksm.proofs.MergingViews.{on-ok-both}
use Rattle.av_ksm.proofs.merging.merge_page.Goals as goal

pub candidate-requires : goal.candidate-requires
candidate-requires c = let q = c.requires in (q.device, q.world, q.rmap, q.ledger, q.between)

pub returns-in_default-clause-turn : goal.returns-in_default-clause-turn
returns-in_default-clause-turn c = λ d w r l earlier h aware. turned-none d c.args.mem.now w r l earlier c.args.key c.args.contents.now h aware
    c.args.notes.now (sym (c.candidate.ensures d w r l h) ∙ c.in_default.is)

pub find_or_add-requires-clause-in_range : goal.find_or_add-requires-clause-in_range
find_or_add-requires-clause-in_range c =
    let q = c.requires in
    let x = candidate-own q.world q.ledger c.args.key c.in-Some.own (sym (c.candidate.ensures q.device q.world q.rmap q.ledger q.between) ∙ c.in-Some.is) in
    own-below q.device c.args.mem.now q.world q.rmap q.ledger q.between c.args.key c.in-Some.own x.0 x.1

pub find_or_add-requires-clause-kept : goal.find_or_add-requires-clause-kept
find_or_add-requires-clause-kept c = (c.requires.is.1.known, c.requires.is.1.kept)

pub returns-in_default-like-clause-turn : goal.returns-in_default-like-clause-turn
returns-in_default-like-clause-turn c = λ d w r l earlier h aware.
    turned-new d c.args.mem.now w r l earlier c.args.key c.args.contents.now h aware c.in-Some.own
    (sym (c.candidate.ensures d w r l h) ∙ c.in-Some.is) c.find_or_add.new.self c.args.notes.now
    (sym (c.in_ok-like.ensures.first aware.known aware.kept) ∙ c.in_default-like.is) (c.in_ok-like.ensures.kept aware.known aware.kept)

pub returns-then-frame-own-clause-turn : goal.returns-then-frame-own-clause-turn
returns-then-frame-own-clause-turn c = λ d w r l earlier h aware.
    turned-again d c.args.mem.now w r l earlier c.args.key c.args.contents.now h aware c.in-Some.own
    (sym (c.candidate.ensures d w r l h) ∙ c.in-Some.is) c.in-Some-like.frame c.in-Some-like.page
    (sym (c.in_ok-like.ensures.first aware.known aware.kept) ∙ c.in-Some-like.is)
    (found-below (frame_count c.args.mem.now) c.in_ok-like.like c.in-Some-like.frame c.in-Some-like.page c.in-Some-like.is c.in_ok-like.ensures.in_range)
    c.find_or_add.new.self (c.in_ok-like.ensures.found (ap is_some c.in-Some-like.is) aware.known aware.kept) c.args.notes.now c.if-frame-own.true

pub join_like-requires-clause-unlocked : goal.join_like-requires-clause-unlocked
join_like-requires-clause-unlocked c =
    let q = c.requires in
    unlocked-count (locks_of c.args.mem.now) q.world q.ledger c.in-Some.own q.between.serves.locks
    (candidate-unlocked q.world q.ledger c.args.key c.in-Some.own
    (sym (c.candidate.ensures q.device q.world q.rmap q.ledger q.between) ∙ c.in-Some.is))

pub join_like-requires-clause-stands : goal.join_like-requires-clause-stands
join_like-requires-clause-stands c =
    let q = c.requires in
    let k = c.args.mem.now in
    let is = sym (c.candidate.ensures q.device q.world q.rmap q.ledger q.between) ∙ c.in-Some.is in
    let at = sym (c.in_ok-like.ensures.first q.is.1.known q.is.1.kept) ∙ c.in-Some-like.is in
    let below = found-below (frame_count k) c.in_ok-like.like c.in-Some-like.frame c.in-Some-like.page c.in-Some-like.is c.in_ok-like.ensures.in_range in
    record {
      device = q.device;
      world = q.world;
      rmap = q.rmap;
      ledger = q.ledger;
      between = q.between;
      is = (
        turned-other q.device k q.world q.rmap q.ledger q.is.0 c.args.key c.args.contents.now q.between q.is.1 c.in-Some.own is
            c.in-Some-like.frame c.in-Some-like.page at below (other-frame c.in-Some.own c.in-Some-like.frame c.if-frame-own.false).1,
        turned-ready q.device k q.world q.rmap q.ledger q.is.0 c.args.key c.args.contents.now q.between q.is.1 c.in-Some.own is
            c.in-Some-like.frame c.in-Some-like.page at below,
      );
    }

pub returns-clause-turn : goal.returns-clause-turn
returns-clause-turn c = on-ok-both c.join_like.result (λ joins bytes d w r l earlier h aware.
    let k = c.args.mem.now in
    let is = sym (c.candidate.ensures d w r l h) ∙ c.in-Some.is in
    let at = sym (c.in_ok-like.ensures.first aware.known aware.kept) ∙ c.in-Some-like.is in
    let own = c.in-Some.own in
    let f = c.in-Some-like.frame in
    let page = c.in-Some-like.page in
    let below = found-below (frame_count k) c.in_ok-like.like f page c.in-Some-like.is c.in_ok-like.ensures.in_range in
    let contents = c.args.contents.now in
    turned-joins d k w r l earlier c.args.key contents h aware own is f page at below
    c.find_or_add.new.self (c.in_ok-like.ensures.found (ap is_some c.in-Some-like.is) aware.known aware.kept)
    c.join_like.new.mem c.args.notes.now c.join_like.new.notes bytes c.join_like.ensures.parts
    (joins d w r l h (turned-other d k w r l earlier c.args.key contents h aware own is f page at below (other-frame c.in-Some.own f c.if-frame-own.false).1)
    (turned-ready d k w r l earlier c.args.key contents h aware own is f page at below)
    (turned-same d k w r l earlier c.args.key contents h aware own is f page at below)))
    c.join_like.ensures.joins c.join_like.ensures.bytes
