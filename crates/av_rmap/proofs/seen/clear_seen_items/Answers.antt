use Rattle.std.proofs.Common.{Some, get_or, sym, ap, ◌∙◌, arith}
use Rattle.std.proofs.lemmas.List.{drop_all}
use Rattle.av_rmap.specs.Items.{looks_from_all}
use Rattle.av_rmap.specs.View.{View}
use Rattle.av_rmap.specs.Walk.{areas_from, looks_from}
use Rattle.av_rmap.specs.Seen.{unseen}
use Rattle.av_rmap.proofs.Changes.{all-changed, changed_from_all, from-then, left-with, over-then}
use Rattle.av_rmap.proofs.SeenLemmas.{clears, seen-or-none, seen-with}
use Rattle.av_rmap.proofs.seen.clear_seen_items.Goals as goal

pub loop-item-preserved : goal.loop-item-preserved
loop-item-preserved g c =
    let before = g.K.Look.view c.args.look.now in
    let now = g.K.Look.view c.loop-item.look in
    let new = g.K.Look.view c.clear_seen_from-any_seen.new.look in
    let f = c.args.frame in
    let h = c.loop-item.invariant in
    let e = c.clear_seen_from-any_seen.ensures in
    let x = get_or c.args.items.now c.loop-item.item-index (0, 0) in
    let left = left-with c.args.items.now c.loop-item.item-index (0, 0) c.loop-item-test.true in
    let looks = ap (looks_from_all before) left in
    let here = ap (λ (v : View). looks_from v (Some x)) h.rest in
    let counted = h.counted in let step = e.counted in
    record {
      rest = over-then (unseen f) before now new x (areas_from now x) h.rest e.cleared;
      cleared = from-then (unseen f) now new _ _ _ x left e.cleared h.cleared;
      seen = seen-with f before now new c.loop-item.any_seen c.clear_seen_from-any_seen.result h.seen e.seen;
      kept = e.kept ∙ h.kept;
      counted = omega (arith, looks, here, counted, step);
    }

pub returns-clause-seen : goal.returns-clause-seen
returns-clause-seen g c =
    let before = g.K.Look.view c.args.look.now in
    let now = g.K.Look.view c.loop-item.look in
    let f = c.args.frame in
    let h = c.loop-item.invariant in
    let none-left = drop_all c.loop-item.item-index c.args.items.now c.loop-item-test.false in
    let cleared = ap (λ items. changed_from_all (unseen f) items now) (sym none-left) ∙ h.cleared
    ∙ all-changed (clears f) c.args.items.now before c.requires.spanned c.requires.covered in
    seen-or-none f before now c.loop-item.any_seen cleared h.seen

pub returns-clause-cleared : goal.returns-clause-cleared
returns-clause-cleared g c =
    let before = g.K.Look.view c.args.look.now in
    let now = g.K.Look.view c.loop-item.look in
    let f = c.args.frame in
    ap (λ items. changed_from_all (unseen f) items now) (sym (drop_all c.loop-item.item-index c.args.items.now c.loop-item-test.false))
    ∙ c.loop-item.invariant.cleared ∙ all-changed (clears f) c.args.items.now before c.requires.spanned c.requires.covered
