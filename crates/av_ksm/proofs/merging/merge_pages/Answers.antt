use Rattle.std.proofs.Common.{◌^◌, List, Option, refl, sym, ap, ◌∙◌, arith}
use Rattle.av_vma.specs.Areas.{area_of, is_mergeable}
use Rattle.av_vma.specs.declared.area.Area.{Area}
use Rattle.av_plain.specs.Areas.{rmap_after_all}
use Rattle.av_plain.specs.Event.{after_notes, note_events}
use Rattle.av_ksm.proofs.MergesLaws.{passed-all, passed-between, passed-none, passed-one}
use Rattle.av_ksm.proofs.NoneMergeable.{noted-unmergeable}
use Rattle.av_ksm.proofs.PagesLaws.{less-left}
use Rattle.av_ksm.proofs.merging.merge_pages.Goals as goal

pub loop-key-init : goal.loop-key-init
loop-key-init c = record {
  passed = λ d w r l h. passed-none d c.args.mem.now w r l h c.in_ok-contents.contents c.args.notes.now (c.in_ok-contents.ensures d w r l h);
  bytes = refl;
  count = refl;
  within = omega arith;
}

pub merge_page-requires : goal.merge_page-requires
merge_page-requires c =
    let b = c.requires in
    let k = c.loop-key in
    let p = k.invariant.passed b.0 b.1 b.2 b.3 b.4 in
    record {
      device = b.0;
      world = b.1;
      rmap = rmap_after_all b.3 (note_events p.added) b.2;
      ledger = after_notes b.3 p.added;
      between = passed-between b.0 c.args.mem.now k.mem b.1 b.2 b.3 k.from k.contents c.args.notes.now k.notes p;
      is = (p.earlier, p.aware);
    }

pub loop-key-smaller : goal.loop-key-smaller
loop-key-smaller c = less-left (2 ^ 16) c.loop-key.from c.in-Some.key c.in-Some.ensures.ahead c.loop-key.invariant.within c.in-Some.ensures.below (omega arith)

pub loop-key-preserved : goal.loop-key-preserved
loop-key-preserved c =
    let k = c.loop-key in
    let old = c.args.mem.now in
    record {
      passed = λ d w r l h.
          let p = k.invariant.passed d w r l h in
          let between = passed-between d old k.mem w r l k.from k.contents c.args.notes.now k.notes p in
          let r' = rmap_after_all l (note_events p.added) r in
          let l' = after_notes l p.added in
          passed-one d old k.mem w r l k.from k.contents c.args.notes.now k.notes p c.in-Some.key (c.in-Some.ensures.next d w r' l' between)
          k.invariant.bytes c.merge_page.new.mem c.merge_page.new.contents c.merge_page.new.notes
          (c.in_ok-merge_page.ensures.turn d w r' l' p.earlier between p.aware);
      bytes = c.in_ok-merge_page.ensures.bytes ∙ k.invariant.bytes;
      count = c.in_ok-merge_page.ensures.parts.count ∙ k.invariant.count;
      within = let below = c.in-Some.ensures.below in omega (arith, below);
    }

pub returns-clause-merges : goal.returns-clause-merges
returns-clause-merges c = λ d w r l h.
    let k = c.loop-key in
    let old = c.args.mem.now in
    let p = k.invariant.passed d w r l h in
    passed-all d old k.mem w r l k.from k.contents c.args.notes.now k.notes p
    (c.in_default.ensures.next d w (rmap_after_all l (note_events p.added) r) (after_notes l p.added)
    (passed-between d old k.mem w r l k.from k.contents c.args.notes.now k.notes p))

pub returns-then-not-any_mergeable-clause-merges : goal.returns-then-not-any_mergeable-clause-merges
returns-then-not-any_mergeable-clause-merges c = λ d w r l h.
    let none = c.if-not-any_mergeable.ensures in
    noted-unmergeable d c.args.mem.now w r l h c.by_number.ensures.numbered
    (λ number. ap (λ (areas : List (Option Area)). is_mergeable (area_of areas number)) (sym c.by_number.ensures.areas) ∙ none number) c.args.notes.now
