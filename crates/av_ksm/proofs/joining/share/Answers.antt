use Rattle.std.proofs.Common.{ap, refl, ◌∙◌}
use Rattle.av_frames.specs.Store.{Shown}
use Rattle.av_pagetable.specs.Entries.{entry_at}
use Rattle.av_mem.specs.Mem.{view}
use Rattle.av_mem.specs.declared.mem.Mem.{Mem}
use Rattle.av_mem.proofs.EntryComes.{parts-with}
use Rattle.av_mem.proofs.StayLaws.{parts-then}
use Rattle.av_ksm.specs.Join.{view_with_item}
use Rattle.av_ksm.specs.Joining.{item_by}
use Rattle.av_ksm.proofs.JoiningViews.{share-view}
use Rattle.av_ksm.proofs.StepDone.{share-done}
use Rattle.av_ksm.proofs.joining.share.Goals as goal

pub returns-clause-shared : goal.returns-clause-shared
returns-clause-shared c =
    let old : Mem = c.args.mem.now in
    let mid : Mem = c.add_item.new.mem in
    let there = c.requires.there in
    record {
      write = there.write;
      seen = there.seen;
      there = there.there;
      view = share-view old mid c.protect.new.mem c.set_home.new.self c.args.key.0 c.args.key.1 c.args.frame there.seen
          (item_by old ((view old).homes c.args.frame))
          (c.in_ok-add_item.ensures.added ∙ ap (λ x. view_with_item c.args.frame (item_by old x) (view old)) c.home-first.ensures)
          c.protect.ensures.rest c.set_home.ensures
          (c.protect.ensures.entries there.write there.seen
          (ap (λ (k : Mem). entry_at k.tables c.args.key.0 c.args.key.1) c.in_ok-add_item.ensures.rest ∙ there.there));
    }

pub returns-clause-done : goal.returns-clause-done
returns-clause-done c = λ d w r l seen h own. share-done d c.args.mem.now c.protect.new.mem w r l h
    (parts-then c.in_ok-add_item.ensures.parts
    (parts-then (parts-with c.add_item.new.mem c.set_home.new.self _ (ap (λ (s : Shown). s.count) c.set_home.ensures)
    (ap (λ (s : Shown). s.locks) c.set_home.ensures) refl) c.protect.ensures.parts))
    c.args.key c.args.frame seen own (returns-clause-shared c)
