use Rattle.std.proofs.Common.{◌+◌, ◌-◌, ◌/◌, sym, ◌∙◌, arith}
use Rattle.av_frames.specs.Store.{shown}
use Rattle.av_ksm.proofs.ContentsLaws.{greater-more, less-more}
use Rattle.av_ksm.proofs.contents.place.Goals as goal

pub loop-from-preserved-in-Less : goal.loop-from-preserved-in-Less
loop-from-preserved-in-Less c =
    let low = c.loop-from-test.true in
    record {
      ordered = omega arith;
      within = c.loop-from.invariant.within;
      less = less-more (shown c.args.frames.now).bytes c.args.row.now c.requires.rising c.args.frame (c.loop-from.from + (c.loop-from.past - c.loop-from.from) / 2)
          (omega arith) (sym c.cmp_frames.ensures ∙ c.in-Less.is);
      greater = c.loop-from.invariant.greater;
    }

pub loop-from-preserved : goal.loop-from-preserved
loop-from-preserved c =
    let low = c.loop-from-test.true in
    record {
      ordered = omega arith;
      within = omega arith;
      less = c.loop-from.invariant.less;
      greater = greater-more (shown c.args.frames.now).bytes c.args.row.now c.requires.rising c.args.frame (c.loop-from.from + (c.loop-from.past - c.loop-from.from) / 2)
          (sym c.cmp_frames.ensures ∙ c.in-Greater.is);
    }
