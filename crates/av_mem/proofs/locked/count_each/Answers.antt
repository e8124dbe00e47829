use Rattle.std.proofs.Common.{◌<◌, ap, arith, length, refl, subst}
use Rattle.av_frames.specs.Store.{Shown, shown}
use Rattle.av_pagetable.specs.declared.pte.Pte.TheVariants.{Empty}
use Rattle.av_rmap.specs.Walk.{names_frame}
use Rattle.av_mem.specs.Locked.{IsCounted}
use Rattle.av_mem.proofs.LockRuns.{below-then, counted-none, counted-then, locks-alone, may-then}
use Rattle.av_mem.proofs.LockRuns.{one-more, one-of-all}
use Rattle.av_mem.proofs.locked.count_each.Goals as goal

pub loop-entry-init : goal.loop-entry-init
loop-entry-init c = record {
  within = omega arith;
  locks = λ f. counted-none c.args.way ((shown c.args.frames.now).locks f);
  rest = refl;
}

pub count_one-requires-clause-in_range : goal.count_one-requires-clause-in_range
count_one-requires-clause-in_range c =
    below-then _ _ (ap (λ (s : Shown). s.count) c.loop-entry.invariant.rest) _
    (c.requires.in_range c.loop-entry.entry-index Empty (omega (arith, c.loop-entry-test.true)))

pub count_one-requires-clause-may : goal.count_one-requires-clause-may
count_one-requires-clause-may c = λ f.
    let i = c.loop-entry.entry-index in
    may-then c.args.way _ _ _ _ _ (c.loop-entry.invariant.locks f) (c.requires.may f)
    (one-of-all (names_frame f) c.args.run.now i Empty (omega (arith, c.loop-entry-test.true)))

pub loop-entry-preserved : goal.loop-entry-preserved
loop-entry-preserved c =
    let i = c.loop-entry.entry-index in
    let v = c.loop-entry.invariant in
    let low : i < length c.args.run.now = omega (arith, c.loop-entry-test.true) in
    record {
      within = omega (arith, low);
      locks = λ f. subst (IsCounted c.args.way ((shown c.args.frames.now).locks f)
          ((shown c.count_one.new.frames).locks f))
          (one-more (names_frame f) c.args.run.now i Empty low)
          (counted-then c.args.way _ _ _ _ _ (v.locks f) (c.count_one.ensures.locks f));
      rest = locks-alone (shown c.args.frames.now) (shown c.loop-entry.frames)
          (shown c.count_one.new.frames) v.rest c.count_one.ensures.rest;
    }
