use Rattle.std.proofs.lemmas.Option.{slice_get-get_or}
use Rattle.av_evict.proofs.SystemLaws.{stays_then}
use Rattle.av_swapoff.proofs.EmptyLaws.{emptying-end, emptying-step, emptying-stop}
use Rattle.av_swapoff.proofs.empty.empty_each.Goals as goal

pub returns-in-Some-clause-gives : goal.returns-in-Some-clause-gives
returns-in-Some-clause-gives g c = λ told.
    emptying-stop _ _ _ _ _ _ c.args.area c.loop-page.page c.args.users.now _ c.in-Some.end
    (slice_get-get_or c.args.users.now c.loop-page.page _ c.loop-page-test.true) (c.requires.closing told)
    (g.met.S.System.locks c.loop-page.system told) (c.loop-page.invariant.midway told)
    (rw c.in-Some.is at (c.in_ok-end.ensures.gives told))

pub loop-page-preserved : goal.loop-page-preserved
loop-page-preserved g c = record {
  midway = λ told.
      emptying-step _ _ _ _ _ _ c.args.area c.loop-page.page c.args.users.now _
      (slice_get-get_or c.args.users.now c.loop-page.page _ c.loop-page-test.true) (c.requires.closing told)
      (g.met.S.System.locks c.loop-page.system told) (c.loop-page.invariant.midway told)
      (rw c.in_default.is at (c.in_ok-end.ensures.gives told));
  stays = λ told. stays_then (c.loop-page.invariant.stays told) (c.in_ok-end.ensures.stays told);
}

pub returns-clause-gives : goal.returns-clause-gives
returns-clause-gives g c = λ told.
    emptying-end _ _ _ _ c.args.area c.loop-page.page c.args.users.now (c.loop-page.invariant.midway told) c.loop-page-test.false
