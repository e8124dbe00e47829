use Rattle.std.proofs.Common.{◌==◌, subst, sym}
use Rattle.av_chain.specs.Links.{one_if}
use Rattle.av_frames.specs.Store.{shown}
use Rattle.av_mem.specs.Locked.{IsCounted, MayCount}
use Rattle.av_mem.specs.declared.locked.Way.{Way}
use Rattle.av_mem.proofs.LockRuns.{one-down, one-up}
use Rattle.av_mem.proofs.locked.count_frame.Goals as goal

pub returns-in-Up-clause-locks : goal.returns-in-Up-clause-locks
returns-in-Up-clause-locks c = λ f.
    let old = shown c.args.frames.now in
    let new = shown c.lock_up.new.self in
    subst (λ (way : Way). IsCounted way (old.locks f) (new.locks f) (one_if (f == c.args.frame)))
    (sym c.in-Up.is) (one-up old new c.args.frame f c.lock_up.ensures)

pub returns-in-Down-clause-locks : goal.returns-in-Down-clause-locks
returns-in-Down-clause-locks c = λ f.
    let old = shown c.args.frames.now in
    let new = shown c.lock_down.new.self in
    let frame = c.args.frame in
    subst (λ (way : Way). IsCounted way (old.locks f) (new.locks f) (one_if (f == frame)))
    (sym c.in-Down.is) (one-down old new frame f
    (subst (λ (way : Way). MayCount way (old.locks frame) 1) c.in-Down.is c.requires.may)
    c.lock_down.ensures)
