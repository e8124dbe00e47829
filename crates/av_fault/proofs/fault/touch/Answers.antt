use Rattle.std.proofs.Common.{false, true, subst, sym}
use Rattle.av_plain.specs.Device.{as_told, seen_by}
use Rattle.av_base.specs.Keys.{Key}
use Rattle.av_fault.specs.Fault.{MakesReady}
use Rattle.av_mem.proofs.HomeLaws.{first-laid}
use Rattle.av_fault.proofs.TouchLaws.{is-ready}
use Rattle.av_fault.proofs.fault.touch.Goals as goal

pub home-home-requires-clause-first : goal.home-home-requires-clause-first
home-home-requires-clause-first g c =
    first-laid _ c.args.page c.in-Some.area c.area_for.ensures.laid c.in-Some.ensures.here

pub returns-then-write : goal.returns-then-write
returns-then-write g c = record {
  ready = λ told.
      let d = seen_by g.D.SwapDev.sizes g.D.SwapDev.pages g.D.SwapDev.failures g.D.SwapDev.history c.args.dev.now in
      let d1 = seen_by g.D.SwapDev.sizes g.D.SwapDev.pages g.D.SwapDev.failures g.D.SwapDev.history c.touch_to_write.new.dev in
      let key : Key = (c.args.process, c.args.page) in
      let done = c.touch_to_write in
      subst (λ b. MakesReady (as_told told d) (as_told told d1) c.args.mem.now done.new.mem b key c.args.notes.now done.new.notes done.result)
      (sym c.if-write.true)
      (is-ready told d d1 c.args.mem.now done.new.mem true key c.args.notes.now done.new.notes done.result done.ensures.touched done.ensures.same
      done.ensures.count);
}

pub returns-else-write : goal.returns-else-write
returns-else-write g c = record {
  ready = λ told.
      let d = seen_by g.D.SwapDev.sizes g.D.SwapDev.pages g.D.SwapDev.failures g.D.SwapDev.history c.args.dev.now in
      let d1 = seen_by g.D.SwapDev.sizes g.D.SwapDev.pages g.D.SwapDev.failures g.D.SwapDev.history c.touch_to_read.new.dev in
      let key : Key = (c.args.process, c.args.page) in
      let done = c.touch_to_read in
      subst (λ b. MakesReady (as_told told d) (as_told told d1) c.args.mem.now done.new.mem b key c.args.notes.now done.new.notes done.result)
      (sym c.if-write.false)
      (is-ready told d d1 c.args.mem.now done.new.mem false key c.args.notes.now done.new.notes done.result done.ensures.touched done.ensures.same
      done.ensures.count);
}
