use Rattle.std.proofs.Common.{None, Some, [], ap}
use Rattle.av_plain.specs.Device.{seen_by}
use Rattle.av_reclaim.proofs.FinishMakes.{finish-told, first-told}
use Rattle.av_reclaim.proofs.LeavesMakes.{finish-leaves}
use Rattle.av_reclaim.proofs.driver.DriverSystem.finish.Goals as goal

pub returns-in_err-finished-clause-first : goal.returns-in_err-finished-clause-first
returns-in_err-finished-clause-first g c =
    let dev = c.args.self.now.dev.now in
    let dev' = c.finish.new.dev in
    let d = seen_by g.D.SwapDev.sizes g.D.SwapDev.pages g.D.SwapDev.failures g.D.SwapDev.history dev in
    let d' = seen_by g.D.SwapDev.sizes g.D.SwapDev.pages g.D.SwapDev.failures g.D.SwapDev.history dev' in
    first-told [] d d' c.args.self.now.mem.now c.finish.new.self None _ c.from_residual.ensures c.in_err-finished.ensures.ends

pub returns-in_err-finished-clause-ends : goal.returns-in_err-finished-clause-ends
returns-in_err-finished-clause-ends g c =
    let dev = c.args.self.now.dev.now in
    let dev' = c.finish.new.dev in
    let d = seen_by g.D.SwapDev.sizes g.D.SwapDev.pages g.D.SwapDev.failures g.D.SwapDev.history dev in
    let d' = seen_by g.D.SwapDev.sizes g.D.SwapDev.pages g.D.SwapDev.failures g.D.SwapDev.history dev' in
    finish-told _ d d' c.args.self.now.mem.now c.finish.new.self None _ c.from_residual.ensures c.in_err-finished.ensures.same_sizes
    c.in_err-finished.ensures.never_falls c.in_err-finished.ensures.parts c.in_err-finished.ensures.ends

pub returns-clause-first : goal.returns-clause-first
returns-clause-first g c =
    let dev = c.args.self.now.dev.now in
    let dev' = c.finish.new.dev in
    let d = seen_by g.D.SwapDev.sizes g.D.SwapDev.pages g.D.SwapDev.failures g.D.SwapDev.history dev in
    let d' = seen_by g.D.SwapDev.sizes g.D.SwapDev.pages g.D.SwapDev.failures g.D.SwapDev.history dev' in
    first-told [] d d' c.args.self.now.mem.now c.finish.new.self (Some c.in_ok-finished.finished) _ (ap (λ e. Some e) c.end_of.ensures)
    c.in_ok-finished.ensures.ends

pub returns-clause-ends : goal.returns-clause-ends
returns-clause-ends g c =
    let dev = c.args.self.now.dev.now in
    let dev' = c.finish.new.dev in
    let d = seen_by g.D.SwapDev.sizes g.D.SwapDev.pages g.D.SwapDev.failures g.D.SwapDev.history dev in
    let d' = seen_by g.D.SwapDev.sizes g.D.SwapDev.pages g.D.SwapDev.failures g.D.SwapDev.history dev' in
    finish-told _ d d' c.args.self.now.mem.now c.finish.new.self (Some c.in_ok-finished.finished) _ (ap (λ e. Some e) c.end_of.ensures)
    c.in_ok-finished.ensures.same_sizes c.in_ok-finished.ensures.never_falls c.in_ok-finished.ensures.parts c.in_ok-finished.ensures.ends

pub returns-in_err-finished-clause-stays : goal.returns-in_err-finished-clause-stays
returns-in_err-finished-clause-stays g c =
    let dev = c.args.self.now.dev.now in
    let dev' = c.finish.new.dev in
    let d = seen_by g.D.SwapDev.sizes g.D.SwapDev.pages g.D.SwapDev.failures g.D.SwapDev.history dev in
    let d' = seen_by g.D.SwapDev.sizes g.D.SwapDev.pages g.D.SwapDev.failures g.D.SwapDev.history dev' in
    finish-leaves _ d d' c.args.self.now.mem.now c.finish.new.self None c.in_err-finished.ensures.same_sizes
    c.in_err-finished.ensures.never_falls c.in_err-finished.ensures.parts c.in_err-finished.ensures.ends

pub returns-clause-stays : goal.returns-clause-stays
returns-clause-stays g c =
    let dev = c.args.self.now.dev.now in
    let dev' = c.finish.new.dev in
    let d = seen_by g.D.SwapDev.sizes g.D.SwapDev.pages g.D.SwapDev.failures g.D.SwapDev.history dev in
    let d' = seen_by g.D.SwapDev.sizes g.D.SwapDev.pages g.D.SwapDev.failures g.D.SwapDev.history dev' in
    finish-leaves _ d d' c.args.self.now.mem.now c.finish.new.self (Some c.in_ok-finished.finished)
    c.in_ok-finished.ensures.same_sizes c.in_ok-finished.ensures.never_falls c.in_ok-finished.ensures.parts c.in_ok-finished.ensures.ends
