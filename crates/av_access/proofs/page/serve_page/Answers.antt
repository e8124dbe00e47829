use Rattle.std.proofs.Common.{true, false, None, Some, []}
use Rattle.av_access.proofs.AccessParts.{page-steady, steady-lives}
use Rattle.av_access.proofs.PageStep.{ready_served, stopped, zeros_served}
use Rattle.av_access.proofs.page.serve_page.Goals as goal

pub touch-requires : goal.touch-requires
touch-requires g c = c.requires.steady.0

-- ---- from a frame

pub returns-in-Ready-clause-step : goal.returns-in-Ready-clause-step
returns-in-Ready-clause-step g c = λ s keeps.
    ready_served s c.args.process c.args.page c.args.notes.now c.touch.new.notes (c.touch.ensures.ready true).same c.touch.new.mem c.args.write
    c.in-Ready._frame (rw c.in-Ready.is at ((c.in_ok-_frame.ensures.ready true).step s keeps))

pub returns-in-Ready-clause-steady : goal.returns-in-Ready-clause-steady
returns-in-Ready-clause-steady g c =
    let h = steady-lives (g.D.SwapDev.sizes c.args.dev.now) (g.D.SwapDev.failures c.args.dev.now, g.D.SwapDev.history c.args.dev.now) c.args.mem.now c.args.process c.requires.steady in
    page-steady (g.D.SwapDev.sizes c.args.dev.now) (g.D.SwapDev.sizes c.touch.new.dev) (g.D.SwapDev.failures c.args.dev.now, g.D.SwapDev.history c.args.dev.now)
    (g.D.SwapDev.failures c.touch.new.dev, g.D.SwapDev.history c.touch.new.dev)
    h.state c.touch.new.mem c.args.write c.args.process c.args.page 0 [] c.args.notes.now c.touch.new.notes None h.lives
    (ready_served h.state c.args.process c.args.page c.args.notes.now c.touch.new.notes (c.touch.ensures.ready false).same c.touch.new.mem c.args.write
    c.in-Ready._frame (rw c.in-Ready.is at ((c.in_ok-_frame.ensures.ready false).step h.state h.keeps)))

-- ---- from the page of zeros

pub returns-in-Zeros-clause-step : goal.returns-in-Zeros-clause-step
returns-in-Zeros-clause-step g c = λ s keeps.
    zeros_served s c.args.process c.args.page c.args.notes.now c.touch.new.notes (c.touch.ensures.ready true).same c.touch.new.mem c.args.write
    (rw c.in-Zeros.is at ((c.in_ok-_frame.ensures.ready true).step s keeps))

pub returns-in-Zeros-clause-steady : goal.returns-in-Zeros-clause-steady
returns-in-Zeros-clause-steady g c =
    let h = steady-lives (g.D.SwapDev.sizes c.args.dev.now) (g.D.SwapDev.failures c.args.dev.now, g.D.SwapDev.history c.args.dev.now) c.args.mem.now c.args.process c.requires.steady in
    page-steady (g.D.SwapDev.sizes c.args.dev.now) (g.D.SwapDev.sizes c.touch.new.dev) (g.D.SwapDev.failures c.args.dev.now, g.D.SwapDev.history c.args.dev.now)
    (g.D.SwapDev.failures c.touch.new.dev, g.D.SwapDev.history c.touch.new.dev)
    h.state c.touch.new.mem c.args.write c.args.process c.args.page 0 [] c.args.notes.now c.touch.new.notes None h.lives
    (zeros_served h.state c.args.process c.args.page c.args.notes.now c.touch.new.notes (c.touch.ensures.ready false).same c.touch.new.mem c.args.write
    (rw c.in-Zeros.is at ((c.in_ok-_frame.ensures.ready false).step h.state h.keeps)))

-- ---- not served

pub returns-in-Stopped-clause-step : goal.returns-in-Stopped-clause-step
returns-in-Stopped-clause-step g c = λ s keeps.
    stopped s c.args.process c.args.page 0 [] c.args.notes.now c.touch.new.notes (c.touch.ensures.ready true).same c.touch.new.mem c.args.write
    c.in-Stopped.stop (rw c.in-Stopped.is at ((c.in_ok-_frame.ensures.ready true).step s keeps))

pub returns-in-Stopped-clause-steady : goal.returns-in-Stopped-clause-steady
returns-in-Stopped-clause-steady g c =
    let h = steady-lives (g.D.SwapDev.sizes c.args.dev.now) (g.D.SwapDev.failures c.args.dev.now, g.D.SwapDev.history c.args.dev.now) c.args.mem.now c.args.process c.requires.steady in
    page-steady (g.D.SwapDev.sizes c.args.dev.now) (g.D.SwapDev.sizes c.touch.new.dev) (g.D.SwapDev.failures c.args.dev.now, g.D.SwapDev.history c.args.dev.now)
    (g.D.SwapDev.failures c.touch.new.dev, g.D.SwapDev.history c.touch.new.dev)
    h.state c.touch.new.mem c.args.write c.args.process c.args.page 0 [] c.args.notes.now c.touch.new.notes (Some c.in-Stopped.stop) h.lives
    (stopped h.state c.args.process c.args.page 0 [] c.args.notes.now c.touch.new.notes (c.touch.ensures.ready false).same c.touch.new.mem
    c.args.write c.in-Stopped.stop (rw c.in-Stopped.is at ((c.in_ok-_frame.ensures.ready false).step h.state h.keeps)))

pub returns-in_err-_frame-clause-same : goal.returns-in_err-_frame-clause-same
returns-in_err-_frame-clause-same g c = (c.touch.ensures.ready true).same

pub returns-in_err-_frame-clause-count : goal.returns-in_err-_frame-clause-count
returns-in_err-_frame-clause-count g c = (c.touch.ensures.ready true).count

pub returns-in-Ready-clause-same : goal.returns-in-Ready-clause-same
returns-in-Ready-clause-same g c = (c.touch.ensures.ready true).same

pub returns-in-Ready-clause-count : goal.returns-in-Ready-clause-count
returns-in-Ready-clause-count g c = (c.touch.ensures.ready true).count

pub returns-in-Zeros-clause-same : goal.returns-in-Zeros-clause-same
returns-in-Zeros-clause-same g c = (c.touch.ensures.ready true).same

pub returns-in-Zeros-clause-count : goal.returns-in-Zeros-clause-count
returns-in-Zeros-clause-count g c = (c.touch.ensures.ready true).count

pub returns-in-Stopped-clause-same : goal.returns-in-Stopped-clause-same
returns-in-Stopped-clause-same g c = (c.touch.ensures.ready true).same

pub returns-in-Stopped-clause-count : goal.returns-in-Stopped-clause-count
returns-in-Stopped-clause-count g c = (c.touch.ensures.ready true).count
