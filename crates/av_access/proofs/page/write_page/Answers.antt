use Rattle.std.proofs.Common.{sym, true, false, None, Some, ◌∙◌, ap}
use Rattle.std.proofs.lemmas.Bool.{false≢true}
use Rattle.av_frames.specs.Store.{Shown}
use Rattle.av_mem.proofs.MemLaws.{lives_is}
use Rattle.av_access.proofs.AccessParts.{page-steady, steady-lives}
use Rattle.av_access.proofs.PageStep.{frame_below, stopped, written_served}
use Rattle.av_access.proofs.page.write_page.Goals as goal

pub touch-requires : goal.touch-requires
touch-requires g c = c.requires.steady.0

pub write_at-requires-clause-in_range : goal.write_at-requires-clause-in_range
write_at-requires-clause-in_range g c =
    let h = steady-lives (g.D.SwapDev.sizes c.args.dev.now) (g.D.SwapDev.failures c.args.dev.now, g.D.SwapDev.history c.args.dev.now) c.args.mem.now c.args.process c.requires.steady in
    frame_below c.touch.new.mem true c.args.process c.args.page c.in-Ready.frame c.args.notes.now c.touch.new.notes
    (rw c.in-Ready.is at ((c.in_ok-frame.ensures.ready false).step h.state h.keeps))

pub unreachable-requires : goal.unreachable-requires
unreachable-requires g c =
    let h = steady-lives (g.D.SwapDev.sizes c.args.dev.now) (g.D.SwapDev.failures c.args.dev.now, g.D.SwapDev.history c.args.dev.now) c.args.mem.now c.args.process c.requires.steady in
    let t = rw c.in-Zeros.is at ((c.in_ok-frame.ensures.ready false).step h.state h.keeps) in
    false≢true (sym t.ready.1)

pub returns-in_err-frame-clause-same : goal.returns-in_err-frame-clause-same
returns-in_err-frame-clause-same g c = (c.touch.ensures.ready true).same

pub returns-in_err-frame-clause-count : goal.returns-in_err-frame-clause-count
returns-in_err-frame-clause-count g c = (c.touch.ensures.ready true).count

-- ---- to a frame

pub returns-in-Ready-clause-step : goal.returns-in-Ready-clause-step
returns-in-Ready-clause-step g c = λ s keeps.
    written_served s c.args.process c.args.page c.args.at c.args.piece.now c.args.notes.now c.touch.new.notes
    (c.touch.ensures.ready true).same c.touch.new.mem
    c.write_at.new.self c.in-Ready.frame
    (sym (lives_is _ c.args.mem.now s keeps c.args.process) ∙ c.requires.steady.1) c.requires.some c.requires.fits
    (rw c.in-Ready.is at ((c.in_ok-frame.ensures.ready true).step s keeps)) c.write_at.ensures

pub returns-in-Ready-clause-steady : goal.returns-in-Ready-clause-steady
returns-in-Ready-clause-steady g c =
    let h = steady-lives (g.D.SwapDev.sizes c.args.dev.now) (g.D.SwapDev.failures c.args.dev.now, g.D.SwapDev.history c.args.dev.now) c.args.mem.now c.args.process c.requires.steady in
    page-steady (g.D.SwapDev.sizes c.args.dev.now) (g.D.SwapDev.sizes c.touch.new.dev) (g.D.SwapDev.failures c.args.dev.now, g.D.SwapDev.history c.args.dev.now)
    (g.D.SwapDev.failures c.touch.new.dev, g.D.SwapDev.history c.touch.new.dev)
    h.state _ true c.args.process c.args.page c.args.at c.args.piece.now c.args.notes.now c.touch.new.notes None h.lives
    (written_served h.state c.args.process c.args.page c.args.at c.args.piece.now c.args.notes.now c.touch.new.notes
    (c.touch.ensures.ready false).same
    c.touch.new.mem c.write_at.new.self c.in-Ready.frame h.lives c.requires.some c.requires.fits
    (rw c.in-Ready.is at ((c.in_ok-frame.ensures.ready false).step h.state h.keeps)) c.write_at.ensures)

pub returns-in-Ready-clause-same : goal.returns-in-Ready-clause-same
returns-in-Ready-clause-same g c = (c.touch.ensures.ready true).same

pub returns-in-Ready-clause-count : goal.returns-in-Ready-clause-count
returns-in-Ready-clause-count g c = ap (λ (x : Shown). x.count) c.write_at.ensures ∙ (c.touch.ensures.ready true).count

-- ---- not served

pub returns-in-Stopped-clause-step : goal.returns-in-Stopped-clause-step
returns-in-Stopped-clause-step g c = λ s keeps.
    stopped s c.args.process c.args.page c.args.at c.args.piece.now c.args.notes.now c.touch.new.notes
    (c.touch.ensures.ready true).same c.touch.new.mem true
    c.in-Stopped.stop (rw c.in-Stopped.is at ((c.in_ok-frame.ensures.ready true).step s keeps))

pub returns-in-Stopped-clause-steady : goal.returns-in-Stopped-clause-steady
returns-in-Stopped-clause-steady g c =
    let h = steady-lives (g.D.SwapDev.sizes c.args.dev.now) (g.D.SwapDev.failures c.args.dev.now, g.D.SwapDev.history c.args.dev.now) c.args.mem.now c.args.process c.requires.steady in
    page-steady (g.D.SwapDev.sizes c.args.dev.now) (g.D.SwapDev.sizes c.touch.new.dev) (g.D.SwapDev.failures c.args.dev.now, g.D.SwapDev.history c.args.dev.now)
    (g.D.SwapDev.failures c.touch.new.dev, g.D.SwapDev.history c.touch.new.dev)
    h.state c.touch.new.mem true c.args.process c.args.page c.args.at c.args.piece.now c.args.notes.now c.touch.new.notes
    (Some c.in-Stopped.stop) h.lives
    (stopped h.state c.args.process c.args.page c.args.at c.args.piece.now c.args.notes.now c.touch.new.notes (c.touch.ensures.ready false).same
    c.touch.new.mem true c.in-Stopped.stop (rw c.in-Stopped.is at ((c.in_ok-frame.ensures.ready false).step h.state h.keeps)))

pub returns-in-Stopped-clause-same : goal.returns-in-Stopped-clause-same
returns-in-Stopped-clause-same g c = (c.touch.ensures.ready true).same

pub returns-in-Stopped-clause-count : goal.returns-in-Stopped-clause-count
returns-in-Stopped-clause-count g c = (c.touch.ensures.ready true).count
