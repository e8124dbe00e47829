use Rattle.std.proofs.Common.{refl, true, false, None, Some, []}
use Rattle.av_access.proofs.AccessParts.{page-steady, steady-lives}
use Rattle.av_access.proofs.PageStep.{frame_below, stopped}
use Rattle.av_access.proofs.PageShown.{frame_shown, zeros_shown}
use Rattle.av_access.proofs.page.read_page.Goals as goal

pub touch-requires : goal.touch-requires
touch-requires g c = c.requires.steady.0

pub bytes-requires : goal.bytes-requires
bytes-requires g c =
    let h = steady-lives (g.D.SwapDev.sizes c.args.dev.now) (g.D.SwapDev.failures c.args.dev.now, g.D.SwapDev.history c.args.dev.now) c.args.mem.now c.args.process c.requires.steady in
    frame_below c.touch.new.mem false c.args.process c.args.page c.in-Ready.frame c.args.notes.now c.touch.new.notes
    (rw c.in-Ready.is at ((c.in_ok-frame.ensures.ready false).step h.state h.keeps))

-- ---- from a frame

pub returns-in_ok-append_piece-in-Ready-clause-step : goal.returns-in_ok-append_piece-in-Ready-clause-step
returns-in_ok-append_piece-in-Ready-clause-step g c = λ s keeps.
    frame_shown s c.touch.new.mem c.args.process c.args.page c.args.at c.args.len c.args.notes.now c.touch.new.notes c.requires.fits
    (c.touch.ensures.ready true).same
    c.in-Ready.frame c.bytes.result.now c.args.shown.now c.append_piece.new.shown
    (rw c.in-Ready.is at ((c.in_ok-frame.ensures.ready true).step s keeps)) c.bytes.ensures.long c.bytes.ensures.bytes
    c.in_ok-append_piece-in-Ready.ensures.shown
    c.append_piece.ensures.bytes

pub returns-in_ok-append_piece-in-Ready-clause-steady : goal.returns-in_ok-append_piece-in-Ready-clause-steady
returns-in_ok-append_piece-in-Ready-clause-steady g c =
    let h = steady-lives (g.D.SwapDev.sizes c.args.dev.now) (g.D.SwapDev.failures c.args.dev.now, g.D.SwapDev.history c.args.dev.now) c.args.mem.now c.args.process c.requires.steady in
    page-steady (g.D.SwapDev.sizes c.args.dev.now) (g.D.SwapDev.sizes c.touch.new.dev) (g.D.SwapDev.failures c.args.dev.now, g.D.SwapDev.history c.args.dev.now)
    (g.D.SwapDev.failures c.touch.new.dev, g.D.SwapDev.history c.touch.new.dev)
    h.state c.touch.new.mem false c.args.process c.args.page c.args.at [] c.args.notes.now c.touch.new.notes None h.lives
    (frame_shown h.state c.touch.new.mem c.args.process c.args.page c.args.at c.args.len c.args.notes.now c.touch.new.notes c.requires.fits
    (c.touch.ensures.ready false).same
    c.in-Ready.frame c.bytes.result.now c.args.shown.now c.append_piece.new.shown
    (rw c.in-Ready.is at ((c.in_ok-frame.ensures.ready false).step h.state h.keeps)) c.bytes.ensures.long c.bytes.ensures.bytes
    c.in_ok-append_piece-in-Ready.ensures.shown
    c.append_piece.ensures.bytes).step

-- ---- from the page of zeros

pub returns-in_ok-append_zeros-in-Zeros-clause-step : goal.returns-in_ok-append_zeros-in-Zeros-clause-step
returns-in_ok-append_zeros-in-Zeros-clause-step g c = λ s keeps.
    zeros_shown s c.touch.new.mem c.args.process c.args.page c.args.at c.args.len c.args.notes.now c.touch.new.notes c.requires.fits
    (c.touch.ensures.ready true).same
    c.args.shown.now c.append_zeros.new.shown
    (rw c.in-Zeros.is at ((c.in_ok-frame.ensures.ready true).step s keeps)) c.in_ok-append_zeros-in-Zeros.ensures

pub returns-in_ok-append_zeros-in-Zeros-clause-steady : goal.returns-in_ok-append_zeros-in-Zeros-clause-steady
returns-in_ok-append_zeros-in-Zeros-clause-steady g c =
    let h = steady-lives (g.D.SwapDev.sizes c.args.dev.now) (g.D.SwapDev.failures c.args.dev.now, g.D.SwapDev.history c.args.dev.now) c.args.mem.now c.args.process c.requires.steady in
    page-steady (g.D.SwapDev.sizes c.args.dev.now) (g.D.SwapDev.sizes c.touch.new.dev) (g.D.SwapDev.failures c.args.dev.now, g.D.SwapDev.history c.args.dev.now)
    (g.D.SwapDev.failures c.touch.new.dev, g.D.SwapDev.history c.touch.new.dev)
    h.state c.touch.new.mem false c.args.process c.args.page c.args.at [] c.args.notes.now c.touch.new.notes None h.lives
    (zeros_shown h.state c.touch.new.mem c.args.process c.args.page c.args.at c.args.len c.args.notes.now c.touch.new.notes c.requires.fits
    (c.touch.ensures.ready false).same
    c.args.shown.now c.append_zeros.new.shown
    (rw c.in-Zeros.is at ((c.in_ok-frame.ensures.ready false).step h.state h.keeps)) c.in_ok-append_zeros-in-Zeros.ensures).step

-- ---- not served

pub returns-in-Stopped-clause-step : goal.returns-in-Stopped-clause-step
returns-in-Stopped-clause-step g c = λ s keeps. record {
  step = stopped s c.args.process c.args.page c.args.at [] c.args.notes.now c.touch.new.notes (c.touch.ensures.ready true).same c.touch.new.mem false
      c.in-Stopped.stop (rw c.in-Stopped.is at ((c.in_ok-frame.ensures.ready true).step s keeps));
  shows = refl;
}

pub returns-in-Stopped-clause-steady : goal.returns-in-Stopped-clause-steady
returns-in-Stopped-clause-steady g c =
    let h = steady-lives (g.D.SwapDev.sizes c.args.dev.now) (g.D.SwapDev.failures c.args.dev.now, g.D.SwapDev.history c.args.dev.now) c.args.mem.now c.args.process c.requires.steady in
    page-steady (g.D.SwapDev.sizes c.args.dev.now) (g.D.SwapDev.sizes c.touch.new.dev) (g.D.SwapDev.failures c.args.dev.now, g.D.SwapDev.history c.args.dev.now)
    (g.D.SwapDev.failures c.touch.new.dev, g.D.SwapDev.history c.touch.new.dev)
    h.state c.touch.new.mem false c.args.process c.args.page c.args.at [] c.args.notes.now c.touch.new.notes (Some c.in-Stopped.stop) h.lives
    (stopped h.state c.args.process c.args.page c.args.at [] c.args.notes.now c.touch.new.notes (c.touch.ensures.ready false).same c.touch.new.mem
    false c.in-Stopped.stop (rw c.in-Stopped.is at ((c.in_ok-frame.ensures.ready false).step h.state h.keeps)))

pub returns-in_err-frame-clause-same : goal.returns-in_err-frame-clause-same
returns-in_err-frame-clause-same g c = (c.touch.ensures.ready true).same

pub returns-in_err-frame-clause-count : goal.returns-in_err-frame-clause-count
returns-in_err-frame-clause-count g c = (c.touch.ensures.ready true).count

pub returns-in_ok-append_piece-in-Ready-clause-same : goal.returns-in_ok-append_piece-in-Ready-clause-same
returns-in_ok-append_piece-in-Ready-clause-same g c = (c.touch.ensures.ready true).same

pub returns-in_ok-append_piece-in-Ready-clause-count : goal.returns-in_ok-append_piece-in-Ready-clause-count
returns-in_ok-append_piece-in-Ready-clause-count g c = (c.touch.ensures.ready true).count

pub returns-in_err-append_piece-in-Ready-clause-same : goal.returns-in_err-append_piece-in-Ready-clause-same
returns-in_err-append_piece-in-Ready-clause-same g c = (c.touch.ensures.ready true).same

pub returns-in_err-append_piece-in-Ready-clause-count : goal.returns-in_err-append_piece-in-Ready-clause-count
returns-in_err-append_piece-in-Ready-clause-count g c = (c.touch.ensures.ready true).count

pub returns-in_ok-append_zeros-in-Zeros-clause-same : goal.returns-in_ok-append_zeros-in-Zeros-clause-same
returns-in_ok-append_zeros-in-Zeros-clause-same g c = (c.touch.ensures.ready true).same

pub returns-in_ok-append_zeros-in-Zeros-clause-count : goal.returns-in_ok-append_zeros-in-Zeros-clause-count
returns-in_ok-append_zeros-in-Zeros-clause-count g c = (c.touch.ensures.ready true).count

pub returns-in_err-append_zeros-in-Zeros-clause-same : goal.returns-in_err-append_zeros-in-Zeros-clause-same
returns-in_err-append_zeros-in-Zeros-clause-same g c = (c.touch.ensures.ready true).same

pub returns-in_err-append_zeros-in-Zeros-clause-count : goal.returns-in_err-append_zeros-in-Zeros-clause-count
returns-in_err-append_zeros-in-Zeros-clause-count g c = (c.touch.ensures.ready true).count

pub returns-in-Stopped-clause-same : goal.returns-in-Stopped-clause-same
returns-in-Stopped-clause-same g c = (c.touch.ensures.ready true).same

pub returns-in-Stopped-clause-count : goal.returns-in-Stopped-clause-count
returns-in-Stopped-clause-count g c = (c.touch.ensures.ready true).count
