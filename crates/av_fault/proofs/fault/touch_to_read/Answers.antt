use Rattle.std.proofs.Common.{false, sym, ◌∙◌}
use Rattle.std.proofs.lemmas.Result.{IfOk-weaker}
use Rattle.av_pagetable.specs.declared.pte.Pte.TheVariants.{Empty}
use Rattle.av_plain.specs.Device.{as_told, seen_by}
use Rattle.av_fault.proofs.CameLaws.{came-does, is-in, stop-does}
use Rattle.av_fault.proofs.TouchLaws.{allowed-as, made-does, read-touched, zeros-touched}
use Rattle.av_fault.proofs.fault.touch_to_read.Goals as goal

pub returns-in-Empty-clause-touched : goal.returns-in-Empty-clause-touched
returns-in-Empty-clause-touched g c =
    let d = seen_by g.D.SwapDev.sizes g.D.SwapDev.pages g.D.SwapDev.failures g.D.SwapDev.history c.args.dev.now in
    made-does d d c.args.mem.now c.make_zero.new.mem false c.args.key c.args.notes.now c.make_zero.new.notes c.make_zero.result Empty
    (sym c.get.ensures ∙ c.in-Empty.is) tt c.requires.permitted
    (IfOk-weaker c.make_zero.result _ _ (λ touched made told. made (as_told told d)) c.make_zero.ensures.made)

pub returns-in-Zero-clause-touched : goal.returns-in-Zero-clause-touched
returns-in-Zero-clause-touched g c = λ told w r l h.
    zeros-touched _ c.args.mem.now w r l c.args.key c.args.notes.now h (allowed-as _ c.args.mem.now w r l h false c.args.key ∙ c.requires.permitted)
    (sym c.get.ensures ∙ c.in-Zero.is)

pub returns-in-Here-clause-touched : goal.returns-in-Here-clause-touched
returns-in-Here-clause-touched g c = λ told w r l h.
    read-touched _ c.args.mem.now c.read_frame.new.mem w r l c.args.key c.in-Here.frame c.in-Here.write c.in-Here.seen c.args.notes.now h
    (allowed-as _ c.args.mem.now w r l h false c.args.key ∙ c.requires.permitted)
    (sym c.get.ensures ∙ c.in-Here.is) (c.read_frame.ensures.read _ w r l h) c.read_frame.ensures.here

pub read_in-requires-clause-between : goal.read_in-requires-clause-between
read_in-requires-clause-between g c =
    let x = is-in _ _ c.args.mem.now c.come_in.new.mem c.args.key c.in-Away.slot c.args.home c.args.notes.now c.come_in.new.notes c.in-Ok.frame
    c.in_ok-frame-in-Away.field-0 c.requires.between (sym c.get.ensures ∙ c.in-Away.is) c.requires.home
    c.in_ok-frame-in-Away.ensures.come c.in-Ok.is in
    (_, x.between.1, x.between.2, x.between.3, x.between.4)

pub returns-in-Ok-clause-touched : goal.returns-in-Ok-clause-touched
returns-in-Ok-clause-touched g c =
    let d1 = seen_by g.D.SwapDev.sizes g.D.SwapDev.pages g.D.SwapDev.failures g.D.SwapDev.history c.come_in.new.dev in
    came-does _ d1 d1 c.args.mem.now c.come_in.new.mem c.read_in.new.mem false c.args.key c.in-Away.slot c.args.notes.now c.come_in.new.notes
    c.read_in.new.notes
    c.in-Ok.frame c.in_ok-frame-in-Away.field-0 c.read_in.result (sym c.get.ensures ∙ c.in-Away.is) c.requires.permitted
    c.in_ok-frame-in-Away.ensures.come c.in-Ok.is
    (IfOk-weaker c.read_in.result _ _ (λ touched made told. made (as_told told d1)) c.read_in.ensures.made)

pub returns-in-Err-clause-touched : goal.returns-in-Err-clause-touched
returns-in-Err-clause-touched g c =
    stop-does _ _ c.args.mem.now c.come_in.new.mem false c.args.key c.in-Away.slot c.args.notes.now c.come_in.new.notes c.in-Err.stop
    c.in_ok-frame-in-Away.field-0 (sym c.get.ensures ∙ c.in-Away.is) c.requires.permitted c.in_ok-frame-in-Away.ensures.come c.in-Err.is
