use Rattle.std.proofs.Common.{◌∙◌, false, ap}
use Rattle.av_plain.specs.Device.{Device, as_told, seen_by}
use Rattle.av_swapcache.specs.Swap.{Shown as ShownSwap, is_on}
use Rattle.av_swapoff.proofs.CloseLaws.{with_swap}
use Rattle.av_swapoff.proofs.TurnsOffLaws.{closing-of, closing-over, has-turned-off, may-end}
use Rattle.av_swapoff.proofs.command.swapoff.Goals as goal

pub close-requires-clause-none_closing : goal.close-requires-clause-none_closing
close-requires-clause-none_closing g c = c.requires.between.4.serves.swap.closed

pub empty_area-requires : goal.empty_area-requires
empty_area-requires g c =
    let dev = c.args.dev.now in
    closing-over (seen_by g.D.SwapDev.sizes g.D.SwapDev.pages g.D.SwapDev.failures g.D.SwapDev.history dev) c.args.mem.now c.close.new.self c.args.area
    c.close.ensures c.requires.between

pub end_closing-requires : goal.end_closing-requires
end_closing-requires g c =
    let dev = c.args.dev.now in
    let o = closing-over (seen_by g.D.SwapDev.sizes g.D.SwapDev.pages g.D.SwapDev.failures g.D.SwapDev.history dev) c.args.mem.now
    c.close.new.self c.args.area
    c.close.ensures c.requires.between in
    let may = may-end _ _ (with_swap c.args.mem.now c.close.new.self) c.empty_area.new.mem c.args.area _ _ c.in_ok-end.end
    (ap (λ (h : ShownSwap). is_on h c.args.area) c.close.ensures ∙ c.requires.on) o (c.in_ok-end.ensures.emptied false o.0 o.1 o.2 o.3) in
    record { on = may.on; closing = may.closing; unused = may.unused }

pub returns-clause-turned : goal.returns-clause-turned
returns-clause-turned g c = λ told w r l between.
    let dev = c.args.dev.now in
    let new = c.empty_area.new.dev in
    let d : Device = seen_by g.D.SwapDev.sizes g.D.SwapDev.pages g.D.SwapDev.failures g.D.SwapDev.history dev in
    let d' : Device = seen_by g.D.SwapDev.sizes g.D.SwapDev.pages g.D.SwapDev.failures g.D.SwapDev.history new in
    let k = c.args.mem.now in
    has-turned-off (as_told told d) (as_told told d') k c.empty_area.new.mem c.close.new.self c.end_closing.new.swap c.args.area c.args.notes.now
    c.empty_area.new.notes c.in_ok-end.end c.close.ensures c.end_closing.ensures w r l between
    (c.in_ok-end.ensures.emptied told w r l (closing-of (as_told told d) k c.close.new.self c.args.area c.close.ensures w r l between))
