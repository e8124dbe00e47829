use Rattle.std.proofs.Common.{false, []}
use Rattle.av_evict.specs.System.{any_slot}
use Rattle.av_plain.specs.Device.{as_told, seen_by}
use Rattle.av_mem.proofs.ComingBack.{back-named, back-uncached}
use Rattle.av_mem.proofs.HomeLaws.{home-there}
use Rattle.av_swapoff.proofs.BackMakes.{at-home, load-finds, load-frames, load-lost, load-makes}
use Rattle.av_swapoff.proofs.driver.DriverSlotSystem.load.Goals as goal

pub home_to_load-home-requires : goal.home_to_load-home-requires
home_to_load-home-requires g c =
    home-there _ _ _ _ _ _ c.requires.2.2 c.args.user c.args.slot c.requires.1.in_order c.requires.3.named c.home_at-home.result
    (at-home _ _ _ _ _ c.requires.0 c.args.user c.home_at-home.result c.requires.2.2 c.home_at-home.ensures)

pub load-requires-clause-named : goal.load-requires-clause-named
load-requires-clause-named g c = back-named _ _ _ _ _ _ any_slot c.requires.1 c.requires.2.2 c.args.user c.args.slot c.requires.3.named

pub load-requires-clause-uncached : goal.load-requires-clause-uncached
load-requires-clause-uncached g c = back-uncached _ _ _ _ _ _ any_slot c.requires.1 c.requires.2.2 c.args.user c.args.slot c.requires.3.named

pub load-requires-clause-free : goal.load-requires-clause-free
load-requires-clause-free g c =
    let old = c.args.self.now.dev.now in
    load-finds [] (as_told false (seen_by g.D.SwapDev.sizes g.D.SwapDev.pages g.D.SwapDev.failures g.D.SwapDev.history old)) c.args.self.now.mem.now
    c.args.user c.args.slot c.requires

pub returns-clause-frame : goal.returns-clause-frame
returns-clause-frame g c =
    let old = c.args.self.now.dev.now in
    load-frames [] (λ told. as_told told (seen_by g.D.SwapDev.sizes g.D.SwapDev.pages g.D.SwapDev.failures g.D.SwapDev.history old))
    c.args.self.now.mem.now c.load.new.self c.args.user c.args.slot c.home_to_load-home.result (g.D.SwapDev.pages old) (g.D.SwapDev.failures old)
    (g.D.SwapDev.failures c.load.new.dev) c.load.result c.ok.result c.ok.ensures.value c.load.ensures.loads

pub returns-clause-loads : goal.returns-clause-loads
returns-clause-loads g c =
    let old = c.args.self.now.dev.now in
    let new = c.load.new.dev in λ told.
    load-makes _ told (seen_by g.D.SwapDev.sizes g.D.SwapDev.pages g.D.SwapDev.failures g.D.SwapDev.history old)
    (seen_by g.D.SwapDev.sizes g.D.SwapDev.pages g.D.SwapDev.failures g.D.SwapDev.history new)
    c.load.ensures.same_sizes c.load.ensures.same_pages c.load.ensures.never_falls c.load.ensures.asked c.args.self.now.mem.now c.load.new.self c.args.user c.args.slot
    c.home_at-home.result c.home_to_load-home.result c.load.result c.ok.result c.ok.ensures.value c.home_at-home.ensures
    c.home_to_load-home.ensures c.load.ensures.loads c.load.ensures.parts

pub returns-clause-cause : goal.returns-clause-cause
returns-clause-cause g c = λ none told.
    let old = c.args.self.now.dev.now in
    let new = c.load.new.dev in
    load-lost told (seen_by g.D.SwapDev.sizes g.D.SwapDev.pages g.D.SwapDev.failures g.D.SwapDev.history old)
    (seen_by g.D.SwapDev.sizes g.D.SwapDev.pages g.D.SwapDev.failures g.D.SwapDev.history new) c.args.self.now.mem.now c.load.new.self c.args.slot
    c.home_to_load-home.result c.load.result c.ok.result c.ok.ensures.value c.load.ensures.loads none
