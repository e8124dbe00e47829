use Rattle.std.proofs.Common.{◌∙◌}
use Rattle.av_plain.specs.Device.{as_told, seen_by}
use Rattle.av_mem.specs.Mem.{setting_by}
use Rattle.av_reclaim.proofs.ReadLaws.{at-front, free-first}
use Rattle.av_reclaim.proofs.driver.DriverSystem.free_frame.Goals as goal

pub returns-clause-first : goal.returns-clause-first
returns-clause-first g c = λ told. c.first.ensures ∙ at-front c.args.self.now.mem.now.frames.free

pub returns-clause-free : goal.returns-clause-free
returns-clause-free g c = let dev = c.args.self.now.dev.now in λ told l sound stood.
    free-first (setting_by (as_told told (seen_by g.D.SwapDev.sizes g.D.SwapDev.pages g.D.SwapDev.failures g.D.SwapDev.history dev))
    c.args.self.now.mem.now) l
    c.args.self.now.mem.now.frames.free _ c.first.ensures stood.2.free.frames
