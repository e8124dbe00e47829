use Rattle.std.proofs.Common.{[]}
use Rattle.av_plain.specs.Device.{as_told, seen_by}
use Rattle.av_reclaim.proofs.PutMakes.{put-makes, put-slot}
use Rattle.av_reclaim.proofs.LeavesMakes.{mem-leaves}
use Rattle.av_reclaim.proofs.StepMakes.{put-uncached}
use Rattle.av_reclaim.proofs.driver.DriverSystem.put.Goals as goal

pub put-requires-clause-uncached : goal.put-requires-clause-uncached
put-requires-clause-uncached g c = put-uncached _ _ _ _ _ _ c.args.frame c.requires.1 c.requires.2.2 c.requires.3.uncached

pub returns-clause-slot : goal.returns-clause-slot
returns-clause-slot g c = let dev = c.args.self.now.dev.now in λ told.
    put-slot [] (as_told told (seen_by g.D.SwapDev.sizes g.D.SwapDev.pages g.D.SwapDev.failures g.D.SwapDev.history dev))
    c.args.self.now.mem.now c.put.new.self
    c.args.frame c.put.result c.put.ensures.put

pub returns-clause-puts : goal.returns-clause-puts
returns-clause-puts g c = λ told. put-makes _ _ c.args.self.now.mem.now c.put.new.self c.args.frame c.put.result c.put.ensures.put c.put.ensures.parts

pub returns-clause-stays : goal.returns-clause-stays
returns-clause-stays g c = λ told. mem-leaves _ _ _ _ c.put.ensures.parts
