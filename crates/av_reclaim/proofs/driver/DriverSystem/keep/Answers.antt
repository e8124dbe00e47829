use Rattle.av_reclaim.proofs.LeavesMakes.{mem-leaves}
use Rattle.av_reclaim.proofs.StepMakes.{keep-makes, kept-active, kept-at}
use Rattle.av_reclaim.proofs.driver.DriverSystem.keep.Goals as goal

pub returns-in-Writeback-clause-makes : goal.returns-in-Writeback-clause-makes
returns-in-Writeback-clause-makes g c = λ told. keep-makes _ _ c.args.self.now.mem.now c.to_head.new.self c.args.frame c.args.cause
    (kept-at c.args.self.now.mem.now c.to_head.new.self c.args.frame c.args.cause c.in-Writeback.is c.to_head.ensures.moved) c.to_head.ensures.parts

pub returns-in-NoSlot-clause-makes : goal.returns-in-NoSlot-clause-makes
returns-in-NoSlot-clause-makes g c = λ told. keep-makes _ _ c.args.self.now.mem.now c.to_active.new.self c.args.frame c.args.cause
    (kept-active c.args.self.now.mem.now c.to_active.new.self c.args.frame c.args.cause c.in-NoSlot.is c.to_active.ensures.moved)
    c.to_active.ensures.parts

pub returns-in-Writeback-clause-stays : goal.returns-in-Writeback-clause-stays
returns-in-Writeback-clause-stays g c = λ told. mem-leaves _ _ _ _ c.to_head.ensures.parts

pub returns-in-NoSlot-clause-stays : goal.returns-in-NoSlot-clause-stays
returns-in-NoSlot-clause-stays g c = λ told. mem-leaves _ _ _ _ c.to_active.ensures.parts
