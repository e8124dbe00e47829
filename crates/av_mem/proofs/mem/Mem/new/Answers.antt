use Rattle.av_mem.proofs.MemLaws.{fresh-keeps}
use Rattle.av_mem.proofs.mem.Mem.new.Goals as goal

pub returns-clause-keeps : goal.returns-clause-keeps
returns-clause-keeps c =
    λ d. fresh-keeps d c.in_ok-new.field-0 c.in_ok-new-2.field-0 c.in_ok-new-3.field-0 c.new-4.result c.new-5.result c.new-6.result c.in_ok-new-4.field-0
    c.args.frames c.in_ok-new.ensures c.in_ok-new-2.ensures c.in_ok-new-3.ensures c.new-4.ensures.processes
    c.new-5.ensures.processes c.new-5.ensures.areas c.new-6.ensures.family c.new-6.ensures.spans c.in_ok-new-4.ensures
