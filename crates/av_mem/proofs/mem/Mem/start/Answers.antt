use Rattle.std.proofs.Common.{refl}
use Rattle.av_mem.specs.declared.mem.Mem.{Mem}
use Rattle.av_mem.proofs.CacheLaws.{start-view}
use Rattle.av_mem.proofs.mem.Mem.start.Goals as goal

pub returns-clause-started : goal.returns-clause-started
returns-clause-started c =
    let old : Mem = c.args.self.now in
    let new : Mem = record old { frames = c.start.new.frames; swap = c.start.new.self } in
    start-view old new c.args.frame c.args.slot (record { items = refl; tables = refl; spaces = refl; anons = refl }) refl c.start.ensures.swap c.start.ensures.frame
