use Rattle.std.proofs.Common.{refl}
use Rattle.av_mem.specs.declared.mem.Mem.{Mem}
use Rattle.av_mem.proofs.CacheLaws.{put-view}
use Rattle.av_mem.proofs.mem.Mem.put.Goals as goal

pub returns-clause-put : goal.returns-clause-put
returns-clause-put c =
    let old : Mem = c.args.self.now in
    let new : Mem = record old { frames = c.put.new.frames; swap = c.put.new.self } in
    put-view old new c.args.frame (record { items = refl; tables = refl; spaces = refl; anons = refl }) refl c.put.result c.put.ensures
