use Rattle.std.proofs.Common.{refl}
use Rattle.av_mem.specs.declared.mem.Mem.{Mem}
use Rattle.av_mem.proofs.LoadLaws.{first-free, loaded-view}
use Rattle.av_mem.proofs.mem.Mem.load.Goals as goal

pub load-requires-clause-not_cached : goal.load-requires-clause-not_cached
load-requires-clause-not_cached g c =
    c.requires.uncached c.in-Some.frame (first-free c.in-Some.frame c.args.self.now.frames.free c.take.new.self.free c.in-Some.ensures.0)

pub returns-in-Ok-clause-loads : goal.returns-in-Ok-clause-loads
returns-in-Ok-clause-loads g c =
    let old : Mem = c.args.self.now in
    let new : Mem = record old { frames = c.set_home.new.self; lists = c.to_inactive_head.new.self; swap = c.load.new.self } in (
      loaded-view old new c.take.new.self c.load.new.frames c.in-Some.frame c.args.slot c.args.home _
          (record { items = refl; tables = refl; spaces = refl; anons = refl }) c.in-Some.ensures.0 c.in-Some.ensures.2 c.in-Some.ensures.3
          c.in-Ok.ensures.loads c.set_home.ensures c.to_inactive_head.ensures,
      c.in-Ok.ensures.unfailed,
    )
