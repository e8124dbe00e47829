use Rattle.std.proofs.Common.{refl}
use Rattle.av_mem.specs.declared.mem.Mem.{Mem}
use Rattle.av_mem.proofs.CacheLaws.{ends-failed, ends-written}
use Rattle.av_mem.proofs.mem.Mem.finish.Goals as goal

pub returns-in-Some-Done-clause-ends : goal.returns-in-Some-Done-clause-ends
returns-in-Some-Done-clause-ends g c =
    let old : Mem = c.args.self.now in
    let new : Mem = record old { frames = c.finish.new.frames; lists = c.to_inactive_tail.new.self; swap = c.finish.new.self } in
    ends-written old new c.in-Some-Done.slot c.in-Some-Done.frame _ _ _ _ (record { items = refl; tables = refl; spaces = refl; anons = refl }) c.keeps.ensures.once
    c.to_inactive_tail.ensures c.in-Some-Done.field-0 c.in-Some-Done.field-0-is c.in-Some-Done.ensures.finishes

pub returns-in-Some-Failed-clause-ends : goal.returns-in-Some-Failed-clause-ends
returns-in-Some-Failed-clause-ends g c =
    let old : Mem = c.args.self.now in
    let new : Mem = record old { frames = c.finish.new.frames; swap = c.finish.new.self } in
    ends-failed old new c.in-Some-Failed.slot c.in-Some-Failed.frame _ _ _ _ (record { items = refl; tables = refl; spaces = refl; anons = refl })
    c.keeps.ensures.once
    refl c.in-Some-Failed.field-0 c.in-Some-Failed.field-0-is c.in-Some-Failed.ensures.finishes
