use Rattle.std.proofs.Common.{refl, true, false, sym, ap, ◌∙◌, ◌==◌}
use Rattle.av_mem.specs.declared.mem.Mem.{Mem}
use Rattle.av_mem.proofs.DropLaws.{dropped-view, not-zero}
use Rattle.av_mem.proofs.mem.Mem.drop_slot.Goals as goal

pub returns-then-maps-eq0-clause-dropped : goal.returns-then-maps-eq0-clause-dropped
returns-then-maps-eq0-clause-dropped c =
    let old : Mem = c.args.self.now in
    let mid : Mem = record old { frames = c.drop_ref.new.frames; swap = c.drop_ref.new.self } in
    dropped-view old mid c.free.new.self c.args.frame c.args.slot
    (record { items = refl; tables = refl; spaces = refl; anons = refl }) refl c.drop_ref.ensures.swap c.drop_ref.ensures.frame
    true (ap (λ n. n == 0) (sym c.maps.ensures ∙ c.if-maps-eq0.true)) c.free.ensures.freed

pub returns-else-maps-eq0-clause-dropped : goal.returns-else-maps-eq0-clause-dropped
returns-else-maps-eq0-clause-dropped c =
    let old : Mem = c.args.self.now in
    let new : Mem = record old { frames = c.drop_ref.new.frames; swap = c.drop_ref.new.self } in
    dropped-view old new new c.args.frame c.args.slot
    (record { items = refl; tables = refl; spaces = refl; anons = refl }) refl c.drop_ref.ensures.swap c.drop_ref.ensures.frame
    false (ap (λ n. n == 0) (sym c.maps.ensures) ∙ not-zero c.maps.result c.if-maps-eq0.false) refl
