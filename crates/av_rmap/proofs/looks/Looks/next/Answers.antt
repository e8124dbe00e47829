use Rattle.std.proofs.Common.{sym, ap, ◌∙◌}
use Rattle.av_rmap.specs.Looks.{ahead}
use Rattle.av_rmap.proofs.NextAreas.{gives-none, gives-some}
use Rattle.av_rmap.proofs.looks.Looks.next.Goals as goal

pub refill-requires-clause-given : goal.refill-requires-clause-given
refill-requires-clause-given g c = let none = rw c.in_default.is at c.give.ensures.none in let stays = rw c.in_default.is at c.give.ensures.stays in
    rw (← stays) at none

pub returns-clause-some : goal.returns-clause-some
returns-clause-some g c =
    let view = g.K.Look.view c.args.look.now in
    let stays = rw c.in_default.is at c.give.ensures.stays in
    gives-some c.args.self.now c.refill.new.self c.give-2.new.self view c.give-2.result
    (ap (λ l. ahead l view) (sym stays) ∙ sym c.refill.ensures.same) c.give-2.ensures.kept c.give-2.ensures.some

pub returns-clause-none : goal.returns-clause-none
returns-clause-none g c =
    let view = g.K.Look.view c.args.look.now in
    let stays = rw c.in_default.is at c.give.ensures.stays in
    gives-none c.args.self.now c.refill.new.self view c.give-2.result
    (ap (λ l. ahead l view) (sym stays) ∙ sym c.refill.ensures.same) c.refill.ensures.none_given c.refill.ensures.more c.give-2.ensures.none
