use Rattle.std.proofs.Common.{sym}
use Rattle.av_plain.specs.World.{pages}
use Rattle.av_audit_world.proofs.WorldLaws.{dead-hole, found, no-pages, spaces-find}
use Rattle.av_audit_world.proofs.memories.Memories.before_hole.Goals as goal

pub returns-in-None-clause-pages : goal.returns-in-None-clause-pages
returns-in-None-clause-pages c = λ w h. dead-hole (pages w c.args.number) c.args.from c.args.n
    (no-pages _ w c.args.number (spaces-find c.args.self.now.spaces.entries w c.args.number h.spaces) (sym c.in-None.ensures.value))

pub returns-in-Some-clause-pages : goal.returns-in-Some-clause-pages
returns-in-Some-clause-pages c = λ w h. c.before_hole.ensures.pages (pages w c.args.number)
    (found _ w c.args.number c.in-Some.space.now (spaces-find c.args.self.now.spaces.entries w c.args.number h.spaces) (sym c.in-Some.ensures.value)).1
