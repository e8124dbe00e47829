use Rattle.std.proofs.Common.{sym}
use Rattle.av_plain.specs.World.{pages}
use Rattle.av_audit_world.proofs.WorldLaws.{dead-meets, found, no-pages, spaces-find}
use Rattle.av_audit_world.proofs.memories.Memories.meets.Goals as goal

pub returns-in-None : goal.returns-in-None
returns-in-None c = λ w h. dead-meets (pages w c.args.number) c.args.from c.args.n
    (no-pages _ w c.args.number (spaces-find c.args.self.now.spaces.entries w c.args.number h.spaces) (sym c.in-None.ensures.value))

pub returns-in-Some : goal.returns-in-Some
returns-in-Some c = λ w h. c.meets.ensures (pages w c.args.number)
    (found _ w c.args.number c.in-Some.space.now (spaces-find c.args.self.now.spaces.entries w c.args.number h.spaces) (sym c.in-Some.ensures.value)).1
