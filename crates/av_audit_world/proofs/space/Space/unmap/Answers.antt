use Rattle.av_audit_world.proofs.SpaceLaws.{pages-unmapped}
use Rattle.av_audit_world.proofs.space.Space.unmap.Goals as goal

pub returns-clause-ok : goal.returns-clause-ok
returns-clause-ok c = λ q h. pages-unmapped c.args.self.now c.change.new.self c.wipe.new.self q c.args.from c.args.n h
    c.in_ok-change.ensures.ok c.wipe.ensures.bytes
