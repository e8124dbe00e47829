use Rattle.av_audit_world.proofs.ChildLaws.{child-is}
use Rattle.av_audit_world.proofs.space.Space.child.Goals as goal

pub returns : goal.returns
returns c = λ q h. child-is c.args.self.now (record { alloc = c.args.self.now.alloc; ranges = c.in_ok-ranges.ranges; bytes = c.in_ok-bytes.bytes }) q h
    c.in_ok-ranges.ensures.below c.in_ok-ranges.ensures.top c.in_ok-bytes.ensures
