use Rattle.av_audit_ranges.proofs.HolesLaws.{within-less}
use Rattle.av_audit_ranges.proofs.holes.Holes.take.Goals as goal

pub invariant_of-self : goal.invariant_of-self
invariant_of-self c =
    within-less (c.args.length, c.args.start) c.self.inside.pairs.keys c.remove.new.self.keys (λ k. c.remove.ensures.updates.0 k) c.self.invariant
