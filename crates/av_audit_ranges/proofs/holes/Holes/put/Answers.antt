use Rattle.av_audit_ranges.proofs.HolesLaws.{within-more}
use Rattle.av_audit_ranges.proofs.holes.Holes.put.Goals as goal

pub invariant_of-self-2 : goal.invariant_of-self-2
invariant_of-self-2 c =
    within-more (c.args.length, c.args.start) c.self.inside.pairs.keys c.insert.new.self.keys c.requires.some c.requires.fits
    (λ k. c.in_ok-insert.ensures.updates.0 k) c.self.invariant
