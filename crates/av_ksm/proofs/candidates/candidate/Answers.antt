use Rattle.std.proofs.Common.{sym}
use Rattle.av_ksm.proofs.CandidateLaws.{frame-below}
use Rattle.av_ksm.proofs.candidates.candidate.Goals as goal

pub may_join-requires-clause-in_range : goal.may_join-requires-clause-in_range
may_join-requires-clause-in_range c = let b = c.requires in
    frame-below b.0 c.args.mem.now b.1 b.2 b.3 b.4 c.args.key c.in-Here.frame c.in-Here.write c.in-Here.seen (sym c.in-Here.ensures)
