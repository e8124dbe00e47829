use Rattle.av_audit_world.proofs.LockLaws.{kept-noted, locks-noted}
use Rattle.av_audit_world.proofs.memories.Memories.locking.Goals as goal

pub returns-clause-kept : goal.returns-clause-kept
returns-clause-kept c = λ k locked. kept-noted c.args.self.now k locked

pub returns-clause-pages : goal.returns-clause-pages
returns-clause-pages c = λ w h p page locked. locks-noted c.args.self.now w h p page locked
