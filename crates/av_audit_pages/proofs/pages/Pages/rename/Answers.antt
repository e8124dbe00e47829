use Rattle.av_audit_pages.proofs.TurnLaws.{frame-stays}
use Rattle.av_audit_pages.proofs.pages.Pages.rename.Goals as goal

pub returns-then-from-to-clause-cache : goal.returns-then-from-to-clause-cache
returns-then-from-to-clause-cache c = frame-stays c.args.from c.args.to c.if-from-to.true c.args.self.now.cache
