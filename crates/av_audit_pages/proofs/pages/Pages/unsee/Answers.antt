use Rattle.std.proofs.Common.{sym, ◌∙◌}
use Rattle.av_audit_pages.proofs.ChangeLaws.{unseen-stay}
use Rattle.av_audit_pages.proofs.pages.Pages.unsee.Goals as goal

pub returns-then-not-is_seen-clause-entries : goal.returns-then-not-is_seen-clause-entries
returns-then-not-is_seen-clause-entries c =
    unseen-stay c.args.frame c.args.self.now.entries (sym c.is_seen.ensures ∙ c.if-not-is_seen.true)
