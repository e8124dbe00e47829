use Rattle.std.proofs.Common.{ap, filter, ◌∙◌}
use Rattle.std.specs.Map.{keys_of}
use Rattle.av_plain.specs.Ledger.{names_frame}
use Rattle.av_audit_pages.specs.Entries.{entry_of}
use Rattle.av_audit_pages.specs.Pages.{Content}
use Rattle.av_audit_pages.proofs.IndexLaws.{frame-listed}
use Rattle.av_audit_pages.proofs.pages.Pages.walk.Goals as goal

pub returns : goal.returns
returns c =
    c.keys_of.ensures.keys ∙ frame-listed _ _ _ c.self.invariant c.frames.result.now c.frames.ensures c.keys_of.ensures.rising c.args.frame
    ∙ ap (λ (p : Content). keys_of (filter (λ e. names_frame c.args.frame (entry_of e.1)) p.entries)) c.self.view_is
