use Rattle.std.proofs.Common.{ap, filter, ◌∙◌}
use Rattle.std.specs.Map.{keys_of}
use Rattle.std.proofs.lemmas.Result.{IfOk-weaker}
use Rattle.av_plain.specs.Ledger.{names_frame}
use Rattle.av_audit_pages.specs.Entries.{entry_of}
use Rattle.av_audit_pages.specs.Pages.{Content}
use Rattle.av_audit_pages.proofs.IndexLaws.{frame-listed}
use Rattle.av_audit_pages.proofs.pages.Pages.keys_of_frame.Goals as goal

pub returns-clause-keys : goal.returns-clause-keys
returns-clause-keys c = IfOk-weaker c.keys.result _ _ (λ keys is. is
    ∙ frame-listed _ _ _ c.self.invariant c.frames.result.now c.frames.ensures c.keys.ensures.rising c.args.frame
    ∙ ap (λ (p : Content). keys_of (filter (λ e. names_frame c.args.frame (entry_of e.1)) p.entries)) c.self.view_is) c.keys.ensures.keys
