use Rattle.std.proofs.Common.{ap, ◌∙◌}
use Rattle.av_base.specs.Keys.{Key}
use Rattle.av_base.specs.Words.{how_many}
use Rattle.av_plain.specs.Ledger.{Entry as PlainEntry, names_frame}
use Rattle.av_audit_pages.specs.Entries.{entries_of}
use Rattle.av_audit_pages.specs.Pages.{Content}
use Rattle.av_audit_pages.proofs.IndexLaws.{frame-names}
use Rattle.av_audit_pages.proofs.pages.Pages.frame_names.Goals as goal

pub returns : goal.returns
returns c =
    c.names.ensures.names
    ∙ frame-names _ _ _ c.self.invariant c.frames.result.now c.frames.ensures c.names.ensures.rising c.args.frame
    ∙ ap (λ (p : Content). how_many (λ (e : Key × PlainEntry). names_frame c.args.frame e.1) (entries_of p.entries)) c.self.view_is
