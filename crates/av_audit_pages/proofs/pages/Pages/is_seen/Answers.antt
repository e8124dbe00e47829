use Rattle.std.proofs.Common.{ap, ◌∙◌}
use Rattle.std.specs.Prelude.{nat_lt}
use Rattle.std.specs.List.{list_any}
use Rattle.av_base.specs.Keys.{Key}
use Rattle.av_plain.specs.Ledger.{Entry as PlainEntry}
use Rattle.av_plain.specs.Reclaim.{names_seen}
use Rattle.av_audit_pages.specs.Entries.{entries_of}
use Rattle.av_audit_pages.specs.Pages.{Content}
use Rattle.av_audit_pages.proofs.IndexLaws.{frame-keys}
use Rattle.av_audit_pages.proofs.KeyLaws.{seen-some}
use Rattle.av_audit_pages.proofs.pages.Pages.is_seen.Goals as goal

pub returns : goal.returns
returns c =
    ap (nat_lt 0) c.seen.ensures.seen
    ∙ seen-some c.args.frame c.self.inside.entries.entries _
    (frame-keys _ _ _ c.self.invariant c.frames.result.now c.frames.ensures c.seen.ensures.rising c.args.frame)
    ∙ ap (λ (p : Content). list_any (λ (e : Key × PlainEntry). names_seen c.args.frame e.1) (entries_of p.entries)) c.self.view_is
