use Rattle.std.proofs.Common.{ap, map, ◌∙◌}
use Rattle.std.specs.Prelude.{◌==◌}
use Rattle.av_base.specs.Words.{how_many}
use Rattle.av_audit_index.specs.Holders.{pairs_at}
use Rattle.av_plain.specs.Ledger.{Cached as PlainCached}
use Rattle.av_audit_pages.specs.Entries.{cached_of}
use Rattle.av_audit_pages.specs.Pages.{Content}
use Rattle.av_audit_pages.proofs.pages.Pages.frame_pairs.Goals as goal

pub returns : goal.returns
returns c =
    c.pairs.ensures ∙ ap (λ h. pairs_at h c.args.frame) c.frames.ensures ∙ c.self.invariant.pairs.frames c.args.frame
    ∙ ap (λ (p : Content). how_many (λ (t : PlainCached). c.args.frame == t.frame) (map cached_of p.cache)) c.self.view_is
