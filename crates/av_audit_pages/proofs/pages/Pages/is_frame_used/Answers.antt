use Rattle.std.proofs.Common.{ap, map, ◌+◌, ◌∙◌}
use Rattle.std.specs.Prelude.{nat_lt, ◌==◌}
use Rattle.av_base.specs.Keys.{Key}
use Rattle.av_base.specs.Words.{how_many}
use Rattle.av_plain.specs.Ledger.{Cached as PlainCached, Entry as PlainEntry, names_frame}
use Rattle.av_audit_pages.specs.Entries.{cached_of, entries_of}
use Rattle.av_audit_pages.specs.Pages.{Content}
use Rattle.av_audit_pages.proofs.IndexLaws.{frame-uses}
use Rattle.av_audit_pages.proofs.pages.Pages.is_frame_used.Goals as goal

pub returns : goal.returns
returns c =
    c.is_used.ensures.used
    ∙ ap (nat_lt 0) (frame-uses _ _ _ c.self.invariant c.frames.result.now c.frames.ensures c.is_used.ensures.rising c.args.frame
    ∙ ap (λ (p : Content). how_many (λ (e : Key × PlainEntry). names_frame c.args.frame e.1) (entries_of p.entries)
    + how_many (λ (t : PlainCached). c.args.frame == t.frame) (map cached_of p.cache)) c.self.view_is)
