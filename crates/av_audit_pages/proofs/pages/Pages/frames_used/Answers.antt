use Rattle.std.proofs.Common.{◌≡◌, ℕ, ap, arith, length, map, ◌+◌, ◌-◌, ◌∙◌}
use Rattle.std.specs.Prelude.{filter, nat_lt, ◌==◌}
use Rattle.std.specs.List.{range_with_len}
use Rattle.av_base.specs.Keys.{Key}
use Rattle.av_base.specs.Words.{how_many}
use Rattle.av_audit_index.specs.Holders.{uses_at}
use Rattle.av_plain.specs.Ledger.{Cached as PlainCached, Entry as PlainEntry, names_frame}
use Rattle.av_audit_pages.specs.Entries.{cached_of, entries_of}
use Rattle.av_audit_pages.specs.Pages.{Content}
use Rattle.av_audit_pages.proofs.IndexLaws.{frame-uses}
use Rattle.av_audit_pages.proofs.pages.Pages.frames_used.Goals as goal

from-0 : (n : ℕ) → n - 0 ≡ n
from-0 n = omega arith

pub returns : goal.returns
returns c =
    let uses = frame-uses _ _ _ c.self.invariant c.frames.result.now c.frames.ensures c.len_within.ensures.rising in
    let frames = range_with_len 0 c.args.frames in
    c.len_within.ensures.len
    ∙ ap (λ n. length (filter (λ f. nat_lt 0 (uses_at c.frames.result.now f)) (range_with_len 0 n))) (from-0 c.args.frames)
    ∙ (λ i. length (filter (λ f. nat_lt 0 (uses f i)) frames))
    ∙ ap (λ (p : Content). length (filter (λ f. nat_lt 0 (how_many (λ (e : Key × PlainEntry). names_frame f e.1) (entries_of p.entries)
    + how_many (λ (t : PlainCached). f == t.frame) (map cached_of p.cache))) frames)) c.self.view_is
