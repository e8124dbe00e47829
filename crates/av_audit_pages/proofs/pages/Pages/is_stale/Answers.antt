use Rattle.std.proofs.Common.{ap, map, ◌∙◌}
use Rattle.std.specs.List.{list_any}
use Rattle.std.specs.Map.{values_of}
use Rattle.std.specs.Prelude.{◌&&◌}
use Rattle.av_plain.specs.Ledger.{Cached as PlainCached, same_slot}
use Rattle.av_audit_pages.specs.Entries.{cached_of}
use Rattle.av_audit_pages.specs.Pages.{Content}
use Rattle.av_audit_pages.proofs.FirstLaws.{any-cached}
use Rattle.av_audit_pages.proofs.pages.Pages.is_stale.Goals as goal

pub returns : goal.returns
returns c =
    c.is_stale.ensures
    ∙ any-cached (λ (t : PlainCached). same_slot c.args.slot t.slot && t.stale) (values_of c.self.inside.cache)
    ∙ ap (λ (p : Content). list_any (λ (t : PlainCached). same_slot c.args.slot t.slot && t.stale) (map cached_of p.cache)) c.self.view_is
