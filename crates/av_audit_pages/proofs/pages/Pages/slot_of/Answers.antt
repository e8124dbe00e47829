use Rattle.std.proofs.Common.{ap, map, sym, ◌∙◌}
use Rattle.std.specs.Prelude.{option_map, ◌==◌}
use Rattle.av_plain.specs.Ledger.{Cached as PlainCached, cached_by}
use Rattle.av_audit_pages.specs.Entries.{cached_of}
use Rattle.av_audit_pages.specs.Pages.{Content}
use Rattle.av_audit_pages.proofs.FirstLaws.{first-cached, none-counted}
use Rattle.av_audit_pages.proofs.pages.Pages.slot_of.Goals as goal

pub returns-then-frame_pairs-eq0 : goal.returns-then-frame_pairs-eq0
returns-then-frame_pairs-eq0 c =
    none-counted (λ (t : PlainCached). t.slot) (λ (t : PlainCached). c.args.frame == t.frame) (map cached_of c.args.self.now.cache)
    (sym c.frame_pairs.ensures ∙ c.if-frame_pairs-eq0.true)

pub returns-in_err-pair : goal.returns-in_err-pair
returns-in_err-pair c =
    c.from_residual.ensures
    ∙ ap (option_map (λ e. e.1.slot)) (sym c.in_err-pair.was)
    ∙ first-cached (λ (t : PlainCached). t.slot) (λ (t : PlainCached). c.args.frame == t.frame) c.self.inside.cache c.first_at.result
    c.first_at.ensures.rising c.first_at.ensures.first
    ∙ ap (λ (p : Content). option_map (λ (t : PlainCached). t.slot) (cached_by (λ (t : PlainCached). c.args.frame == t.frame) (map cached_of p.cache)))
    c.self.view_is

pub returns : goal.returns
returns c =
    ap (option_map (λ e. e.1.slot)) (sym c.in_ok-pair.was)
    ∙ first-cached (λ (t : PlainCached). t.slot) (λ (t : PlainCached). c.args.frame == t.frame) c.self.inside.cache c.first_at.result
    c.first_at.ensures.rising c.first_at.ensures.first
    ∙ ap (λ (p : Content). option_map (λ (t : PlainCached). t.slot) (cached_by (λ (t : PlainCached). c.args.frame == t.frame) (map cached_of p.cache)))
    c.self.view_is
