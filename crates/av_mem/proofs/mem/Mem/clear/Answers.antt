use Rattle.std.proofs.Common.{sym, ap, ◌∙◌}
use Rattle.av_rmap.specs.View.{View}
use Rattle.av_mem.proofs.ChainLaws.{home-reached, unseen-none}
use Rattle.av_mem.proofs.mem.Mem.clear.Goals as goal

pub returns-clause-entries : goal.returns-clause-entries
returns-clause-entries g c = ap (λ (v : View). v.entry) c.clear_seen.ensures.cleared

pub returns-then-is_merged-clause-entries : goal.returns-then-is_merged-clause-entries
returns-then-is_merged-clause-entries g c = ap (λ (v : View). v.entry) c.clear_seen_items.ensures.cleared

pub returns-in_default-clause-entries : goal.returns-in_default-clause-entries
returns-in_default-clause-entries g c =
    unseen-none c.args.self.now c.args.frame _ (sym c.home.ensures ∙ c.in_default.is)
    (home-reached c.args.self.now c.args.frame (sym c.is_merged.ensures ∙ c.if-is_merged.false) c.requires.found c.by_number.ensures.numbered)
