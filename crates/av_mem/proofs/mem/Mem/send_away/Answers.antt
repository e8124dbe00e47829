use Rattle.std.proofs.Common.{sym, ap, ◌∙◌}
use Rattle.av_rmap.specs.View.{View}
use Rattle.av_mem.proofs.ChainLaws.{away-none}
use Rattle.av_mem.proofs.mem.Mem.send_away.Goals as goal

pub returns-in-Some-clause-entries : goal.returns-in-Some-clause-entries
returns-in-Some-clause-entries g c = ap (λ (v : View). v.entry) c.unmap.ensures.unmapped

pub returns-in_default-clause-entries : goal.returns-in_default-clause-entries
returns-in_default-clause-entries g c =
    away-none c.args.self.now c.args.frame c.args.slot _ (sym c.home.ensures ∙ c.in_default.is)
    (c.requires.reached c.by_number-areas.ensures.numbered)
