use Rattle.std.proofs.Common.{◌++◌, [], sym, ap, ◌∙◌, subst}
use Rattle.av_base.specs.Words.{with_at}
use Rattle.av_chain.specs.Links.{AreNew, chain_of}
use Rattle.av_chain.proofs.TwoMaps.{new_by, on_ok}
use Rattle.av_anon.proofs.Words.{absent_before}
use Rattle.av_anon.proofs.links.link_each.Goals as goal

pub link_all-requires : goal.link_all-requires
link_all-requires c =
    let xs = c.args.anons.now in
    subst (λ ys. AreNew ys xs) (sym c.requires.empty) (new_by [] xs (λ k lt. absent_before xs k c.requires.rising lt))

pub returns-clause-chain : goal.returns-clause-chain
returns-clause-chain c = on_ok c.link_all.result
    (λ e. e ∙ ap (λ ys. with_at c.args.area (ys ++ c.args.anons.now) (chain_of c.args.links.now)) c.requires.empty) c.link_all.ensures.chain
