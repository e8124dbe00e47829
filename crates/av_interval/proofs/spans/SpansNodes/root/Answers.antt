use Rattle.std.proofs.Common.{◌≡◌, sym, ap, ◌∙◌, subst}
use Rattle.av_interval.specs.Roots.{top_of}
use Rattle.av_interval.specs.Spans.{Forest, IsForest, store_of, root_in, triples}
use Rattle.av_interval.proofs.SpansLemmas.{ordered}
use Rattle.av_interval.proofs.NodesLemmas.{root_is_node}
use Rattle.av_interval.proofs.spans.SpansNodes.root.Goals as goal

pub returns-in-Some-clause-root : goal.returns-in-Some-clause-root
returns-in-Some-clause-root g c =
    let f = subst (λ (w : Forest). IsForest (store_of w) (root_in w)) c.self.view_is c.self.invariant in
    let e = subst (λ (w : Forest). c.get.result ≡ root_in w c.args.anon) c.self.view_is c.get.ensures in
    root_is_node c.args.self.now c.args.anon c.in-Some.tree f (ap top_of (sym e) ∙ sym c.top.ensures ∙ c.in-Some.is)

pub returns-in-Some-clause-ordered : goal.returns-in-Some-clause-ordered
returns-in-Some-clause-ordered g c =
    let f = subst (λ (w : Forest). IsForest (store_of w) (root_in w)) c.self.view_is c.self.invariant in
    ordered (triples c.args.self.now c.args.anon) (f.fits c.args.anon) (f.rising c.args.anon)
