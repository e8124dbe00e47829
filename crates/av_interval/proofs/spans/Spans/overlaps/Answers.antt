use Rattle.std.proofs.Common.{subst}
use Rattle.av_interval.specs.Spans.{Forest, IsForest, store_of, root_in, tree_of, triples}
use Rattle.av_arena.proofs.Shallow.{shallow}
use Rattle.av_interval.proofs.SpansLemmas.{ordered}
use Rattle.av_interval.proofs.spans.Spans.overlaps.Goals as goal

pub returns-clause-shallow : goal.returns-clause-shallow
returns-clause-shallow g c =
    let f = subst (λ (w : Forest). IsForest (store_of w) (root_in w)) c.self.view_is c.self.invariant in
    shallow (tree_of c.args.self.now c.args.anon) (f.held c.args.anon).level

pub returns-clause-ordered : goal.returns-clause-ordered
returns-clause-ordered g c =
    let f = subst (λ (w : Forest). IsForest (store_of w) (root_in w)) c.self.view_is c.self.invariant in
    ordered (triples c.args.self.now c.args.anon) (f.fits c.args.anon) (f.rising c.args.anon)
