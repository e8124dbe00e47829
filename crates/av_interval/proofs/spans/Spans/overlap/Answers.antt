use Rattle.std.proofs.Common.{subst}
use Rattle.av_interval.specs.Spans.{Forest, IsForest, store_of, root_in, tree_of}
use Rattle.av_arena.proofs.Shallow.{shallow}
use Rattle.av_interval.proofs.spans.Spans.overlap.Goals as goal

pub returns-clause-shallow : goal.returns-clause-shallow
returns-clause-shallow g c =
    let f = subst (λ (w : Forest). IsForest (store_of w) (root_in w)) c.self.view_is c.self.invariant in
    shallow (tree_of c.args.self.now c.args.anon) (f.held c.args.anon).level
