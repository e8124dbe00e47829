use Rattle.std.proofs.Common.{◌≡◌, Some, subst}
use Rattle.av_interval.specs.Spans.{Forest, store_of}
use Rattle.av_interval.proofs.NodesLemmas.{seen}
use Rattle.av_interval.proofs.spans.SpansNodes.visit.Goals as goal

pub returns-clause-seen : goal.returns-clause-seen
returns-clause-seen g c =
    let v = c.args.self.now in
    let e = subst (λ (w : Forest). store_of w c.args.node ≡ Some c.get-stored.result) c.self.view_is c.get-stored.ensures in
    rw (c.child.ensures, c.child-2.ensures) (seen v c.args.node c.get-stored.result c.requires e)
