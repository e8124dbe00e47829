use Rattle.av_pagetable.proofs.Leaf.{leaf_cases}
use Rattle.av_pagetable.proofs.radix.RadixTable.leaf.Goals as goal

pub returns : goal.returns
returns c = leaf_cases (λ part. part.now) c.leaf.result c.args.number c.args.self.now.top c.in_ok-upper.upper.now c.in_ok-middle.middle.now
    c.in_ok-upper.ensures c.in_ok-middle.ensures c.leaf.ensures
