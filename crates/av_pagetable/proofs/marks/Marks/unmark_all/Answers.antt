use Rattle.std.proofs.Common.{arith}
use Rattle.av_pagetable.proofs.marks.Marks.unmark_all.Goals as goal

pub returns : goal.returns
returns c = λ f marked.
    let left = c.loop-entry.invariant f marked in
    (left.0, λ i low. left.1 i (omega (arith, low, c.loop-entry-test.false)))
