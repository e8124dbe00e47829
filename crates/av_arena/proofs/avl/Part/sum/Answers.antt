use Rattle.std.proofs.Common.{sym, ap, ◌∙◌}
use Rattle.av_arena.specs.Monoid.{total}
use Rattle.av_arena.specs.Cell.{link_in}
use Rattle.av_arena.specs.Arena.{store_of}
use Rattle.av_arena.proofs.TreeLemmas.{held_sum}
use Rattle.av_arena.proofs.avl.Part.sum.Goals as goal

pub returns : goal.returns
returns g c =
    let m = g.T.Entry in
    c.sum_in.ensures ∙ sym (held_sum m.key m.unit m.op m.of g.met.T.Entry.laws (store_of c.self.inside.arena.now) (link_in c.self.inside.tree)
    c.self.invariant.held)
    ∙ ap (λ v. total m.unit m.op m.of v) c.self.view_is
