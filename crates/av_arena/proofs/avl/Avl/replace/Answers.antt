use Rattle.std.proofs.Common.{◌<◌, ◌^◌, length, ap, ◌∙◌, arith}
use Rattle.av_arena.specs.Order.{with_entry, without_key}
use Rattle.av_arena.specs.Arena.{store_of}
use Rattle.av_arena.proofs.AvlLemmas.{replaced, low}
use Rattle.av_arena.proofs.avl.Avl.replace.Goals as goal

pub replace-root-requires-clause-low : goal.replace-root-requires-clause-low
replace-root-requires-clause-low g c =
    let m = g.T.Entry in
    let room : length c.args.self.now < 2 ^ 64 = omega arith in
    low m.key m.unit m.op m.of g.met.T.Entry.laws (store_of c.self.inside.arena) c.self.inside.root c.self.invariant.0.held (rw c.self.view_is room)

pub invariant_of-self : goal.invariant_of-self
invariant_of-self g c =
    let m = g.T.Entry in
    (replaced m.key m.unit m.op m.of g.met.T.Entry.laws (store_of c.self.inside.arena) (store_of c.replace-root.new.arena) c.self.inside.root
    c.self.invariant
    c.args.entry c.replace-root.result c.replace-root.ensures.replaced).0

pub returns : goal.returns
returns g c =
    let m = g.T.Entry in
    record {
      entries = (replaced m.key m.unit m.op m.of g.met.T.Entry.laws (store_of c.self.inside.arena) (store_of c.replace-root.new.arena)
          c.self.inside.root
          c.self.invariant c.args.entry c.replace-root.result c.replace-root.ensures.replaced).1
          ∙ ap (λ v. with_entry m.key c.args.entry (without_key m.key (m.key c.args.entry) v)) c.self.view_is;
    }
