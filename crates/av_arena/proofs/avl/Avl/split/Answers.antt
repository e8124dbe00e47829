use Rattle.std.proofs.Common.{IsSome, ◌<◌, ◌^◌, length, ap, ◌∙◌, sym, subst, arith}
use Rattle.av_arena.specs.Order.{NoneBetween, entry_at, with_two}
use Rattle.av_arena.specs.Arena.{store_of}
use Rattle.av_arena.specs.Avl.{IsAvl}
use Rattle.av_arena.proofs.AvlLemmas.{split_new, parted, low}
use Rattle.av_arena.proofs.avl.Avl.split.Goals as goal

pub split-root-requires-clause-split : goal.split-root-requires-clause-split
split-root-requires-clause-split g c =
    let m = g.T.Entry in
    let is = c.self.view_is in
    let there = subst (λ xs. IsSome (entry_at m.key (m.key c.args.lower) xs)) (sym is) c.requires.there in
    let next = subst (NoneBetween m.key (m.key c.args.lower) (m.key c.args.upper)) (sym is) c.requires.next in
    split_new m.key m.unit m.op m.of g.met.T.Entry.laws (store_of c.self.inside.arena) (store_of c.add_leaf.new.self) c.self.inside.root c.self.invariant.0
    c.in-Ok.number _ c.in-Ok.ensures.unused c.in-Ok.ensures.added c.args.lower c.args.upper there c.requires.after next

pub split-root-requires-clause-low : goal.split-root-requires-clause-low
split-root-requires-clause-low g c =
    let m = g.T.Entry in
    let is = c.self.view_is in
    let room : length c.args.self.now < 2 ^ 64 = omega arith in
    low m.key m.unit m.op m.of g.met.T.Entry.laws (store_of c.self.inside.arena) c.self.inside.root c.self.invariant.0.held (rw is room)

pub invariant_of-self : goal.invariant_of-self
invariant_of-self g c =
    let m = g.T.Entry in
    subst (λ s. IsAvl m.key m.unit m.op m.of s c.self.inside.root) (sym c.in-Err.ensures.kept) c.self.invariant

pub invariant_of-self-2 : goal.invariant_of-self-2
invariant_of-self-2 g c =
    let m = g.T.Entry in
    (parted m.key m.unit m.op m.of g.met.T.Entry.laws (store_of c.self.inside.arena) (store_of c.add_leaf.new.self) (store_of c.split-root.new.arena)
    c.self.inside.root c.self.invariant c.in-Ok.number _ c.in-Ok.ensures.unused c.in-Ok.ensures.added c.args.lower c.args.upper
    c.split-root.result c.split-root.ensures).0

pub returns : goal.returns
returns g c =
    let m = g.T.Entry in
    record {
      entries = (parted m.key m.unit m.op m.of g.met.T.Entry.laws (store_of c.self.inside.arena) (store_of c.add_leaf.new.self)
          (store_of c.split-root.new.arena) c.self.inside.root c.self.invariant c.in-Ok.number _ c.in-Ok.ensures.unused
          c.in-Ok.ensures.added c.args.lower
          c.args.upper c.split-root.result c.split-root.ensures).1 ∙ ap (λ v. with_two m.key c.args.lower c.args.upper v) c.self.view_is;
    }
