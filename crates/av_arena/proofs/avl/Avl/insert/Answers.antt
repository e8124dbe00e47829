use Rattle.std.proofs.Common.{◌<◌, ◌^◌, length, ap, ◌∙◌, sym, subst, arith}
use Rattle.av_arena.specs.Order.{entry_at, with_entry}
use Rattle.av_arena.specs.Arena.{store_of}
use Rattle.av_arena.specs.Avl.{IsAvl}
use Rattle.av_arena.proofs.AvlLemmas.{place_new, inserted, low}
use Rattle.av_arena.proofs.avl.Avl.insert.Goals as goal

pub place-root-requires-clause-place : goal.place-root-requires-clause-place
place-root-requires-clause-place g c =
    let m = g.T.Entry in
    let is = c.self.view_is in
    place_new m.key m.unit m.op m.of g.met.T.Entry.laws (store_of c.self.inside.arena) (store_of c.add_leaf.new.self) c.self.inside.root c.self.invariant.0
    c.in-Ok.number _ c.in-Ok.ensures.unused c.in-Ok.ensures.added c.args.entry (ap (entry_at m.key (m.key c.args.entry)) is ∙ c.requires.other)

pub place-root-requires-clause-low : goal.place-root-requires-clause-low
place-root-requires-clause-low g c =
    let m = g.T.Entry in
    let is = c.self.view_is in
    let room : length c.args.self.now < 2 ^ 64 = omega arith in
    low m.key m.unit m.op m.of g.met.T.Entry.laws (store_of c.self.inside.arena) c.self.inside.root c.self.invariant.0.held (rw is room)

pub invariant_of-self : goal.invariant_of-self
invariant_of-self g c =
    let m = g.T.Entry in
    subst (λ s. IsAvl m.key m.unit m.op m.of s c.self.inside.root) (sym c.in-Err.ensures.kept) c.self.invariant

pub invariant_of-self-2 : goal.invariant_of-self-2
invariant_of-self-2 g c =
    let m = g.T.Entry in
    (inserted m.key m.unit m.op m.of g.met.T.Entry.laws (store_of c.self.inside.arena) (store_of c.add_leaf.new.self) (store_of c.place-root.new.arena)
    c.self.inside.root c.self.invariant c.in-Ok.number _ c.in-Ok.ensures.unused c.in-Ok.ensures.added c.args.entry c.place-root.result
    c.place-root.ensures.placed).0

pub returns : goal.returns
returns g c =
    let m = g.T.Entry in
    record {
      entries = (inserted m.key m.unit m.op m.of g.met.T.Entry.laws (store_of c.self.inside.arena) (store_of c.add_leaf.new.self)
          (store_of c.place-root.new.arena) c.self.inside.root c.self.invariant c.in-Ok.number _ c.in-Ok.ensures.unused
          c.in-Ok.ensures.added c.args.entry
          c.place-root.result c.place-root.ensures.placed).1 ∙ ap (λ v. with_entry m.key c.args.entry v) c.self.view_is;
    }
