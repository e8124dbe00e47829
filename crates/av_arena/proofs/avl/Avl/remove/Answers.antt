use Rattle.std.proofs.Common.{◌<◌, ◌^◌, length, ap, ◌∙◌, arith}
use Rattle.av_arena.specs.Order.{without_key}
use Rattle.av_arena.specs.Arena.{store_of}
use Rattle.av_arena.proofs.TreeLemmas.{without_used}
use Rattle.av_arena.proofs.AvlLemmas.{freed, low}
use Rattle.av_arena.proofs.avl.Avl.remove.Goals as goal

pub remove-number-requires-clause-low : goal.remove-number-requires-clause-low
remove-number-requires-clause-low g c =
    let m = g.T.Entry in
    let is = c.self.view_is in
    let room : length c.args.self.now < 2 ^ 64 = omega arith in
    low m.key m.unit m.op m.of g.met.T.Entry.laws (store_of c.self.inside.arena) c.self.inside.root c.self.invariant.0.held (rw is room)

pub free-requires : goal.free-requires
free-requires g c =
    let m = g.T.Entry in
    without_used m.key m.unit m.op m.of g.met.T.Entry.laws (store_of c.self.inside.arena) (store_of c.remove-number.new.arena) c.self.inside.root _
    c.remove-number.result.0 c.remove-number.result.1 c.self.invariant.0.held c.remove-number.ensures.removed

pub invariant_of-self : goal.invariant_of-self
invariant_of-self g c =
    let m = g.T.Entry in
    (freed m.key m.unit m.op m.of g.met.T.Entry.laws (store_of c.self.inside.arena) (store_of c.remove-number.new.arena) (store_of c.free.new.self)
    c.self.inside.root c.self.invariant (m.key c.args.like) c.remove-number.result.0 c.remove-number.result.1
    c.remove-number.ensures.removed c.free.ensures).0

pub returns : goal.returns
returns g c =
    let m = g.T.Entry in
    record {
      entries = (freed m.key m.unit m.op m.of g.met.T.Entry.laws (store_of c.self.inside.arena) (store_of c.remove-number.new.arena)
          (store_of c.free.new.self) c.self.inside.root c.self.invariant (m.key c.args.like) c.remove-number.result.0 c.remove-number.result.1
          c.remove-number.ensures.removed c.free.ensures).1 ∙ ap (λ v. without_key m.key (m.key c.args.like) v) c.self.view_is;
    }
