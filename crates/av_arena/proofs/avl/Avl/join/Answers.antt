use Rattle.std.proofs.Common.{IsSome, Some, ◌<◌, ◌^◌, length, ap, ◌∙◌, sym, subst, arith}
use Rattle.av_arena.specs.Order.{NoneWithin, entry_at, with_joined}
use Rattle.av_arena.specs.Arena.{store_of}
use Rattle.av_arena.proofs.TreeLemmas.{without_used}
use Rattle.av_arena.proofs.AvlLemmas.{join_for, joined_freed, low}
use Rattle.av_arena.proofs.avl.Avl.join.Goals as goal

pub join-number-requires-clause-low : goal.join-number-requires-clause-low
join-number-requires-clause-low g c =
    let m = g.T.Entry in
    let is = c.self.view_is in
    let room : length c.args.self.now < 2 ^ 64 = omega arith in
    low m.key m.unit m.op m.of g.met.T.Entry.laws (store_of c.self.inside.arena) c.self.inside.root c.self.invariant.0.held (rw is room)

pub free-requires : goal.free-requires
free-requires g c =
    let m = g.T.Entry in
    without_used m.key m.unit m.op m.of g.met.T.Entry.laws (store_of c.self.inside.arena) (store_of c.join-number.new.arena) c.self.inside.root _
    c.join-number.result.0 (Some c.join-number.result.1) c.self.invariant.0.held c.join-number.ensures

pub invariant_of-self : goal.invariant_of-self
invariant_of-self g c =
    let m = g.T.Entry in
    (joined_freed m.key m.unit m.op m.of g.met.T.Entry.laws (store_of c.self.inside.arena) (store_of c.join-number.new.arena)
    (store_of c.free.new.self)
    c.self.inside.root c.self.invariant c.args.lower c.args.upper c.args.joined c.join-number.result.0 c.join-number.result.1
    c.join-number.ensures c.free.ensures).0

pub returns : goal.returns
returns g c =
    let m = g.T.Entry in
    record {
      entries = (joined_freed m.key m.unit m.op m.of g.met.T.Entry.laws (store_of c.self.inside.arena) (store_of c.join-number.new.arena)
          (store_of c.free.new.self) c.self.inside.root c.self.invariant c.args.lower c.args.upper c.args.joined c.join-number.result.0
          c.join-number.result.1
          c.join-number.ensures c.free.ensures).1 ∙ ap (λ v. with_joined m.key c.args.lower c.args.upper c.args.joined v) c.self.view_is;
    }

pub join-number-requires-clause-join : goal.join-number-requires-clause-join
join-number-requires-clause-join g c =
    let m = g.T.Entry in
    let is = c.self.view_is in
    let there = subst (λ xs. IsSome (entry_at m.key (m.key c.args.lower) xs)) (sym is) c.requires.there in
    let upper = subst (λ xs. IsSome (entry_at m.key (m.key c.args.upper) xs)) (sym is) c.requires.upper in
    let next = subst (NoneWithin m.key (m.key c.args.lower) (m.key c.args.upper)) (sym is) c.requires.next in
    join_for m.key m.unit m.op m.of g.met.T.Entry.laws (store_of c.self.inside.arena) c.self.inside.root c.self.invariant.0 c.args.lower c.args.upper
    c.args.joined there upper c.requires.after next c.requires.same
