use Rattle.av_arena.proofs.Entries.{keeps_keeps, node_puts, put_own}
use Rattle.std.proofs.Common.{rules, ◌≡◌, None, ap, subst, arith, refl, sym, ◌∙◌}
use Rattle.av_arena.specs.Arena.{store_of}
use Rattle.av_arena.specs.Cell.{node_in}
use Rattle.av_arena.specs.Tree.{IsHeightAfter, IsHeld, IsJoined, IsSpot, height_of}
use Rattle.av_arena.proofs.TreeLemmas.{removed_middle_ready}
use Rattle.av_arena.proofs.BelowLemmas.{opened_at, put_height, put_joined, put_ready, taken_last, taken_middle}
use Rattle.av_arena.proofs.below.take.Given.{Over}
use Rattle.av_arena.proofs.below.take.Goals.{After-pop_first-first}
use Rattle.av_arena.proofs.below.take.Goals as goal

pub returns-in_default-clause-taken : goal.returns-in_default-clause-taken
returns-in_default-clause-taken g c =
    let m = g.T.Entry in
    let none : (node_in c.cell-cell.result.now).right ≡ None = sym c.link.ensures ∙ search rules in
    rw c.link-before.ensures (taken_last m.key m.unit m.op m.of g.met.T.Entry.laws (store_of c.args.arena.now) c.args.number
    (node_in c.cell-cell.result.now) c.args.like.now
    c.cell-cell.ensures c.requires.same none)

pub pop_first-first-requires-clause-held : goal.pop_first-first-requires-clause-held
pop_first-first-requires-clause-held g c =
    let m = g.T.Entry in
    let s = store_of c.args.arena.now in
    let r = c.requires.there in
    let o = opened_at m.key m.unit m.op m.of g.met.T.Entry.laws s c.args.number r.link
    (node_in c.cell-cell.result.now) r.number r.asked.held c.cell-cell.ensures in
    subst (IsHeld m.key m.unit m.op m.of s) (sym c.link.ensures ∙ c.in-Some.is) o.right

pub pop_first-first-requires-clause-low : goal.pop_first-first-requires-clause-low
pop_first-first-requires-clause-low g c =
    let m = g.T.Entry in
    let s = store_of c.args.arena.now in
    let r = c.requires.there in
    let o = opened_at m.key m.unit m.op m.of g.met.T.Entry.laws s c.args.number r.link
    (node_in c.cell-cell.result.now) r.number r.asked.held c.cell-cell.ensures in
    let e = ap height_of (sym c.link.ensures ∙ c.in-Some.is) in
    let h = o.height in
    let l = r.low in
    omega arith

-- the first node behind it, above what is left on both sides
spot : (g : Over) (c : After-pop_first-first g) → let m = g.T.Entry in
    IsSpot m.key m.unit m.op m.of (store_of c.pop_first-first.new.arena) c.pop_first-first.result.0 c.link-before.result c.pop_first-first.result.2
spot g c =
    let m = g.T.Entry in
    let s = store_of c.args.arena.now in
    let r = c.requires.there in
    let o = opened_at m.key m.unit m.op m.of g.met.T.Entry.laws s c.args.number r.link
    (node_in c.cell-cell.result.now) r.number r.asked.held c.cell-cell.ensures in
    rw c.link-before.ensures (removed_middle_ready m.key m.unit m.op m.of g.met.T.Entry.laws s (store_of c.pop_first-first.new.arena) r.link c.in-Some.right
    (node_in c.cell-cell.result.now)
    c.pop_first-first.result.0 c.pop_first-first.result.1 c.pop_first-first.result.2 o (sym c.link.ensures ∙ c.in-Some.is) c.pop_first-first.ensures.popped)

pub set-requires : goal.set-requires
set-requires g c = (spot g (goal.at.set-requires g c).After-pop_first-first).used

pub settle-whole-requires : goal.settle-whole-requires
settle-whole-requires g c =
    let m = g.T.Entry in
    let s = store_of c.args.arena.now in
    let r = c.requires.there in
    let o = opened_at m.key m.unit m.op m.of g.met.T.Entry.laws s c.args.number r.link
    (node_in c.cell-cell.result.now) r.number r.asked.held c.cell-cell.ensures in
    let e = ap height_of (sym c.link.ensures ∙ c.in-Some.is) in
    let l = o.level.0 in
    let h = o.level.1 in
    let f = ap height_of c.link-before.ensures in
    let a = c.pop_first-first.ensures.not_higher in
    let b = c.pop_first-first.ensures.at_most_one_lower in
    let low = r.low in
    put_ready m.key m.unit m.op m.of g.met.T.Entry.laws _ _ _ _ (spot g (goal.at.settle-whole-requires g c).After-pop_first-first) c.set.ensures
    (omega arith, omega arith) (omega arith)

pub returns-clause-taken : goal.returns-clause-taken
returns-clause-taken g c =
    let m = g.T.Entry in
    let p = c.pop_first-first in
    let k = c.settle-whole.result in
    let t = store_of p.new.arena in
    let x = store_of c.settle-whole.new.arena in
    let at = spot g (goal.at.returns-clause-taken g c).After-pop_first-first in
    let joined = subst (λ l. IsJoined m.key m.unit m.op m.of t x p.result.0 l p.result.1 p.result.2 k) c.link-before.ensures
    (put_joined m.key m.unit m.op m.of g.met.T.Entry.laws t (store_of c.set.new.self) x p.result.0 _ k at c.set.ensures c.settle-whole.ensures.settled) in
    let height = subst (λ l. IsHeightAfter (height_of l) (height_of p.result.2) k.height) c.link-before.ensures
    (put_height m.key m.unit m.op m.of g.met.T.Entry.laws t (store_of c.set.new.self) x p.result.0 _ k at c.set.ensures c.settle-whole.ensures.settled) in
    taken_middle m.key m.unit m.op m.of g.met.T.Entry.laws (store_of c.args.arena.now) t x c.args.number
    (node_in c.cell-cell.result.now) c.args.like.now c.in-Some.right p.result.0 p.result.1 p.result.2 k c.cell-cell.ensures
    c.requires.same (sym c.link.ensures ∙ c.in-Some.is)
    p.ensures.popped p.ensures.not_higher p.ensures.at_most_one_lower joined height

pub returns-in_default-clause-kept : goal.returns-in_default-clause-kept
returns-in_default-clause-kept g c = λ j. refl

pub returns-clause-kept : goal.returns-clause-kept
returns-clause-kept g c =
    let p = c.pop_first-first in
    keeps_keeps _ _ _ (keeps_keeps _ _ _ p.ensures.kept (put_own _ _ p.result.0 _ (node_puts _ _ p.result.0 _ c.set.ensures)
    (p.ensures.kept p.result.0 ∙ p.ensures.node))) c.settle-whole.ensures.kept
