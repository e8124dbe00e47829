use Rattle.av_arena.specs.declared.link.Side.TheVariants.{Left}
use Rattle.av_arena.proofs.Entries.{keeps_keeps, side_keeps}
use Rattle.std.proofs.Common.{rules, ◌≡◌, sym, ap, ◌∙◌, subst, refl, Some}
use Rattle.av_arena.specs.Arena.{side_put, store_of}
use Rattle.av_arena.specs.Cell.{node_in}
use Rattle.av_arena.specs.Tree.{height_of, sum_of, IsRoot}
use Rattle.av_arena.specs.declared.link.Stored.{Stored}
use Rattle.av_arena.proofs.TreeLemmas.{joined_same, left_set, node_is}
use Rattle.av_base.specs.Words.{with_at}
use Rattle.av_arena.proofs.BelowLemmas.{put_height, put_joined, put_ready}
use Rattle.av_arena.proofs.tree.with_left.Given.{Over}
use Rattle.av_arena.proofs.tree.with_left.Goals.{After-set_side}
use Rattle.av_arena.proofs.tree.with_left.Goals as goal

pub returns-then-is_same_link-clause-joined : goal.returns-then-is_same_link-clause-joined
returns-then-is_same_link-clause-joined g c =
    let m = g.T.Entry in
    let s = store_of c.args.arena.now in
    let e = node_is m.key m.unit m.op m.of g.met.T.Entry.laws s c.args.tree c.args.own c.args.entry c.args.right (node_in c.cell-cell.result.now)
    c.requires.root c.cell-cell.ensures in
    let same : (node_in c.cell-cell.result.now).left ≡ c.args.left = c.is_same_link.ensures.same (search rules) in
    let is : c.args.own ≡ c.args.left = sym (ap (λ (w : Stored g.row.T.Denot g.row.T-Sum.Denot). w.left) e) ∙ same in
    let root : IsRoot m.key m.unit m.op m.of s c.args.tree c.args.left c.args.entry c.args.right =
    subst (λ k. IsRoot m.key m.unit m.op m.of s c.args.tree k c.args.entry c.args.right) is c.requires.root in
    joined_same m.key m.unit m.op m.of g.met.T.Entry.laws s c.args.tree c.args.left c.args.entry c.args.right root c.requires.spot

pub returns-clause-joined : goal.returns-clause-joined
returns-clause-joined g c =
    let m = g.T.Entry in
    let s = store_of c.args.arena.now in
    let v = (node_in c.cell-cell.result.now) in
    let e = node_is m.key m.unit m.op m.of g.met.T.Entry.laws s c.args.tree c.args.own c.args.entry c.args.right v c.requires.root
    c.cell-cell.ensures in
    let high : height_of v.left ≡ height_of c.args.left = search rules in
    let own : height_of c.args.own ≡ height_of c.args.left = sym (ap (λ (w : Stored g.row.T.Denot g.row.T-Sum.Denot). height_of w.left) e) ∙ high in
    let sum : c.join_sums-total.result ≡ m.op (sum_of m.unit c.args.left) (m.op (m.of v.entry) (sum_of m.unit v.right)) = search rules in
    let total = subst (λ (w : Stored g.row.T.Denot g.row.T-Sum.Denot). c.join_sums-total.result ≡ m.op (sum_of m.unit c.args.left)
    (m.op (m.of w.entry) (sum_of m.unit w.right))) e sum in
    left_set m.key m.unit m.op m.of g.met.T.Entry.laws s (store_of c.set_side-2.new.self) c.args.tree c.args.own c.args.left c.args.entry c.args.right
    c.join_sums-total.result c.requires.root c.requires.spot c.set_side-2.ensures own total

pub returns-then-is_same_link-clause-kept : goal.returns-then-is_same_link-clause-kept
returns-then-is_same_link-clause-kept g c = λ j. refl

-- the node is written with its new side
written : (g : Over) (c : After-set_side g) → store_of c.set_side.new.self ≡ with_at c.args.tree.number
    (Some (record { left = c.args.left; entry = c.args.entry; right = c.args.right })) (store_of c.args.arena.now)
written g c =
    let s = store_of c.args.arena.now in
    c.set_side.ensures ∙ ap (λ o. with_at c.args.tree.number (side_put Left c.args.left o) s) c.requires.root.stored

pub settle-requires : goal.settle-requires
settle-requires g c =
    let m = g.T.Entry in
    put_ready m.key m.unit m.op m.of g.met.T.Entry.laws _ _ _ _ c.requires.spot (written g (goal.at.settle-requires g c).After-set_side)
    c.requires.level c.requires.low

pub returns-then-height-clause-joined : goal.returns-then-height-clause-joined
returns-then-height-clause-joined g c =
    let m = g.T.Entry in
    put_joined m.key m.unit m.op m.of g.met.T.Entry.laws _ _ _ _ _ _ c.requires.spot
    (written g (goal.at.returns-then-height-clause-joined g c).After-set_side) c.settle.ensures.settled

pub returns-then-height-clause-height : goal.returns-then-height-clause-height
returns-then-height-clause-height g c =
    let m = g.T.Entry in
    put_height m.key m.unit m.op m.of g.met.T.Entry.laws _ _ _ _ _ _ c.requires.spot
    (written g (goal.at.returns-then-height-clause-height g c).After-set_side) c.settle.ensures.settled

pub returns-then-height-clause-kept : goal.returns-then-height-clause-kept
returns-then-height-clause-kept g c =
    keeps_keeps _ _ _ (side_keeps Left _ _ c.args.tree.number _ c.set_side.ensures) c.settle.ensures.kept

pub returns-clause-kept : goal.returns-clause-kept
returns-clause-kept g c = side_keeps Left _ _ c.args.tree.number _ c.set_side-2.ensures
