use Rattle.std.proofs.Common.{◌≡◌, sym, ap, ◌∙◌, is_some, Some, arith}
use Rattle.av_arena.specs.Arena.{on_side, store_of}
use Rattle.av_arena.specs.Cell.{node_in}
use Rattle.av_arena.specs.Tree.{height_of}
use Rattle.av_arena.proofs.Entries.{keeps_keeps, side_keeps}
use Rattle.av_arena.proofs.LiftLemmas.{IsLifted, double, high_low, high_side_low, high_used, low_told, later_told, middle_low, middle_side_low, middle_stays, middle_used, next_low, node_later_low, side_low, side_used, single, outer_told}
use Rattle.av_arena.proofs.below.lift.Given.{Over}
use Rattle.av_arena.proofs.below.lift.Goals.{After-close_side, After-close_side-2}
use Rattle.av_arena.proofs.below.lift.Goals as goal

pub cell-cell-requires : goal.cell-cell-requires
cell-cell-requires g c =
    let m = g.T.Entry in
    high_used m.key m.unit m.op m.of g.met.T.Entry.laws c.args.side _ _ _ c.requires

pub close_side-low-requires-clause-low_tree : goal.close_side-low-requires-clause-low_tree
close_side-low-requires-clause-low_tree g c =
    let m = g.T.Entry in
    let between = high_side_low m.key m.unit m.op m.of g.met.T.Entry.laws c.args.side c.other-other.result _ _ _ _ c.requires c.cell-cell.ensures in
    let between_is = ap height_of (c.link-between.ensures ∙ c.twig.ensures) in
    omega arith

pub close_side-requires-clause-low : goal.close_side-requires-clause-low
close_side-requires-clause-low g c =
    let m = g.T.Entry in
    next_low m.key m.unit m.op m.of g.met.T.Entry.laws c.args.side c.other-other.result c.other-other.ensures _ _ _ _ _ _ _ c.requires c.cell-cell.ensures
    c.close_side-low.ensures.closed

pub close_side-requires-clause-low_tree : goal.close_side-requires-clause-low_tree
close_side-requires-clause-low_tree g c =
    let m = g.T.Entry in
    let between = high_side_low m.key m.unit m.op m.of g.met.T.Entry.laws c.args.side c.other-other.result _ _ _ _ c.requires c.cell-cell.ensures in
    let between_is = ap height_of (c.link-between.ensures ∙ c.twig.ensures) in
    low_told m.key m.unit m.op m.of g.met.T.Entry.laws c.args.side _ _ _ _ _ _ c.requires c.close_side-low.ensures.closed (omega arith)

-- one rotation
once : (g : Over) (c : After-close_side g) → let m = g.T.Entry in
    IsLifted m.key m.unit m.op m.of g.met.T.Entry.laws (store_of c.args.arena.now) (store_of c.close_side.new.arena) c.args.number c.close_side.result
once g c =
    let m = g.T.Entry in
    single m.key m.unit m.op m.of g.met.T.Entry.laws c.args.side c.other-other.result c.other-other.ensures _ _ _ _ _ _ _ _ _ c.requires c.cell-cell.ensures
    (c.link-between.ensures ∙ c.twig.ensures) (let h = ap height_of c.twig-2.ensures in omega arith) c.close_side-low.ensures.closed
    c.close_side.ensures.closed

pub returns-then-height-clause-settled : goal.returns-then-height-clause-settled
returns-then-height-clause-settled g c = (once g c).settled

pub returns-then-height-clause-other : goal.returns-then-height-clause-other
returns-then-height-clause-other g c = (once g c).other

pub cell-inner-requires : goal.cell-inner-requires
cell-inner-requires g c =
    let m = g.T.Entry in
    let at : on_side c.other-other.result (node_in c.cell-cell.result.now) ≡ Some c.in-Some.middle =
    sym (c.link-between.ensures ∙ c.twig.ensures) ∙ c.in-Some.is in
    middle_used m.key m.unit m.op m.of g.met.T.Entry.laws c.args.side c.other-other.result _ _ _ _ _ c.requires c.cell-cell.ensures
    at

pub close_side-outer-requires-clause-low : goal.close_side-outer-requires-clause-low
close_side-outer-requires-clause-low g c =
    let m = g.T.Entry in
    high_low m.key m.unit m.op m.of g.met.T.Entry.laws c.args.side _ _ _ c.requires

pub close_side-outer-requires-clause-low_tree : goal.close_side-outer-requires-clause-low_tree
close_side-outer-requires-clause-low_tree g c =
    let m = g.T.Entry in
    let at : on_side c.other-other.result (node_in c.cell-cell.result.now) ≡ Some c.in-Some.middle =
    sym (c.link-between.ensures ∙ c.twig.ensures) ∙ c.in-Some.is in
    let near = middle_side_low m.key m.unit m.op m.of g.met.T.Entry.laws c.args.side c.other-other.result c.args.side _ _ _ _ _ _ c.requires c.cell-cell.ensures
    at c.cell-inner.ensures in
    let near_is = ap height_of (c.link-near.ensures ∙ c.twig-3.ensures) in
    omega arith

pub close_side-low-requires-2-clause-low : goal.close_side-low-requires-2-clause-low
close_side-low-requires-2-clause-low g c =
    let m = g.T.Entry in
    node_later_low m.key m.unit m.op m.of g.met.T.Entry.laws c.args.side c.other-other.result _ _ _ _ _ _ _ c.requires c.cell-cell.ensures
    c.close_side-outer.ensures.closed

pub close_side-low-requires-2-clause-low_tree : goal.close_side-low-requires-2-clause-low_tree
close_side-low-requires-2-clause-low_tree g c =
    let m = g.T.Entry in
    let at : on_side c.other-other.result (node_in c.cell-cell.result.now) ≡ Some c.in-Some.middle =
    sym (c.link-between.ensures ∙ c.twig.ensures) ∙ c.in-Some.is in
    let far = middle_side_low m.key m.unit m.op m.of g.met.T.Entry.laws c.args.side c.other-other.result c.other-other.result _ _ _ _ _ _ c.requires c.cell-cell.ensures
    at c.cell-inner.ensures in
    let far_is = ap height_of (c.link-far.ensures ∙ c.twig-4.ensures) in
    omega arith

pub close_side-requires-2-clause-used : goal.close_side-requires-2-clause-used
close_side-requires-2-clause-used g c =
    let m = g.T.Entry in
    let at : on_side c.other-other.result (node_in c.cell-cell.result.now) ≡ Some c.in-Some.middle =
    sym (c.link-between.ensures ∙ c.twig.ensures) ∙ c.in-Some.is in
    let stays =
    middle_stays m.key m.unit m.op m.of g.met.T.Entry.laws c.args.side c.other-other.result c.other-other.ensures _ _ _ _ _ _ _ _ _ _ _ _ c.requires c.cell-cell.ensures
    at c.cell-inner.ensures c.close_side-outer.ensures.closed c.close_side-low-2.ensures.closed in
    side_used m.key m.unit m.op m.of g.met.T.Entry.laws c.args.side (store_of c.close_side-low-2.new.arena) (store_of c.set_side.new.self)
    c.in-Some.middle.number (Some c.close_side-outer.result) c.set_side.ensures (ap is_some stays)

pub close_side-requires-2-clause-low : goal.close_side-requires-2-clause-low
close_side-requires-2-clause-low g c =
    let m = g.T.Entry in
    let at : on_side c.other-other.result (node_in c.cell-cell.result.now) ≡ Some c.in-Some.middle =
    sym (c.link-between.ensures ∙ c.twig.ensures) ∙ c.in-Some.is in
    let stays =
    middle_stays m.key m.unit m.op m.of g.met.T.Entry.laws c.args.side c.other-other.result c.other-other.ensures _ _ _ _ _ _ _ _ _ _ _ _ c.requires c.cell-cell.ensures
    at c.cell-inner.ensures c.close_side-outer.ensures.closed c.close_side-low-2.ensures.closed in
    let near = middle_side_low m.key m.unit m.op m.of g.met.T.Entry.laws c.args.side c.other-other.result c.args.side _ _ _ _ _ _ c.requires c.cell-cell.ensures
    at c.cell-inner.ensures in
    let near_is = ap height_of (c.link-near.ensures ∙ c.twig-3.ensures) in
    side_low m.key m.unit m.op m.of g.met.T.Entry.laws c.args.side (store_of c.close_side-low-2.new.arena) (store_of c.set_side.new.self)
    c.in-Some.middle.number (Some c.close_side-outer.result) c.set_side.ensures (ap is_some stays)
    (middle_low m.key m.unit m.op m.of g.met.T.Entry.laws c.args.side c.other-other.result _ (store_of c.close_side-low-2.new.arena) _ _ _ _ _ c.requires c.cell-cell.ensures
    at c.cell-inner.ensures stays)
    (outer_told m.key m.unit m.op m.of g.met.T.Entry.laws c.args.side c.other-other.result _ _ _ _ _ _ _ c.requires c.cell-cell.ensures
    c.close_side-outer.ensures.closed (omega arith))

pub close_side-requires-2-clause-low_tree : goal.close_side-requires-2-clause-low_tree
close_side-requires-2-clause-low_tree g c =
    let m = g.T.Entry in
    let at : on_side c.other-other.result (node_in c.cell-cell.result.now) ≡ Some c.in-Some.middle =
    sym (c.link-between.ensures ∙ c.twig.ensures) ∙ c.in-Some.is in
    let far = middle_side_low m.key m.unit m.op m.of g.met.T.Entry.laws c.args.side c.other-other.result c.other-other.result _ _ _ _ _ _ c.requires c.cell-cell.ensures
    at c.cell-inner.ensures in
    let far_is = ap height_of (c.link-far.ensures ∙ c.twig-4.ensures) in
    later_told m.key m.unit m.op m.of g.met.T.Entry.laws c.args.side c.other-other.result _ _ _ _ _ _ _ _ _ _ c.requires c.cell-cell.ensures
    c.close_side-outer.ensures.closed c.close_side-low-2.ensures.closed (omega arith)

-- two
twice : (g : Over) (c : After-close_side-2 g) → let m = g.T.Entry in
    IsLifted m.key m.unit m.op m.of g.met.T.Entry.laws (store_of c.args.arena.now) (store_of c.close_side-2.new.arena) c.args.number c.close_side-2.result
twice g c =
    let m = g.T.Entry in
    let at : on_side c.other-other.result (node_in c.cell-cell.result.now) ≡ Some c.in-Some.middle =
    sym (c.link-between.ensures ∙ c.twig.ensures) ∙ c.in-Some.is in
    let h = ap height_of c.twig-2.ensures in
    let f = ap height_of c.in-Some.is in
    double m.key m.unit m.op m.of g.met.T.Entry.laws c.args.side c.other-other.result c.other-other.ensures _ _ _ _ _ _ _ _ _ _ _ _ _ _ _ c.requires c.cell-cell.ensures
    at c.cell-inner.ensures (omega arith)
    (c.link-near.ensures ∙ c.twig-3.ensures) (c.link-far.ensures ∙ c.twig-4.ensures) c.close_side-outer.ensures.closed c.close_side-low-2.ensures.closed
    c.set_side.ensures c.close_side-2.ensures.closed

pub returns-clause-settled : goal.returns-clause-settled
returns-clause-settled g c = (twice g c).settled

pub returns-clause-other : goal.returns-clause-other
returns-clause-other g c = (twice g c).other

pub returns-clause-kept : goal.returns-clause-kept
returns-clause-kept g c =
    keeps_keeps _ _ _ (keeps_keeps _ _ _ c.close_side-outer.ensures.kept c.close_side-low-2.ensures.kept)
    (keeps_keeps _ _ _ (side_keeps c.args.side _ _ c.in-Some.middle.number _ c.set_side.ensures) c.close_side-2.ensures.kept)
