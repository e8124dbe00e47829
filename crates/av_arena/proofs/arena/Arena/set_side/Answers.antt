use Rattle.std.proofs.Common.{◌≡◌, Some, sym, ap, ◌∙◌}
use Rattle.std.proofs.lemmas.Option.{get_or_from_slice_get}
use Rattle.av_arena.specs.Arena.{side_put, store_of}
use Rattle.av_arena.specs.Cell.{is_free, node_in}
use Rattle.av_arena.proofs.CellLemmas.{listed_set, put_node, used_in}
use Rattle.av_arena.proofs.arena.Arena.set_side.Goals as goal

pub invariant_of-self : goal.invariant_of-self
invariant_of-self g c =
    listed_set c.self.inside.cells.items c.args.number _ c.self.inside.free (used_in _ _ _ c.self.view_is c.requires) c.self.invariant

pub returns : goal.returns
returns g c =
    let u = used_in c.self.inside.cells.items c.args.self.now c.args.number c.self.view_is c.requires in
    let own = c.index_mut.result.now in
    let same : own ≡ u.cell = c.index_mut.ensures.value ∙ get_or_from_slice_get c.self.inside.cells.items c.args.number u.cell own u.at in
    let here : store_of c.args.self.now c.args.number ≡ Some (node_in own) =
    ap (λ v. store_of v c.args.number) (sym c.self.view_is) ∙ (u.node ∙ ap (λ x. Some (node_in x)) (sym same)) in
    put_node c.self.inside.cells.items _ c.args.number _ _ c.self.view_is u.within (c.set_side.ensures.used (ap (λ x. is_free x.left) same ∙ u.used))
    (ap Some c.set_side.ensures.node ∙ sym (ap (side_put c.args.side c.args.link) here))
