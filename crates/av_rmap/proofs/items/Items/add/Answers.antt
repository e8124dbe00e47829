use Rattle.std.proofs.Common.{◌≡◌, ◌<◌, List, [], length, get_or, sym, subst, ◌∙◌, ℕ, Result}
use Rattle.av_base.specs.Items.{Item}
use Rattle.av_rmap.specs.Items.{AreOnce}
use Rattle.av_rmap.specs.ItemLists.{AllOnce}
use Rattle.av_rmap.proofs.ItemLemmas.{IsAdded, is-few, is-kept, item-at, once_added, shown_added, was-some}
use Rattle.av_rmap.proofs.items.Items.add.Goals as goal

below : (lists v : List (List Item)) (f : ℕ) → lists ≡ v → f < length v → f < length lists
below lists v f seen less = subst (λ (v : List (List Item)). f < length v) (sym seen) less

-- the items that the frame had
was : (lists v : List (List Item)) (f : ℕ) (old : List Item) → lists ≡ v → f < length v → old ≡ get_or lists f old → old ≡ get_or lists f []
was lists v f old seen less at = at ∙ item-at lists f old (below lists v f seen less)

once : {E : Type 0} (r : Result (Unit {0}) E) (x : Item) (lists v : List (List Item)) (f : ℕ) (old new : List Item) → lists ≡ v → f < length v
    → old ≡ get_or lists f old → IsAdded r x old new → AllOnce lists → AreOnce new
once r x lists v f old new seen less at added all = once_added r x old new added (subst AreOnce (sym (was lists v f old seen less at)) (all f))

pub recount-self-inside-requires : goal.recount-self-inside-requires
recount-self-inside-requires c =
    let lists = c.self.inside.lists.items in let v = c.args.self.now in let f = c.args.frame in let new = c.add-added.new.self in
    let single = once c.add-added.result (c.args.root, c.args.index) lists v f c.index_mut-items.result.now new c.self.view_is c.requires
    c.index_mut-items.ensures.value c.add-added.ensures c.self.invariant.once in
    record {
      some = was-some lists v f c.self.inside.merged c.is_merged-was.result c.self.view_is c.requires c.is_merged-was.ensures c.self.invariant;
      few = is-few lists v f c.self.inside.merged c.is_merged-was.result c.self.view_is c.requires c.is_merged-was.ensures c.self.invariant new single
          c.is_merged.result c.is_merged.ensures;
    }

pub invariant_of-self : goal.invariant_of-self
invariant_of-self c =
    let lists = c.self.inside.lists.items in let v = c.args.self.now in let f = c.args.frame in let new = c.add-added.new.self in
    let single = once c.add-added.result (c.args.root, c.args.index) lists v f c.index_mut-items.result.now new c.self.view_is c.requires
    c.index_mut-items.ensures.value c.add-added.ensures c.self.invariant.once in
    is-kept lists v f c.self.inside.merged c.is_merged-was.result c.self.view_is c.requires c.is_merged-was.ensures c.self.invariant new single
    c.is_merged.result c.is_merged.ensures c.recount-self-inside.result c.recount-self-inside.ensures

pub returns : goal.returns
returns c = rw (← c.self.view_is) (shown_added c.add-added.result c.self.inside.lists.items c.args.frame (c.args.root, c.args.index)
    c.index_mut-items.result.now c.add-added.new.self (below c.self.inside.lists.items c.args.self.now c.args.frame c.self.view_is c.requires)
    (was c.self.inside.lists.items c.args.self.now c.args.frame c.index_mut-items.result.now c.self.view_is c.requires c.index_mut-items.ensures.value)
    c.add-added.ensures)
