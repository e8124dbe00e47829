use Rattle.std.proofs.Common.{◌≡◌, ℕ, ◌+◌, ◌-◌, ◌<◌, ◌≤◌, ◌∙◌, true, subst, sym, arith}
use Rattle.av_vmatree.specs.Spans.{IsFree}
use Rattle.av_vma.specs.Areas.{area_of}
use Rattle.av_vma.specs.Mremap.{pages_from, pages_left}
use Rattle.av_merge.specs.Kin.{lengths}
use Rattle.av_merge.specs.Pages.{pages_by}
use Rattle.av_spaces.specs.Spaces.{AreThese}
use Rattle.av_spaces.proofs.Kin.{order_in}
use Rattle.av_spaces.proofs.Lent.{anons_back, areas_lent, has_back, is_changed, is_lent, taken_lent, tree_there}
use Rattle.av_spaces.proofs.Trees.{on_ok}
use Rattle.av_spaces.proofs.spaces.Spaces.map_like.Goals as goal

pub tree_mut-tree-requires : goal.tree_mut-tree-requires
tree_mut-tree-requires c = tree_there c.self.inside.areas c.self.inside.trees.items c.args.self.now c.args.process c.self.view_is c.requires.lives

pub invariant_of-self : goal.invariant_of-self
invariant_of-self c =
    let lent = is_lent c.self.inside.areas c.self.inside.trees.items c.self.inside.alive c.args.self.now c.args.process c.tree_mut-tree.result.now
    c.self.view_is c.self.invariant c.tree_mut-tree.ensures.tree in
    has_back lent c.map_like.new.areas c.map_like.new.tree (λ _. c.map_like.ensures.stands)

pub map_like-requires-clause-stands : goal.map_like-requires-clause-stands
map_like-requires-clause-stands c =
    let lent = is_lent c.self.inside.areas c.self.inside.trees.items c.self.inside.alive c.args.self.now c.args.process c.tree_mut-tree.result.now
    c.self.view_is c.self.invariant c.tree_mut-tree.ensures.tree in
    areas_lent lent

pub map_like-requires-clause-free : goal.map_like-requires-clause-free
map_like-requires-clause-free c =
    let lent = is_lent c.self.inside.areas c.self.inside.trees.items c.self.inside.alive c.args.self.now c.args.process c.tree_mut-tree.result.now
    c.self.view_is c.self.invariant c.tree_mut-tree.ensures.tree in
    subst (λ test. IsFree test c.args.from (c.args.from + c.args.pages)) (sym (taken_lent lent)) c.requires.free

pub map_like-requires-clause-mapped : goal.map_like-requires-clause-mapped
map_like-requires-clause-mapped c =
    let lent = is_lent c.self.inside.areas c.self.inside.trees.items c.self.inside.alive c.args.self.now c.args.process c.tree_mut-tree.result.now
    c.self.view_is c.self.invariant c.tree_mut-tree.ensures.tree in
    subst (λ test. (page : ℕ) → c.args.like ≤ page → page < c.args.like + (c.args.from + c.args.pages - c.args.from) → test page ≡ true)
    (sym (taken_lent lent)) (λ page low high. c.requires.mapped page low (omega arith))

pub returns-clause-areas : goal.returns-clause-areas
returns-clause-areas c =
    let lent = is_lent c.self.inside.areas c.self.inside.trees.items c.self.inside.alive c.args.self.now c.args.process c.tree_mut-tree.result.now
    c.self.view_is c.self.invariant c.tree_mut-tree.ensures.tree in
    on_ok c.map_like.result (λ pages. is_changed lent c.map_like.new.areas c.map_like.new.tree (λ _. c.map_like.ensures.stands)
    (λ all on. AreThese (pages_left (lengths all c.args.anons.now) c.args.process (pages_from c.args.like c.args.from on) c.args.from c.args.pages on))
    (λ page. pages page ∙ (let all : c.args.from + c.args.pages - c.args.from ≡ c.args.pages = omega arith in
    let on = pages_by (area_of c.self.inside.areas) c.tree_mut-tree.result.now in
    λ i. pages_left (lengths c.self.inside.areas c.args.anons.now) c.args.process (pages_from c.args.like c.args.from on) c.args.from (all i) on page)))
    c.map_like.ensures.pages

pub map_like-requires-clause-order : goal.map_like-requires-clause-order
map_like-requires-clause-order c =
    order_in c.self.inside.areas c.self.inside.trees.items c.args.self.now c.args.anons.now c.self.view_is c.requires.order

pub returns-clause-anons : goal.returns-clause-anons
returns-clause-anons c =
    let lent = is_lent c.self.inside.areas c.self.inside.trees.items c.self.inside.alive c.args.self.now c.args.process c.tree_mut-tree.result.now
    c.self.view_is c.self.invariant c.tree_mut-tree.ensures.tree in
    on_ok c.map_like.result (λ kin. anons_back lent c.map_like.new.areas c.map_like.new.tree (λ _. c.map_like.ensures.stands)
    c.args.anons.now c.map_like.new.anons c.requires.order kin) c.map_like.ensures.kin
