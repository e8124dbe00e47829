use Rattle.std.proofs.Common.{◌≡◌, ◌∙◌, ap, sym}
use Rattle.std.specs.Prelude.{option_and_then}
use Rattle.av_chain.specs.Links.{chain_of}
use Rattle.av_vma.specs.Areas.{area_of}
use Rattle.av_spaces.specs.Kin.{chain_at}
use Rattle.av_spaces.specs.Trees.{tree_at}
use Rattle.av_spaces.proofs.Kin.{chain_nowhere, chain_where}
use Rattle.av_spaces.proofs.Trees.{if_each, none_dead, pages_there, processes_are}
use Rattle.av_spaces.proofs.spaces.Spaces.chain.Goals as goal

pub returns-in_default : goal.returns-in_default
returns-in_default c =
    let areas = area_of c.self.inside.areas in
    c.new.ensures.items ∙ chain_nowhere c.args.self.now c.args.anons.now c.args.process c.args.page
    (none_dead areas c.self.inside.trees.items c.args.process c.args.self.now.processes
    (sym (ap (λ ts. tree_at ts c.args.process) (sym c.deref.ensures.value) ∙ sym c.in_default.ensures)) (processes_are c.self.view_is) c.args.page)

pub returns-in-None : goal.returns-in-None
returns-in-None c =
    let areas = area_of c.self.inside.areas in
    c.new-in-None.ensures.items ∙ chain_nowhere c.args.self.now c.args.anons.now c.args.process c.args.page
    (ap (option_and_then areas) c.in-None.ensures.area
    ∙ sym (pages_there areas c.self.inside.trees.items c.args.process c.in-Some.tree.now c.args.self.now.processes c.self.invariant.trees
    (sym (ap (λ ts. tree_at ts c.args.process) (sym c.deref.ensures.value) ∙ sym c.in-Some.ensures)) (processes_are c.self.view_is) c.args.page))

pub returns-in-Some-find : goal.returns-in-Some-find
returns-in-Some-find c =
    let areas = area_of c.self.inside.areas in
    let n = c.in-Some-find.number in
    let there = ap (λ s. area_of s.areas n) (sym c.self.view_is) ∙ ap (option_and_then areas) c.in-Some-find.ensures.area
    ∙ sym (pages_there areas c.self.inside.trees.items c.args.process c.in-Some.tree.now c.args.self.now.processes c.self.invariant.trees
    (sym (ap (λ ts. tree_at ts c.args.process) (sym c.deref.ensures.value) ∙ sym c.in-Some.ensures)) (processes_are c.self.view_is) c.args.page) in
    if_each c.chain.result (λ chain. chain.items ≡ chain_of c.links.result.now n)
    (λ chain. chain.items ≡ chain_at c.args.self.now c.args.anons.now c.args.process c.args.page)
    (λ chain is. is ∙ ap (λ links. chain_of links n) c.links.ensures ∙ chain_where c.args.self.now c.args.anons.now c.args.process c.args.page n
    c.requires.order there) c.chain.ensures
