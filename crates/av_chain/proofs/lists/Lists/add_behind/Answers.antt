use Rattle.std.proofs.Common.{◌≡◌, ℕ, List, [], ◌∷◌, ◌++◌, sym, ap, ◌∙◌, subst, Option, Some, IsSome, cond, refl}
use Rattle.std.specs.HashMap.{get}
use Rattle.std.specs.Prelude.{nat_eq}
use Rattle.av_base.specs.Words.{with_at}
use Rattle.av_chain.specs.declared.node.Head.{Head}
use Rattle.av_chain.specs.declared.node.Node.{Node}
use Rattle.av_chain.specs.Nodes.{Block, IsApart}
use Rattle.av_chain.specs.Rows.{node_of, Reaches, last_of}
use Rattle.av_chain.proofs.Wholes.{number_flip, whole_heads}
use Rattle.av_chain.proofs.Behind.{IsBehind, behind, node_behind, at_own, at_twice}
use Rattle.av_chain.proofs.lists.Lists.add_behind.Goals.{After-put-place}
use Rattle.av_chain.proofs.lists.Lists.add_behind.Goals as goal

-- the lists, and the node that was put behind all that were there
module _ (c : After-put-place) where
  abbrev A : ℕ → Option Head
  A = with_at c.args.area c.args.head (get nat_eq c.args.self.now.areas)

  abbrev V : ℕ → Option Head
  V = get nat_eq c.args.self.now.anons

  abbrev bs : List Block
  bs = c.args.self.now.nodes.blocks

  -- the head of the anon_vma's list
  abbrev u : Option Head
  u = (Some c.in-Some.users.now)

  users : V c.args.anon ≡ u
  users = sym c.in-Some.ensures.value

  there : IsSome (V c.args.anon)
  there = subst IsSome (sym users) refl

  abbrev node : Node
  node = node_behind A V bs c.put-place.result.ptr c.args.area c.args.anon c.args.head u

  blocks : c.put-place.new.self.blocks ≡ bs ++ (c.put-place.result.ptr, node) ∷ []
  blocks =
      let value : c.of.result.value ≡ node = c.of.ensures ∙ c.in_ok-node.ensures.ok ∙ c.linking.ensures
      ∙ (λ i. node_of c.args.area c.args.anon
      (record { before = c.in_ok-in_area.ensures.sides.0 i; after = c.in_ok-in_area.ensures.sides.1 i })
      (record { before = c.in_ok-in_anon.ensures.sides.0 i; after = c.in_ok-in_anon.ensures.sides.1 i })) in
      c.put-place.ensures ∙ ap (λ (m : Node). bs ++ (c.put-place.result.ptr, m) ∷ []) value

  facts : IsBehind A V bs c.put-place.result.ptr c.args.area c.args.anon c.args.head u
  facts = behind A V bs c.put-place.result.ptr c.args.area c.args.anon c.args.head u
      (at_own c.args.area c.args.head (get nat_eq c.args.self.now.areas)) users c.requires.kept (subst IsApart blocks c.put-place.new.self.apart)

pub join_behind-longer-requires-clause-reaches : goal.join_behind-longer-requires-clause-reaches
join_behind-longer-requires-clause-reaches c =
    let p = (goal.at.join_behind-longer-requires-clause-reaches c).After-put-place in
    subst (Reaches (last_of c.args.head)) (sym (blocks p)) (facts p).first

pub join_behind-requires-clause-reaches : goal.join_behind-requires-clause-reaches
join_behind-requires-clause-reaches c =
    let p = (goal.at.join_behind-requires-clause-reaches c).After-put-place in
    rw (c.join_behind-longer.ensures.blocks, blocks p) (facts p).second

pub returns-clause-kept : goal.returns-clause-kept
returns-clause-kept c =
    let p = (goal.at.returns-clause-kept c).After-put-place in
    let areas = get nat_eq c.args.self.now.areas in
    rw (c.join_behind.ensures.blocks, c.join_behind-longer.ensures.blocks, blocks p)
    (whole_heads _ (with_at c.args.area (Some c.join_behind-longer.result) areas) _ (get nat_eq (c.get_mut.follows.lender c.join_behind.result)) _
    (λ k. ap (λ h. with_at c.args.area (Some h) areas k) c.join_behind-longer.ensures.head ∙ sym (at_twice c.args.area _ c.args.head areas k))
    (λ k. ((c.get_mut.follows.holds c.join_behind.result).3 (there p)).0 k
    ∙ (λ i. cond (number_flip c.args.anon k i) (Some (c.join_behind.ensures.head i)) (V p k)))
    ((facts p).kept c.requires.new))

pub returns-clause-links : goal.returns-clause-links
returns-clause-links c =
    let p = (goal.at.returns-clause-links c).After-put-place in
    rw (c.join_behind.ensures.blocks, c.join_behind-longer.ensures.blocks, blocks p) (facts p).links
