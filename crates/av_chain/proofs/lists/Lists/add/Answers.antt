use Rattle.std.proofs.Common.{◌≡◌, ℕ, List, [], ◌∷◌, ◌++◌, sym, ap, ◌∙◌, subst, Option}
use Rattle.std.specs.HashMap.{get}
use Rattle.std.specs.Prelude.{nat_eq}
use Rattle.av_chain.specs.declared.node.Head.{Head}
use Rattle.av_chain.specs.declared.node.Node.{Node}
use Rattle.av_chain.specs.Nodes.{Block, IsApart}
use Rattle.av_chain.specs.Rows.{node_of, Reaches, last_of}
use Rattle.av_chain.specs.Lists.{AreThreaded}
use Rattle.av_chain.proofs.Wholes.{whole_heads, new_node, first_join, second_join, links_made, whole_made}
use Rattle.av_chain.proofs.lists.Lists.add.Goals.{After-put-place}
use Rattle.av_chain.proofs.lists.Lists.add.Goals as goal

-- the lists, and the node that was put behind all that were there
module _ (c : After-put-place) where
  abbrev A : ℕ → Option Head
  A = get nat_eq c.room_for.new.heads

  abbrev V : ℕ → Option Head
  V = get nat_eq c.room_for-2.new.heads

  abbrev bs : List Block
  bs = c.args.self.now.nodes.blocks

  threaded : AreThreaded A V bs
  threaded = whole_heads _ A _ V bs c.room_for.ensures.same c.room_for-2.ensures.same c.requires.kept

  abbrev node : Node
  node = new_node A V bs c.put-place.result.ptr c.args.area c.args.anon threaded

  blocks : c.put-place.new.self.blocks ≡ bs ++ (c.put-place.result.ptr, node) ∷ []
  blocks =
      let value : c.of.result.value ≡ node = c.of.ensures ∙ c.in_ok-node.ensures.ok ∙ c.linking.ensures
      ∙ (λ i. node_of c.args.area c.args.anon
      (record { before = c.in_ok-in_area.ensures.sides.0 i; after = c.in_ok-in_area.ensures.sides.1 i })
      (record { before = c.in_ok-in_anon.ensures.sides.0 i; after = c.in_ok-in_anon.ensures.sides.1 i })) in
      c.put-place.ensures ∙ ap (λ (m : Node). bs ++ (c.put-place.result.ptr, m) ∷ []) value

  apart : IsApart (bs ++ (c.put-place.result.ptr, node) ∷ [])
  apart = subst IsApart blocks c.put-place.new.self.apart

pub join-requires-clause-reaches : goal.join-requires-clause-reaches
join-requires-clause-reaches c =
    let p = (goal.at.join-requires-clause-reaches c).After-put-place in
    subst (Reaches (last_of (A p c.args.area))) (sym (blocks p))
    (first_join (A p) (V p) (bs p) c.put-place.result.ptr c.args.area c.args.anon (threaded p) (apart p))

pub join-requires-2-clause-reaches : goal.join-requires-2-clause-reaches
join-requires-2-clause-reaches c =
    let p = (goal.at.join-requires-2-clause-reaches c).After-put-place in
    rw (c.join.ensures.blocks, blocks p) (second_join (A p) (V p) (bs p) c.put-place.result.ptr c.args.area c.args.anon (threaded p) (apart p))

pub returns-clause-kept : goal.returns-clause-kept
returns-clause-kept c =
    let p = (goal.at.returns-clause-kept c).After-put-place in
    rw (c.join-2.ensures.blocks, c.join.ensures.blocks, blocks p)
    (whole_heads _ (get nat_eq c.join.new.heads) _ (get nat_eq c.join-2.new.heads) _ c.join.ensures.heads c.join-2.ensures.heads
    (whole_made (A p) (V p) (bs p) c.put-place.result.ptr c.args.area c.args.anon (threaded p) (apart p) c.requires.new))

pub returns-clause-links : goal.returns-clause-links
returns-clause-links c =
    let p = (goal.at.returns-clause-links c).After-put-place in
    rw (c.join-2.ensures.blocks, c.join.ensures.blocks, blocks p)
    (links_made (A p) (V p) (bs p) c.put-place.result.ptr c.args.area c.args.anon (threaded p) (apart p))
