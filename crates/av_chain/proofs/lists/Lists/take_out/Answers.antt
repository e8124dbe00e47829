use Rattle.std.proofs.Common.{◌≡◌, ℕ, Option, subst}
use Rattle.std.specs.HashMap.{get}
use Rattle.std.specs.Prelude.{nat_eq}
use Rattle.av_chain.specs.declared.node.Head.{Head}
use Rattle.av_chain.specs.declared.node.Sides.{Sides}
use Rattle.av_chain.specs.Rows.{HaveHead, head_without}
use Rattle.av_chain.proofs.Wholes.{whole_heads, area_before, area_after, anon_before, anon_after, area_there, anon_there, still_there, links_gone, whole_gone}
use Rattle.av_chain.proofs.lists.Lists.take_out.Goals as goal

-- the head without a node, by what its neighbours are
head_by : (k : ℕ) (old new : ℕ → Option Head) (s t : Sides) → s ≡ t → HaveHead k (head_without s (old k)) old new →
    HaveHead k (head_without t (old k)) old new
head_by k old new s t e = subst (λ (q : Sides). HaveHead k (head_without q (old k)) old new) e

pub part-requires-clause-before : goal.part-requires-clause-before
part-requires-clause-before c = rw (c.sides.ensures)
    (area_before (get nat_eq c.args.self.now.areas) (get nat_eq c.args.self.now.anons) c.args.self.now.nodes.blocks c.args.place.ptr
    c.get-node.result.now c.args.self.now.nodes.apart c.requires.kept c.get-node.ensures)

pub part-requires-clause-after : goal.part-requires-clause-after
part-requires-clause-after c = rw (c.sides.ensures)
    (area_after (get nat_eq c.args.self.now.areas) (get nat_eq c.args.self.now.anons) c.args.self.now.nodes.blocks c.args.place.ptr
    c.get-node.result.now c.args.self.now.nodes.apart c.requires.kept c.get-node.ensures)

pub part-requires-clause-some : goal.part-requires-clause-some
part-requires-clause-some c =
    area_there (get nat_eq c.args.self.now.areas) (get nat_eq c.args.self.now.anons) c.args.self.now.nodes.blocks c.args.place.ptr
    c.get-node.result.now c.args.self.now.nodes.apart c.requires.kept c.get-node.ensures

pub part-requires-2-clause-before : goal.part-requires-2-clause-before
part-requires-2-clause-before c = rw (c.sides-2.ensures, c.part.ensures.blocks, c.sides.ensures)
    (anon_before (get nat_eq c.args.self.now.areas) (get nat_eq c.args.self.now.anons) c.args.self.now.nodes.blocks c.args.place.ptr
    c.get-node.result.now
    c.args.self.now.nodes.apart c.requires.kept c.get-node.ensures)

pub part-requires-2-clause-after : goal.part-requires-2-clause-after
part-requires-2-clause-after c = rw (c.sides-2.ensures, c.part.ensures.blocks, c.sides.ensures)
    (anon_after (get nat_eq c.args.self.now.areas) (get nat_eq c.args.self.now.anons) c.args.self.now.nodes.blocks c.args.place.ptr
    c.get-node.result.now
    c.args.self.now.nodes.apart c.requires.kept c.get-node.ensures)

pub part-requires-2-clause-some : goal.part-requires-2-clause-some
part-requires-2-clause-some c =
    anon_there (get nat_eq c.args.self.now.areas) (get nat_eq c.args.self.now.anons) c.args.self.now.nodes.blocks c.args.place.ptr
    c.get-node.result.now c.args.self.now.nodes.apart c.requires.kept c.get-node.ensures

pub free-requires : goal.free-requires
free-requires c = rw (c.part-2.ensures.blocks, c.sides-2.ensures, c.part.ensures.blocks, c.sides.ensures)
    (still_there (get nat_eq c.args.self.now.areas) (get nat_eq c.args.self.now.anons) c.args.self.now.nodes.blocks c.args.place.ptr
    c.get-node.result.now
    c.args.self.now.nodes.apart c.requires.kept c.get-node.ensures c.requires.there)

pub returns-clause-kept : goal.returns-clause-kept
returns-clause-kept c = rw (c.free.ensures, c.part-2.ensures.blocks, c.sides-2.ensures, c.part.ensures.blocks, c.sides.ensures)
    (whole_heads _ (get nat_eq c.part.new.heads) _ (get nat_eq c.part-2.new.heads) _
    (head_by _ (get nat_eq c.args.self.now.areas) _ _ _ c.sides.ensures c.part.ensures.heads)
    (head_by _ (get nat_eq c.args.self.now.anons) _ _ _ c.sides-2.ensures c.part-2.ensures.heads)
    (whole_gone (get nat_eq c.args.self.now.areas) (get nat_eq c.args.self.now.anons) c.args.self.now.nodes.blocks c.args.place.ptr
    c.get-node.result.now
    c.args.self.now.nodes.apart c.requires.kept c.get-node.ensures))

pub returns-clause-links : goal.returns-clause-links
returns-clause-links c = rw (c.free.ensures, c.part-2.ensures.blocks, c.sides-2.ensures, c.part.ensures.blocks, c.sides.ensures)
    (links_gone (get nat_eq c.args.self.now.areas) (get nat_eq c.args.self.now.anons) c.args.self.now.nodes.blocks c.args.place.ptr
    c.get-node.result.now
    c.args.self.now.nodes.apart c.requires.kept c.get-node.ensures)
