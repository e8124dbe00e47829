-- Where an iterator over the areas of an anon_vma stands.
use Rattle.std.specs.Prelude.{ℕ, cond, List, [], ◌∷◌, Option, Some, None}
use Rattle.av_chain.specs.declared.node.Way.TheVariants.{Anon}
use Rattle.av_chain.specs.declared.node.Place.{Place}
use Rattle.av_chain.specs.declared.lists.Lists.{Lists}
use Rattle.av_chain.specs.Nodes.{Block, same_ptr}
use Rattle.av_chain.specs.Rows.{row, Reaches}
use Rattle.av_chain.specs.Lists.{areas_of, AreKept}

-- the nodes from a place on
abbrev pub from_place : Option Place → List Block → List Block
from_place None bs = []
from_place (Some p) [] = []
from_place (Some p) (b ∷ bs) = cond (same_ptr p.ptr b.0) (b ∷ bs) (from_place (Some p) bs)

-- the areas that are left
abbrev pub users_left : ℕ → Option Place → List Block → List ℕ
users_left anon at bs = areas_of (from_place at (row Anon anon bs))

-- the place is that of a node of the anon_vma's list, or behind the last
pub record IsUsersPlace (anon : ℕ) (at : Option Place) (l : Lists) : Type 0 where
  pub whole : AreKept l
  pub there : Reaches at (row Anon anon l.nodes.blocks)
