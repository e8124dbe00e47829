-- How `Links` keeps its links in memory.
use Rattle.av_base.specs.Words.{is_in, with_at}
use Rattle.std.specs.Prelude.{◌≡◌, ℕ, false, List, [], ◌∷◌, ◌++◌, Option, Some, None, option_map}
use Rattle.std.specs.Prelude.{nat_eq}
use Rattle.std.specs.HashMap.{get}
use denote.RawPtr.{Ptr}
use Rattle.av_chain.specs.declared.node.Way.TheVariants.{Area, Anon}
use Rattle.av_chain.specs.declared.node.Head.{Head}
use Rattle.av_chain.specs.declared.node.Node.{Node}
use Rattle.av_chain.specs.declared.node.Place.{Place}
use Rattle.av_chain.specs.declared.lists.Lists.{Lists}
use Rattle.av_chain.specs.Nodes.{Block, found}
use Rattle.av_chain.specs.Rows.{row, IsThreaded}
use Rattle.av_chain.specs.Links.{Link, AreOnce}

-- the links that the nodes are, in the order in which they were made
abbrev pub links_of : List Block → List Link
links_of [] = []
links_of (b ∷ bs) = (b.1.area, b.1.anon) ∷ links_of bs

pub record AreThreaded (areas anons : ℕ → Option Head) (bs : List Block) : Type 0 where
  pub areas_lead : IsThreaded Area areas bs
  pub anons_lead : IsThreaded Anon anons bs
  pub once : AreOnce (links_of bs)

-- the lists lead through all nodes, and the heads know them
abbrev pub AreKept : Lists → Type 0
AreKept l = AreThreaded (get nat_eq l.areas) (get nat_eq l.anons) l.nodes.blocks

-- the same, where the heads were not told that the list of one area has this head
abbrev pub AreKeptBut : ℕ → Option Head → Lists → Type 0
AreKeptBut area head l =
    AreThreaded (with_at area head (get nat_eq l.areas)) (get nat_eq l.anons) l.nodes.blocks

-- the links that the lists are
abbrev pub links_in : Lists → List Link
links_in l = links_of l.nodes.blocks

-- the areas, and the anon_vmas, of nodes
abbrev pub areas_of : List Block → List ℕ
areas_of [] = []
areas_of (b ∷ bs) = b.1.area ∷ areas_of bs

abbrev pub anons_of : List Block → List ℕ
anons_of [] = []
anons_of (b ∷ bs) = b.1.anon ∷ anons_of bs

-- the node at a place is the first in the area's list that leads to the anon_vma
abbrev pub IsLinkAt : Ptr → ℕ → ℕ → List Block → Type 0
IsLinkAt p area anon bs =
    (xs : List Block) × (n : Node) × (ys : List Block) × (row Area area bs ≡ xs ++ (p, n) ∷ ys)
    × (n.anon ≡ anon) × (is_in anon (anons_of xs) ≡ false)

-- the anon_vma of the node at a place, if there is one
abbrev pub anon_there : Option Place → List Block → Option ℕ
anon_there None bs = None
anon_there (Some p) bs = option_map (λ (n : Node). n.anon) (found p.ptr bs)
