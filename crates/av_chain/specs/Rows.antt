-- The two lists that each node lies in, as they are laid out in memory.
use Rattle.std.specs.Prelude.{◌≡◌, ℕ, suc, ◌+◌, ◌-◌, Bool, true, false, ◌==◌, cond, List, [], ◌∷◌, length}
use Rattle.std.specs.Prelude.{Option, Some, None, is_some}
use denote.RawPtr.{Ptr, null_ptr}
use Rattle.av_base.specs.Words.{with_at}
use Rattle.av_chain.specs.Nodes.{Block, same_ptr, has_place}
use Rattle.av_chain.specs.declared.node.Way.{Way}
use Rattle.av_chain.specs.declared.node.Way.TheVariants.{Area, Anon}
use Rattle.av_chain.specs.declared.node.Place.{Place}
use Rattle.av_chain.specs.declared.node.Sides.{Sides}
use Rattle.av_chain.specs.declared.node.Node.{Node}
use Rattle.av_chain.specs.declared.node.Head.{Head}

-- whose list it is
abbrev pub key_of : Way → Node → ℕ
key_of Area n = n.area
key_of Anon n = n.anon

-- what stands where there is no neighbour
abbrev pub nowhere : Place
nowhere = record { ptr = null_ptr }

abbrev pub or_nowhere : Option Place → Place
or_nowhere None = nowhere
or_nowhere (Some p) = p

abbrev pub place_if : Bool → Place → Option Place
place_if false p = None
place_if true p = Some p

-- a node's neighbours in one of its lists
abbrev pub sides_of : Way → Node → Sides
sides_of Area n = record {
  before = place_if n.has_area_before n.area_before;
  after = place_if n.has_area_after n.area_after;
}
sides_of Anon n = record {
  before = place_if n.has_anon_before n.anon_before;
  after = place_if n.has_anon_after n.anon_after;
}

-- the node of a link between these neighbours
abbrev pub node_of : ℕ → ℕ → Sides → Sides → Node
node_of area anon sa sv = record {
  area = area;
  anon = anon;
  area_before = or_nowhere sa.before;
  area_after = or_nowhere sa.after;
  anon_before = or_nowhere sv.before;
  anon_after = or_nowhere sv.after;
  has_area_before = is_some sa.before;
  has_area_after = is_some sa.after;
  has_anon_before = is_some sv.before;
  has_anon_after = is_some sv.after;
}

abbrev pub with_before : Way → Option Place → Node → Node
with_before Area o n = record n { area_before = or_nowhere o; has_area_before = is_some o }
with_before Anon o n = record n { anon_before = or_nowhere o; has_anon_before = is_some o }

abbrev pub with_after : Way → Option Place → Node → Node
with_after Area o n = record n { area_after = or_nowhere o; has_area_after = is_some o }
with_after Anon o n = record n { anon_after = or_nowhere o; has_anon_after = is_some o }

-- the node at a place is changed
abbrev pub node_changed : Ptr → (Node → Node) → List Block → List Block
node_changed p f [] = []
node_changed p f (b ∷ bs) = cond (same_ptr p b.0) (b.0, f b.1) b ∷ node_changed p f bs

-- the same, if there is a place
abbrev pub place_changed : Option Place → (Node → Node) → List Block → List Block
place_changed None f bs = bs
place_changed (Some p) f bs = node_changed p.ptr f bs

-- the node at the first place, if there is one, leads on to the other place
abbrev pub leads_on : Way → Option Place → Option Place → List Block → List Block
leads_on w at to bs = place_changed at (with_after w to) bs

-- the node at the first place, if there is one, leads back to the other place
abbrev pub leads_back : Way → Option Place → Option Place → List Block → List Block
leads_back w at to bs = place_changed at (with_before w to) bs

-- a node lies at the place, if there is one
abbrev pub Reaches : Option Place → List Block → Type 0
Reaches None bs = Unit {0}
Reaches (Some p) bs = has_place p.ptr bs ≡ true

abbrev pub at_block : Block → Place
at_block b = record { ptr = b.0 }

-- the nodes of one list
abbrev pub row : Way → ℕ → List Block → List Block
row w k [] = []
row w k (b ∷ bs) = cond (k == key_of w b.1) (b ∷ row w k bs) (row w k bs)

-- the nodes of all other lists
abbrev pub without_row : Way → ℕ → List Block → List Block
without_row w k [] = []
without_row w k (b ∷ bs) = cond (k == key_of w b.1) (without_row w k bs) (b ∷ without_row w k bs)

-- the place of the first, where `after` comes after all
abbrev pub first_or : Option Place → List Block → Option Place
first_or after [] = after
first_or after (b ∷ bs) = Some (at_block b)

-- the place of the last, where `before` comes before all
abbrev pub last_from : Option Place → List Block → Option Place
last_from before [] = before
last_from before (b ∷ bs) = last_from (Some (at_block b)) bs

-- from what comes before these nodes to what comes after them,
-- each leads on to the next one and back to the one before it
abbrev pub IsRun : Way → Option Place → List Block → Option Place → Type 0
IsRun w before [] after = Unit {0}
IsRun w before (b ∷ bs) after =
    ((sides_of w b.1).before ≡ before) × ((sides_of w b.1).after ≡ first_or after bs)
    × IsRun w (Some (at_block b)) bs after

-- the last of the rest, after this place
abbrev pub end_of : Place → List Block → Place
end_of p [] = p
end_of p (b ∷ bs) = end_of (at_block b) bs

abbrev pub head_of : List Block → Option Head
head_of [] = None
head_of (b ∷ bs) = Some (record {
  first = at_block b;
  last = end_of (at_block b) bs;
  count = suc (length bs);
})

-- the last node of a list
abbrev pub last_of : Option Head → Option Place
last_of None = None
last_of (Some h) = Some h.last

-- one more node at the end of a list
abbrev pub head_with : Place → Option Head → Head
head_with p None = record { first = p; last = p; count = 1 }
head_with p (Some h) = record { first = h.first; last = p; count = h.count + 1 }

-- a list without a node that had these neighbours
abbrev pub head_beside : Sides → Head → Option Place → Option Place → Option Head
head_beside s h None None = None
head_beside s h None (Some q) = Some (record { first = q; last = h.last; count = h.count - 1 })
head_beside s h (Some p) None = Some (record { first = h.first; last = p; count = h.count - 1 })
head_beside s h (Some p) (Some q) =
    Some (record { first = h.first; last = h.last; count = h.count - 1 })

abbrev pub head_without : Sides → Option Head → Option Head
head_without s None = None
head_without s (Some h) = head_beside s h s.before s.after

-- the heads, once that of one list is this one
abbrev pub HaveHead : ℕ → Option Head → (ℕ → Option Head) → (ℕ → Option Head) → Type 0
HaveHead k h old new = (j : ℕ) → new j ≡ with_at k h old j

-- the node is the last of the list with this head: the one before it leads on to it
abbrev pub after_join : Way → Place → Option Head → List Block → List Block
after_join w p h bs = leads_on w (last_of h) (Some p) bs

-- the neighbours of a node lead past it
abbrev pub after_part : Way → Sides → List Block → List Block
after_part w s bs = leads_back w s.after s.before (leads_on w s.before s.after bs)

-- each list leads through its nodes, and its head knows its ends
pub record IsThreaded (w : Way) (heads : ℕ → Option Head) (bs : List Block) : Type 0 where
  pub run : (k : ℕ) → IsRun w None (row w k bs) None
  pub head : (k : ℕ) → heads k ≡ head_of (row w k bs)
