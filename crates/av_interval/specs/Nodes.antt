-- Trees of spans, and what a visit shows of one.
use Rattle.std.specs.Prelude.{◌≡◌, ℕ, Option, Some, None, cond, nat_le}
use Rattle.av_arena.specs.Tree as arena_tree
use Rattle.av_arena.specs.Tree.{Leaf, Fork, entries}
use Rattle.av_arena.specs.declared.link.Link.{Link}
use Rattle.av_interval.specs.Span.{top}
use Rattle.av_interval.specs.declared.span.Span.{Span}
use Rattle.av_interval.specs.declared.nodes.Node.{Node}

abbrev pub Tree : Type 0
Tree = arena_tree.Tree Span

-- a child is told by its number and the greatest last index below it
abbrev pub IsChild : (ℕ → Type 0) → (ℕ → Tree) → Tree → Option (ℕ × ℕ) → Type 0
IsChild is_node below t None = t ≡ Leaf
IsChild is_node below t (Some p) =
    is_node p.0 × (below p.0 ≡ t) × (p.1 ≡ top (entries t)) × (t ≡ Leaf → ⊥)

abbrev pub span_of : Node → Span
span_of n = record { first = n.first; last = n.last; area = n.area }

abbrev pub IsSeen : (ℕ → Type 0) → (ℕ → Tree) → Tree → Node → Type 0
IsSeen is_node below Leaf v = ⊥
IsSeen is_node below (Fork n l x r) v =
    (span_of v ≡ x) × IsChild is_node below l v.left × IsChild is_node below r v.right

-- the child, where it reaches the index
abbrev pub reaching_child : ℕ → Option (ℕ × ℕ) → Option ℕ
reaching_child i None = None
reaching_child i (Some p) = cond (nat_le i p.1) (Some p.0) None

-- the tree below a node's number, if there is one
abbrev pub tree_at : (ℕ → Tree) → Option ℕ → Tree
tree_at below None = Leaf
tree_at below (Some n) = below n

abbrev pub IsNone_or : (ℕ → Type 0) → Option ℕ → Type 0
IsNone_or P None = Unit {0}
IsNone_or P (Some n) = P n

-- how a child is told
abbrev pub child_of : Option (Link ℕ) → Option (ℕ × ℕ)
child_of None = None
child_of (Some k) = Some (k.number, k.sum)
