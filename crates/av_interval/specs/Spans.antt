-- One tree of spans for each anon_vma, over one store of nodes.
use Rattle.std.specs.Prelude.{◌≡◌, ℕ, ◌+◌, ◌<◌, ◌≤◌, ◌^◌, max, slice_index_or, length, IsSome}
use Rattle.std.specs.Prelude.{nat_eq}
use Rattle.std.specs.Prelude.{Option, Some, None, List, option_map}
use Rattle.std.specs.Map.{lookup}
use Rattle.av_arena.specs.Order.{IsRising}
use Rattle.std.specs.List.{AllByRecursion}
use Rattle.av_arena.specs.Tree as arena_tree
use Rattle.av_arena.specs.Tree.{Fork, count_at, entries, entries_at, height, tree_at, tree_or_leaf}
use Rattle.av_arena.specs.Tree.{IsHeld}
use Rattle.av_arena.specs.Cell.{node_in}
use Rattle.av_arena.specs.declared.link.Link.{Link}
use Rattle.av_arena.specs.declared.cell.Cell.{Cell}
use Rattle.av_interval.specs.Nodes.{Tree}
use Rattle.av_interval.specs.Roots.{top_of, len_of}
use Rattle.av_interval.specs.Span.{key, last_of}
use Rattle.av_interval.specs.declared.span.Span.{Span}
use Rattle.av_interval.specs.declared.roots.Root.{Root}

abbrev pub Store : Type 0
Store = arena_tree.Store Span ℕ

-- the cells by number, and the roots by anon_vma
abbrev pub Forest : Type 0
Forest = List (Option (Cell Span ℕ)) × List (ℕ × Root)

abbrev pub store_of : Forest → Store
store_of v n = option_map node_in (slice_index_or v.0 n None)

abbrev pub root_in : Forest → ℕ → Option Root
root_in v anon = lookup (nat_eq anon) v.1

-- the tree of an anon_vma
abbrev pub tree_of : Forest → ℕ → Tree
tree_of v anon = tree_at (store_of v) (top_of (root_in v anon))

-- the tree below a node
abbrev pub below : Forest → ℕ → Tree
below v n =
    let s = store_of v in
    tree_or_leaf (s n) (λ w. Fork n (tree_at s w.left) w.entry (tree_at s w.right))

-- the number is that of a node of a tree
abbrev pub IsNode : Forest → ℕ → Type 0
IsNode v n = (k : Link ℕ) × ((k.number ≡ n) × IsHeld key 0 max last_of (store_of v) (Some k))

-- the triples of an anon_vma, by first index, then by area
abbrev pub triples : Forest → ℕ → List Span
triples v anon = entries (tree_of v anon)

-- the height of an anon_vma's tree
abbrev pub height_at : Forest → ℕ → ℕ
height_at v anon = height (tree_of v anon)

-- no triple is of this area
abbrev pub IsNew : ℕ → List Span → Type 0
IsNew area xs = AllByRecursion (λ x. x.area ≡ area → ⊥) xs

-- an anon_vma has the node j in its tree
pub record IsOfTree (s : Store) (r : ℕ → Option Root) (j : ℕ) : Type 0 where
  pub anon : ℕ
  pub there : 1 ≤ count_at s (top_of (r anon)) j

-- the trees are held, in order, share no node and lose none
pub record IsForest (s : Store) (r : ℕ → Option Root) : Type 0 where
  pub held : (a : ℕ) → IsHeld key 0 max last_of s (top_of (r a))
  pub rising : (a : ℕ) → IsRising key (entries_at s (top_of (r a)))
  pub fits : (a : ℕ) → AllByRecursion (λ x. x.area < 2 ^ 64) (entries_at s (top_of (r a)))
  pub len : (a : ℕ) → len_of (r a) ≡ length (entries_at s (top_of (r a)))
  pub apart : (a b j : ℕ) → (a ≡ b → ⊥) →
      count_at s (top_of (r a)) j + count_at s (top_of (r b)) j ≤ 1
  pub whole : (j : ℕ) → IsSome (s j) → IsOfTree s r j
