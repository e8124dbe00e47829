-- What an arena holds.
use Rattle.av_arena.specs.Tree.{Store}
use Rattle.std.specs.Prelude.{◌≡◌, ℕ, List, Option, Some, None, option_map, slice_index_or}
use Rattle.av_base.specs.Words.{with_at}
use Rattle.av_arena.specs.Cell.{node_in}
use Rattle.av_arena.specs.declared.cell.Cell.{Cell}
use Rattle.av_arena.specs.declared.link.Link.{Link}
use Rattle.av_arena.specs.declared.link.Side.{Side}
use Rattle.av_arena.specs.declared.link.Side.TheVariants.{Left, Right}
use Rattle.av_arena.specs.declared.link.Stored.{Stored}

-- the node under each number
abbrev pub store_of : {T S : Type 0} → List (Option (Cell T S)) → Store T S
store_of cells n = option_map node_in (slice_index_or cells n None)

-- a node without sides
abbrev pub leaf_of : {T S : Type 0} → T → Stored T S
leaf_of x = record { left = None; entry = x; right = None }

-- the tree on a side of a node, and the one on its other side
abbrev pub on_side : {T S : Type 0} → Side → Stored T S → Option (Link S)
on_side Left v = v.left
on_side Right v = v.right

abbrev pub on_other : {T S : Type 0} → Side → Stored T S → Option (Link S)
on_other Left v = v.right
on_other Right v = v.left

abbrev pub opposite : Side → Side
opposite Left = Right
opposite Right = Left

-- a node with another tree on a side
abbrev pub with_side : {T S : Type 0} → Side → Option (Link S) → Stored T S → Stored T S
with_side Left link v = record v { left = link }
with_side Right link v = record v { right = link }

abbrev pub side_put : {T S : Type 0} → Side → Option (Link S) → Option (Stored T S) →
    Option (Stored T S)
side_put side link None = None
side_put side link (Some v) = Some (with_side side link v)

-- a node with another entry
abbrev pub entry_put : {T S : Type 0} → T → Option (Stored T S) → Option (Stored T S)
entry_put x None = None
entry_put x (Some v) = Some (record v { entry = x })

-- the entry of a node
abbrev pub entry_of : {T S : Type 0} → Option (Stored T S) → Option T
entry_of None = None
entry_of (Some v) = Some v.entry

-- under each number stands the entry that stood there
abbrev pub KeepsEntries : {T S : Type 0} → Store T S → Store T S → Type 0
KeepsEntries old new = (j : ℕ) → entry_of (new j) ≡ entry_of (old j)

-- the same but under n, where the entry x stands now
abbrev pub PutsEntry : {T S : Type 0} → Store T S → Store T S → ℕ → T → Type 0
PutsEntry old new n x = (j : ℕ) → entry_of (new j) ≡ with_at n (Some x) (λ i. entry_of (old i)) j
