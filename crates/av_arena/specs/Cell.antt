-- What node a cell of an arena holds, and which cells hold none.
use Rattle.std.specs.Prelude.{◌≡◌, ℕ, Bool, true, false, Option, Some, None, List, [], ◌∷◌}
use Rattle.std.specs.Prelude.{slice_get}
use Rattle.std.specs.List.{AllByRecursion}
use Rattle.av_arena.specs.declared.cell.Cell.{Cell}
use Rattle.av_arena.specs.declared.cell.Twig.{Twig}
use Rattle.av_arena.specs.declared.cell.Twig.TheVariants.{Bare, Free, Tree}
use Rattle.av_arena.specs.declared.link.Link.{Link}
use Rattle.av_arena.specs.declared.link.Stored.{Stored}

-- the link that tells the tree on a side
abbrev pub link_in : {S : Type 0} → Twig S → Option (Link S)
link_in Bare = None
link_in (Tree h n s) = Some (record { number = n; height = h; sum = s })
link_in (Free next) = None

abbrev pub node_in : {T S : Type 0} → Cell T S → Stored T S
node_in c = record { left = link_in c.left; entry = c.entry; right = link_in c.right }

-- whether what stands for the left tree says that a cell holds no node, and the next such cell
abbrev pub is_free : {S : Type 0} → Twig S → Bool
is_free Bare = false
is_free (Tree h n s) = false
is_free (Free next) = true

abbrev pub next_in : {S : Type 0} → Twig S → Option ℕ
next_in Bare = None
next_in (Tree h n s) = None
next_in (Free next) = next

-- a cell, if it holds a node
abbrev pub used_of : {T S : Type 0} → Bool → Cell T S → Option (Cell T S)
used_of true c = None
used_of false c = Some c

abbrev pub cell_used : {T S : Type 0} → Cell T S → Option (Cell T S)
cell_used c = used_of (is_free c.left) c

-- the first of some numbers
abbrev pub first : List ℕ → Option ℕ
first [] = None
first (n ∷ ns) = Some n

-- a cell is free, and this is the next free one
pub record IsBefore {T S : Type 0} (next : Option ℕ) (c : Cell T S) : Type 0 where
  pub free : is_free c.left ≡ true
  pub tells : next_in c.left ≡ next

-- these cells are free, none twice, and each tells the next
abbrev pub AreFree : {T S : Type 0} → List (Cell T S) → List ℕ → Type 0
AreFree cells [] = Unit {0}
AreFree {T = T} {S = S} cells (n ∷ ns) =
    ((c : Cell T S) × ((slice_get cells n ≡ Some c) × IsBefore (first ns) c)) ×
    AllByRecursion (λ m. m ≡ n → ⊥) ns ×
    AreFree cells ns

-- the free cells are listed from this one on
abbrev pub AreListed : {T S : Type 0} → List (Cell T S) → Option ℕ → Type 0
AreListed cells free = (ns : List ℕ) × ((free ≡ first ns) × AreFree cells ns)
