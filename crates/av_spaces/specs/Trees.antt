-- The processes seen through the areas by number and a tree of spans for each process, by its
-- number.
use Rattle.std.specs.Prelude.{◌≡◌, ◌≢◌, ℕ, ◌≤◌, ◌^◌, List, length, Option, None, is_some}
use Rattle.std.specs.Prelude.{option_map, slice_index_or, IfSome, MatchOption}
use Rattle.std.specs.List.{filter_map, enumerate_from}
use Rattle.av_base.specs.Words.{how_many}
use Rattle.av_vma.specs.declared.area.Area.{Area}
use Rattle.av_vmatree.specs.declared.span.Span.{Span}
use Rattle.av_merge.specs.Process.{AreAreasOf}
use Rattle.av_vma.specs.Areas.{area_of}
use Rattle.av_spaces.specs.Spaces.{AllSpaces, Spaces}

-- the tree of each process that lives, by its number
abbrev pub Trees : Type 0
Trees = List (Option (List Span))

-- the tree of a process, or none where it does not live
abbrev pub tree_at : Trees → ℕ → Option (List Span)
tree_at trees p = slice_index_or trees p None

-- the areas of the spans, in their order
abbrev pub areas_by : (ℕ → Option Area) → List Span → List Area
areas_by areas = filter_map (λ s. areas s.area)

-- a process with the areas of its tree, if it has one
abbrev pub space_by : (ℕ → Option Area) → (ℕ × Option (List Span)) → Option (ℕ × List Area)
space_by areas (p, tree) = option_map (λ spans. (p, areas_by areas spans)) tree

-- the areas of every process that lives
abbrev pub spaces_by : (ℕ → Option Area) → Trees → Spaces
spaces_by areas trees = filter_map (space_by areas) (enumerate_from 0 trees)

-- with the areas by number
abbrev pub all_spaces : List (Option Area) → Trees → AllSpaces
all_spaces areas trees = record { processes = spaces_by (area_of areas) trees; areas = areas }

-- no area in use is one of p
abbrev pub HasNone : ℕ → (ℕ → Option Area) → Type 0
HasNone p areas = (number : ℕ) → IfSome (areas number) (λ area. area.pid ≢ p)

-- a tree has the areas of its process, and a process without a tree has none: so each area in use
-- is in a tree
abbrev pub AreTrees : (ℕ → Option Area) → Trees → Type 0
AreTrees areas trees =
    (p : ℕ) → MatchOption (tree_at trees p) (HasNone p areas) (AreAreasOf p areas)

-- so are these, of so many processes that live
pub record HasTrees (areas : ℕ → Option Area) (ts : Trees) (n : ℕ) : Type 0 where
  pub trees : AreTrees areas ts
  pub alive : how_many is_some ts ≡ n
  pub few : length ts ≤ 2 ^ 16

-- places without a tree were added
pub record IsGrown (before after : Trees) : Type 0 where
  pub trees : (p : ℕ) → tree_at after p ≡ tree_at before p
  pub alive : how_many is_some after ≡ how_many is_some before
  pub few : length before ≤ 2 ^ 16 → length after ≤ 2 ^ 16
  pub same : (areas : ℕ → Option Area) → spaces_by areas after ≡ spaces_by areas before
