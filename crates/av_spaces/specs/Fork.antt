-- The areas of a process go to a child, one after the other, by rising address.
use Rattle.std.specs.Prelude.{◌≡◌, ℕ, List, [], ◌∷◌, take, Option, Some, IfSome, IsSomeAnd}
use Rattle.av_vma.specs.declared.area.Area.{Area}
use Rattle.av_vma.specs.Areas.{area_of}
use Rattle.av_vma.specs.Fork.{areas_to_fork, own_to_fork}
use Rattle.av_vmatree.specs.declared.span.Span.{Span}
use Rattle.av_anon.specs.declared.anons.Anons.{Anons}
use Rattle.av_anon.specs.Kin.{IsSameKin}
use Rattle.av_merge.specs.Forking.{Lineage, area_in_child, kin_by, kin_with}
use Rattle.av_merge.specs.Kin.{AreInOrder}
use Rattle.av_merge.specs.Process.{Stays}
use Rattle.av_spaces.specs.Kin.{AnonsFit, IsOwnedIn, chain_by, info_of}
use Rattle.av_spaces.specs.Spaces.{AllSpaces, IsSpawned}
use Rattle.av_spaces.specs.Trees.{areas_by}

-- what a fork goes by
abbrev pub kin_of : AllSpaces → Anons → Lineage
kin_of s anons = kin_by s.areas anons

-- the child's areas, each by what those before it left
abbrev pub areas_in_child : ℕ → List Area → Lineage → List Area
areas_in_child child [] k = []
areas_in_child child (area ∷ areas) k =
    area_in_child child k area ∷ areas_in_child child areas (kin_with (own_to_fork area) k)

-- and the anon_vmas after them all
abbrev pub kin_after : List Area → Lineage → Lineage
kin_after [] k = k
kin_after (area ∷ areas) k = kin_after areas (kin_with (own_to_fork area) k)

-- a child lives now, with what these areas of its parent become; the anon_vmas are those that this
-- leaves, and fit
pub record IsForked (s : AllSpaces) (old : Anons) (s' : AllSpaces) (new : Anons) (child : ℕ)
    (areas : List Area) : Type 0 where
  pub spawned : IsSpawned s.processes s'.processes child
      (areas_in_child child areas (kin_of s old))
  pub kin : kin_of s' new ≡ kin_after areas (kin_of s old)
  pub fit : AnonsFit s' new

-- so it is with the first of the areas, however many: each goes where anon_vmas fit
abbrev pub GoInTurn : AllSpaces → Anons → ℕ → List Area → Type 0
GoInTurn s old child areas =
    (n : ℕ) → (mid : AllSpaces) × (anons : Anons) × IsForked s old mid anons child (take n areas)

-- the anon_vmas that there were are there, with the root and parent that they had; the areas that
-- had one as their own have its chain
pub record AreKept (s : AllSpaces) (old : Anons) (s' : AllSpaces) (new : Anons) : Type 0 where
  pub kin : (v : ℕ) → IfSome (info_of old v) (λ was. IsSomeAnd (info_of new v) (λ i. IsSameKin was
      i))
  pub chains : (v : ℕ) → IsOwnedIn s v → chain_by s' new (Some v) ≡ chain_by s old (Some v)

-- ---- by the values of `Areas`, `Tree` and `Anons`

-- the child's tree has what the areas of these spans of its parent become, those that go over; the
-- anon_vmas are those that this leaves, in chain order
pub record HasForked (child : ℕ) (old : List (Option Area)) (before : Anons) (spans : List Span)
    (new : List (Option Area)) (tree : List Span) (anons : Anons) : Type 0 where
  pub stands : Stays child (area_of old) (area_of new) tree
  pub areas : areas_by (area_of new) tree
      ≡ areas_in_child child (areas_to_fork (areas_by (area_of old) spans)) (kin_by old before)
  pub kin : kin_by new anons
      ≡ kin_after (areas_to_fork (areas_by (area_of old) spans)) (kin_by old before)
  pub order : AreInOrder new anons

-- so it is with the first of the spans, however many
abbrev pub ForksInTurn : ℕ → List (Option Area) → Anons → List Span → Type 0
ForksInTurn child old before spans = (n : ℕ) → (mid : List (Option Area)) × (tree : List Span)
    × (anons : Anons) × HasForked child old before (take n spans) mid tree anons
