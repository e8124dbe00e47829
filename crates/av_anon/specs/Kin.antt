-- What a call on areas keeps of the anon_vmas, whatever numbers the areas have: each area that has
-- an own anon_vma has the chain that areas with that one had, and no anon_vma changes its kin.
use Rattle.std.specs.Prelude.{◌≡◌, ℕ, List, [], length, Option, Some, IfSome, IsSomeAnd}
use Rattle.std.specs.List.{find}
use Rattle.std.specs.Option.{option_map_or}
use Rattle.av_vma.specs.declared.area.Area.{Area}
use Rattle.av_vma.specs.Pages.{Lengths}
use Rattle.av_anon.specs.declared.infos.Info.{Info}
use Rattle.av_anon.specs.Anons.{Family, own_of}
use Rattle.av_anon.specs.Order.{owns}

-- the chain that the areas have whose own anon_vma is v; none where there is no such area
abbrev pub chain_by : (ℕ → Option Area) → Family → ℕ → List ℕ
chain_by areas f v =
    option_map_or f.chain (find (λ a. owns v (own_of (areas a))) (f.users v)) []

-- how long an area's chain is, by its own anon_vma
abbrev pub length_by : (ℕ → Option Area) → Family → Lengths
length_by areas f own = option_map_or (λ v. length (chain_by areas f v)) own 0

-- the same root and parent
pub record IsSameKin (old new : Info) : Type 0 where
  pub root : new.root ≡ old.root
  pub parent : new.parent ≡ old.parent

-- no anon_vma is made, and none changes its root or parent; an area's own anon_vma is one that some
-- area had, and its chain is that one's
pub record KinStays (areas areas' : ℕ → Option Area) (f f' : Family) : Type 0 where
  pub next : f'.next ≡ f.next
  pub kin : (v : ℕ) → IfSome (f'.info v) (λ i. IsSomeAnd (f.info v) (λ old. IsSameKin old i))
  pub owned : (b v : ℕ) → own_of (areas' b) ≡ Some v
      → (a : ℕ) × (own_of (areas a) ≡ Some v) × (f'.chain b ≡ f.chain a)
