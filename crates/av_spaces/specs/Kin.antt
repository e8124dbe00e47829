-- The anon_vmas beside the areas of all processes, said by pages: which are linked, and what a
-- change of areas leaves of them.
use Rattle.std.specs.Prelude.{◌≡◌, ◌≤◌, ◌↔◌, ℕ, suc, Bool, true, false, if◌then◌else◌, List, []}
use Rattle.std.specs.Prelude.{◌∷◌, Option, Some, None, option_map, IfSome, IsSome, IsSomeAnd}
use Rattle.std.specs.Option.{option_map_or}
use Rattle.av_base.specs.Words.{is_in}
use Rattle.av_vma.specs.Areas.{area_of}
use Rattle.av_vma.specs.Pages.{makes_anon}
use Rattle.av_anon.specs.declared.anons.Anons.{Anons}
use Rattle.av_anon.specs.declared.infos.Info.{Info}
use Rattle.av_anon.specs.Anons.{family}
use Rattle.av_anon.specs.Kin as in_family
use Rattle.av_anon.specs.Kin.{IsSameKin}
use Rattle.av_merge.specs.Kin.{AreInOrder, is_made, kin_in, lengths}
use Rattle.av_spaces.specs.Spaces.{AllSpaces, pages_of}

-- there is chain order
abbrev pub InOrder : AllSpaces → Anons → Type 0
InOrder s anons = AreInOrder s.areas anons

-- what is kept of an anon_vma, if it is there
abbrev pub info_of : Anons → ℕ → Option Info
info_of anons v = (family anons).info v

-- the chain of an area, by its own anon_vma
abbrev pub chain_by : AllSpaces → Anons → Option ℕ → List ℕ
chain_by s anons None = []
chain_by s anons (Some own) = in_family.chain_by (area_of s.areas) (family anons) own

-- the chain of the area that holds a page of p; none where there is no area
abbrev pub chain_at : AllSpaces → Anons → ℕ → ℕ → List ℕ
chain_at s anons p page =
    option_map_or (λ area. chain_by s anons area.anon) (pages_of s.processes p page) []

-- an area is linked to the anon_vma
abbrev pub IsLinkedIn : AllSpaces → Anons → ℕ → Type 0
IsLinkedIn s anons v = (p : ℕ) × (page : ℕ) × IsSomeAnd (pages_of s.processes p page)
    (λ area. is_in v (chain_by s anons area.anon) ≡ true)

-- an area has the anon_vma as its own
abbrev pub IsOwnedIn : AllSpaces → ℕ → Type 0
IsOwnedIn s v = (p : ℕ) × (page : ℕ)
    × IsSomeAnd (pages_of s.processes p page) (λ area. area.anon ≡ Some v)

-- there is chain order; the anon_vmas that are there are those that an area is linked to, an area's
-- own one is in its chain, and one counts active areas exactly where it is some area's own
pub record AnonsFit (s : AllSpaces) (anons : Anons) : Type 0 where
  pub order : InOrder s anons
  pub there : (v : ℕ) → IsSome (info_of anons v) → IsLinkedIn s anons v
  pub linked : (v : ℕ) → IsLinkedIn s anons v → IsSome (info_of anons v)
  pub own : (v : ℕ) → IsOwnedIn s v → is_in v (chain_by s anons (Some v)) ≡ true
  pub active : (v : ℕ) → IfSome (info_of anons v) (λ i. (1 ≤ i.active) ↔ IsOwnedIn s v)

-- after a change of areas: no anon_vma is made, and none changes its root or parent; an area's own
-- one is one that some area had, and has the chain that it had
pub record AnonsStay (s : AllSpaces) (old : Anons) (s' : AllSpaces) (new : Anons) : Type 0 where
  pub fit : AnonsFit s' new
  pub next : new.next ≡ old.next
  pub kin : (v : ℕ) → IfSome (info_of new v) (λ i. IsSomeAnd (info_of old v) (λ was. IsSameKin was
      i))
  pub owned : (v : ℕ) → IsOwnedIn s' v → IsOwnedIn s v
  pub chains : (v : ℕ) → IsOwnedIn s' v → chain_by s' new (Some v) ≡ chain_by s old (Some v)

-- whether an anon_vma is made where the area of a page of p gets one
abbrev pub made_for : AllSpaces → Anons → ℕ → ℕ → Bool
made_for s anons p page = let on = pages_of s.processes p in
    makes_anon (lengths s.areas anons) on (on page)

-- after the area of a page of p got an anon_vma: where one was made, it is its own root and parent,
-- and the chain of the areas with it is itself alone. All others have the root and parent that they
-- had, an area's own one is one that some area had, and has the chain that it had
pub record AnonsPrepare (s : AllSpaces) (old : Anons) (s' : AllSpaces) (new : Anons) (p page : ℕ)
    : Type 0 where
  pub fit : AnonsFit s' new
  pub next : new.next ≡ (if made_for s old p page then suc old.next else old.next)
  pub kin : (v : ℕ) → option_map kin_in (info_of new v)
      ≡ (if is_made (made_for s old p page) old.next v then Some (v, v)
      else option_map kin_in (info_of old v))
  pub owned : (v : ℕ) → IsOwnedIn s' v → is_made (made_for s old p page) old.next v ≡ false
      → IsOwnedIn s v
  pub chains : (v : ℕ) → IsOwnedIn s' v → chain_by s' new (Some v)
      ≡ (if is_made (made_for s old p page) old.next v then v ∷ [] else chain_by s old (Some v))
