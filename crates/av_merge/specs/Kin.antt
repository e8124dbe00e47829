-- What the calls keep of the anon_vmas and of the areas' chains, and what is made for an area that
-- gets an anon_vma, in the values of `Areas` and `Anons`.
use Rattle.std.specs.Prelude.{◌≡◌, ℕ, suc, Bool, false, ◌&&◌, ◌==◌, if◌then◌else◌, List, [], ◌∷◌}
use Rattle.std.specs.Prelude.{Option, Some, option_map}
use Rattle.av_vma.specs.declared.area.Area.{Area}
use Rattle.av_vma.specs.Areas.{area_of}
use Rattle.av_vma.specs.Pages.{Lengths, makes_anon}
use Rattle.av_interval.specs.declared.span.Span.{Span}
use Rattle.av_vmatree.specs.declared.span.Span as tree
use Rattle.av_anon.specs.declared.anons.Anons.{Anons}
use Rattle.av_anon.specs.declared.infos.Info.{Info}
use Rattle.av_anon.specs.Anons.{Family, family, own_of}
use Rattle.av_anon.specs.Kin.{KinStays, chain_by, length_by}
use Rattle.av_anon.specs.Order.{IsInOrder}
use Rattle.av_anon.specs.Spans.{spans_of}
use Rattle.av_merge.specs.Pages.{pages_by}

-- there is chain order now, and kin stayed
pub record KeepsKin (areas areas' : ℕ → Option Area) (f f' : Family) (spans' : ℕ → List Span)
    : Type 0 where
  pub order : IsInOrder areas' f' spans'
  pub kin : KinStays areas areas' f f'

-- there is chain order
abbrev pub AreInOrder : List (Option Area) → Anons → Type 0
AreInOrder areas anons = IsInOrder (area_of areas) (family anons) (spans_of anons)

-- there is chain order after a call, and kin stayed
abbrev pub StayKin : List (Option Area) → Anons → List (Option Area) → Anons → Type 0
StayKin old before new after =
    KeepsKin (area_of old) (area_of new) (family before) (family after) (spans_of after)

-- how long an area's chain is, by its own anon_vma
abbrev pub lengths : List (Option Area) → Anons → Lengths
lengths areas anons = length_by (area_of areas) (family anons)

-- ---- an area gets an anon_vma

-- an anon_vma's root and parent
abbrev pub kin_in : Info → ℕ × ℕ
kin_in i = (i.root, i.parent)

-- whether it is the anon_vma that was made, if one was
abbrev pub is_made : Bool → ℕ → ℕ → Bool
is_made made next v = made && v == next

-- there is chain order now. The anon_vma that was made, if one was, is its own root and parent, and
-- the chain of the areas with it is itself alone; all others have the root and parent that they
-- had, no area gets another that no area had, and the chains of the areas with them stay
pub record PreparesKin (areas areas' : ℕ → Option Area) (f f' : Family) (spans' : ℕ → List Span)
    (made : Bool) : Type 0 where
  pub order : IsInOrder areas' f' spans'
  pub next : f'.next ≡ (if made then suc f.next else f.next)
  pub kin : (v : ℕ) → option_map kin_in (f'.info v)
      ≡ (if is_made made f.next v then Some (v, v) else option_map kin_in (f.info v))
  pub owned : (b v : ℕ) → own_of (areas' b) ≡ Some v → is_made made f.next v ≡ false
      → (a : ℕ) × (own_of (areas a) ≡ Some v)
  pub chains : (b v : ℕ) → own_of (areas' b) ≡ Some v
      → f'.chain b ≡ (if is_made made f.next v then v ∷ [] else chain_by areas f v)

-- whether an anon_vma is made where the area of a page gets one
abbrev pub makes_at : List (Option Area) → List tree.Span → Anons → ℕ → Bool
makes_at areas spans anons page = let on = pages_by (area_of areas) spans in
    makes_anon (lengths areas anons) on (on page)

-- so it is after a call that gave the area of a page an anon_vma
abbrev pub PrepareKin : List (Option Area) → List tree.Span → Anons → List (Option Area) → Anons
    → ℕ → Type 0
PrepareKin old spans before new after page =
    PreparesKin (area_of old) (area_of new) (family before) (family after) (spans_of after)
    (makes_at old spans before page)
