-- What an area says of all pages up to its end: they are mapped, and locked or not as it is.
use Rattle.std.proofs.Common.{◌≡◌, ℕ, ◌<◌, ◌≤◌, Bool, true, false, not, Option, Some, None, is_some, refl, sym, ap, ◌∙◌, arith}
use Rattle.std.specs.Option.{option_map_or}
use Rattle.av_vma.specs.declared.area.Area.{Area}
use Rattle.av_vma.specs.Index.{past_of}
use Rattle.av_vma.specs.Pages.{AreLaid}
use Rattle.av_vma.proofs.Laid.{has_from, has_parts}
use Rattle.av_vmatree.specs.Spans.{IsFree}
use Rattle.av_spaces.specs.Spaces.{Spaces, is_taken, pages_of}
use Rattle.av_place.specs.Advice.{is_unlocked}

-- an area is on all pages up to its end
pub area_on : (s : Spaces) (p page : ℕ) (area : Area) → AreLaid (pages_of s p) → Some area ≡ pages_of s p page
    → (o : ℕ) → page ≤ o → o < past_of area → pages_of s p o ≡ Some area
area_on s p page area laid there o low high =
    let first = (has_parts area page (laid.here page area (sym there))).0 in
    laid.all page o area (sym there) (has_from area o (omega (arith, first, low)) high)

pub taken_on : (s : Spaces) (p page : ℕ) (area : Area) → AreLaid (pages_of s p) → Some area ≡ pages_of s p page
    → (o : ℕ) → page ≤ o → o < past_of area → is_taken s p o ≡ true
taken_on s p page area laid there o low high = ap is_some (area_on s p page area laid there o low high)

-- the page past it is past each of its own
pub end_above : (s : Spaces) (p page : ℕ) (area : Area) → AreLaid (pages_of s p) → Some area ≡ pages_of s p page → page < past_of area
end_above s p page area laid there = (has_parts area page (laid.here page area (sym there))).1

abbrev unlocked_in : Option Area → Bool
unlocked_in o = option_map_or (λ (area : Area). not area.flags.locked) o true

pub unlocked_on : (s : Spaces) (p page : ℕ) (area : Area) → AreLaid (pages_of s p) → Some area ≡ pages_of s p page → area.flags.locked ≡ false
    → (o : ℕ) → page ≤ o → o < past_of area → is_unlocked s p o ≡ true
unlocked_on s p page area laid there unlocked o low high = ap unlocked_in (area_on s p page area laid there o low high) ∙ ap not unlocked

pub locked_at : (s : Spaces) (p page : ℕ) (area : Area) → Some area ≡ pages_of s p page → area.flags.locked ≡ true → is_unlocked s p page ≡ false
locked_at s p page area there locked = sym (ap unlocked_in there) ∙ ap not locked

-- a page that isn't mapped isn't locked
pub free_unlocked : (s : Spaces) (p from past : ℕ) → IsFree (is_taken s p) from past → (o : ℕ) → from ≤ o → o < past → is_unlocked s p o ≡ true
free_unlocked s p from past free o low high = by (pages_of s p o) (free o low high)
  where
    by : (x : Option Area) → is_some x ≡ false → unlocked_in x ≡ true
    by None none = refl
    by (Some area) none = cc
