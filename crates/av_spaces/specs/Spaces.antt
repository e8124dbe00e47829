-- The areas of every process, by process number.
use Rattle.std.specs.Prelude.{◌≡◌, ◌≢◌, ℕ, ◌+◌, ◌≤◌, ◌==◌, Bool, true, is_some, if◌then◌else◌, List}
use Rattle.std.specs.Prelude.{[], ◌∷◌, length, Option, Some, None, IfSome}
use Rattle.std.specs.Ordering.{nat_cmp}
use Rattle.std.specs.FinMap.Entries.{find as find_key}
use Rattle.av_vma.specs.declared.area.Area.{Area}
use Rattle.av_vma.specs.Areas.{area_of}
use Rattle.av_vma.specs.Index.{first_of, past_of}
use Rattle.av_vma.specs.Pages.{Pages, IsWhole, has_page, pages_in}

-- the processes that live, rising, each with its areas
abbrev pub Spaces : Type 0
Spaces = List (ℕ × List Area)

-- the value of `Spaces`: the processes, each with its areas; and the areas by number, by which
-- chains of anon_vmas go
pub record AllSpaces : Type 0 where
  pub processes : Spaces
  pub areas : List (Option Area)

-- the areas of a process, or none where it does not live
abbrev pub areas_of : Spaces → ℕ → Option (List Area)
areas_of s p = find_key nat_cmp p s

-- the area that holds each page
abbrev pub pages_of : Spaces → ℕ → Pages
pages_of s p = pages_in (areas_of s p)

-- whether an area of the process holds the page
abbrev pub is_taken : Spaces → ℕ → ℕ → Bool
is_taken s p page = is_some (pages_of s p page)

-- ---- what holds of the areas of a process

-- an area of p, of whole pages
pub record IsOwn (p : ℕ) (area : Area) : Type 0 where
  pub process : area.pid ≡ p
  pub whole : IsWhole area

-- areas of p in the order of their pages, and no two meet
abbrev pub AreRising : ℕ → List Area → Type 0
AreRising p [] = Unit {0}
AreRising p (a ∷ []) = IsOwn p a
AreRising p (a ∷ b ∷ areas) = IsOwn p a × (past_of a ≤ first_of b) × AreRising p (b ∷ areas)

-- so are those of each process
abbrev pub AllRising : Spaces → Type 0
AllRising s = (p : ℕ) → IfSome (areas_of s p) (AreRising p)

-- ---- the areas by number

-- an area of p with this number has the page
pub record IsNumber (s : AllSpaces) (p page : ℕ) (area : Area) (number : ℕ) : Type 0 where
  pub at : area_of s.areas number ≡ Some area
  pub process : area.pid ≡ p
  pub here : has_page area page ≡ true

-- the area of each page has a number, and no two areas of one process have a page in common
pub record AreNumbered (s : AllSpaces) : Type 0 where
  pub numbers : (p page : ℕ) (area : Area) → pages_of s.processes p page ≡ Some area
      → (number : ℕ) × IsNumber s p page area number
  pub apart : (p page a b : ℕ) (A B : Area) → IsNumber s p page A a → IsNumber s p page B b
      → a ≡ b

-- ---- what changes

-- p lives now, with these areas
pub record IsSpawned (old new : Spaces) (p : ℕ) (these : List Area) : Type 0 where
  pub areas : (q : ℕ) → areas_of new q ≡ (if q == p then Some these else areas_of old q)
  pub number : length new ≡ length old + 1
  pub rising : AllRising new

-- p does not live any more
pub record IsEnded (old new : Spaces) (p : ℕ) : Type 0 where
  pub areas : (q : ℕ) → areas_of new q ≡ (if q == p then None else areas_of old q)
  pub number : length new + 1 ≡ length old
  pub rising : AllRising new

-- p lives on, and what it has on its pages is so now; the others have the areas that they had.
-- `were_rising` is promised, not asked: areas rise at all times, but callers don't see what the
-- type keeps, and what a change leaves of protections and homes goes by areas that were so
pub record IsChanged (old new : Spaces) (p : ℕ) (IsSo : Pages → Type 0) : Type 0 where
  pub others : (q : ℕ) → q ≢ p → areas_of new q ≡ areas_of old q
  pub alive : is_some (areas_of new p) ≡ true
  pub pages : IsSo (pages_of new p)
  pub number : length new ≡ length old
  pub were_rising : AllRising old
  pub rising : AllRising new

-- each page has the area that these have on it
abbrev pub AreThese : Pages → Pages → Type 0
AreThese on now = (page : ℕ) → now page ≡ on page
