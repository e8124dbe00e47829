-- The holes between what is mapped, and an index of them.
use Rattle.std.specs.Prelude.{◌≡◌, ℕ, ◌+◌, ◌<◌, ◌≤◌, Bool, true, List}
use Rattle.std.specs.List.{list_any}
use Rattle.std.specs.Ordering.{eq_by_cmp}
use Rattle.av_base.specs.Keys.{key_cmp}
use Rattle.av_base.specs.Limits.{low_page, top_page}
use Rattle.av_vma.specs.Gap.{IsRoom}

-- a length and a first page, in pages
abbrev pub Hole : Type 0
Hole = ℕ × ℕ

-- no hole goes on below a page
abbrev pub EndsBelow : (ℕ → Bool) → ℕ → Type 0
EndsBelow is_taken page = (q : ℕ) → low_page ≤ q → q + 1 ≡ page → is_taken q ≡ true

-- no hole goes on from a page
abbrev pub EndsAt : (ℕ → Bool) → ℕ → Type 0
EndsAt is_taken page = page < top_page → is_taken page ≡ true

-- a run of free pages that goes on at neither end
pub record IsHole (is_taken : ℕ → Bool) (hole : Hole) : Type 0 where
  pub some : 0 < hole.0
  pub room : IsRoom is_taken hole.0 hole.1
  pub below : EndsBelow is_taken hole.1
  pub above : EndsAt is_taken (hole.1 + hole.0)

-- whether a hole is in the index
abbrev pub is_noted : List Hole → Hole → Bool
is_noted holes hole = list_any (eq_by_cmp key_cmp hole) holes

-- each has pages, and a process may have them
abbrev pub AreWithin : List Hole → Type 0
AreWithin holes =
    (hole : Hole) → is_noted holes hole ≡ true → (0 < hole.0) × (hole.1 + hole.0 ≤ top_page)

-- these are the holes
pub record AreHoles (is_taken : ℕ → Bool) (holes : List Hole) : Type 0 where
  pub sound : (hole : Hole) → is_noted holes hole ≡ true → IsHole is_taken hole
  pub complete : (hole : Hole) → IsHole is_taken hole → is_noted holes hole ≡ true

-- all of a hole lies from one page on and below another
abbrev pub LiesIn : ℕ → ℕ → Hole → Type 0
LiesIn from end hole = (from ≤ hole.1) × (hole.1 + hole.0 ≤ end)

-- these are the holes but for those that lie from one page on and below another
pub record AreHolesBut (is_taken : ℕ → Bool) (from end : ℕ) (holes : List Hole) : Type 0 where
  pub sound : (hole : Hole) → is_noted holes hole ≡ true → IsHole is_taken hole
  pub outside : (hole : Hole) → is_noted holes hole ≡ true → LiesIn from end hole → ⊥
  pub complete : (hole : Hole) → IsHole is_taken hole → (LiesIn from end hole → ⊥)
      → is_noted holes hole ≡ true

-- the last of the longest holes of fewer than so many pages, and it has n
pub record IsLongest (holes : List Hole) (n fewer : ℕ) (hole : Hole) : Type 0 where
  pub noted : is_noted holes hole ≡ true
  pub long : n ≤ hole.0
  pub short : hole.0 < fewer
  pub fits : hole.1 + hole.0 ≤ top_page
  pub last : (other : Hole) → is_noted holes other ≡ true → other.0 < fewer → hole.0 ≤ other.0
      → other.1 + other.0 ≤ hole.1 + hole.0

-- each hole of fewer than so many pages has fewer than n
abbrev pub AreShorter : List Hole → ℕ → ℕ → Type 0
AreShorter holes n fewer =
    (hole : Hole) → is_noted holes hole ≡ true → hole.0 < fewer → hole.0 < n

-- the greatest page from which on n pages lie in a hole of the index
pub record IsHighest (holes : List Hole) (n page : ℕ) : Type 0 where
  pub hole : Hole
  pub noted : is_noted holes hole ≡ true
  pub long : n ≤ hole.0
  pub last : page + n ≡ hole.1 + hole.0
  pub highest : (other : Hole) → is_noted holes other ≡ true → n ≤ other.0
      → other.1 + other.0 ≤ page + n

-- no hole of the index has n pages
abbrev pub AllShorter : List Hole → ℕ → Type 0
AllShorter holes n = (hole : Hole) → is_noted holes hole ≡ true → hole.0 < n
