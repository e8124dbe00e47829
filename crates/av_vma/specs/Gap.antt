-- The gap rule: where a mapping goes that names no address. All is in pages.
use Rattle.std.specs.Prelude.{◌≡◌, ℕ, ◌+◌, ◌<◌, ◌≤◌, Bool, false, Option, Some, None}
use Rattle.av_base.specs.Limits.{low_page, top_page}

-- the n pages from this one on are free, and a process may have them
pub record IsRoom (is_taken : ℕ → Bool) (n page : ℕ) : Type 0 where
  pub lowest : low_page ≤ page
  pub highest : page + n ≤ top_page
  pub free : (q : ℕ) → page ≤ q → q < page + n → is_taken q ≡ false

-- the greatest page from which on there is room, or none where there is no room
abbrev pub IsGap : (ℕ → Bool) → ℕ → Option ℕ → Type 0
IsGap is_taken n None = (page : ℕ) → IsRoom is_taken n page → ⊥
IsGap is_taken n (Some page) =
    IsRoom is_taken n page × ((other : ℕ) → IsRoom is_taken n other → other ≤ page)
