-- What moving and growing a range makes of the areas on a process's pages.
use Rattle.std.specs.Prelude.{◌≡◌, ℕ, zero, suc, ◌+◌, ◌-◌, ◌<◌, ◌≤◌, ◌⊎◌, min, nat_lt, true}
use Rattle.std.specs.Prelude.{false, is_some, if◌then◌else◌, Option, Some, None, option_map}
use Rattle.std.specs.Prelude.{IsSomeAnd}
use Rattle.av_base.specs.Flags.{unlocked}
use Rattle.av_base.specs.Limits.{low_page, top_page, most_indices}
use Rattle.av_base.specs.Page.{address_of}
use Rattle.av_base.specs.Words.{within}
use Rattle.av_vma.specs.declared.area.Area.{Area}
use Rattle.av_vma.specs.Index.{first_of, index_of, past_of}
use Rattle.av_vma.specs.Pages.{Lengths, Pages, after_map, after_unmap, split_at, joined_around}
use Rattle.av_vma.specs.Pages.{joined_at}
use Rattle.av_vma.specs.Pages.{with_area, without_range}

-- ---- parts

-- an area whose pages moved from one page to another: its offset stays where it has an anon_vma, so
-- that each page keeps its linear index; else it is that of the new address
abbrev pub moved_area : ℕ → ℕ → Area → Area
moved_area from to area = let first = first_of area + to - from in record area {
  start = address_of first;
  end = address_of (past_of area + to - from);
  pgoff = if is_some area.anon then area.pgoff else first;
}

-- k pages stand at another place, and nothing is left on the n from which they came
abbrev pub moved_range : ℕ → ℕ → ℕ → ℕ → Pages → Pages
moved_range from n k to on page =
    if within to k page then option_map (moved_area from to) (on (from + (page - to)))
    else without_range from (from + n) on page

-- an area ends before page `past` then, and is on all pages up to there
abbrev pub grown_to : ℕ → Option Area → Pages → Pages
grown_to past None on = on
grown_to past (Some area) on = with_area (record area { end = address_of past }) on

-- the boundary before page `at` is tried, and n - 1 more, by rising address
abbrev pub joined_over : Lengths → ℕ → ℕ → Pages → Pages
joined_over len at zero on = on
joined_over len at (suc n) on = joined_over len (suc at) n (joined_at len at on)

-- ---- the whole

-- an area grows in place, and is joined with the one before, then with the one after
abbrev pub after_grow : Lengths → ℕ → Option Area → Pages → Pages
after_grow len past None on = on
after_grow len past (Some area) on =
    joined_around len (first_of area) past (grown_to past (Some area) on)

-- n pages become m where they are: those past the m go, or the last area grows
abbrev pub after_resize : Lengths → ℕ → ℕ → ℕ → Pages → Pages
after_resize len from n m on =
    if nat_lt m n then after_unmap (from + m) (from + n) on
    else if nat_lt n m then after_grow len (from + m) (on (from + n - 1)) on
    else on

-- n pages become m at another place: what stands there goes, the pages that stay move, in the parts
-- that their areas are split to, the last of these ends with the new range, and each boundary of it
-- is tried
abbrev pub after_move : Lengths → ℕ → ℕ → ℕ → ℕ → Pages → Pages
after_move len from n to m on =
    let k = min n m in
    let cleared = after_unmap to (to + m) on in
    let parts = split_at (from + n) (split_at (from + k) (split_at from cleared)) in
    let moved = moved_range from n k to parts in
    joined_over len to (suc m) (grown_to (to + m) (moved (to + k - 1)) moved)

-- ---- the old range, where it stays

-- a free page is mapped like one of an area, but it isn't locked: a new area, joined with its
-- neighbours
abbrev pub page_left : Lengths → ℕ → ℕ → Option Area → Pages → Pages
page_left len p page None on = on
page_left len p page (Some area) on =
    after_map len p page (page + 1) area.prot (unlocked area.flags) on

-- what is on the pages from another one on, seen from `from` on
abbrev pub pages_from : ℕ → ℕ → Pages → Pages
pages_from other from on page = on (other + (page - from))

-- n free pages are, in turn, each like the one that was there
abbrev pub pages_left : Lengths → ℕ → Pages → ℕ → ℕ → Pages → Pages
pages_left len p was from zero on = on
pages_left len p was from (suc n) on =
    pages_left len p was (from + 1) n (page_left len p from (was from) on)

-- ---- what both need

-- an area may grow from its last page on: the pages up to `past` are free, and of those that a
-- process may have, and its linear indices stay small
pub record IsGrowth (last past : ℕ) (on : Pages) : Type 0 where
  pub more : last + 1 < past
  pub high : past ≤ top_page
  pub free : (page : ℕ) → last < page → page < past → is_some (on page) ≡ false
  pub small : IsSomeAnd (on last) (λ area. index_of area last + (past - last) ≤ most_indices)

-- n pages may become m at another place: the new range is of pages that a process may have, and
-- apart from the old one, which is mapped; and linear indices stay small
pub record IsMove (from n to m : ℕ) (on : Pages) : Type 0 where
  pub some : 1 ≤ n
  pub more : 1 ≤ m
  pub low : low_page ≤ to
  pub high : to + m ≤ top_page
  pub apart : (to + m ≤ from) ⊎ (from + n ≤ to)
  pub mapped : (page : ℕ) → from ≤ page → page < from + n → is_some (on page) ≡ true
  pub small : let last = from + min n m - 1 in
      IsSomeAnd (on last) (λ area. index_of area last + (m - min n m) < most_indices)
