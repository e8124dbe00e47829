-- What a process has on its pages: for each page the area that holds it. And what mapping,
-- unmapping and changing a range make of that, with the splits and joins that come of it.
use Rattle.std.specs.Prelude.{◌≡◌, ℕ, zero, suc, ◌+◌, ◌-◌, ◌<◌, ◌≤◌, true, false, not}
use Rattle.std.specs.Prelude.{min, max, unwrap_or, is_some, Bool, ◌&&◌, nat_lt, if◌then◌else◌, List}
use Rattle.std.specs.Prelude.{Option, Some, None, option_map}
use Rattle.std.specs.List.{find}
use Rattle.std.specs.Option.{option_or}
use Rattle.av_base.specs.Limits.{low_page, top_page, most_indices}
use Rattle.av_base.specs.Page.{address_of}
use Rattle.av_base.specs.Words.{within}
use Rattle.av_base.specs.Flags.{with_flag}
use Rattle.av_base.specs.declared.flags.Flag.{Flag}
use Rattle.av_base.specs.declared.flags.Flags.{Flags}
use Rattle.av_base.specs.declared.prot.Prot.{Prot}
use Rattle.av_vma.specs.declared.area.Area.{Area}
use Rattle.av_vma.specs.Index.{first_of, index_of, past_of}
use Rattle.av_vma.specs.Join.{are_joinable, can_lend, same_flags, same_prot}

-- the area that holds each page
abbrev pub Pages : Type 0
Pages = ℕ → Option Area

-- whether an area has the page
abbrev pub has_page : Area → ℕ → Bool
has_page area page = within (first_of area) (past_of area - first_of area) page

-- the area that holds each page, by the areas of a process, if it lives
abbrev pub pages_in : Option (List Area) → Pages
pages_in None page = None
pages_in (Some areas) page = find (λ area. has_page area page) areas

-- an area of whole pages that a process may have; its linear indices stay below 2^60
pub record IsWhole (area : Area) : Type 0 where
  pub start : area.start ≡ address_of (first_of area)
  pub end : area.end ≡ address_of (past_of area)
  pub some : first_of area < past_of area
  pub low : low_page ≤ first_of area
  pub high : past_of area ≤ top_page
  pub small : area.pgoff + (past_of area - first_of area) ≤ most_indices

-- each area is whole, and is on all of its pages and on no other
pub record AreLaid (on : Pages) : Type 0 where
  pub whole : (page : ℕ) (area : Area) → on page ≡ Some area → IsWhole area
  pub here : (page : ℕ) (area : Area) → on page ≡ Some area → has_page area page ≡ true
  pub all : (page other : ℕ) (area : Area) → on page ≡ Some area → has_page area other ≡ true
      → on other ≡ Some area

-- ---- split

-- the part of an area on the page's side of a split before page `at`; the offset of an upper part
-- runs on
abbrev pub part_of : ℕ → ℕ → Area → Area
part_of at page area =
    if nat_lt page at then record area { end = min area.end (address_of at) }
    else record area {
      start = max area.start (address_of at);
      pgoff = area.pgoff + (at - first_of area);
    }

-- a split before page `at`
abbrev pub split_at : ℕ → Pages → Pages
split_at at on page = option_map (part_of at page) (on page)

-- nothing is left from one page to below another
abbrev pub without_range : ℕ → ℕ → Pages → Pages
without_range from past on page = if within from (past - from) page then None else on page

-- ---- join

-- two areas that adjoin, as one, with the anon_vma that either has
abbrev pub join_of : Area → Area → Area
join_of left right = record left { end = right.end; anon = option_or left.anon right.anon }

-- how long an area's chain is, by the area's own anon_vma: areas with one have one chain
abbrev pub Lengths : Type 0
Lengths = Option ℕ → ℕ

-- whether two areas join
abbrev pub do_join : Lengths → Area → Area → Bool
do_join len left right = are_joinable left (len left.anon) right (len right.anon)

-- what is on a page, where these areas are on the two sides of a boundary that is tried
abbrev pub after_join : Lengths → Option Area → Option Area → ℕ → Option Area → Option Area
after_join len None right page now = now
after_join len (Some left) None page now = now
after_join len (Some left) (Some right) page now =
    if do_join len left right && has_page (join_of left right) page
    then Some (join_of left right) else now

-- the boundary before page `at` is tried: where the areas on its two sides join, they are one
abbrev pub joined_at : Lengths → ℕ → Pages → Pages
joined_at len at on page = after_join len (on (at - 1)) (on at) page (on page)

-- an area is tried with the one before, then with the one after
abbrev pub joined_around : Lengths → ℕ → ℕ → Pages → Pages
joined_around len from past on = joined_at len past (joined_at len from on)

-- ---- map

-- a new area of a process: no anon_vma, and its first page as its offset
abbrev pub fresh_area : ℕ → ℕ → ℕ → Prot → Flags → Area
fresh_area p from past prot flags = record {
  pid = p;
  start = address_of from;
  end = address_of past;
  prot = prot;
  flags = flags;
  pgoff = from;
  anon = None;
}

-- the area is on its pages
abbrev pub with_area : Area → Pages → Pages
with_area area on page = if has_page area page then Some area else on page

-- the free pages from one to below another are mapped: a new area, joined with its neighbours
abbrev pub after_map : Lengths → ℕ → ℕ → ℕ → Prot → Flags → Pages → Pages
after_map len p from past prot flags on =
    joined_around len from past (with_area (fresh_area p from past prot flags) on)

-- ---- unmap

-- the pages from one to below another go: what is left of areas at the two ends isn't joined
abbrev pub after_unmap : ℕ → ℕ → Pages → Pages
after_unmap from past on = without_range from past (split_at past (split_at from on))

-- ---- change

-- what a change makes of an area: of its protection, of its flags
pub record Effect : Type 0 where
  pub prot : Prot → Prot
  pub flags : Flags → Flags

-- the effect of giving a protection
abbrev pub to_prot : Prot → Effect
to_prot prot = record { prot = λ _. prot; flags = λ flags. flags }

-- the effect of setting or clearing a flag
abbrev pub to_flag : Flag → Bool → Effect
to_flag flag set = record { prot = λ prot. prot; flags = with_flag flag set }

-- the area with it
abbrev pub with_effect : Effect → Area → Area
with_effect effect area =
    record area { prot = effect.prot area.prot; flags = effect.flags area.flags }

-- whether it makes the area another
abbrev pub alters : Effect → Area → Bool
alters effect area =
    not (same_prot (effect.prot area.prot) area.prot
    && same_flags (effect.flags area.flags) area.flags)

-- whether it makes another of the area on a page
abbrev pub alters_at : Effect → Option Area → Bool
alters_at effect None = false
alters_at effect (Some area) = alters effect area

-- the areas on the pages from one to below another have the effect
abbrev pub with_effect_on : ℕ → ℕ → Effect → Pages → Pages
with_effect_on from past effect on page =
    if within from (past - from) page then option_map (with_effect effect) (on page) else on page

-- a part of an area is split out, has the effect, and is joined with its neighbours
abbrev pub part_changed : Lengths → ℕ → ℕ → Effect → Pages → Pages
part_changed len from past effect on =
    joined_around len from past (with_effect_on from past effect (split_at past (split_at from on)))

-- so is one page, where its area isn't so already
abbrev pub page_changed : Lengths → Effect → ℕ → Pages → Pages
page_changed len effect page on =
    if alters_at effect (on page) then part_changed len page (page + 1) effect on else on

-- n pages from one on, in turn
abbrev pub pages_changed : Lengths → Effect → ℕ → ℕ → Pages → Pages
pages_changed len effect from zero on = on
pages_changed len effect from (suc n) on =
    pages_changed len effect (from + 1) n (page_changed len effect from on)

-- ---- prepare

-- the anon_vma that an area may take from one beside it, if there is one
abbrev pub loan_of : Lengths → Area → Option Area → Option ℕ
loan_of len area None = None
loan_of len area (Some near) = if can_lend area near (len near.anon) then near.anon else None

-- the area after it lends first, else the one before
abbrev pub loan_beside : Lengths → Pages → Area → Option ℕ
loan_beside len on area =
    option_or (loan_of len area (on (past_of area))) (loan_of len area (on (first_of area - 1)))

-- an area without anon_vma gets the one that is lent, else a new one with this number
abbrev pub with_anon : Lengths → ℕ → Option Area → Pages → Pages
with_anon len next None on = on
with_anon len next (Some area) on =
    if is_some area.anon then on
    else with_area (record area { anon = Some (unwrap_or (loan_beside len on area) next) }) on

-- so does the area of a page
abbrev pub after_prepare : Lengths → ℕ → ℕ → Pages → Pages
after_prepare len next page on = with_anon len next (on page) on

-- whether a new one is made for it
abbrev pub makes_anon : Lengths → Pages → Option Area → Bool
makes_anon len on None = false
makes_anon len on (Some area) = not (is_some area.anon) && not (is_some (loan_beside len on area))

-- ---- home

-- the home that a frame has from a page: the own anon_vma of the page's area, and the page's linear
-- index
abbrev pub home_of : ℕ → Option Area → Option (ℕ × ℕ)
home_of page None = None
home_of page (Some area) = option_map (λ own. (own, index_of area page)) area.anon
